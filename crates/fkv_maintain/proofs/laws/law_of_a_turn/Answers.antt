-- The parts of a turn.
use Rattle.fkv_maintain.proofs.BeginKept.{keeps_begin}
use Rattle.fkv_maintain.proofs.PartsDriven.{drives_its_parts}
use Rattle.fkv_maintain.proofs.PartsFollow.{follows_in_order}
use Rattle.fkv_maintain.proofs.PartsInOrder.{run_in_order, run_full, serves_alone, calls_in_parts}
use Rattle.fkv_maintain.proofs.ReadsAbove.{stays_above}
use Rattle.fkv_maintain.proofs.laws.law_of_a_turn.Goals as goal

pub returns-clause-follows : goal.returns-clause-follows
returns-clause-follows c = follows_in_order

pub returns-clause-drives : goal.returns-clause-drives
returns-clause-drives c = drives_its_parts

pub returns-clause-begin : goal.returns-clause-begin
returns-clause-begin c = keeps_begin

pub returns-clause-above : goal.returns-clause-above
returns-clause-above c = stays_above

pub returns-clause-order : goal.returns-clause-order
returns-clause-order c = run_in_order

pub returns-clause-full : goal.returns-clause-full
returns-clause-full c = run_full

pub returns-clause-serves : goal.returns-clause-serves
returns-clause-serves c = serves_alone

pub returns-clause-calls : goal.returns-clause-calls
returns-clause-calls c = calls_in_parts
