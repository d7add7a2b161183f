-- What a commit tells.
use Rattle.fkv_commit.proofs.StartTold.{starts_end, starts_behind}
use Rattle.fkv_commit.proofs.EnterTold.{enters_end, enters_behind}
use Rattle.fkv_commit.proofs.SeekTold.{seeks_behind}
use Rattle.fkv_commit.proofs.WaitTold.{waits_end}
use Rattle.fkv_commit.proofs.FinishTold.{finishes_end}
use Rattle.fkv_commit.proofs.InOrder.{in_order}
use Rattle.fkv_commit.proofs.laws.law_of_phases.Goals as goal

pub returns-clause-starts : goal.returns-clause-starts
returns-clause-starts c = starts_end

pub returns-clause-enters : goal.returns-clause-enters
returns-clause-enters c = enters_end

pub returns-clause-finishes : goal.returns-clause-finishes
returns-clause-finishes c = finishes_end

pub returns-clause-order : goal.returns-clause-order
returns-clause-order c = in_order

pub returns-clause-waits : goal.returns-clause-waits
returns-clause-waits c = waits_end

pub returns-clause-epoch : goal.returns-clause-epoch
returns-clause-epoch c = (starts_behind, enters_behind, seeks_behind)
