use Rattle.fkv_room.proofs.Unique.{no_fault, one_full}
use Rattle.fkv_room.proofs.laws.law_no_fault.Goals as goal

pub returns-clause-none : goal.returns-clause-none
returns-clause-none c = no_fault

pub returns-clause-one : goal.returns-clause-one
returns-clause-one c = one_full
