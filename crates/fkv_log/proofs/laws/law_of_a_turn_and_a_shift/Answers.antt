-- A turn that opens only, and the tail that a shift tells.
use Rattle.fkv_log.proofs.Turned.{opens_alone, begins, keeps_tail}
use Rattle.fkv_log.proofs.laws.law_of_a_turn_and_a_shift.Goals as goal

pub returns-clause-opens_alone : goal.returns-clause-opens_alone
returns-clause-opens_alone c = opens_alone

pub returns-clause-begins : goal.returns-clause-begins
returns-clause-begins c = begins

pub returns-clause-keeps_tail : goal.returns-clause-keeps_tail
returns-clause-keeps_tail c = keeps_tail
