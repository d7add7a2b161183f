-- By the asks that are left.
use Rattle.std.proofs.Common.{arith}
use Rattle.law_world.proofs.OfRuns.Ends.{keeper_down, moves_end, others_leave, others_leave_keeper, session_down}
use Rattle.law_world.proofs.runs.law_of_ends.Goals as goal

pub returns-clause-session : goal.returns-clause-session
returns-clause-session c = λ w session alive free. session_down w session alive free

pub returns-clause-keeper : goal.returns-clause-keeper
returns-clause-keeper c = λ w granted done alive some free. keeper_down w granted done alive some free

pub returns-clause-others : goal.returns-clause-others
returns-clause-others c = λ w event session other. others_leave w event session other

pub returns-clause-beside_keeper : goal.returns-clause-beside_keeper
returns-clause-beside_keeper c = λ w event other. others_leave_keeper w event other

pub returns-clause-alone : goal.returns-clause-alone
returns-clause-alone c = λ w session count alive free enough. let down = moves_end w session count alive free in omega (arith, down, enough)
