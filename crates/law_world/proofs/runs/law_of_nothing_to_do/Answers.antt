-- Each event that finds nothing.
use Rattle.law_world.proofs.OfRuns.Nothing.{in_hand, keeper_in_hand, keeper_none_in_hand, no_session, none_in_hand}
use Rattle.fkv_world.proofs.Shown.{is_over}
use Rattle.law_world.proofs.runs.law_of_nothing_to_do.Goals as goal

pub returns-clause-no_session : goal.returns-clause-no_session
returns-clause-no_session c = λ w session call none. no_session w session call none

pub returns-clause-call : goal.returns-clause-call
returns-clause-call c = λ w session call its found busy. in_hand w session call its found busy

pub returns-clause-moves : goal.returns-clause-moves
returns-clause-moves c = λ w session its found idle. none_in_hand w session its found idle

pub returns-clause-keeper : goal.returns-clause-keeper
returns-clause-keeper c = λ w kind busy. keeper_in_hand w kind busy

pub returns-clause-keeper_moves : goal.returns-clause-keeper_moves
returns-clause-keeper_moves c = λ w granted done ended. keeper_none_in_hand w granted done ended

pub returns-clause-crashed : goal.returns-clause-crashed
returns-clause-crashed c = λ w event crashed. is_over w event crashed
