-- The law, by what each state leads to.
use Rattle.fkv_session.specs.SessionRun.{session_run}
use Rattle.law_local.proofs.OfSessions.Moves.{begun_requests, given_requests, next_moves, next_requests}
use Rattle.law_local.proofs.OfSessions.Names.{next_names}
use Rattle.law_local.proofs.OfSessions.SessionInputs.{run_so}
use Rattle.law_local.proofs.sessions.law_of_moved_requests.Goals as goal

pub returns-clause-replies : goal.returns-clause-replies
returns-clause-replies c = λ seat session reply. next_requests seat session reply

pub returns-clause-moves : goal.returns-clause-moves
returns-clause-moves c = λ seat session reply. next_moves seat session reply

pub returns-clause-calls : goal.returns-clause-calls
returns-clause-calls c = λ seat session its. begun_requests seat session its

pub returns-clause-actions : goal.returns-clause-actions
returns-clause-actions c = λ seat session action. given_requests seat session action

pub returns-clause-names : goal.returns-clause-names
returns-clause-names c = λ seat opening events reply opened. next_names seat (session_run seat opening events) reply (run_so seat opening events opened)
