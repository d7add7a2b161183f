-- The law, by what each event leaves.
use Rattle.law_local.proofs.OfSessions.SessionInputs.{run_so}
use Rattle.law_local.proofs.sessions.law_of_attempts_inputs.Goals as goal

pub returns : goal.returns
returns c = λ seat opening events opened. run_so seat opening events opened
