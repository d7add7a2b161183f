-- The law, by the answers of attempts.
use Rattle.law_local.proofs.OfTries.AttemptTells.{attempt_tells}
use Rattle.law_local.proofs.tries.law_attempt_tells.Goals as goal

pub returns : goal.returns
returns c = attempt_tells
