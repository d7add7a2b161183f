-- The law, by what the words show.
use Rattle.law_local.proofs.OfTries.Words.{try_true, attempt_true}
use Rattle.law_local.proofs.tries.law_replies_true.Goals as goal

pub returns-clause-tries : goal.returns-clause-tries
returns-clause-tries c = try_true

pub returns-clause-attempts : goal.returns-clause-attempts
returns-clause-attempts c = attempt_true
