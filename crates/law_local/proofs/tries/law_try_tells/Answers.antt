-- The law, by the answers of tries.
use Rattle.law_local.proofs.OfTries.Tells.{read_tells, try_seeks}
use Rattle.law_local.proofs.OfTries.TrialKept.{try_goes}
use Rattle.law_local.proofs.tries.law_try_tells.Goals as goal

pub returns-clause-reads : goal.returns-clause-reads
returns-clause-reads c = read_tells

pub returns-clause-seeks : goal.returns-clause-seeks
returns-clause-seeks c = try_seeks

pub returns-clause-goes : goal.returns-clause-goes
returns-clause-goes c = try_goes
