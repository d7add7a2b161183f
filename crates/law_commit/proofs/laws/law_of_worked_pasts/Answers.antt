-- The runs, computed.
use Rattle.law_commit.proofs.WorkedPast.{worked_past}
use Rattle.law_commit.proofs.WorkedRuns.{runs_so}
use Rattle.law_commit.proofs.laws.law_of_worked_pasts.Goals as goal

pub returns-clause-raises : goal.returns-clause-raises
returns-clause-raises c = runs_so

pub returns-clause-past : goal.returns-clause-past
returns-clause-past c = λ keeper one other. worked_past keeper one other
