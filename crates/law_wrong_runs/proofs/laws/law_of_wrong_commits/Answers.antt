-- The wrong lives, computed.
use Rattle.law_wrong_runs.proofs.OfCommits.{wrong_commits}
use Rattle.law_wrong_runs.proofs.laws.law_of_wrong_commits.Goals as goal

pub returns : goal.returns
returns c = λ keeper one other. wrong_commits keeper one other
