-- By what the keeper knows of the moments at which it loads the tail.
use Rattle.law_commit.proofs.OfDecided.Ended.{have_ended}
use Rattle.law_commit.proofs.decided.law_commits_ended.Goals as goal

pub returns : goal.returns
returns c = have_ended
