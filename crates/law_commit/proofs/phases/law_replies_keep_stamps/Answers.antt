use Rattle.law_commit.proofs.OfPhases.CatchStamps.{replies_keep}
use Rattle.law_commit.proofs.phases.law_replies_keep_stamps.Goals as goal

pub returns : goal.returns
returns c = replies_keep
