-- By the laws of durable words, and of the points of commits.
use Rattle.law_commit.proofs.OfTold.Falls.{told_never_falls}
use Rattle.law_commit.proofs.durable.law_told_never_falls.Goals as goal

pub returns : goal.returns
returns c = told_never_falls c.law_durable_stands.ensures c.law_points_taken.ensures.begun c.law_points_taken.ensures.last
