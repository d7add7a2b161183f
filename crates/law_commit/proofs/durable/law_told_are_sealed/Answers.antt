-- By the laws of durable words, of the commits that have begun, and of their points.
use Rattle.law_commit.proofs.OfTold.Sealed.{tells_sealed}
use Rattle.law_commit.proofs.durable.law_told_are_sealed.Goals as goal

pub returns : goal.returns
returns c = tells_sealed c.law_begun.ensures.in_turn c.law_begun.ensures.finished c.law_durable_stands.ensures c.law_points_taken.ensures.begun
