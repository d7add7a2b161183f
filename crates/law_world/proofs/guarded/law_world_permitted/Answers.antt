-- The law, by each session's own run.
use Rattle.law_world.proofs.OfGuarded.BelowTail.{below_permitted}
use Rattle.law_world.proofs.guarded.law_world_permitted.Goals as goal

pub returns : goal.returns
returns c = λ first start events opened below. below_permitted first start events opened below
