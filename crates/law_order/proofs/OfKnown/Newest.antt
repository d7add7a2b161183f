-- What sessions know at each moment they know at the newest one.
use Rattle.std.proofs.Common.{[], ◌∷◌, List}
use Rattle.law_log.specs.Ghosts.{Ghosts}
use Rattle.law_commit.specs.Below.fkv_world.Runs.{World}
use Rattle.law_commit.specs.Below.fkv_world.World.{Event}
use Rattle.law_order.specs.Known.Knows.{AllKnowBehind, AreKnown}

pub known_now : (opening : World) (ghosts : Ghosts) (events : List Event) → AreKnown opening ghosts events → AllKnowBehind opening ghosts events
unfolding AreKnown
known_now opening ghosts [] known = known
known_now opening ghosts (event ∷ before) known = known.1
