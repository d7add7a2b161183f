-- That the log beside a life has its history.
use Rattle.std.specs.Prelude.{◌≡◌, ℕ, List}
use Rattle.law_opening.specs.Below.fkv_opening.TheOpened.{Opened}
use Rattle.law_commit.specs.Below.fkv_world.World.{Event, Now}
use Rattle.law_opening.specs.Log.Lives.{ghosts_beside}
use Rattle.law_order.specs.Rules.Ordered.{effects_so_far}

-- each effect in its version
abbrev pub HasItsHistory : Opened → Now → List ℕ → List Event → Type 0
HasItsHistory o n bytes events = (let beside = ghosts_beside o n bytes events in beside.log.history) ≡ effects_so_far n bytes events
