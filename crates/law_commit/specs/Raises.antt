-- The epochs at which the keeper has raised the epoch for the commit in hand.
use Rattle.std.specs.Prelude.{ℕ, true, List, [], ◌∷◌, Option, Some, None}
use Rattle.fkv_base.specs.declared.shapes.Shape.{Shape}
use Rattle.fkv_plane.specs.declared.asks.Ask.{Ask}
use Rattle.fkv_plane.specs.declared.asks.Ask.TheVariants.{Put}
use Rattle.fkv_plane.specs.declared.places.Places.{Places}
use Rattle.law_refine.specs.Below.fkv_keeper.KeeperTold.{KeeperTold}
use Rattle.law_refine.specs.Below.fkv_keeper.KeeperTold.TheVariants.{Turned}
use Rattle.law_refine.specs.Below.fkv_keeper.TheKeeping.{Keeping}
use Rattle.law_refine.specs.Below.fkv_keeper.TheKeeping.TheVariants.{Ended, Starts, Enters, Seeks, Finishes}
use Rattle.law_refine.specs.Below.fkv_keeper.Keeping.{KeeperState, keeper_ask}
use Rattle.law_refine.specs.Below.fkv_keeper.KeeperRun.{KeeperEvent, Replies, keeper_run}
use Rattle.law_refine.specs.Below.fkv_world.OwnEvents.{keeper_events}
use Rattle.law_refine.specs.Below.fkv_world.Runs.{World}
use Rattle.law_refine.specs.Below.fkv_world.World.{Event}

-- for in-progress, for wait-pending, and for the safe read-only offset at the commit's end
pub record Raises : Type 0 where
  pub in_progress : Option ℕ
  pub wait_pending : Option ℕ
  pub read_only : Option ℕ

abbrev pub no_raises : Raises
no_raises = record { in_progress = None; wait_pending = None; read_only = None }

-- The reply to a raise is the epoch before it, and the action is put into its slot next.
abbrev pub raises_with : Keeping → Ask KeeperTold → ℕ → Raises → Raises
raises_with Starts (Put slot action) epoch its = record its { in_progress = Some epoch }
raises_with Enters (Put slot action) epoch its = record its { wait_pending = Some epoch }
raises_with Seeks (Put slot action) epoch its = record its { read_only = Some epoch }
raises_with step ask epoch its = its

-- a commit that is finished has none any more
abbrev pub raises_left : Keeping → Keeping → Raises → Raises
raises_left Finishes (Ended (Turned true full)) its = no_raises
raises_left step after its = its

abbrev pub raises_by : Keeping → KeeperEvent → Ask KeeperTold → Keeping → Raises → Raises
raises_by step (Replies reply granted) ask after its = raises_left step after (raises_with step ask reply its)
raises_by step event ask after its = its

-- of a keeper, after these events of its own
unfoldable pub raises : Shape → Places → KeeperState → List KeeperEvent → Raises
raises shape p opening [] = no_raises
raises shape p opening (event ∷ before) =
    raises_by (keeper_run shape p opening before).step event (keeper_ask shape p (keeper_run shape p opening (event ∷ before)))
    (keeper_run shape p opening (event ∷ before)).step (raises shape p opening before)

-- and in a life
abbrev pub life_raises : World → List Event → Raises
life_raises opening events = raises opening.now.shape opening.now.places opening.now.keeper (keeper_events opening events)
