-- What is shown of a session's own steps.
use Rattle.std.specs.Prelude.{◌≡◌, ◌∷◌, ◌++◌, List, false}
use Rattle.law_log.specs.Enabled.{AreEnabled}
use Rattle.law_commit.specs.Below.fkv_world.Runs.{run}
use Rattle.law_commit.specs.Below.fkv_world.World.{Event}
use Rattle.law_order.specs.Known.Begins.{BegunLife, home_of_world}
use Rattle.law_order.specs.Known.Knows.{AreKnown}
use Rattle.law_order.specs.Known.Told.{AreToldTruly}
use Rattle.law_commit.specs.Below.law_refine.Events.GhostEvents.{fixed_ghosts, life_ghosts, mapped, own_ghosts, safe_at}
use Rattle.law_commit.specs.Below.law_refine.Records.Changes.{AreChangesPublished, ChangesPublished}
use Rattle.law_order.specs.Apart.Given.{Given}
use Rattle.law_order.specs.Apart.Lives.{AllApartBehind, OpensApart}

-- the record that is about to be changed in place is published
abbrev pub ChangesAPublished : Type 0
ChangesAPublished =
    (life : BegunLife) (before : List Event) (event : Event) → AreKnown life.opening life.ghosts before
    → ChangesPublished (run life.opening before).now (life_ghosts life.opening life.ghosts before).log event

-- what a session does by the next event is enabled, and so is a raise of the safe read-only offset
abbrev pub IsOwnEnabled : Type 0
IsOwnEnabled =
    (life : BegunLife) (before : List Event) (event : Event)
    → Given → OpensApart life → AllApartBehind life.opening life.ghosts before → AreEnabled (home_of_world life.opening) life.ghosts (mapped life.opening before)
    → AreChangesPublished life.opening life.ghosts before → AreKnown life.opening life.ghosts before
    → AreToldTruly (home_of_world life.opening) (life_ghosts life.opening life.ghosts before).log (run life.opening before).now
    → (run life.opening before).now.crashed ≡ false
    → AreEnabled (home_of_world life.opening) (life_ghosts life.opening life.ghosts before) (fixed_ghosts (safe_at (run life.opening before).now) (safe_at (run life.opening (event ∷ before)).now) ++ own_ghosts (run life.opening before) event)
