-- What is shown of the lines that an event tells.
use Rattle.std.specs.Prelude.{List, ◌∷◌}
use Rattle.law_log.specs.Enabled.{AreEnabled}
use Rattle.law_commit.specs.Below.fkv_world.World.{Event}
use Rattle.law_commit.specs.Below.law_refine.Calls.Calls.{event_adds}
use Rattle.law_order.specs.Known.Answered.{EachAnswered, acted, acted_ghosts}
use Rattle.law_order.specs.Known.Begins.{BegunLife, home_of_world}
use Rattle.law_commit.specs.Below.law_refine.Events.GhostEvents.{life_ghosts, mapped}
use Rattle.law_commit.specs.Below.law_refine.Records.Changes.{AreChangesPublished}

-- all that an event is to the log is enabled, if what its session does is, and the reads that it answers are answered right
abbrev pub AreLinesEnabled : Type 0
AreLinesEnabled =
    (life : BegunLife) (before : List Event) (event : Event)
    → AreEnabled (home_of_world life.opening) life.ghosts (mapped life.opening before) → AreChangesPublished life.opening life.ghosts (event ∷ before)
    → AreEnabled (home_of_world life.opening) (life_ghosts life.opening life.ghosts before) (acted life.opening before event)
    → EachAnswered (home_of_world life.opening) (acted_ghosts life.opening life.ghosts before event) (event_adds life.opening before event)
    → AreEnabled (home_of_world life.opening) life.ghosts (mapped life.opening (event ∷ before))
