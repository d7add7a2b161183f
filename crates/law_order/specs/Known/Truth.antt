-- What the laws of `truth` say.
use Rattle.std.specs.Prelude.{List}
use Rattle.law_log.specs.Enabled.{AreEnabled}
use Rattle.law_commit.specs.Below.fkv_world.Runs.{run}
use Rattle.law_commit.specs.Below.fkv_world.World.{Event}
use Rattle.law_order.specs.Known.Begins.{BegunLife, home_of_world}
use Rattle.law_order.specs.Known.Knows.{AreKnown}
use Rattle.law_order.specs.Known.Told.{AreToldTruly, LookTruly}
use Rattle.law_commit.specs.Below.law_refine.Events.GhostEvents.{life_ghosts, mapped}
use Rattle.law_commit.specs.Below.law_refine.Records.Changes.{AreChangesPublished}

-- what the words of the store tell an attempt is true of the log
abbrev pub WordsAreTrue : Type 0
WordsAreTrue =
    (life : BegunLife) (before : List Event) → AreEnabled (home_of_world life.opening) life.ghosts (mapped life.opening before)
    → AreChangesPublished life.opening life.ghosts before → AreKnown life.opening life.ghosts before
    → LookTruly (life_ghosts life.opening life.ghosts before).log (run life.opening before).now
    → AreToldTruly (home_of_world life.opening) (life_ghosts life.opening life.ghosts before).log (run life.opening before).now
