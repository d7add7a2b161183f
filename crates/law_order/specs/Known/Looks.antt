-- What the laws of `looks` say.
use Rattle.std.specs.Prelude.{List}
use Rattle.law_log.specs.Enabled.{AreEnabled}
use Rattle.law_commit.specs.Below.fkv_world.Runs.{run}
use Rattle.law_commit.specs.Below.fkv_world.World.{Event}
use Rattle.law_order.specs.Known.Begins.{BegunLife, begin_in, home_of_world}
use Rattle.law_order.specs.Known.Floors.{AttemptsGoFrom}
use Rattle.law_order.specs.Known.Knows.{AreKnown}
use Rattle.law_order.specs.Known.Told.{LookTruly}
use Rattle.law_commit.specs.Below.law_refine.Events.GhostEvents.{life_ghosts, mapped}
use Rattle.law_commit.specs.Below.law_refine.Records.Changes.{AreChangesPublished}
use Rattle.law_commit.specs.Below.law_refine.Seen.Floors.{TellsUpto}
use Rattle.law_order.specs.Served.Served.{ServedShow}

-- what an attempt loads from its mailbox is true of the log, and a begin that is told there is none above that of now
abbrev pub LooksAreTrue : Type 0
LooksAreTrue =
    (life : BegunLife) (before : List Event) → AreEnabled (home_of_world life.opening) life.ghosts (mapped life.opening before)
    → AreChangesPublished life.opening life.ghosts before → AreKnown life.opening life.ghosts before → AttemptsGoFrom (begin_in life.opening) (run life.opening before).now → ServedShow life.opening life.ghosts before
    → LookTruly (life_ghosts life.opening life.ghosts before).log (run life.opening before).now × TellsUpto (begin_in (run life.opening before)) (run life.opening before).now
