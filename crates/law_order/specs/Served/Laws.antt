-- What the laws of `served` and `fits` say.
use Rattle.std.specs.Prelude.{ℕ, List}
use Rattle.law_log.specs.Enabled.{AreEnabled}
use Rattle.law_opening.specs.Below.fkv_opening.Opened.{IsStoreOf}
use Rattle.law_opening.specs.Below.fkv_opening.TheOpened.{Opened}
use Rattle.law_commit.specs.Below.fkv_world.World.{Event}
use Rattle.law_opening.specs.Log.OpeningLog.{opening_ghosts}
use Rattle.law_order.specs.Known.Begins.{BegunLife, home_of_world}
use Rattle.law_commit.specs.Below.law_refine.Events.GhostEvents.{life_ghosts, mapped}
use Rattle.law_commit.specs.Below.law_refine.Records.Changes.{AreChangesPublished}
use Rattle.law_order.specs.Served.Fits.{CallsFit, CellsFit}
use Rattle.law_order.specs.Served.Served.{ServedShow}

-- what the device gives for a flushed record shows the log
abbrev pub ServesTheLog : Type 0
ServesTheLog =
    (life : BegunLife) (events : List Event)
    → CellsFit life.ghosts.log → CallsFit events → AreEnabled (home_of_world life.opening) life.ghosts (mapped life.opening events)
    → AreChangesPublished life.opening life.ghosts events → ServedShow life.opening life.ghosts events

-- the log keeps numbers that fit in a word
abbrev pub KeepsFitting : Type 0
KeepsFitting =
    (life : BegunLife) (events : List Event)
    → CellsFit life.ghosts.log → CallsFit events → AreEnabled (home_of_world life.opening) life.ghosts (mapped life.opening events) → CellsFit (life_ghosts life.opening life.ghosts events).log

-- and the log with which an opened store's life begins has such numbers
abbrev pub OpensWithFittingCells : Type 0
OpensWithFittingCells =
    (bytes : List ℕ) (o : Opened) → IsStoreOf bytes o → CellsFit (opening_ghosts bytes o).log
