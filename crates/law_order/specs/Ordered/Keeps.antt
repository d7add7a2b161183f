-- What every life keeps to, event by event.
use Rattle.std.specs.Prelude.{ℕ, List}
use Rattle.law_opening.specs.Below.fkv_core.Openings.{beginning}
use Rattle.law_opening.specs.Below.fkv_opening.TheOpened.{Opened}
use Rattle.law_log.specs.Ghosts.{Ghosts}
use Rattle.law_log.specs.Enabled.{AreEnabled}
use Rattle.law_commit.specs.Below.fkv_world.Runs.{World}
use Rattle.law_commit.specs.Below.fkv_world.World.{Event, Now}
use Rattle.law_opening.specs.Log.OpeningLog.{opening_ghosts}
use Rattle.law_order.specs.Apart.Lives.{AllApartBehind}
use Rattle.law_order.specs.Known.Begins.{home_of_world}
use Rattle.law_order.specs.Known.Floors.{GoesByBegin}
use Rattle.law_order.specs.Known.Knows.{AreKnown}
use Rattle.law_commit.specs.Below.law_refine.Events.GhostEvents.{mapped}
use Rattle.law_order.specs.Reads.Reads.{AreReadsKnown}
use Rattle.law_commit.specs.Below.law_refine.Records.Changes.{AreChangesPublished}

-- The life has kept to the rules of the log beside it so far: each event of the log was enabled, and what a session was about to change in place was published.
-- At each moment its sessions have known what they have to of the log, and reads have come as far in it as their sessions' control states say.
pub record KeepsOrder (opening : World) (ghosts : Ghosts) (events : List Event) : Type 0 where
  pub enabled : AreEnabled (home_of_world opening) ghosts (mapped opening events)
  pub published : AreChangesPublished opening ghosts events
  pub known : AreKnown opening ghosts events
  pub reads : AreReadsKnown opening ghosts events
  -- at this moment its sessions keep updates apart from those of other versions
  pub apart : AllApartBehind opening ghosts events
  -- and the log does without what lies below its begin, by which they go
  pub begin : GoesByBegin opening ghosts events

-- so it is with a life of an opened store, beside the log of its image
abbrev pub KeepsItsOrder : Opened → Now → List ℕ → List Event → Type 0
KeepsItsOrder o n bytes events = KeepsOrder (beginning n bytes) (opening_ghosts bytes o) events
