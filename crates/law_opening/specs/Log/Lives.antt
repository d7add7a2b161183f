-- The log beside each life of an opened store, from the log with which the life begins.
use Rattle.std.specs.Prelude.{◌≡◌, ℕ, List}
use Rattle.fkv_map.specs.Map.{Map}
use Rattle.law_paper.specs.Below.fkv_opening.TheOpened.{Opened}
use Rattle.law_log.specs.Ghosts.{Ghosts}
use Rattle.law_log.specs.Laws.{CallsAreOrdered, ChainsShowContent, HistoryIsLegal, NewestShowsContent, ReadsGiveContent, VersionsAreLegal, VersionsInOrder}
use Rattle.law_log.specs.Enabled.{AreEnabled}
use Rattle.fkv_core.specs.Openings.{beginning}
use Rattle.law_refine.specs.Below.fkv_world.Runs.{run}
use Rattle.law_refine.specs.Below.fkv_world.World.{Event, Now}
use Rattle.law_refine.specs.Events.GhostEvents.{home_in, life_ghosts, mapped, safe_at, serials_in}
use Rattle.law_refine.specs.Events.Lines.{lines_of}
use Rattle.law_refine.specs.Events.Reserved.{AllMeetReserved, AreOfSessions, AreReserved, IsUnbornFrom, tail_at}
use Rattle.law_opening.specs.Log.Maps.{opening_map}
use Rattle.law_opening.specs.Log.OpeningLog.{opening_ghosts}

-- the log beside the life of a store's world, over these bytes
abbrev pub ghosts_beside : Opened → Now → List ℕ → List Event → Ghosts
ghosts_beside o n bytes events = life_ghosts (beginning n bytes) (opening_ghosts bytes o) events

-- It is told the life's trace, has fixed what lies below the safe read-only offset, has no record from the tail up, and reserves just what
-- sessions have reserved; each record that is published or given up was reserved until then.
pub record IsBeside (o : Opened) (n : Now) (bytes : List ℕ) (events : List Event) : Type 0 where
  pub trace : (let beside = ghosts_beside o n bytes events in beside.trace ≡ lines_of (serials_in n) (run (beginning n bytes) events).past.trace)
  pub fixed : (let beside = ghosts_beside o n bytes events in beside.log.fixed ≡ safe_at (run (beginning n bytes) events).now)
  pub unborn : IsUnbornFrom (tail_at (run (beginning n bytes) events).now) (ghosts_beside o n bytes events)
  pub reserved : AreReserved (run (beginning n bytes) events).now (ghosts_beside o n bytes events)
  pub of_sessions : AreOfSessions (run (beginning n bytes) events).now (ghosts_beside o n bytes events)
  pub meet_reserved : AllMeetReserved (home_in n.shape.bucket_bits) (opening_ghosts bytes o) (mapped (beginning n bytes) events)

-- each event of the log of this life keeps to its rule
abbrev pub KeepsRules : Opened → Now → List ℕ → List Event → Type 0
KeepsRules o n bytes events = AreEnabled (home_in n.shape.bucket_bits) (opening_ghosts bytes o) (mapped (beginning n bytes) events)

-- what the order law says of the log beside it, from the store's map and in the version of its commit
abbrev pub HoldsBeside : ((ℕ → ℕ) → Map → ℕ → Ghosts → Type 0) → Opened → Now → List ℕ → List Event → Type 0
HoldsBeside P o n bytes events = P (home_in n.shape.bucket_bits) (opening_map bytes o) o.number.0 (ghosts_beside o n bytes events)

pub record IsOrdered (o : Opened) (n : Now) (bytes : List ℕ) (events : List Event) : Type 0 where
  pub legal : HoldsBeside HistoryIsLegal o n bytes events
  pub content : HoldsBeside ChainsShowContent o n bytes events
  pub versions_legal : HoldsBeside VersionsAreLegal o n bytes events
  pub versions_content : HoldsBeside NewestShowsContent o n bytes events
  pub versions_in_order : HoldsBeside VersionsInOrder o n bytes events
  pub calls_ordered : HoldsBeside CallsAreOrdered o n bytes events
  pub reads_fresh : HoldsBeside ReadsGiveContent o n bytes events
