-- A life by a wrong table whose images end below what they name. All else that the law of prefixes asks of an image holds.
use Rattle.std.specs.Prelude.{◌≡◌, ℕ, ◌≤◌, true, false, replicate, List, [], ◌∷◌, ◌++◌, length, None}
use Rattle.fkv_base.specs.declared.commits.CommitKind.TheVariants.{Full}
use Rattle.fkv_base.specs.declared.faults.Fault.{Fault}
use Rattle.fkv_base.specs.declared.numbers.Serial.{Serial}
use Rattle.fkv_base.specs.declared.shapes.Shape.{Shape}
use Rattle.fkv_creating.specs.Created.{created_bytes}
use Rattle.fkv_disk.specs.Calls.{MayLeave}
use Rattle.fkv_map.specs.History.{AreAtMost, IsLegal, IsWhole, content, kept, point_of}
use Rattle.fkv_map.specs.declared.history.HistoryEntry.{HistoryEntry}
use Rattle.fkv_opening.specs.Faults.{IsFaultOf}
use Rattle.fkv_opening.specs.Opened.{IsStoreOf}
use Rattle.fkv_opening.specs.declared.opened_store.Opened.{Opened}
use Rattle.fkv_plane.specs.declared.places.Places.{Places}
use Rattle.law_log.specs.Trace.{history_of}
use Rattle.law_log.specs.Worked.{no_map}
use Rattle.law_order.specs.Below.fkv_flush.GuardLevels.{levels_of}
use Rattle.law_order.specs.Below.fkv_keeper.Area.TheVariants.{First}
use Rattle.law_order.specs.Below.fkv_keeper.Keeping.{KeeperState}
use Rattle.law_order.specs.Below.fkv_keeper.NewKeepers.{ArePlacesOfStore}
use Rattle.law_order.specs.Below.fkv_session.Sessions.{SessionState}
use Rattle.law_order.specs.Below.fkv_world.Opened.{IsOpenedWorld}
use Rattle.law_order.specs.Below.fkv_world.Runs.{World}
use Rattle.law_order.specs.Below.fkv_world.World.{Commits, Event, KeeperMoves}
use Rattle.law_order.specs.Below.law_commit.BegunCommits.{BegunCommit}
use Rattle.law_order.specs.Below.law_commit.PrefixPast.{PrefixPast, prefix_past}
use Rattle.law_order.specs.Below.law_commit.ToldPoints.{points_told}
use Rattle.law_order.specs.Below.law_opening.Lives.Reaching.{ReachesFar}
use Rattle.law_order.specs.Below.law_opening.Log.Maps.{opening_map}
use Rattle.law_order.specs.Below.law_refine.Calls.Calls.{effects_in_log}
use Rattle.law_order.specs.Prefix.Law.{IsCurrent, NamesCommit}
use Rattle.law_wrong_runs.specs.Tables.{Tables, commit_is_written_unflushed, run_by}
use Rattle.law_wrong_runs.specs.WrongImages.{BeginAtFirst, MayStay}
use Rattle.law_wrong_runs.specs.WrongLives.{gives_events, opened_world}
use Rattle.law_wrong_runs.specs.WrongPrefixes.{begun_by_table}

-- ---- what the law of prefixes asks of an image, by these tables
-- the commits that have begun, and what sessions were told of them
abbrev pub past_left : Tables → World → List Event → PrefixPast
past_left t opening events =
    record (prefix_past opening events) { begun = begun_by_table t opening events; told = λ session. points_told session (run_by t opening events).past.trace }

-- the updates of a life so far that these points keep
abbrev pub kept_left : Tables → World → List Event → List Serial → List HistoryEntry
kept_left t opening events points = kept (history_of (effects_in_log (run_by t opening events).past.history)) points

-- A store is what a commit keeps of a life that began with an empty map, as `IsKeptOf` says.
pub record IsKeptBy (t : Tables) (opening : World) (events : List Event) (c : BegunCommit) (image : List ℕ) (r : Opened) : Type 0 where
  pub shape : r.shape ≡ opening.now.shape
  pub number : r.number ≡ c.number
  pub points : (session : ℕ) → point_of r.points.items session ≡ point_of c.points session
  pub pairs : opening_map image r ≡ content no_map (kept_left t opening events r.points.items)
  pub legal : IsLegal no_map (kept_left t opening events r.points.items)
  pub whole : IsWhole (history_of (effects_in_log (run_by t opening events).past.history)) [] r.points.items
  pub risen : AreAtMost [] r.points.items

-- An image names a current commit, has no fault, and holds a store. Any store that it holds is what the commit keeps. These are the fields of `HoldsPrefix` but
-- for `reaches`.
pub record HoldsButItsEnd (t : Tables) (opening : World) (events : List Event) (image : List ℕ) : Type 0 where
  pub commit : BegunCommit
  pub current : IsCurrent (past_left t opening events) commit
  pub named : (let c = commit in NamesCommit image c)
  pub faultless : (fault : Fault) → IsFaultOf image fault → ⊥
  pub store : (o : Opened) × IsStoreOf image o
  pub each : (r : Opened) → IsStoreOf image r → IsKeptBy t opening events commit image r

-- ---- the beginning, and the life
-- the bytes with which it begins reach far, and end behind the two slots
pub record BeginAtEnd (shape : Shape) (bytes : List ℕ) : Type 0 where
  pub first : BeginAtFirst shape bytes
  pub reaches : ReachesFar bytes
  pub ends : length bytes ≡ 1536

-- the keeper of a new store
abbrev pub with_first_commit : KeeperState → KeeperState
with_first_commit k = record k {
  last = record {
    number = record { 0 = 0 };
    begin = record { 0 = 1 };
    points = record { 0 = 0 } ∷ record { 0 = 0 } ∷ [];
    checkpoint = record { number = record { 0 = 0 }; first = record { 0 = 1 }; triples = 0; area = First };
    gates = (true, false);
  };
  lost = [];
  copy = None;
}

abbrev pub unflushed_world : Shape → Places → KeeperState → SessionState → SessionState → World
unflushed_world shape places its one other = opened_world shape places (with_first_commit its) one other

-- Session 0 gives key 5 a value, by the record at address 1. A commit begins, and the keeper makes the five calls of the device by which it is written.
abbrev pub unflushed_calls : List Event
unflushed_calls = replicate 13 (KeeperMoves true true) ++ Commits Full ∷ gives_events

-- ---- its images
-- none reaches far
abbrev pub NeverReaches : Tables → Shape → World → List Event → Type 0
NeverReaches t shape opening events =
    (bytes image : List ℕ) → BeginAtEnd shape bytes → MayLeave bytes (run_by t opening events).past.calls image → ReachesFar image → ⊥

-- and each holds the rest
abbrev pub AlwaysHolds : Tables → Shape → World → List Event → Type 0
AlwaysHolds t shape opening events =
    (bytes image : List ℕ) → BeginAtEnd shape bytes → MayLeave bytes (run_by t opening events).past.calls image → HoldsButItsEnd t opening events image

-- So it is if a commit is written before its log is flushed. It keeps nothing, and says that its log ends behind the record. A new store's bytes begin such a
-- life, if its device had no more bytes than these.
pub record AreShortImages (its : KeeperState) (one other : SessionState) : Type 0 where
  pub shape : Shape
  pub places : Places
  pub fits : ArePlacesOfStore shape places
  pub opened : IsOpenedWorld (unflushed_world shape places its one other)
  pub begins : (old : List ℕ) → length old ≤ 1536 → BeginAtEnd shape (created_bytes old shape)
  pub levels : levels_of (run_by (commit_is_written_unflushed shape) (unflushed_world shape places its one other) unflushed_calls).now.words
      ≡ record { closed = 1; head = 1; flushed = 1; safe_read_only = 1; read_only = 1; tail = 2; limit = 8 }
  pub stays : MayStay (commit_is_written_unflushed shape) (unflushed_world shape places its one other) unflushed_calls
  pub short : NeverReaches (commit_is_written_unflushed shape) shape (unflushed_world shape places its one other) unflushed_calls
  pub holds : AlwaysHolds (commit_is_written_unflushed shape) shape (unflushed_world shape places its one other) unflushed_calls
