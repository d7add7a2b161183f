-- The order law of an opened store's life, in the words of the life itself.
use Rattle.std.specs.Prelude.{◌≡◌, ℕ, List, ◌∷◌, ◌++◌}
use Rattle.law_opening.specs.Below.fkv_core.Openings.{IsOpeningWorld, beginning}
use Rattle.fkv_epoch.specs.EpochWorld.{Claimed, Ran}
use Rattle.fkv_epoch.specs.Once.{Among, HasRunOnce}
use Rattle.law_commit.specs.Below.fkv_flush.GuardLevels.{AreInOrder, Rises, levels_of}
use Rattle.law_commit.specs.Below.fkv_flush.GuardLimit.{EndsPages}
use Rattle.law_commit.specs.Below.fkv_flush.GuardWorld.{GuardWorld}
use Rattle.law_commit.specs.Below.fkv_flush.Guarded.{IsCovered}
use Rattle.fkv_map.specs.History.{IsLegal}
use Rattle.law_opening.specs.Below.fkv_opening.Opened.{IsStoreOf}
use Rattle.law_opening.specs.Below.fkv_opening.TheOpened.{Opened}
use Rattle.law_opening.specs.Log.Lives.{KeepsRules}
use Rattle.law_opening.specs.Log.Maps.{opening_map}
use Rattle.law_opening.specs.Log.OpeningLog.{opening_ghosts}
use Rattle.law_log.specs.Trace.{Effect, OrdersCalls, ReadsAreFresh, TraceLine, history_of}
use Rattle.law_commit.specs.Below.fkv_world.Runs.{run}
use Rattle.law_commit.specs.Below.fkv_world.World.{Event, Now}
use Rattle.law_commit.specs.Below.law_refine.Calls.Calls.{effects_of_life, lines_of_life}
use Rattle.law_commit.specs.Below.law_world.Guarded.KeptGuarded.{ChangesOpenPlaces, OpensNextPage, WritesOpenPlaces}
use Rattle.law_commit.specs.Below.law_world.Guarded.LoadedSince.{HaveLoadedSince}
use Rattle.law_commit.specs.Below.law_world.Guarded.Shows.{ArePermitted, Shows, seen_by_guard}
use Rattle.law_commit.specs.Below.law_refine.Records.Changes.{AreChangesPublished}

-- what has taken effect in a life so far, and what its calls were told, each the newest first
abbrev pub effects_so_far : Now → List ℕ → List Event → List Effect
effects_so_far n bytes events = effects_of_life (beginning n bytes) events

abbrev pub lines_so_far : Now → List ℕ → List Event → List TraceLine
lines_so_far n bytes events = lines_of_life (beginning n bytes) events

-- the world after these events
abbrev pub now_after : Now → List ℕ → List Event → Now
now_after n bytes events = (run (beginning n bytes) events).now

-- ---- one history
-- it is legal from the store's map on, with the replies of its entries
abbrev pub HasLegalHistory : Opened → Now → List ℕ → List Event → Type 0
HasLegalHistory o n bytes events = IsLegal (opening_map bytes o) (history_of (effects_so_far n bytes events))

-- it orders the calls that were told
abbrev pub OrdersItsCalls : Opened → Now → List ℕ → List Event → Type 0
OrdersItsCalls o n bytes events = OrdersCalls (effects_so_far n bytes events) (lines_so_far n bytes events)

-- and reads are answered from it
abbrev pub ReadsFreshly : Opened → Now → List ℕ → List Event → Type 0
ReadsFreshly o n bytes events = ReadsAreFresh (opening_map bytes o) (effects_so_far n bytes events) (lines_so_far n bytes events)

-- ---- guarded
-- what the guard has of the life so far
abbrev pub guard_so_far : Opened → Now → List ℕ → List Event → GuardWorld
guard_so_far o n bytes events = seen_by_guard (beginning n bytes) o.tail.0 events

-- from the world before each event of the life to the one behind it
abbrev pub AtEachEvent : (Now → Now → GuardWorld → Type 0) → Opened → Now → List ℕ → List Event → Type 0
AtEachEvent P o n bytes events =
    (later before : List Event) (event : Event) → events ≡ later ++ event ∷ before → P (now_after n bytes before) (now_after n bytes (event ∷ before)) (guard_so_far o n bytes before)

-- and of each event, before it
abbrev pub BeforeEachEvent : (Now → Event → GuardWorld → Type 0) → Opened → Now → List ℕ → List Event → Type 0
BeforeEachEvent P o n bytes events = (later before : List Event) (event : Event) → events ≡ later ++ event ∷ before → P (now_after n bytes before) event (guard_so_far o n bytes before)

-- no offset falls
abbrev pub KeepsOffsets : Now → Now → GuardWorld → Type 0
KeepsOffsets n after w = Rises (levels_of n.words) (levels_of after.words)

-- What the guard has shows the world, and each step is permitted. A word of a frame that an event's machine asks to write is one of an open address at or above
-- the safe read-only offset and below the tail, and so is one that changes; a raise of the limit opens the next page, all of whose frame is flushed and which no session goes by any more. The
-- offsets are in order and never fall, the frames hold all that may still be needed, and the limit ends whole pages.
pub record IsGuarded (o : Opened) (n : Now) (bytes : List ℕ) (events : List Event) : Type 0 where
  pub shows : Shows (now_after n bytes events) (guard_so_far o n bytes events)
  pub permitted : ArePermitted (beginning n bytes) events
  pub writes : BeforeEachEvent WritesOpenPlaces o n bytes events
  pub changes : AtEachEvent ChangesOpenPlaces o n bytes events
  pub limit : AtEachEvent OpensNextPage o n bytes events
  pub order : AreInOrder (levels_of (now_after n bytes events).words)
  pub rises : AtEachEvent KeepsOffsets o n bytes events
  pub covered : IsCovered (guard_so_far o n bytes events)
  pub paged : EndsPages n.shape (levels_of (now_after n bytes events).words).limit

-- ---- each epoch arms one action at most, which is claimed once and run once at most. Before the event that claims it, and before the one that runs it, each
-- protected session that isn't in the middle of protecting itself goes by values that it loaded after that epoch was raised.
pub record RunsActionsOnce (o : Opened) (n : Now) (bytes : List ℕ) (events : List Event) : Type 0 where
  pub once : HasRunOnce (guard_so_far o n bytes events).past
  pub claimed : (later before : List Event) (event : Event) (claim : Claimed) → events ≡ later ++ event ∷ before → Among claim (guard_so_far o n bytes (event ∷ before)).past.claims
      → HaveLoadedSince (guard_so_far o n bytes before) claim.epoch
  pub ran : (later before : List Event) (event : Event) (action : Ran) → events ≡ later ++ event ∷ before → Among action (guard_so_far o n bytes (event ∷ before)).past.runs
      → HaveLoadedSince (guard_so_far o n bytes before) action.epoch

-- So it is in each life of an opened store in which each event of the log keeps to its rule, and what a session changes in place is published.
abbrev pub OfEachKept : (Opened → Now → List ℕ → List Event → Type 0) → Type 0
OfEachKept P =
    (bytes : List ℕ) (o : Opened) (n : Now) (events : List Event) → IsStoreOf bytes o → IsOpeningWorld o n → KeepsRules o n bytes events → AreChangesPublished (beginning n bytes) (opening_ghosts bytes o) events
    → P o n bytes events
