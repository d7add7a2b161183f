-- What the laws of `records` say.
use Rattle.std.specs.Prelude.{◌≡◌, ◌≤◌, ℕ, List, [], Some, slice_get}
use Rattle.law_world.specs.Below.fkv_flush.GuardFlushed.{IsSynced, stands}
use Rattle.law_world.specs.Below.fkv_flush.GuardLevels.{levels_of}
use Rattle.law_log.specs.Enabled.{AreEnabled}
use Rattle.law_log.specs.Ghosts.{Ghosts}
use Rattle.law_world.specs.Below.fkv_session.Sessions.{SessionState}
use Rattle.law_world.specs.Below.fkv_world.Runs.{World, run}
use Rattle.law_world.specs.Below.fkv_world.World.{Event}
use Rattle.law_world.specs.Guarded.GuardEvents as guarded
use Rattle.law_world.specs.Guarded.OpenedStore.{IsOpenedStore}
use Rattle.law_world.specs.Guarded.Shows as guard
use Rattle.law_world.specs.Guarded.Shows.{AreBelowTail, ArePermitted, ChangesBelowTail, guard_opening}
use Rattle.law_refine.specs.Events.GhostEvents.{home_in, life_ghosts, mapped}
use Rattle.law_refine.specs.Events.Reserved.{IsUnbornFrom, ReservesNothing, tail_at}
use Rattle.law_refine.specs.Events.Published.{AllMeetPublished}
use Rattle.law_refine.specs.Records.Cells.{StandsShowLog}
use Rattle.law_refine.specs.Records.Changes.{AreChangesPublished, ChangesPublished}
use Rattle.law_refine.specs.Records.Headers.{HeadersShowLog}
use Rattle.law_refine.specs.Records.Frames.{DeviceShowsLog, FindsFramed, FramesShow, FramesShowLog, IsAttempting}

-- a published record that is changed in place lies below the tail
abbrev pub PublishedLiesBelowTail : Type 0
PublishedLiesBelowTail =
    (opening : World) (start : ℕ) (ghosts : Ghosts) (before : List Event) (event : Event) → guard.IsOpened opening.now start → IsUnbornFrom (tail_at opening.now) ghosts
    → ChangesPublished (run opening before).now (life_ghosts opening ghosts before).log event → ChangesBelowTail (run opening before).now event

-- and so it is with each event of a life
abbrev pub ChangesLieBelowTail : Type 0
ChangesLieBelowTail =
    (opening : World) (start : ℕ) (ghosts : Ghosts) (events : List Event) → guard.IsOpened opening.now start → IsUnbornFrom (tail_at opening.now) ghosts
    → AreChangesPublished opening ghosts events → AreBelowTail opening events

-- so each step is permitted
abbrev pub StepsArePermitted : Type 0
StepsArePermitted =
    (opening : World) (start : ℕ) (ghosts : Ghosts) (events : List Event) → guard.IsOpened opening.now start → IsUnbornFrom (tail_at opening.now) ghosts
    → AreChangesPublished opening ghosts events → ArePermitted opening events

-- and each record that the log's events change in place is published until then
abbrev pub ChangesMeetPublished : Type 0
ChangesMeetPublished =
    (opening : World) (start : ℕ) (ghosts : Ghosts) (events : List Event) → guard.IsOpened opening.now start → IsUnbornFrom (tail_at opening.now) ghosts → ReservesNothing ghosts
    → AreChangesPublished opening ghosts events → AllMeetPublished (home_in opening.now.shape.bucket_bits) ghosts (mapped opening events)

-- the words that stand for a published record show it
abbrev pub WordsShowTheLog : Type 0
WordsShowTheLog =
    (opening : World) (start : ℕ) (ghosts : Ghosts) (events : List Event) → guard.IsOpened opening.now start → IsUnbornFrom (tail_at opening.now) ghosts → ReservesNothing ghosts
    → AreChangesPublished opening ghosts events → StandsShowLog start (stands (guard_opening opening.now start) (guarded.mapped opening events)) (life_ghosts opening ghosts events).log

-- the header of a decided record says what became of it
abbrev pub HeadersSayTheLog : Type 0
HeadersSayTheLog =
    (opening : World) (start : ℕ) (ghosts : Ghosts) (events : List Event) → guard.IsOpened opening.now start → IsUnbornFrom (tail_at opening.now) ghosts → ReservesNothing ghosts
    → AreChangesPublished opening ghosts events → AreEnabled (home_in opening.now.shape.bucket_bits) ghosts (mapped opening events)
    → HeadersShowLog start (stands (guard_opening opening.now start) (guarded.mapped opening events)) (life_ghosts opening ghosts events).log

-- the frames have the words that stand for their addresses
abbrev pub FramesHaveTheWords : Type 0
FramesHaveTheWords =
    (opening : World) (start : ℕ) (events : List Event) → guard.IsOpened opening.now start
    → FramesShow (run opening events).now (stands (guard_opening opening.now start) (guarded.mapped opening events))

-- and so has each from the head that an attempting session has seen
abbrev pub AttemptsFindFrames : Type 0
AttemptsFindFrames =
    (opening : World) (start : ℕ) (events : List Event) (session : ℕ) (its : SessionState) → guard.IsOpened opening.now start
    → slice_get (run opening events).now.sessions session ≡ Some its → FindsFramed (run opening events).now its

-- none of these lies below the closed offset of the opening
abbrev pub AttemptsLieAboveTheStart : Type 0
AttemptsLieAboveTheStart =
    (opening : World) (start : ℕ) (events : List Event) (session : ℕ) (its : SessionState) → guard.IsOpened opening.now start
    → slice_get (run opening events).now.sessions session ≡ Some its → IsAttempting its.step → (levels_of opening.now.words).closed ≤ its.seen.offsets.head.0

-- there each published record shows from an address on, up to the log's end of then, if what stands for it did so as the life began
abbrev pub FramesShowTheRecords : Type 0
FramesShowTheRecords =
    (opening : World) (start low : ℕ) (ghosts : Ghosts) (events : List Event) → guard.IsOpened opening.now start → IsUnbornFrom (tail_at opening.now) ghosts → ReservesNothing ghosts
    → AreChangesPublished opening ghosts events → low ≤ start → StandsShowLog low (stands (guard_opening opening.now start) (guarded.mapped opening [])) ghosts.log
    → FramesShowLog low (run opening events).now (life_ghosts opening ghosts events).log

-- the device has the words that stand for each record below the flushed offset
abbrev pub DeviceHasTheWords : Type 0
DeviceHasTheWords =
    (opening : World) (start : ℕ) (ghosts : Ghosts) (events : List Event) → IsOpenedStore opening start → IsUnbornFrom (tail_at opening.now) ghosts
    → AreChangesPublished opening ghosts events
    → IsSynced opening.now.shape opening.past.opened (run opening events).past.calls (stands (guard_opening opening.now start) (guarded.mapped opening events)) start (levels_of (run opening events).now.words).flushed

-- so each published record there shows on the device
abbrev pub DeviceShowsTheRecords : Type 0
DeviceShowsTheRecords =
    (opening : World) (start : ℕ) (ghosts : Ghosts) (events : List Event) → IsOpenedStore opening start → IsUnbornFrom (tail_at opening.now) ghosts → ReservesNothing ghosts
    → AreChangesPublished opening ghosts events
    → DeviceShowsLog opening.now.shape opening.past.opened (run opening events).past.calls start (levels_of (run opening events).now.words).flushed (life_ghosts opening ghosts events).log
