-- What a session changes in place, and when it may.
use Rattle.std.specs.Prelude.{◌≡◌, ◌<◌, ◌≤◌, ℕ, List, Option, Some, None}
use Rattle.fkv_plane.specs.declared.places.SharedWord.TheVariants as one
use Rattle.fkv_plane.specs.Places.{shared_place}
use Rattle.fkv_plane.specs.Asked.{word_at}
use Rattle.fkv_flush.specs.Guarded.{ArePermittedEvents}
use Rattle.fkv_flush.specs.GuardWorld.{Actor, GuardWorld}
use Rattle.fkv_ops.specs.declared.trying.Trying.{Trying}
use Rattle.fkv_ops.specs.declared.trying.Trying.TheVariants.{SwapsValue, ChangesValue}
use Rattle.fkv_pending.specs.declared.attempting.Attempting.{Attempting}
use Rattle.fkv_pending.specs.declared.attempting.Attempting.TheVariants.{Tries}
use Rattle.fkv_pending.specs.Attempting.{AttemptState}
use Rattle.fkv_session.specs.declared.sessions.Sitting.{Sitting}
use Rattle.fkv_session.specs.declared.sessions.Sitting.TheVariants.{Attempts, Polls}
use Rattle.fkv_session.specs.SessionRun.{SessionEvent, session_run}
use Rattle.fkv_session.specs.Sessions.{SessionState, Seat, IsOpened}
use Rattle.fkv_session.specs.Shares.{HasItsBuckets}
use Rattle.law_world.specs.GuardSessions.Followed.{Sits, seat_in}
use Rattle.law_world.specs.GuardSessions.Likenesses.{last_seen}
use Rattle.law_world.specs.GuardSessions.Sessions.{SessionWritesOuter, session_guard_events}
use Rattle.law_world.specs.GuardSessions.Tries.{MayChange}

-- the address of the record whose value the next step changes in place
abbrev pub try_changes : Trying → Option ℕ
try_changes (SwapsValue addr) = Some addr.0
try_changes (ChangesValue addr old) = Some addr.0
try_changes step = None

abbrev pub attempt_changes : AttemptState → Attempting → Option ℕ
attempt_changes a Tries = try_changes a.trial.step
attempt_changes a step = None

abbrev pub sitting_changes : SessionState → Sitting → Option ℕ
sitting_changes s (Attempts has_shifted) = attempt_changes s.attempt s.attempt.step
sitting_changes s (Polls index) = attempt_changes s.attempt s.attempt.step
sitting_changes s step = None

abbrev pub changed_in_place : SessionState → Option ℕ
changed_in_place s = sitting_changes s s.step

-- it lies at or above the read-only offset that the session has seen
abbrev pub IsAboveReadOnly : SessionState → Type 0
IsAboveReadOnly s = (addr : ℕ) → changed_in_place s ≡ Some addr → s.seen.offsets.read_only.0 ≤ addr

-- and below the tail: its record is reserved
abbrev pub IsBelowTail : List ℕ → SessionState → Type 0
IsBelowTail words s = (addr : ℕ) → changed_in_place s ≡ Some addr → addr < word_at words (shared_place one.Tail)

-- what a step changes in place it may change
abbrev pub SessionMayChange : List ℕ → SessionState → Type 0
SessionMayChange words s = (addr : ℕ) → changed_in_place s ≡ Some addr → MayChange (last_seen s.seen) words addr

-- Then each of the guard's events that the step is, is permitted.
abbrev pub MovesArePermitted : Type 0
MovesArePermitted = (w : GuardWorld) (number : ℕ) (x : Actor) (s after : SessionState) → Sits w number x s → SessionMayChange w.now.words s
    → ArePermittedEvents w (session_guard_events (seat_in w.now number) w.now.words s after)

-- at every moment of a session's run
abbrev pub ChangesAreAbove : Type 0
ChangesAreAbove = (seat : Seat) (opening : SessionState) (events : List SessionEvent) → IsOpened opening → IsAboveReadOnly (session_run seat opening events)

-- a step may change it if it stands below the tail
abbrev pub RunsMayChange : Type 0
RunsMayChange = (seat : Seat) (opening : SessionState) (events : List SessionEvent) (words : List ℕ) → IsOpened opening
    → IsBelowTail words (session_run seat opening events) → SessionMayChange words (session_run seat opening events)

-- and the words of latches and of the index that its steps write are none of the guard's
abbrev pub RunsWriteOuter : Type 0
RunsWriteOuter = (seat : Seat) (opening : SessionState) (events : List SessionEvent) → IsOpened opening → HasItsBuckets seat → SessionWritesOuter seat (session_run seat opening events)
