-- A session's run: calls that it begins, replies and actions that it gets, in any order, and what it tells.
use Rattle.std.specs.Prelude.{ℕ, if◌then◌else◌, Bool, true, false, List, [], ◌∷◌}
use Rattle.fkv_map.specs.declared.operations.Call.{Call}
use Rattle.fkv_plane.specs.declared.actions.Action.{Action}
use Rattle.fkv_session.specs.declared.answers.Finished.{Finished}
use Rattle.fkv_session.specs.declared.answers.Told.{Told}
use Rattle.fkv_session.specs.declared.answers.Told.TheVariants.{Polled}
use Rattle.fkv_session.specs.declared.sessions.Sitting.{Sitting}
use Rattle.fkv_session.specs.declared.sessions.Sitting.TheVariants.{Idle, Turns, ClearsMail, Polls, StoresOwing}
use Rattle.fkv_session.specs.Sessions.{SessionState, Seat, is_busy, session_begun, session_next, session_given}

-- what may happen next
pub data SessionEvent : Type 0 where
  -- it begins a call, where it has none in hand
  Begins : Call → SessionEvent
  -- its ask is replied to
  Replies : ℕ → SessionEvent
  -- it gets the action of a drain slot
  Gets : Action → SessionEvent

abbrev pub begins : Seat → SessionState → Bool → Call → SessionState
begins k s true its = s
begins k s false its = session_begun k s its

unfoldable pub session_happens : Seat → SessionState → SessionEvent → SessionState
session_happens k s (Begins its) = begins k s (is_busy s.step) its
session_happens k s (Replies reply) = session_next k s reply
session_happens k s (Gets action) = session_given k s action

-- a whole run, the newest event first
unfoldable pub session_run : Seat → SessionState → List SessionEvent → SessionState
session_run k opening [] = opening
session_run k opening (event ∷ before) = session_happens k (session_run k opening before) event

-- an answer, and beside a poll's the requests that it has finished
pub record Telling : Type 0 where
  pub its : Told
  pub finished : List Finished

abbrev pub with_finished : Told → List Finished → List Finished
with_finished (Polled left) finished = finished
with_finished its finished = []

abbrev pub telling : Told → List Finished → Telling
telling its finished = record { its = its; finished = with_finished its finished }

-- a call that an event ends is answered
abbrev pub answered : Sitting → List Finished → List Telling → List Telling
answered (Idle its) finished told = telling its finished ∷ told
answered step finished told = told

-- a call ends where one was in hand, or begins, and none is in hand any more
abbrev pub is_calling : SessionState → SessionEvent → Bool
is_calling s (Begins its) = if is_busy s.step then false else true
is_calling s event = is_busy s.step

abbrev pub told_after : Bool → SessionState → List Telling → List Telling
told_after true after told = answered after.step after.finished told
told_after false after told = told

-- the answers of a run, the newest first
unfoldable pub tellings : Seat → SessionState → List SessionEvent → List Telling
tellings k opening [] = []
tellings k opening (event ∷ before) =
    told_after (is_calling (session_run k opening before) event) (session_run k opening (event ∷ before)) (tellings k opening before)

-- the answer that a call has got already, and is told behind its turn
abbrev pub with_coming : Sitting → List Finished → List Telling → List Telling
with_coming (Turns its) finished told = telling its finished ∷ told
with_coming step finished told = told

-- what a poll that is in hand has finished so far
abbrev pub in_hand : Sitting → List Finished → List Finished
in_hand ClearsMail finished = finished
in_hand (Polls index) finished = finished
in_hand (StoresOwing index) finished = finished
in_hand step finished = []

-- the answers of a run with the one that is coming
abbrev pub all_told : Seat → SessionState → List SessionEvent → List Telling
all_told k opening events = with_coming (session_run k opening events).step (session_run k opening events).finished (tellings k opening events)
