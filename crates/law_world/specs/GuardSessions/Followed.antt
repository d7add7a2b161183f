-- One step of a session, and one call that begins, in the guard's world: which events they are, and where these lead.
use Rattle.std.specs.Prelude.{◌≡◌, ◌<◌, ℕ, ◌++◌, Bool, true, false, List, slice_get, Option, Some}
use Rattle.fkv_map.specs.declared.operations.Call.{Call}
use Rattle.fkv_plane.specs.declared.actions.Action.{Action}
use Rattle.fkv_plane.specs.Asked.{words_after, reply_to}
use Rattle.fkv_plane.specs.Passing.{is_done}
use Rattle.fkv_epoch.specs.EpochWorld.{own_epoch}
use Rattle.fkv_flush.specs.GuardWorld.{Actor, GuardNow, GuardWorld, GuardEvent}
use Rattle.fkv_flush.proofs.Shown.{IsSound, Fits, Follows}
use Rattle.fkv_session.specs.declared.answers.Told.{Told}
use Rattle.fkv_session.specs.declared.sessions.Sitting.{Sitting}
use Rattle.fkv_session.specs.declared.sessions.Sitting.TheVariants.{Turns}
use Rattle.fkv_session.specs.Sessions.{SessionState, Seat, is_busy, session_ask, session_next, session_begun}
use Rattle.law_world.specs.GuardSessions.Steps.{onward_events}
use Rattle.law_world.specs.GuardKeeper.Settled.{actions_settled}
use Rattle.law_world.specs.GuardSessions.Rows.{SittingKnows}
use Rattle.law_world.specs.GuardSessions.Sessions.{sitting_events, sitting_onward, session_likeness, session_settled, called_guard_events, is_protected_at, SessionWritesOuter}

-- the seat of the session of a number in the guard's world
abbrev pub seat_in : GuardNow → ℕ → Seat
seat_in n number = record { places = n.places; shape = n.shape; number = number }

-- it turns
abbrev pub is_turning : Sitting → Bool
is_turning (Turns its) = true
is_turning step = false

-- the epoch word of a session that is protected
abbrev pub IsProtectedAt : ℕ → List ℕ → SessionState → Type 0
IsProtectedAt number words s = is_protected_at s s.step ≡ true → 0 < own_epoch words number

-- These events lead the guard's actor to one that is like this session, with these words and these actions; and what is known of a session
-- by its control state is known of it then.
pub record SessionFollows (n : GuardNow) (number : ℕ) (events : List GuardEvent) (after : SessionState) (words : List ℕ) (actions : List (Option Action)) : Type 0 where
  pub follows : Follows n number events (session_likeness after) words actions
  pub knows : SittingKnows after after.step
  pub protected : IsProtectedAt number words after

-- The guard's actor of this number is like the session, and what is known of a session by its control state is known of it.
pub record Sits (w : GuardWorld) (number : ℕ) (x : Actor) (s : SessionState) : Type 0 where
  pub sound : IsSound w
  pub got : slice_get w.now.actors number ≡ Some x
  pub below : number < w.now.places.sessions
  pub knows : SittingKnows s s.step
  pub protected : IsProtectedAt number w.now.words s
  pub fits : Fits (session_likeness s) x

-- a step of a session that doesn't turn
abbrev pub StepsFollow : Type 0
StepsFollow = (w : GuardWorld) (number : ℕ) (x : Actor) (s : SessionState) → Sits w number x s → is_turning s.step ≡ false → SessionWritesOuter (seat_in w.now number) s
    → (let k : Seat = seat_in w.now number in
    let after : SessionState = session_next k s (reply_to w.now.words (session_ask k s)) in
    SessionFollows w.now number (onward_events number (sitting_onward after after.step) ++ sitting_events k w.now.words s s.step (session_ask k s)) after (words_after w.now.words (session_ask k s)) w.now.actions)

-- a step of one that turns, with the action that goes with it
abbrev pub TurnsFollow : Type 0
TurnsFollow = (w : GuardWorld) (number : ℕ) (x : Actor) (s : SessionState) (its : Told) → Sits w number x s → s.step ≡ Turns its → is_done (session_ask (seat_in w.now number) s) ≡ false
    → (let k : Seat = seat_in w.now number in
    let first : SessionState = session_next k s (reply_to w.now.words (session_ask k s)) in
    let after : SessionState = session_settled k w.now.actions first (session_ask k first) in
    SessionFollows w.now number (onward_events number (sitting_onward after after.step) ++ sitting_events k w.now.words s s.step (session_ask k s)) after (words_after w.now.words (session_ask k s)) (actions_settled w.now.actions (session_ask k first)))

-- a call that begins
abbrev pub CallsFollow : Type 0
CallsFollow = (w : GuardWorld) (number : ℕ) (x : Actor) (s : SessionState) (its : Call) → Sits w number x s → is_busy s.step ≡ false
    → (let after : SessionState = session_begun (seat_in w.now number) s its in
    SessionFollows w.now number (called_guard_events (seat_in w.now number) after) after w.now.words w.now.actions)
