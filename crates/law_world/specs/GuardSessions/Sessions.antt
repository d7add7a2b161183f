-- What a session's step is to the guard, and what the guard has for a session, by its control state.
use Rattle.std.specs.Prelude.{⊤, ℕ, if◌then◌else◌, Bool, true, false, List, [], ◌∷◌, ◌++◌, Option, Some, None}
use Rattle.fkv_plane.specs.declared.actions.Action.{Action}
use Rattle.fkv_plane.specs.declared.asks.Ask.{Ask}
use Rattle.fkv_plane.specs.declared.asks.Ask.TheVariants.{Put, Take}
use Rattle.fkv_plane.specs.Plane.{action_at}
use Rattle.fkv_session.specs.declared.answers.Told.{Told}
use Rattle.fkv_plane.specs.Passing.{is_done}
use Rattle.fkv_epoch.specs.declared.leaving.Leaving.{Leaving}
use Rattle.fkv_epoch.specs.declared.leaving.Leaving.TheVariants as leave
use Rattle.fkv_epoch.specs.EpochWorld as epochs
use Rattle.fkv_epoch.specs.EpochWorld.{EpochMachine, ToLeave}
use Rattle.fkv_flush.specs.GuardWorld.{GuardEvent, Moves, ToDo}
use Rattle.fkv_flush.proofs.Shown.{Likeness}
use Rattle.fkv_session.specs.declared.catching_up.Catching.{Catching}
use Rattle.fkv_session.specs.declared.catching_up.Catching.TheVariants.{Protects}
use Rattle.fkv_session.specs.declared.sessions.Sitting.{Sitting}
use Rattle.fkv_session.specs.declared.sessions.Sitting.TheVariants.{Idle, Attempts, CatchesUp, Polls, Turns, Leaves, LoadsDurable}
use Rattle.fkv_session.specs.Sessions.{SessionState, Seat, room_of, session_ask, session_next}
use Rattle.fkv_world.specs.Moves.{session_gets}
use Rattle.law_world.specs.GuardSessions.Likenesses.{likeness, last_seen, through}
use Rattle.law_world.specs.GuardSessions.Steps.{Onward, Stays, Starts, onward_events, outer_events}
use Rattle.law_world.specs.GuardSessions.Attempts.{attempt_events, attempt_onward, attempt_likeness, AttemptWritesOuter}
use Rattle.law_world.specs.GuardSessions.Catches.{catch_events, catch_onward, catch_likeness, CatchWritesOuter}
use Rattle.law_world.specs.GuardSessions.OwnTurns.{own_turn_onward, own_turn_likeness}

-- what the session does: it refreshes, leaves or turns as its machines do, and else what its attempt does, or a word of its own
abbrev pub sitting_events : {A : Type 0} → Seat → List ℕ → SessionState → Sitting → Ask A → List GuardEvent
sitting_events k words s (Attempts has_shifted) ask = attempt_events k.number (room_of k) words k.places s.attempt s.attempt.step ask
sitting_events k words s (Polls index) ask = attempt_events k.number (room_of k) words k.places s.attempt s.attempt.step ask
sitting_events k words s (CatchesUp cause) ask = catch_events k.number words s.catching.step ask
sitting_events k words s (Turns its) ask = Moves k.number ∷ []
sitting_events k words s Leaves ask = Moves k.number ∷ []
sitting_events k words s step ask = outer_events k.number words ask

-- a machine that is through is like any other that is
abbrev pub leave_machine : Leaving → Option EpochMachine
leave_machine leave.AtRest = None
leave_machine step = Some (epochs.Leaves step)

abbrev pub sitting_likeness : SessionState → Sitting → Likeness
sitting_likeness s (Attempts has_shifted) = attempt_likeness (last_seen s.seen) s.attempt
sitting_likeness s (Polls index) = attempt_likeness (last_seen s.seen) s.attempt
sitting_likeness s (CatchesUp cause) = catch_likeness s.catching
sitting_likeness s (Turns its) = own_turn_likeness (last_seen s.seen) s.own_turn
sitting_likeness s Leaves = likeness (leave_machine s.leaving) None (last_seen s.seen) None
sitting_likeness s step = through (last_seen s.seen)

-- what the guard's actor is like for a session
abbrev pub session_likeness : SessionState → Likeness
session_likeness s = sitting_likeness s s.step

abbrev pub leave_onward : Leaving → Onward
leave_onward leave.StoresZero = Starts (ToDo ToLeave)
leave_onward step = Stays

-- what a session begins, by where its step has led
abbrev pub sitting_onward : SessionState → Sitting → Onward
sitting_onward s (Attempts has_shifted) = attempt_onward s.attempt s.attempt.step
sitting_onward s (Polls index) = attempt_onward s.attempt s.attempt.step
sitting_onward s (CatchesUp cause) = catch_onward s.catching s.catching.step
sitting_onward s (Turns its) = own_turn_onward s.own_turn s.own_turn.step
sitting_onward s Leaves = leave_onward s.leaving
sitting_onward s step = Stays

-- an action goes into its slot, and one comes out of it, in the same step; every other ask is left to the next one
abbrev pub session_settled : Seat → List (Option Action) → SessionState → Ask Told → SessionState
session_settled k actions s (Put slot action) = session_next k s 0
session_settled k actions s (Take slot) = session_gets k s (action_at actions slot)
session_settled k actions s ask = s

-- the events of a session's step, from where it was to where that has led, the newest first; a session at an end makes none
abbrev pub session_guard_events : Seat → List ℕ → SessionState → SessionState → List GuardEvent
session_guard_events k words s after = if is_done (session_ask k s) then [] else onward_events k.number (sitting_onward after after.step) ++ sitting_events k words s s.step (session_ask k s)

-- and of a call that begins
abbrev pub called_guard_events : Seat → SessionState → List GuardEvent
called_guard_events k after = onward_events k.number (sitting_onward after after.step)

-- the session's epoch word is its epoch: from where it has protected itself up to where it leaves
abbrev pub is_protected_catching : Catching → Bool
is_protected_catching Protects = false
is_protected_catching step = true

abbrev pub is_protected_at : SessionState → Sitting → Bool
is_protected_at s (Idle its) = s.is_awake
is_protected_at s LoadsDurable = s.is_awake
is_protected_at s (CatchesUp cause) = is_protected_catching s.catching.step
is_protected_at s step = true

-- the words of latches and of the index that a step writes are none of the guard's
abbrev pub SittingWritesOuter : {A : Type 0} → Seat → SessionState → Sitting → Ask A → Type 0
SittingWritesOuter k s (Attempts has_shifted) ask = AttemptWritesOuter k.places s.attempt s.attempt.step ask
SittingWritesOuter k s (Polls index) ask = AttemptWritesOuter k.places s.attempt s.attempt.step ask
SittingWritesOuter k s (CatchesUp cause) ask = CatchWritesOuter k.places s.catching.step ask
SittingWritesOuter k s step ask = ⊤

abbrev pub SessionWritesOuter : Seat → SessionState → Type 0
SessionWritesOuter k s = SittingWritesOuter k s s.step (session_ask k s)
