-- A session's step and its call in the engine's world, as the guard's events.
use Rattle.std.specs.Prelude.{ℕ}
use Rattle.fkv_flush.specs.GuardWorld.{Actor, GuardNow, GuardWorld}
use Rattle.fkv_session.specs.Sessions.{SessionState}
use Rattle.fkv_world.specs.Moves.{Near, session_moved}
use Rattle.law_world.specs.GuardSessions.Followed.{Sits, SessionFollows, seat_in}
use Rattle.law_world.specs.GuardSessions.Sessions.{SessionWritesOuter, session_guard_events}

-- a session beside the guard's words and actions
abbrev pub beside : GuardNow → SessionState → Near SessionState
beside n s = record { machine = s; words = n.words; actions = n.actions }

-- the session's step, as the engine's world makes it
abbrev pub MovesFollow : Type 0
MovesFollow = (w : GuardWorld) (number : ℕ) (x : Actor) (s : SessionState) → Sits w number x s → SessionWritesOuter (seat_in w.now number) s
    → (let after : Near SessionState = session_moved (seat_in w.now number) (beside w.now s) in
    SessionFollows w.now number (session_guard_events (seat_in w.now number) w.now.words s after.machine) after.machine after.words after.actions)
