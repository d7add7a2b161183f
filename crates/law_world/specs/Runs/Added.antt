-- What an event adds to what is past: at most one entry of the history, a call's start and its end, and one call of the device.
use Rattle.std.specs.Prelude.{◌≡◌, ◌⊎◌, ℕ, Bool, true, false, if◌then◌else◌, List, [], ◌∷◌, ◌++◌, Option, Some, None, slice_get}
use Rattle.fkv_map.specs.declared.operations.Call.{Call}
use Rattle.fkv_disk.specs.Calls as device
use Rattle.fkv_plane.specs.declared.asks.Ask.TheVariants.{Done}
use Rattle.fkv_plane.specs.Asked.{reply_to}
use Rattle.fkv_session.specs.declared.answers.Finished.{Finished}
use Rattle.fkv_session.specs.declared.sessions.Sitting.{Sitting}
use Rattle.fkv_session.specs.declared.sessions.Sitting.TheVariants.{Idle}
use Rattle.fkv_session.specs.Sessions.{SessionState, is_busy, session_ask, session_next}
use Rattle.fkv_session.specs.SessionRun.{telling}
use Rattle.fkv_keeper.specs.declared.answers.KeeperTold.TheVariants.{Device}
use Rattle.fkv_keeper.specs.declared.keepers.Keeping.{Keeping}
use Rattle.fkv_keeper.specs.declared.keepers.Keeping.TheVariants.{Ended}
use Rattle.fkv_keeper.specs.Keeping.{Finality, keeper_ask}
use Rattle.fkv_keeper.specs.KeeperAsks.{keeper_calls}
use Rattle.fkv_keeper.specs.KeeperRun.{is_in_hand}
use Rattle.fkv_world.specs.Past.{Effect, Traced, TraceEvent, Called, Answered, CommitAsked, TurnAsked, KeeperAnswered}
use Rattle.fkv_world.specs.Runs.{World, happens}
use Rattle.fkv_world.specs.World.{Event, Calls, Moves, Commits, Turns, KeeperMoves, Crashes, Now, seat_at}

-- The event moves a session, and the entry is the effect that the session tells then, of the reply to its ask, with the version of the
-- request that it has tried.
pub record IsEffectOf (w : World) (event : Event) (its : Effect) : Type 0 where
  pub session : ℕ
  pub moves : event ≡ Moves session
  pub mover : SessionState
  pub found : slice_get w.now.sessions session ≡ Some mover
  pub after : SessionState
  pub replied : after ≡ session_next (seat_at w.now session) mover (reply_to w.now.words (session_ask (seat_at w.now session) mover))
  pub is_now : slice_get (happens w event).now.sessions session ≡ Some after
  pub tells : after.effect ≡ Some its.entry
  pub version : its.version ≡ mover.attempt.pending.request.version

-- the history stays, or an effect is put at its front
abbrev pub IsHistoryAfter : World → Event → List Effect → Type 0
IsHistoryAfter w event history = (history ≡ w.past.history) ⊎ ((its : Effect) × (history ≡ its ∷ w.past.history) × IsEffectOf w event its)

-- these events of a trace, told when so many updates had taken effect
abbrev pub told_at : ℕ → List TraceEvent → List Traced
told_at effects [] = []
told_at effects (its ∷ before) = record { its = its; effects = effects } ∷ told_at effects before

-- the call that an event begins: one does where none is in hand
abbrev pub call_begun : ℕ → Call → Option SessionState → List TraceEvent
call_begun session call None = []
call_begun session call (Some s) = if is_busy s.step then [] else Called session call ∷ []

unfoldable pub begun_by : Now → Event → List TraceEvent
begun_by n (Calls session call) = call_begun session call (slice_get n.sessions session)
begun_by n (Commits kind) = if is_in_hand n.keeper.step then [] else CommitAsked kind ∷ []
begun_by n Turns = if is_in_hand n.keeper.step then [] else TurnAsked ∷ []
begun_by n event = []

-- the call that an event ends: one was in hand or has begun, and none is in hand any more
abbrev pub call_answered : ℕ → Bool → Sitting → List Finished → List TraceEvent
call_answered session true (Idle its) finished = Answered session (telling its finished) ∷ []
call_answered session was_calling step finished = []

abbrev pub session_answered : ℕ → Bool → Option SessionState → List TraceEvent
session_answered session was_calling None = []
session_answered session was_calling (Some after) = call_answered session was_calling after.step after.finished

abbrev pub keeper_told : Bool → Keeping → Finality → List TraceEvent
keeper_told true (Ended its) last = KeeperAnswered its last ∷ []
keeper_told was_calling step last = []

-- a call begins where none is in hand, and goes on where one is
abbrev pub is_calling : Bool → Option SessionState → Bool
is_calling begins None = false
is_calling true (Some s) = if is_busy s.step then false else true
is_calling false (Some s) = is_busy s.step

unfoldable pub ended_by : Now → Now → Event → List TraceEvent
ended_by n after (Calls session call) = session_answered session (is_calling true (slice_get n.sessions session)) (slice_get after.sessions session)
ended_by n after (Moves session) = session_answered session (is_calling false (slice_get n.sessions session)) (slice_get after.sessions session)
ended_by n after (Commits kind) = keeper_told (if is_in_hand n.keeper.step then false else true) after.keeper.step after.keeper.last
ended_by n after Turns = keeper_told (if is_in_hand n.keeper.step then false else true) after.keeper.step after.keeper.last
ended_by n after (KeeperMoves granted done) = keeper_told (is_in_hand n.keeper.step) after.keeper.step after.keeper.last
ended_by n after Crashes = []

-- what an event tells, the newest first; after a crash nothing is told
abbrev pub told_by : Now → Now → Event → List TraceEvent
told_by n after event = if n.crashed then [] else ended_by n after event ++ begun_by n event

-- The event is a step of the keeper that asks for the device, and the call is the write or sync that it makes there.
pub record IsCallOf (w : World) (event : Event) (its : device.Call) : Type 0 where
  pub granted : Bool
  pub done : Bool
  pub moves : event ≡ KeeperMoves granted done
  pub asks : keeper_ask w.now.shape w.now.places w.now.keeper ≡ Done Device
  pub makes : keeper_calls w.now.shape w.now.keeper done ≡ its ∷ []

-- the calls of the device stay, or one is put at their front
abbrev pub IsCallsAfter : World → Event → List device.Call → Type 0
IsCallsAfter w event calls = (calls ≡ w.past.calls) ⊎ ((its : device.Call) × (calls ≡ its ∷ w.past.calls) × IsCallOf w event its)
