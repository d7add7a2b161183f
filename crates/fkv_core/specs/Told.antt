-- What a step tells callers: the answer to the call that has ended in it, and nothing where none has.
use Rattle.std.specs.Prelude.{◌≡◌, ℕ, Bool, true, false, not, ◌&&◌, Option, Some, None, List, slice_get}
use Rattle.fkv_keeper.specs.Answers.{IsKeeperTold}
use Rattle.fkv_keeper.specs.Keeping.{KeeperState, end_told, turn_over}
use Rattle.fkv_keeper.specs.declared.answers.KeeperAsk.{KeeperAsk}
use Rattle.fkv_keeper.specs.declared.answers.KeeperAsk.TheVariants as ask
use Rattle.fkv_keeper.specs.declared.keepers.Keeping.{Keeping}
use Rattle.fkv_keeper.specs.declared.keepers.Keeping.TheVariants.{Ended}
use Rattle.fkv_core.specs.declared.events.Event as event
use Rattle.fkv_core.specs.declared.events.Event.TheVariants as events
use Rattle.fkv_core.specs.declared.events.Told.{Told}
use Rattle.fkv_core.specs.declared.events.Told.TheVariants.{Session, Commit, Turn}
use Rattle.fkv_keeper.specs.KeeperRun.{is_in_hand}
use Rattle.fkv_session.specs.Answers.{IsAnswerTold}
use Rattle.fkv_session.specs.Sessions.{SessionState, is_busy}
use Rattle.fkv_session.specs.declared.answers.Answer.{Answer}
use Rattle.fkv_session.specs.declared.answers.Finished.{Finished}
use Rattle.fkv_session.specs.declared.sessions.Sitting.{Sitting}
use Rattle.fkv_session.specs.declared.sessions.Sitting.TheVariants.{Idle}
use Rattle.fkv_world.specs.World.{Event, Now, Calls, Moves, Commits, Turns, KeeperMoves, Crashes}

-- a session's call that was in hand, or began, and is no more is answered
abbrev pub IsSittingTold : Bool → Sitting → List Finished → Option Answer → Type 0
IsSittingTold true (Idle its) finished told = (given : Answer) × (told ≡ Some given) × IsAnswerTold its finished given
IsSittingTold was_busy step finished told = told ≡ None

abbrev pub IsSessionTold : Bool → SessionState → Option Answer → Type 0
IsSessionTold was_busy s told = IsSittingTold was_busy s.step s.finished told

-- so is the keeper's, by what it has come to
abbrev pub keeper_told : KeeperAsk → Option Told
keeper_told (ask.Turned its) = Some (Turn its)
keeper_told (ask.Begun its) = Some (Commit its)
keeper_told its = None

abbrev pub IsKeepingTold : Bool → Keeping → KeeperState → Option Told → Type 0
IsKeepingTold true (Ended its) s told = (given : KeeperAsk) × IsKeeperTold s.last (end_told its (turn_over s)) given × (told ≡ keeper_told given)
IsKeepingTold was_busy step s told = told ≡ None

abbrev pub IsKeeperEndTold : Bool → KeeperState → Option Told → Type 0
IsKeeperEndTold was_busy s told = IsKeepingTold was_busy s.step s told

-- the answer of the session of a number
abbrev pub numbered : ℕ → Option Answer → Option Told
numbered number None = None
numbered number (Some answer) = Some (Session number answer)

-- what the end of a session's call tells
pub record IsNumbered (number : ℕ) (was_busy : Bool) (s : SessionState) (told : Option Told) : Type 0 where
  pub answer : Option Answer
  pub its : IsSessionTold was_busy s answer
  pub numbered_so : told ≡ numbered number answer

-- a session that there isn't tells nothing
abbrev pub IsSessionEnd : ℕ → (SessionState → Bool) → Option SessionState → Option SessionState → Option Told → Type 0
IsSessionEnd number ends (Some s) (Some after) told = IsNumbered number (ends s) after told
IsSessionEnd number ends s after told = told ≡ None

abbrev pub may_move : SessionState → Bool
may_move s = is_busy s.step

abbrev pub may_begin : SessionState → Bool
may_begin s = not (is_busy s.step)

-- what an event tells, from the world before it to the one after it
abbrev pub IsEventTold : Now → Now → Event → Option Told → Type 0
IsEventTold n after (Calls number call) told = IsSessionEnd number may_begin (slice_get n.sessions number) (slice_get after.sessions number) told
IsEventTold n after (Moves number) told = IsSessionEnd number may_move (slice_get n.sessions number) (slice_get after.sessions number) told
IsEventTold n after (Commits kind) told = IsKeeperEndTold (not (is_in_hand n.keeper.step)) after.keeper told
IsEventTold n after Turns told = IsKeeperEndTold (not (is_in_hand n.keeper.step)) after.keeper told
IsEventTold n after (KeeperMoves granted done) told = IsKeeperEndTold (is_in_hand n.keeper.step) after.keeper told
IsEventTold n after Crashes told = told ≡ None

-- after a crash nothing is told
abbrev pub IsTold : Bool → Now → Now → Event → Option Told → Type 0
IsTold true n after event told = told ≡ None
IsTold false n after event told = IsEventTold n after event told

-- a session's call ends where it was in hand, or began, and is no more
abbrev pub ends_session : (SessionState → Bool) → Option SessionState → Option SessionState → Bool
ends_session ends (Some s) (Some after) = ends s && not (is_busy after.step)
ends_session ends s after = false

-- so does the keeper's
abbrev pub ends_here : event.Event → Now → Now → Bool
ends_here (events.Call number call) n after = ends_session may_begin (slice_get n.sessions number) (slice_get after.sessions number)
ends_here (events.Move number) n after = ends_session may_move (slice_get n.sessions number) (slice_get after.sessions number)
ends_here (events.Commit kind) n after = not (is_in_hand n.keeper.step) && not (is_in_hand after.keeper.step)
ends_here events.Turn n after = not (is_in_hand n.keeper.step) && not (is_in_hand after.keeper.step)
ends_here events.KeeperMove n after = is_in_hand n.keeper.step && not (is_in_hand after.keeper.step)
ends_here events.SweepMove n after = is_in_hand n.keeper.step && not (is_in_hand after.keeper.step)
ends_here events.Crash n after = false

-- whether a call ends in an event, which after a crash none does
abbrev pub ends_call : event.Event → Now → Now → Bool
ends_call its n after = not n.crashed && ends_here its n after

-- the answer to a session's last call, where none is in hand
abbrev pub IsLastOfSession : ℕ → Option SessionState → Option Told → Type 0
IsLastOfSession number (Some s) told = IsNumbered number true s told
IsLastOfSession number None told = told ≡ None

-- the answer to the last call of an event's actor, where none is in hand
abbrev pub IsLastAnswer : event.Event → Now → Option Told → Type 0
IsLastAnswer (events.Call number call) n told = IsLastOfSession number (slice_get n.sessions number) told
IsLastAnswer (events.Move number) n told = IsLastOfSession number (slice_get n.sessions number) told
IsLastAnswer events.Crash n told = told ≡ None
IsLastAnswer its n told = IsKeeperEndTold true n.keeper told

-- where a call has ended its answer is told, and else nothing
abbrev pub IsAnswerBehind : Bool → event.Event → Now → Option Told → Type 0
IsAnswerBehind true its n told = IsLastAnswer its n told
IsAnswerBehind false its n told = told ≡ None
