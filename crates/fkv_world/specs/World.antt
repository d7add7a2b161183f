-- The engine's world: the shared words, the actions in the drain slots, the sessions and the keeper, what may happen next, and what each event leads to.
use Rattle.std.specs.Prelude.{ℕ, if◌then◌else◌, Bool, true, List, slice_get, slice_set, Option, Some, None}
use Rattle.fkv_base.specs.declared.shapes.Shape.{Shape}
use Rattle.fkv_map.specs.declared.operations.Call.{Call}
use Rattle.fkv_base.specs.declared.commits.CommitKind.{CommitKind}
use Rattle.fkv_keeper.specs.Keeping.{KeeperState, commit_asked, turn_asked}
use Rattle.fkv_keeper.specs.KeeperRun.{is_in_hand}
use Rattle.fkv_plane.specs.declared.actions.Action.{Action}
use Rattle.fkv_plane.specs.declared.places.Places.{Places}
use Rattle.fkv_session.specs.Sessions.{SessionState, Seat, is_busy, session_begun}
use Rattle.fkv_world.specs.Moves.{Near, session_moved, keeper_moved}

-- what may happen next
pub data Event : Type 0 where
  -- a session begins a call, where it has none in hand
  Calls : ℕ → Call → Event
  -- a session makes its ask
  Moves : ℕ → Event
  -- a commit of a kind is begun, or a turn, where the keeper has no call in hand
  Commits : CommitKind → Event
  Turns : Event
  -- the keeper makes its ask or its call of the device; whether memory is granted where the reply leads to a copy, and whether the call succeeds
  KeeperMoves : (granted : Bool) → (done : Bool) → Event
  -- the life ends
  Crashes : Event

-- what the Rust world has
pub record Now : Type 0 where
  pub shape : Shape
  pub places : Places
  pub words : List ℕ
  pub actions : List (Option Action)
  pub sessions : List SessionState
  pub keeper : KeeperState
  pub crashed : Bool

-- the session of a number, in this world's store
abbrev pub seat_at : Now → ℕ → Seat
seat_at n session = record { places = n.places; shape = n.shape; number = session }

-- a machine beside the words and the actions
abbrev pub near : {S : Type 0} → Now → S → Near S
near n machine = record { machine = machine; words = n.words; actions = n.actions }

-- the world with what a session's step has led to, and with what the keeper's has
abbrev pub with_session : Now → ℕ → Near SessionState → Now
with_session n session its = record n { words = its.words; actions = its.actions; sessions = slice_set n.sessions session its.machine }

abbrev pub with_keeper : Now → Near KeeperState → Now
with_keeper n its = record n { words = its.words; actions = its.actions; keeper = its.machine }

-- a call is begun where none is in hand
abbrev pub session_called : Seat → SessionState → Call → SessionState
session_called k s call = if is_busy s.step then s else session_begun k s call

abbrev pub keeper_asked : KeeperState → KeeperState → KeeperState
keeper_asked s begun = if is_in_hand s.step then s else begun

-- the event of a session that there is
abbrev pub session_calls : Now → ℕ → Call → Option SessionState → Now
session_calls n session call None = n
session_calls n session call (Some s) = with_session n session (near n (session_called (seat_at n session) s call))

abbrev pub session_moves : Now → ℕ → Option SessionState → Now
session_moves n session None = n
session_moves n session (Some s) = with_session n session (session_moved (seat_at n session) (near n s))

-- where an event leads; `read` is what a read of the device gives, where the keeper makes one
unfoldable pub life_goes : Now → List ℕ → Event → Now
life_goes n read (Calls session call) = session_calls n session call (slice_get n.sessions session)
life_goes n read (Moves session) = session_moves n session (slice_get n.sessions session)
life_goes n read (Commits kind) = with_keeper n (near n (keeper_asked n.keeper (commit_asked n.keeper kind)))
life_goes n read Turns = with_keeper n (near n (keeper_asked n.keeper (turn_asked n.keeper)))
life_goes n read (KeeperMoves granted done) = with_keeper n (keeper_moved n.shape n.places granted done read (near n n.keeper))
life_goes n read Crashes = record n { crashed = true }

-- after a crash nothing happens any more
abbrev pub happens_now : Now → List ℕ → Event → Now
happens_now n read event = if n.crashed then n else life_goes n read event
