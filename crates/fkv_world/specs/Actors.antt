-- Who makes an event, what that leads to for its machine beside the words and the actions, and which place and which slot it names.
use Rattle.std.specs.Prelude.{◌≡◌, ⊤, ℕ, ◌==◌, Bool, true, false, List, [], ◌∷◌, Option, Some, None, slice_get}
use Rattle.fkv_base.specs.declared.shapes.Shape.{Shape}
use Rattle.fkv_plane.specs.declared.asks.Ask.{Ask}
use Rattle.fkv_plane.specs.declared.asks.Ask.TheVariants.{Put, Take, Done}
use Rattle.fkv_plane.specs.declared.places.Places.{Places}
use Rattle.fkv_plane.specs.Asked.{asked_place, reply_to}
use Rattle.fkv_session.specs.Sessions.{SessionState, Seat, session_ask, session_next}
use Rattle.fkv_keeper.specs.Keeping.{KeeperState, commit_asked, turn_asked, keeper_ask, keeper_next}
use Rattle.fkv_world.specs.Moves.{Near, session_moved, keeper_moved}
use Rattle.fkv_world.specs.World.{Event, Calls, Moves, Commits, Turns, KeeperMoves, Now, seat_at, session_called, keeper_asked}

-- an event of the session of this number, and one of the keeper's; a crash is nobody's
abbrev pub is_of_session : ℕ → Event → Bool
is_of_session session (Calls number call) = number == session
is_of_session session (Moves number) = number == session
is_of_session session event = false

abbrev pub is_of_keeper : Event → Bool
is_of_keeper (Commits kind) = true
is_of_keeper Turns = true
is_of_keeper (KeeperMoves granted done) = true
is_of_keeper event = false

-- all of these are others' events
abbrev pub NoneOfSession : ℕ → List Event → Type 0
NoneOfSession session [] = ⊤
NoneOfSession session (event ∷ before) = (is_of_session session event ≡ false) × NoneOfSession session before

abbrev pub NoneOfKeeper : List Event → Type 0
NoneOfKeeper [] = ⊤
NoneOfKeeper (event ∷ before) = (is_of_keeper event ≡ false) × NoneOfKeeper before

-- what an event of a session leads to, from its machine, the words and the actions alone
unfoldable pub session_goes : Seat → Near SessionState → Event → Near SessionState
session_goes k n (Calls number call) = record n { machine = session_called k n.machine call }
session_goes k n (Moves number) = session_moved k n
session_goes k n event = n

-- so of the keeper, with what a read of the device gives
unfoldable pub keeper_goes : Shape → Places → List ℕ → Near KeeperState → Event → Near KeeperState
keeper_goes shape p read n (Commits kind) = record n { machine = keeper_asked n.machine (commit_asked n.machine kind) }
keeper_goes shape p read n Turns = record n { machine = keeper_asked n.machine (turn_asked n.machine) }
keeper_goes shape p read n (KeeperMoves granted done) = keeper_moved shape p granted done read n
keeper_goes shape p read n event = n

-- the slot that an ask names
abbrev pub slot_asked : {A : Type 0} → Ask A → Option ℕ
slot_asked (Put slot action) = Some slot
slot_asked (Take slot) = Some slot
slot_asked ask = None

-- the slot of a step: that of its ask, and where this is of a word, of the ask that goes with it
abbrev pub slot_of_step : {A : Type 0} → Ask A → Ask A → Option ℕ
slot_of_step (Put slot action) behind = Some slot
slot_of_step (Take slot) behind = Some slot
slot_of_step (Done its) behind = None
slot_of_step ask behind = slot_asked behind

-- the word's place that an event names, by the ask of the machine that moves
abbrev pub session_place_named : Seat → Option SessionState → Option ℕ
session_place_named k None = None
session_place_named k (Some s) = asked_place (session_ask k s)

abbrev pub place_named : Now → Event → Option ℕ
place_named n (Moves session) = session_place_named (seat_at n session) (slice_get n.sessions session)
place_named n (KeeperMoves granted done) = asked_place (keeper_ask n.shape n.places n.keeper)
place_named n event = None

-- the slot that it names
abbrev pub session_slot_named : Now → Seat → Option SessionState → Option ℕ
session_slot_named n k None = None
session_slot_named n k (Some s) = slot_of_step (session_ask k s) (session_ask k (session_next k s (reply_to n.words (session_ask k s))))

abbrev pub keeper_slot_named : Now → Bool → Option ℕ
keeper_slot_named n granted =
    slot_of_step (keeper_ask n.shape n.places n.keeper) (keeper_ask n.shape n.places (keeper_next n.shape n.places n.keeper (reply_to n.words (keeper_ask n.shape n.places n.keeper)) granted))

abbrev pub slot_named : Now → Event → Option ℕ
slot_named n (Moves session) = session_slot_named n (seat_at n session) (slice_get n.sessions session)
slot_named n (KeeperMoves granted done) = keeper_slot_named n granted
slot_named n event = None
