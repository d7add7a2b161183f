-- Reads that wait: what a seat keeps of them, and the value that a poll gives.
use Rattle.std.specs.Prelude.{◌≡◌, ◌<◌, ℕ, List, [], ◌∷◌, ◌++◌, length, if◌then◌else◌, Option, None, Some, slice_get}
use Rattle.fkv_base.specs.declared.numbers.Key.{Key}
use Rattle.fkv_base.specs.declared.numbers.Value.{Value}
use Rattle.law_order.specs.Below.fkv_core.Openings.{beginning}
use Rattle.law_order.specs.Below.fkv_core.Unswept.{NeverSweeps}
use Rattle.fkv_map.specs.Map.{reply_to}
use Rattle.fkv_map.specs.declared.operations.Call.TheVariants as call
use Rattle.fkv_map.specs.declared.operations.Op.TheVariants.{Read}
use Rattle.law_order.specs.Below.fkv_opening.TheOpened.{Opened}
use Rattle.law_order.specs.Below.fkv_pending.Ticket.{Ticket}
use Rattle.fkv_runs.specs.Below.fkv_playing.Seats.{SeatState}
use Rattle.law_order.specs.Below.fkv_session.Answer.{Answer}
use Rattle.law_order.specs.Below.fkv_session.Finished.TheVariants as finished
use Rattle.fkv_texts.specs.Polls.{key_of_ticket}
use Rattle.fkv_texts.specs.Sessions.{finished_by, key_of_call}
use Rattle.fkv_texts.specs.declared.polls.WaitingRead.{WaitingRead}
use Rattle.law_order.specs.Below.fkv_world.Past.{Traced}
use Rattle.law_order.specs.Below.fkv_world.Runs.{run}
use Rattle.law_order.specs.Below.fkv_world.World.{Calls, Event, Now}
use Rattle.law_log.specs.Trace.{CallsRead, IsIn, history_of}
use Rattle.law_order.specs.Below.law_opening.Log.Maps.{opening_map}
use Rattle.law_order.specs.Rules.InTime.{IsInTime}
use Rattle.law_order.specs.Rules.Ordered.{effects_so_far, lines_so_far}
use Rattle.law_order.specs.Rules.Waiting.{HasWaiting, waiting_read}
use Rattle.law_program.specs.PlayedCalls.PlayedCalls.{called_alone}
use Rattle.law_program.specs.WholeCalls.WholeCalls.{map_after}
use Rattle.law_order.specs.Below.law_refine.Calls.Calls.{event_adds}
use Rattle.law_order.specs.Below.law_refine.Events.Lines.{CallMade, gives_ticket, last_call, read_reply, read_waiting}

-- The session called a read of this key in the life, and nobody else did anything until it was told this ticket. The read has this number. Nothing took effect
-- in its call, and behind that it waits.
pub record IsReadCalled (bytes : List ℕ) (first : Now) (life : List Event) (number : ℕ) (ticket : Ticket) (reader : ℕ) (key : Key) : Type 0 where
  pub since : List Event
  pub moves : ℕ
  pub earlier : List Event
  pub called : life ≡ since ++ called_alone number moves (call.Op (Read key)) earlier
  pub line : IsIn (CallsRead reader key.0) (event_adds (beginning first bytes) earlier (Calls number (call.Op (Read key))))
  pub none : effects_so_far first bytes (called_alone number moves (call.Op (Read key)) earlier) ≡ effects_so_far first bytes earlier
  pub waits : HasWaiting (run (beginning first bytes) (called_alone number moves (call.Op (Read key)) earlier)).now number ticket
  pub its_number : waiting_read first bytes (called_alone number moves (call.Op (Read key)) earlier) number ticket ≡ reader

-- the number of the call that was told this ticket last
abbrev pub reader_of : List ℕ → Now → List Event → ℕ → Ticket → ℕ
reader_of bytes first life number ticket = read_waiting number ticket.0 (run (beginning first bytes) life).past.trace

-- A ticket stands for a call of before; and where that is a read, it is one of this key.
pub record StandsForKey (bytes : List ℕ) (first : Now) (life : List Event) (number : ℕ) (ticket : Ticket) (key : Key) : Type 0 where
  pub before : reader_of bytes first life number ticket < length (run (beginning first bytes) life).past.trace
  pub read : (its : ℕ) → IsIn (CallsRead (reader_of bytes first life number ticket) its) (lines_so_far first bytes life) → (its ≡ key.0) × IsReadCalled bytes first life number ticket (reader_of bytes first life number ticket) key

-- the key of a call, if it has one, and else this one
abbrev pub key_or : Option Key → Option Key → Option Key
key_or None before = before
key_or (Some key) before = Some key

abbrev pub key_made : Option CallMade → Option Key → Option Key
key_made None before = before
key_made (Some made) before = key_or (key_of_call made.call) before

-- the key of the call for which a session was told this ticket last
abbrev pub key_told : ℕ → ℕ → List Traced → Option Key
key_told number ticket [] = None
key_told number ticket (it ∷ before) = if gives_ticket number ticket it.its then key_made (last_call number before) (key_told number ticket before) else key_told number ticket before

-- Seats keep the key of each ticket that their sessions were told in the life, and no other. It stands for that key.
pub record SeatsKeepKeys (bytes : List ℕ) (first : Now) (life : List Event) (seats : List SeatState) : Type 0 where
  pub told : (number : ℕ) (seat : SeatState) → slice_get seats number ≡ Some seat → (ticket : Ticket) → key_of_ticket seat.waiting ticket ≡ key_told number ticket.0 (run (beginning first bytes) life).past.trace
  pub stand : (number : ℕ) (seat : SeatState) → slice_get seats number ≡ Some seat → (ticket : Ticket) (key : Key) → key_of_ticket seat.waiting ticket ≡ Some key → StandsForKey bytes first life number ticket key

-- ---- a poll's value
-- The ticket is of a read of this key that the session called in the life. The value is one that the key had at some moment between that call and
-- the end of the later life.
pub record IsReadInTime (bytes : List ℕ) (o : Opened) (first : Now) (life later : List Event) (number : ℕ) (ticket : Ticket) (key : Key) (value : Option Value) : Type 0 where
  pub read : IsReadCalled bytes first life number ticket (reader_of bytes first life number ticket) key
  pub in_time : IsInTime (opening_map bytes o) (history_of (effects_so_far first bytes read.earlier)) (history_of (effects_so_far first bytes later)) key.0 (read_reply value)

-- The ticket is of a read of this key that the session called in the life. This is what the map of that moment replies: the one that the store showed as the read
-- was called.
pub record IsReadAtCall (bytes : List ℕ) (o : Opened) (first : Now) (life : List Event) (number : ℕ) (ticket : Ticket) (key : Key) (value : Option Value) : Type 0 where
  pub read : IsReadCalled bytes first life number ticket (reader_of bytes first life number ticket) key
  pub by_map : read_reply value ≡ reply_to (map_after o first bytes read.earlier) (Read key)

-- The seat keeps the key of its ticket. The value is one that this key has had since the read's call. While the keeper has swept nothing, it is the
-- key's at that call.
pub record IsKeptAndRead (bytes : List ℕ) (o : Opened) (first : Now) (life later : List Event) (number : ℕ) (waiting : List WaitingRead) (ticket : Ticket) (value : Option Value) : Type 0 where
  pub key : Key
  pub kept : key_of_ticket waiting ticket ≡ Some key
  pub in_time : IsReadInTime bytes o first life later number ticket key value
  pub at_call : NeverSweeps (beginning first bytes) later → IsReadAtCall bytes o first life number ticket key value

-- so is each read that an answer says is finished
abbrev pub AreKeptAndRead : List ℕ → Opened → Now → List Event → List Event → ℕ → List WaitingRead → Answer → Type 0
AreKeptAndRead bytes o first life later number waiting answer =
    (ticket : Ticket) (value : Option Value) → IsIn (finished.Read ticket value) (finished_by answer) → IsKeptAndRead bytes o first life later number waiting ticket value
