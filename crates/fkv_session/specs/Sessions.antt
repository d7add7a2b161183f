-- A session's calls: what each begins, and where each reply leads.
use Rattle.std.specs.Prelude.{◌≡◌, ◌<◌, ◌≤◌, ⊤, ℕ, ◌+◌, ◌-◌, ◌*◌, ◌^◌, ◌==◌, ◌&&◌, ◌||◌, not, min, max, nat_lt, if◌then◌else◌, Bool, true, false, Option, Some, None, List, [], ◌∷◌, ◌++◌, length, slice_get, slice_set}
use Rattle.std.specs.List.{remove}
use Rattle.std.proofs.Common.{arith}
use Rattle.fkv_base.specs.Limits.{max_pending, last_serial, last_version}
use Rattle.fkv_base.specs.declared.faults.Fault.{Fault}
use Rattle.fkv_base.specs.declared.faults.Fault.TheVariants as fault
use Rattle.fkv_base.specs.declared.numbers.Addr.{Addr}
use Rattle.fkv_base.specs.declared.numbers.Serial.{Serial}
use Rattle.fkv_base.specs.declared.numbers.Version.{Version}
use Rattle.fkv_base.specs.declared.numbers.Value.{Value}
use Rattle.fkv_base.specs.declared.shapes.Shape.{Shape}
use Rattle.fkv_map.specs.declared.history.HistoryEntry.{HistoryEntry}
use Rattle.fkv_map.specs.declared.operations.Call.{Call}
use Rattle.fkv_map.specs.declared.operations.Call.TheVariants as call
use Rattle.fkv_map.specs.declared.operations.Op.{Op}
use Rattle.fkv_map.specs.declared.operations.Reply.{Reply}
use Rattle.fkv_map.specs.declared.operations.Reply.TheVariants as reply
use Rattle.fkv_map.specs.Map.{is_reserved}
use Rattle.fkv_plane.specs.declared.actions.Action.{Action}
use Rattle.fkv_plane.specs.declared.asks.Ask.{Ask}
use Rattle.fkv_plane.specs.declared.asks.Ask.TheVariants.{Load, Store, Put, Take, Done}
use Rattle.fkv_plane.specs.declared.places.Places.{Places}
use Rattle.fkv_plane.specs.declared.places.SessionWord.TheVariants as own
use Rattle.fkv_plane.specs.Places.{session_place}
use Rattle.fkv_plane.specs.Passing.{passed}
use Rattle.fkv_epoch.specs.declared.leaving.Leaving.{Leaving}
use Rattle.fkv_epoch.specs.declared.leaving.Leaving.TheVariants.{StoresZero}
use Rattle.fkv_epoch.specs.Leaving.{leave_ask, leave_next}
use Rattle.fkv_ops.specs.declared.answers.DiskRecord.{DiskRecord}
use Rattle.fkv_ops.specs.declared.answers.Reason.{Reason}
use Rattle.fkv_ops.specs.declared.answers.Reason.TheVariants as reason
use Rattle.fkv_ops.specs.declared.answers.TryAnswer.{TryAnswer}
use Rattle.fkv_ops.specs.declared.answers.TryAnswer.TheVariants as tried
use Rattle.fkv_ops.specs.declared.requests.Occasion.TheVariants.{Call as AtCall, Poll as AtPoll}
use Rattle.fkv_ops.specs.Bounds.{bounds_of}
use Rattle.fkv_ops.specs.declared.requests.Request.{Request}
use Rattle.fkv_ops.specs.declared.requests.Seen.{Seen}
use Rattle.fkv_ops.specs.Requests.{is_read}
use Rattle.fkv_pending.specs.declared.mailing.MailAnswer.{MailAnswer}
use Rattle.fkv_pending.specs.declared.mailing.MailAnswer.TheVariants.{Cleared}
use Rattle.fkv_pending.specs.declared.mailing.MailTask.TheVariants.{Clear}
use Rattle.fkv_pending.specs.declared.mailing.Mailing.{Mailing}
use Rattle.fkv_pending.specs.declared.mailing.Mailing.TheVariants.{LoadsState}
use Rattle.fkv_pending.specs.declared.pending_requests.PendingRequest.{PendingRequest}
use Rattle.fkv_pending.specs.declared.pending_requests.RequestName.{RequestName}
use Rattle.fkv_pending.specs.declared.pending_requests.RequestName.TheVariants.{Update, Read}
use Rattle.fkv_pending.specs.declared.pending_requests.Ticket.{Ticket}
use Rattle.fkv_pending.specs.Mailing.{mail_ask, mail_next}
use Rattle.fkv_pending.specs.Attempting.{AttemptState, attempt_begun, attempt_ask, attempt_next}
use Rattle.fkv_session.specs.declared.answers.Finished.{Finished}
use Rattle.fkv_session.specs.declared.answers.Finished.TheVariants as finished
use Rattle.fkv_session.specs.declared.answers.Told.{Told}
use Rattle.fkv_session.specs.declared.answers.Told.TheVariants as told
use Rattle.fkv_session.specs.declared.sessions.CatchCause.{CatchCause}
use Rattle.fkv_session.specs.declared.sessions.CatchCause.TheVariants.{Refreshes, Wakes, Shifts}
use Rattle.fkv_session.specs.declared.sessions.Sitting.{Sitting}
use Rattle.fkv_session.specs.declared.sessions.Sitting.TheVariants.{Idle, Attempts, CatchesUp, ClearsMail, Polls, StoresOwing, Turns, StoresCut, Leaves, LoadsDurable}
use Rattle.fkv_session.specs.CatchingUp.{CatchState, refresh_begun, refresh_ended, wake_begun, catch_ask, catch_next, catch_requests, cut_of, cut_at, owing}
use Rattle.fkv_session.specs.OwnTurns.{OwnTurnState, own_turn_begun, own_turn_ask, own_turn_next, own_turn_given}

pub record SessionState : Type 0 where
  -- what it goes by: what it loaded when it last refreshed or woke
  pub seen : Seen
  -- the last serial that it has taken, and the last ticket that it has given
  pub serial : ℕ
  pub ticket : ℕ
  -- the log begins there or above: each request begins with it
  pub floor : Addr
  -- the requests that wait, in the order of their acceptance
  pub requests : List PendingRequest
  -- a record is asked for whose request has finished without it
  pub is_orphaned : Bool
  -- an overflow bucket that it has taken and not linked, 0 where it has none
  pub spare : ℕ
  pub is_awake : Bool
  -- a try of this call had no room
  pub wants_turn : Bool
  -- asks since the call began
  pub asks : ℕ
  -- the update whose effect the last reply made
  pub effect : Option HistoryEntry
  -- what the last poll has finished
  pub finished : List Finished
  -- the operation in hand
  pub op : Op
  -- the machines inside it
  pub catching : CatchState
  pub mailing : Mailing
  pub attempt : AttemptState
  pub leaving : Leaving
  pub own_turn : OwnTurnState
  pub step : Sitting

-- whose machine it is, in which store
pub record Seat : Type 0 where
  pub places : Places
  pub shape : Shape
  pub number : ℕ

pub record Sitter : Type 0 where
  pub seat : Seat
  pub state : SessionState

abbrev pub bits_of : Seat → ℕ
bits_of k = k.shape.bucket_bits

abbrev pub room_of : Seat → ℕ
room_of k = k.shape.disk_pages * k.shape.page

-- what each state asks
unfoldable pub sitting_ask : Seat → SessionState → Sitting → Ask Told
sitting_ask k s (Idle its) = Done its
sitting_ask k s (Attempts has_shifted) = passed (attempt_ask k.places k.number s.attempt) told.Slept
sitting_ask k s (CatchesUp cause) = passed (catch_ask k.places k.number s.catching s.requests) told.Slept
sitting_ask k s ClearsMail = passed (mail_ask k.number s.mailing) told.Slept
sitting_ask k s (Polls index) = passed (attempt_ask k.places k.number s.attempt) told.Slept
sitting_ask k s (StoresOwing index) = Store (session_place k.number own.Owing) (owing s.seen s.requests)
sitting_ask k s (Turns its) = passed (own_turn_ask k.shape s.own_turn) its
sitting_ask k s StoresCut = Store (session_place k.number (cut_of s.seen.version.0)) (cut_at s.serial s.seen.version.0)
sitting_ask k s Leaves = passed (leave_ask k.number s.leaving) told.Slept
sitting_ask k s LoadsDurable = Load (session_place k.number own.Durable)

abbrev pub session_ask : Seat → SessionState → Ask Told
session_ask k s = sitting_ask k s s.step

-- a call is in hand
abbrev pub is_busy : Sitting → Bool
is_busy (Idle its) = false
is_busy step = true

-- the call is answered
abbrev pub answers : SessionState → Told → SessionState
answers s its = record s { step = Idle its }

abbrev pub refuses : SessionState → Fault → SessionState
refuses s why = answers s (told.Refused why)

-- a call in which a try had no room makes a turn before it is answered
abbrev pub answers_after_turn : SessionState → Told → SessionState
answers_after_turn s its = if s.wants_turn then record s { own_turn = own_turn_begun s.own_turn; step = Turns its } else answers s its

-- a version as it stands, and past its limits the nearest that there is
abbrev pub version_within : ℕ → ℕ
version_within version = max (min version last_version) 1

abbrev pub request_of : Op → Version → Addr → Request
request_of op version floor = record { op = op; version = record { 0 = version_within version.0 }; has_latch = false; held = None; floor = floor; some_version = omega arith; version_fits = omega arith }

-- after the last ticket comes the first
abbrev pub ticket_after : ℕ → ℕ
ticket_after ticket = if ticket == 2 ^ 64 - 1 then 1 else ticket + 1

-- an update would take the next serial, and a read the next ticket
abbrev pub name_of : SessionState → RequestName
name_of s = if is_read s.op then Read (record { 0 = ticket_after s.ticket }) else Update (record { 0 = s.serial + 1 })

-- the operation in hand as a request of the session's version, with its floor
abbrev pub request_in_hand : SessionState → PendingRequest
request_in_hand s = record { name = name_of s; request = request_of s.op s.seen.version s.floor; sought = None; has_asked = false }

unfoldable pub attempts : Seat → SessionState → Bool → SessionState
attempts k s has_shifted = record s { attempt = attempt_begun k.places (bits_of k) (request_in_hand s) s.seen (AtCall (bounds_of k.shape)) s.spare s.is_orphaned; step = Attempts has_shifted }

-- the request at an index is attempted, and past the last the poll is answered
abbrev pub polls_request : Seat → SessionState → ℕ → Option PendingRequest → SessionState
polls_request k s index None = answers_after_turn s (told.Polled (length s.requests))
polls_request k s index (Some pending) = record s { attempt = attempt_begun k.places (bits_of k) pending s.seen AtPoll s.spare s.is_orphaned; step = Polls index }

unfoldable pub polls_at : Seat → SessionState → ℕ → SessionState
polls_at k s index = polls_request k s index (slice_get s.requests index)

-- why an operation is refused before it is tried
abbrev pub is_full : List PendingRequest → Bool
is_full requests = length requests == max_pending

abbrev pub is_spent : SessionState → Op → Bool
is_spent s op = not (is_read op) && s.serial == last_serial

abbrev pub refusal_of : SessionState → Op → Option Fault
refusal_of s op =
    if not s.is_awake then Some fault.Asleep else if is_reserved op then Some fault.ValueReserved else if is_full s.requests then Some fault.PendingFull
    else if is_spent s op then Some fault.SerialsSpent else None

unfoldable pub op_begun : Seat → SessionState → Op → Option Fault → SessionState
op_begun k s op (Some why) = refuses s why
op_begun k s op None = attempts k (record s { op = op }) false

unfoldable pub refresh_call : SessionState → SessionState
refresh_call s = if s.is_awake then record s { catching = refresh_begun s.catching s.seen s.serial; step = CatchesUp Refreshes } else refuses s fault.Asleep

-- a record that nobody waits for any more is let go before the tries
abbrev pub poll_begun : Seat → SessionState → SessionState
poll_begun k s = if s.is_orphaned then record s { mailing = LoadsState Clear; step = ClearsMail } else polls_at k s 0

unfoldable pub poll_call : Seat → SessionState → SessionState
poll_call k s = if s.is_awake then poll_begun k (record s { finished = [] }) else refuses s fault.Asleep

unfoldable pub sleep_call : SessionState → SessionState
sleep_call s = if not s.is_awake then refuses s fault.Asleep else if length s.requests == 0 then record s { step = StoresCut } else refuses s fault.PendingLeft

unfoldable pub wake_call : SessionState → SessionState
wake_call s = if s.is_awake then refuses s fault.Awake else record s { catching = wake_begun s.catching s.seen s.serial; step = CatchesUp Wakes }

abbrev pub call_begun : Seat → SessionState → Call → SessionState
call_begun k s (call.Op op) = op_begun k s op (refusal_of s op)
call_begun k s call.Refresh = refresh_call s
call_begun k s call.Poll = poll_call k s
call_begun k s call.Sleep = sleep_call s
call_begun k s call.Wake = wake_call s
call_begun k s call.Durable = record s { step = LoadsDurable }

abbrev pub session_begun : Seat → SessionState → Call → SessionState
session_begun k s its = call_begun k (record s { asks = 0; effect = None; wants_turn = false }) its

-- what the attempt leaves to the session
abbrev pub attempt_left : SessionState → SessionState
attempt_left s = record s { spare = s.attempt.spare; is_orphaned = s.attempt.is_orphaned }

abbrev pub serial_taken : SessionState → SessionState
serial_taken s = record s { serial = s.serial + 1 }

abbrev pub update_done : SessionState → Reply → SessionState
update_done s its = answers (serial_taken s) (told.Done (record { 0 = s.serial + 1 }) its)

abbrev pub is_no_room : Reason → Bool
is_no_room reason.NoRoom = true
is_no_room its = false

abbrev pub with_request : SessionState → SessionState
with_request s = record s { requests = s.requests ++ s.attempt.pending ∷ [] }

-- the request is accepted and waits
unfoldable pub accepts : SessionState → Reason → SessionState
accepts s why =
    if is_read s.op then answers (with_request (record s { ticket = ticket_after s.ticket })) (told.PendingRead (record { 0 = ticket_after s.ticket }))
    else answers_after_turn (with_request (serial_taken (record s { wants_turn = is_no_room why }))) (told.Pending (record { 0 = s.serial + 1 }) why)

-- it refreshes and tries once more at its new version. A second shift is none that a store leads to
unfoldable pub shifts : SessionState → Bool → SessionState
shifts s false = record s { catching = refresh_begun s.catching s.seen s.serial; step = CatchesUp Shifts }
shifts s true = accepts s reason.Contended

-- a read is never done: it finds a value, or none
abbrev pub attempted : SessionState → Bool → TryAnswer → SessionState
attempted s has_shifted (tried.Done its) = if is_read s.op then answers s told.Absent else update_done s its
attempted s has_shifted (tried.Found value) = answers s (told.Found value)
attempted s has_shifted tried.Absent = answers s told.Absent
attempted s has_shifted (tried.Wait why) = accepts s why
attempted s has_shifted (tried.AwaitsDisk sought) = accepts s reason.Disk
attempted s has_shifted tried.Shift = shifts s has_shifted
attempted s has_shifted tried.IndexFull = refuses s fault.IndexFull
attempted s has_shifted tried.LogFull = refuses s fault.LogFull

unfoldable pub attempt_ledto : SessionState → Bool → Ask TryAnswer → SessionState
attempt_ledto s has_shifted (Done its) = attempted (attempt_left s) has_shifted its
attempt_ledto s has_shifted ask = s

-- the session has refreshed without its machine, and goes by this from then on
abbrev pub refreshed : SessionState → Seen → SessionState
refreshed s seen = answers (record s { seen = seen; catching = refresh_ended s.catching s.seen seen s.serial }) told.Slept

-- the session has tried an update without its machine, and it waits from then on
abbrev pub update_waiting : SessionState → Op → SessionState
update_waiting s op =
    let taken : ℕ = s.serial + 1 in
    answers (record s { serial = taken; requests = s.requests ++ record { name = Update (record { 0 = taken }); request = request_of op s.seen.version s.floor; sought = None; has_asked = false } ∷ [] }) told.Slept

-- the session has tried a read without its machine, and it waits for this record of the device from then on. Its address is in the mailbox, or isn't
abbrev pub read_waiting : SessionState → Op → DiskRecord → Bool → SessionState
read_waiting s op sought has_asked =
    let taken : Ticket = record { 0 = ticket_after s.ticket } in
    answers (record s { ticket = taken.0; requests = s.requests ++ record { name = Read taken; request = request_of op s.seen.version s.floor; sought = Some sought; has_asked = has_asked } ∷ [] }) told.Slept

-- the session has polled without its machine: an update has finished so, the first request that waited
abbrev pub update_polled : SessionState → Serial → Reply → SessionState
update_polled s serial its = answers (record s { finished = finished.Update serial its ∷ []; requests = remove s.requests 0 }) told.Slept

-- or a read has
abbrev pub read_polled : SessionState → Ticket → Option Value → SessionState
read_polled s ticket value = answers (record s { finished = finished.Read ticket value ∷ []; requests = remove s.requests 0 }) told.Slept

-- and it has finished none, but the first request waits as this
abbrev pub request_polled : SessionState → PendingRequest → SessionState
request_polled s its = answers (record s { finished = []; requests = slice_set s.requests 0 its }) told.Slept

-- and it has finished none
abbrev pub nothing_polled : SessionState → SessionState
nothing_polled s = answers (record s { finished = [] }) told.Slept

-- the request that waits, where just one does
abbrev pub only_of : List PendingRequest → Option PendingRequest
only_of [] = None
only_of (its ∷ []) = Some its
only_of (its ∷ other ∷ others) = None

abbrev pub caught_up : Seat → SessionState → CatchCause → SessionState
caught_up k s Refreshes = answers s (told.Refreshed s.seen.phase s.seen.version)
caught_up k s Wakes = answers (record s { is_awake = true }) (told.Woken s.seen.phase s.seen.version)
caught_up k s Shifts = attempts k s true

unfoldable pub catch_ledto : Seat → SessionState → CatchCause → Ask (Unit {0}) → SessionState
catch_ledto k s cause (Done its) = caught_up k (record s { seen = s.catching.seen }) cause
catch_ledto k s cause ask = s

unfoldable pub clear_ledto : Seat → SessionState → Ask MailAnswer → SessionState
clear_ledto k s (Done Cleared) = polls_at k (record s { is_orphaned = false }) 0
clear_ledto k s (Done its) = polls_at k s 0
clear_ledto k s ask = s

-- what a poll tells of a request that is finished
abbrev pub finished_of : RequestName → TryAnswer → Finished
finished_of (Update serial) (tried.Done its) = finished.Update serial its
finished_of (Update serial) (tried.Found value) = finished.Update serial (reply.Found value)
finished_of (Update serial) its = finished.Update serial reply.Absent
finished_of (Read ticket) (tried.Found value) = finished.Read ticket (Some value)
finished_of (Read ticket) its = finished.Read ticket None

abbrev pub is_finished : TryAnswer → Bool
is_finished (tried.Done its) = true
is_finished (tried.Found value) = true
is_finished tried.Absent = true
is_finished its = false

-- an update of the version before the session's is owed no more
abbrev pub is_owed : SessionState → Bool
is_owed s = not (is_read s.attempt.pending.request.op) && nat_lt s.attempt.pending.request.version.0 s.seen.version.0

abbrev pub request_finished : SessionState → ℕ → TryAnswer → SessionState
request_finished s index its = record s { finished = s.finished ++ finished_of s.attempt.pending.name its ∷ []; requests = remove s.requests index; step = StoresOwing index }

unfoldable pub finishes_request : Seat → SessionState → ℕ → TryAnswer → SessionState
finishes_request k s index its = if is_owed s then request_finished s index its else polls_at k (request_finished s index its) index

-- the request goes on waiting
abbrev pub lacks_room : TryAnswer → Bool
lacks_room (tried.Wait why) = is_no_room why
lacks_room its = false

unfoldable pub keeps_request : Seat → SessionState → ℕ → TryAnswer → SessionState
keeps_request k s index its = polls_at k (record s { requests = slice_set s.requests index s.attempt.pending; wants_turn = s.wants_turn || lacks_room its }) (index + 1)

-- What the attempt of a poll leaves to the session. Its request may have heard of a later begin of the log: the session's floor is raised to that.
abbrev pub floor_by : Addr → PendingRequest → Addr
floor_by floor its = record { 0 = max floor.0 its.request.floor.0 }

abbrev pub poll_left : SessionState → SessionState
poll_left s = record (attempt_left s) { floor = floor_by s.floor s.attempt.pending }

unfoldable pub poll_ledto : Seat → SessionState → ℕ → Ask TryAnswer → SessionState
poll_ledto k s index (Done its) = if is_finished its then finishes_request k (poll_left s) index its else keeps_request k (poll_left s) index its
poll_ledto k s index ask = s

unfoldable pub turn_ledto : SessionState → Told → Ask (Unit {0}) → SessionState
turn_ledto s its (Done through) = answers s its
turn_ledto s its ask = s

unfoldable pub leave_ledto : SessionState → Ask (Unit {0}) → SessionState
leave_ledto s (Done its) = answers (record s { is_awake = false }) told.Slept
leave_ledto s ask = s

-- the entry of the history that an effect makes: where there is none, the request isn't looked at
abbrev pub entry_of : ℕ → PendingRequest → RequestName → Option Reply → Option HistoryEntry
entry_of number pending name None = None
entry_of number pending (Update serial) (Some its) = Some (record { session = number; serial = serial; op = pending.request.op; reply = its })
entry_of number pending (Read ticket) (Some its) = None

abbrev pub attempt_moved : Seat → SessionState → ℕ → SessionState
attempt_moved k s reply =
    let after : AttemptState = attempt_next k.places (bits_of k) (room_of k) k.number s.attempt reply in
    record s { attempt = after; effect = entry_of k.number after.pending after.pending.name after.effect }

abbrev pub caught : Seat → SessionState → ℕ → SessionState
caught k s reply = record s { catching = catch_next k.places (bits_of k) k.number s.catching s.requests reply; requests = catch_requests s.catching s.requests reply }

abbrev pub own_turn_moved : Seat → SessionState → ℕ → SessionState
own_turn_moved k s reply = record s { own_turn = own_turn_next k.shape s.own_turn reply }

-- where the reply leads
unfoldable pub sitting_next : Seat → SessionState → Sitting → ℕ → SessionState
sitting_next k s (Idle its) reply = s
sitting_next k s (Attempts has_shifted) reply = attempt_ledto (attempt_moved k s reply) has_shifted (attempt_ask k.places k.number (attempt_moved k s reply).attempt)
sitting_next k s (CatchesUp cause) reply = catch_ledto k (caught k s reply) cause (catch_ask k.places k.number (caught k s reply).catching (caught k s reply).requests)
sitting_next k s ClearsMail reply = clear_ledto k (record s { mailing = mail_next s.mailing reply }) (mail_ask k.number (mail_next s.mailing reply))
sitting_next k s (Polls index) reply = poll_ledto k (attempt_moved k s reply) index (attempt_ask k.places k.number (attempt_moved k s reply).attempt)
sitting_next k s (StoresOwing index) reply = polls_at k s index
sitting_next k s (Turns its) reply = turn_ledto (own_turn_moved k s reply) its (own_turn_ask k.shape (own_turn_moved k s reply).own_turn)
sitting_next k s StoresCut reply = record s { leaving = StoresZero; step = Leaves }
sitting_next k s Leaves reply = leave_ledto (record s { leaving = leave_next s.leaving }) (leave_ask k.number (leave_next s.leaving))
sitting_next k s LoadsDurable reply = answers s (told.Durable (record { 0 = reply }))

-- an ask of a word counts, and what goes with it does not
abbrev pub is_word_ask : {A : Type 0} → Ask A → Bool
is_word_ask (Put slot action) = false
is_word_ask (Take slot) = false
is_word_ask (Done its) = false
is_word_ask ask = true

abbrev pub asks_after : ℕ → Bool → ℕ
asks_after asks true = min (asks + 1) (2 ^ 64 - 1)
asks_after asks false = asks

abbrev pub session_next : Seat → SessionState → ℕ → SessionState
session_next k s reply = sitting_next k (record s { asks = asks_after s.asks (is_word_ask (session_ask k s)); effect = None }) s.step reply

-- what the action of a claimed slot leads to
unfoldable pub sitting_given : Seat → SessionState → Sitting → Action → SessionState
sitting_given k s (Turns its) action = turn_ledto (record s { own_turn = own_turn_given s.own_turn action }) its (own_turn_ask k.shape (own_turn_given s.own_turn action))
sitting_given k s step action = s

abbrev pub session_given : Seat → SessionState → Action → SessionState
session_given k s action = sitting_given k s s.step action

-- there is room for one more request, and an update can take one more serial
pub record HasRoom (requests : List PendingRequest) (op : Op) (serial : ℕ) : Type 0 where
  pub fewer : length requests < max_pending
  pub serial_left : is_read op ≡ false → serial < last_serial

-- what a poll has finished and what still waits were all waiting as it began
abbrev pub IsStepInRange : List PendingRequest → List Finished → Op → ℕ → Sitting → Type 0
IsStepInRange requests its op serial (Attempts has_shifted) = HasRoom requests op serial
IsStepInRange requests its op serial (CatchesUp Shifts) = HasRoom requests op serial
IsStepInRange requests its op serial ClearsMail = length its + length requests ≤ max_pending
IsStepInRange requests its op serial (Polls index) = (length its + length requests ≤ max_pending) × (index < length requests)
IsStepInRange requests its op serial (StoresOwing index) = length its + length requests ≤ max_pending
IsStepInRange requests its op serial step = ⊤

-- a session whose store was opened is awake, has nothing that waits and nothing to spare, and has no call in hand
pub record IsOpened (s : SessionState) : Type 0 where
  pub awake : s.is_awake ≡ true
  pub none_wait : s.requests ≡ []
  pub no_ticket : s.ticket ≡ 0
  pub no_orphan : s.is_orphaned ≡ false
  pub no_spare : s.spare ≡ 0
  pub no_asks : s.asks ≡ 0
  pub no_effect : s.effect ≡ None
  pub none_finished : s.finished ≡ []
  pub none_in_hand : is_busy s.step ≡ false
  pub serial_fits : s.serial ≤ last_serial
