-- What a call goes by in which an operation is tried, from its begin to its end: a call of the operation, or a poll in which it alone waits.
use Rattle.std.specs.Prelude.{◌≡◌, ℕ, ◌+◌, ◌&&◌, ◌≤◌, not, if◌then◌else◌, Bool, true, false, None, List, [], ◌∷◌}
use Rattle.fkv_base.specs.Limits.{last_version}
use Rattle.fkv_marks.specs.Marks.{mark}
use Rattle.fkv_map.specs.declared.operations.Call.{Call}
use Rattle.fkv_map.specs.declared.operations.Call.TheVariants.{Poll}
use Rattle.fkv_map.specs.declared.operations.Op.{Op}
use Rattle.fkv_map.specs.Keys.{key_of}
use Rattle.fkv_index.specs.declared.homes.Home.{Home}
use Rattle.fkv_index.specs.Slots.{home_of}
use Rattle.fkv_ops.specs.declared.requests.Occasion.{Occasion}
use Rattle.fkv_ops.specs.declared.requests.Occasion.TheVariants.{Call as AtCall, Poll as AtPoll}
use Rattle.fkv_ops.specs.declared.requests.Request.{Request}
use Rattle.fkv_ops.specs.Bounds.{bounds_at, bounds_of, has_bounds, tail_bound}
use Rattle.fkv_ops.specs.Requests.{is_read}
use Rattle.fkv_ops.specs.Trying.{is_prepare, is_moving_on}
use Rattle.fkv_pending.specs.declared.pending_requests.PendingRequest.{PendingRequest}
use Rattle.fkv_pending.specs.declared.pending_requests.RequestName.{RequestName}
use Rattle.fkv_pending.specs.declared.pending_requests.RequestName.TheVariants.{Update, Read}
use Rattle.fkv_session.specs.Alike.{Lasting, lasting}
use Rattle.fkv_session.specs.Sessions.{Seat, SessionState, bits_of, is_busy, request_of, is_full, ticket_after}
use Rattle.fkv_straight.specs.declared.going.Going.{Going}

-- whose call it is, what of the session lasts, which operation is tried and when, by which name it is told, and which the session has in hand
pub record Course : Type 0 where
  pub seat : Seat
  pub lasts : Lasting
  pub op : Op
  pub occasion : Occasion
  pub name : RequestName
  pub hand : Op

-- an update would take the next serial, and a read the next ticket
abbrev pub next_name : Lasting → Op → RequestName
next_name l op = if is_read op then Read (record { 0 = ticket_after l.ticket }) else Update (record { 0 = l.serial + 1 })

-- the name of the first request that waits: where there is none any name will do
abbrev pub first_name : List PendingRequest → RequestName
first_name [] = Update (record { 0 = 0 })
first_name (its ∷ later) = its.name

-- a poll tells what it finishes, and not what the poll before has
abbrev pub lasts_in : Call → SessionState → Lasting
lasts_in Poll s = record (lasting s) { finished = [] }
lasts_in its s = lasting s

-- when an operation is tried in it: a call goes by the bounds of its store
abbrev pub occasion_of : Seat → Call → Occasion
occasion_of k Poll = AtPoll
occasion_of k its = AtCall (bounds_of k.shape)

-- in a poll the session has its last operation in hand still
abbrev pub hand_of : Call → SessionState → Op → Op
hand_of Poll s op = s.op
hand_of its s op = op

-- by which name it is told
abbrev pub name_in : Call → SessionState → Op → RequestName
name_in Poll s op = first_name s.requests
name_in its s op = next_name (lasting s) op

-- the course of an operation in a call of its own, or in a poll
abbrev pub course_of : Seat → SessionState → Op → Call → Course
course_of k s op its = record { seat = k; lasts = lasts_in its s; op = op; occasion = occasion_of k its; name = name_in its s op; hand = hand_of its s op }

abbrev pub home_in : Course → Home
home_in c = home_of (bits_of c.seat) (key_of c.op)

abbrev pub head_in : Course → ℕ
head_in c = c.lasts.seen.offsets.head.0

abbrev pub floor_in : Course → ℕ
floor_in c = c.lasts.floor.0

abbrev pub request_in : Course → Request
request_in c = request_of c.op c.lasts.seen.version c.lasts.floor

-- the operation as a request
abbrev pub pending_in : Course → PendingRequest
pending_in c = record { name = c.name; request = request_in c; sought = None; has_asked = false }

-- it alone waits, and the poll has told nothing yet
pub record IsLone (c : Course) : Type 0 where
  pub waits : c.lasts.requests ≡ pending_in c ∷ []
  pub none_told : c.lasts.finished ≡ []

-- the operation is one of the session's version, and in a poll it alone waits
pub record IsSettled (c : Course) : Type 0 where
  pub own : (request_in c).version.0 ≡ c.lasts.seen.version.0
  pub lone : c.occasion ≡ AtPoll → IsLone c

-- the operation shares a latch: in prepare an update does
abbrev pub shares : Course → Bool
shares c = is_prepare c.lasts.seen.phase && not (is_read c.op)

-- an update that has bounds
abbrev pub counts : Course → Bool
counts c = has_bounds (bounds_at c.occasion) && not (is_read c.op)

-- The numbers that a straight call goes by are those of its course. The operation is one of the session's version, in a poll it alone waits, and the
-- session's spare bucket is one that there is.
pub record Goes (c : Course) (k : Seat) (op : Op) (g : Going) : Type 0 where
  pub its_seat : c.seat ≡ k
  pub its_op : c.op ≡ op
  pub its_places : c.seat.places ≡ g.places
  pub its_bits : bits_of c.seat ≡ g.bits
  pub its_head : head_in c ≡ g.head
  pub its_floor : floor_in c ≡ g.floor
  pub its_read_only : c.lasts.seen.offsets.read_only.0 ≡ g.read_only
  pub its_version : (request_in c).version.0 ≡ g.version
  pub its_mark : mark (request_in c).version.0 ≡ g.mark
  pub moves_on : is_moving_on c.lasts.seen.phase ≡ g.is_moving_on
  pub prepares : is_prepare c.lasts.seen.phase ≡ g.is_preparing
  pub its_bound : tail_bound (bounds_at c.occasion) ≡ g.bound
  pub spare_fits : c.lasts.spare ≤ c.seat.places.overflow
  pub settled : IsSettled c

-- The same but for the operation: what each straight call of a session goes by. The session is awake, no call of its machine is in hand, it has room for a
-- request, and its version and its spare bucket are ones that there are.
pub record GoesBy (k : Seat) (s : SessionState) (g : Going) : Type 0 where
  pub places : k.places ≡ g.places
  pub bits : bits_of k ≡ g.bits
  pub head : s.seen.offsets.head.0 ≡ g.head
  pub floor : s.floor.0 ≡ g.floor
  pub read_only : s.seen.offsets.read_only.0 ≡ g.read_only
  pub version : s.seen.version.0 ≡ g.version
  pub some_version : ¬ (g.version ≡ 0)
  pub version_fits : g.version ≤ last_version
  pub its_mark : mark g.version ≡ g.mark
  pub moves_on : is_moving_on s.seen.phase ≡ g.is_moving_on
  pub prepares : is_prepare s.seen.phase ≡ g.is_preparing
  pub its_bound : tail_bound (bounds_of k.shape) ≡ g.bound
  pub awake : s.is_awake ≡ true
  pub room : is_full s.requests ≡ false
  pub spare_fits : s.spare ≤ g.places.overflow
  pub idle : is_busy s.step ≡ false
