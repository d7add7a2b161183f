-- What a player knows of a session beside its life.
use Rattle.std.specs.Prelude.{ℕ, Bool, true, false, List, [], ◌∷◌, ◌++◌, Option, Some, None, slice_get, slice_set}
use Rattle.fkv_base.specs.declared.numbers.Key.{Key}
use Rattle.fkv_map.specs.declared.operations.Call.{Call}
use Rattle.fkv_pending.specs.declared.pending_requests.Ticket.{Ticket}
use Rattle.fkv_session.specs.declared.answers.Answer.{Answer}
use Rattle.fkv_session.specs.declared.answers.Answer.TheVariants.{PendingRead, Slept, Woken}
use Rattle.fkv_texts.specs.Sessions.{key_of_call}
use Rattle.fkv_texts.specs.declared.polls.WaitingRead.{WaitingRead}

-- whether it is awake, and its reads that have gone pending
pub record SeatState : Type 0 where
  pub is_awake : Bool
  pub waiting : List WaitingRead

abbrev pub first_seat : SeatState
first_seat = record { is_awake = true; waiting = [] }

-- a session is asleep behind `sleep`, and awake behind `wake`
abbrev pub is_awake_behind : Answer → Bool → Bool
is_awake_behind Slept before = false
is_awake_behind (Woken phase version) before = true
is_awake_behind other before = before

-- a read that goes pending waits, with the key of its call
abbrev pub read_of : Ticket → Option Key → List WaitingRead
read_of ticket None = []
read_of ticket (Some key) = record { ticket = ticket; key = key } ∷ []

abbrev pub waiting_behind : Call → Answer → List WaitingRead → List WaitingRead
waiting_behind call (PendingRead ticket) before = before ++ read_of ticket (key_of_call call)
waiting_behind call other before = before

abbrev pub seat_behind : Call → Answer → SeatState → SeatState
seat_behind call answer seat = record { is_awake = is_awake_behind answer seat.is_awake; waiting = waiting_behind call answer seat.waiting }

-- the seats behind an answer to this session's call
abbrev pub seat_answered : ℕ → Call → Answer → List SeatState → Option SeatState → List SeatState
seat_answered number call answer seats None = seats
seat_answered number call answer seats (Some seat) = slice_set seats number (seat_behind call answer seat)

abbrev pub seats_answered : ℕ → Call → Answer → List SeatState → List SeatState
seats_answered number call answer seats = seat_answered number call answer seats (slice_get seats number)
