-- What a session's control state tells of shifts, and where each reply and each call lead it.
use Rattle.std.proofs.Common.{◌≡◌, ◌⊎◌, inl, inr, ℕ, ◌+◌, ◌∙◌, refl, sym, ap, subst, [], length, Bool, true, false}
use Rattle.std.specs.Prelude.{⊤, ◌||◌, ◌==◌, Option, Some, None, if◌then◌else◌, not, slice_get, slice_set}
use Rattle.fkv_base.specs.declared.faults.Fault.{Fault}
use Rattle.fkv_base.specs.declared.faults.Fault.TheVariants as fault
use Rattle.fkv_base.specs.declared.numbers.Addr.{Addr}
use Rattle.fkv_map.specs.declared.operations.Call.{Call}
use Rattle.fkv_map.specs.declared.operations.Call.TheVariants as call
use Rattle.fkv_map.specs.declared.operations.Op.{Op}
use Rattle.law_commit.specs.Below.fkv_ops.Reason.{Reason}
use Rattle.law_commit.specs.Below.fkv_ops.Reason.TheVariants as reason
use Rattle.law_commit.specs.Below.fkv_ops.TryAnswer.{TryAnswer}
use Rattle.law_commit.specs.Below.fkv_ops.TryAnswer.TheVariants as tried
use Rattle.law_commit.specs.Below.fkv_ops.HeldRecord.{HeldRecord}
use Rattle.law_commit.specs.Below.fkv_ops.Occasion.TheVariants.{Call as AtCall, Poll as AtPoll}
use Rattle.law_commit.specs.Below.fkv_ops.Bounds.{bounds_of}
use Rattle.law_commit.specs.Below.fkv_ops.Seen.{Seen}
use Rattle.law_commit.specs.Below.fkv_ops.Requests.{is_read}
use Rattle.law_commit.specs.Below.fkv_ops.Trying.{is_prepare}
use Rattle.law_commit.specs.Below.fkv_pending.TheAttempting.TheVariants.{Tries}
use Rattle.law_commit.specs.Below.fkv_pending.MailAnswer.{MailAnswer}
use Rattle.law_commit.specs.Below.fkv_pending.MailAnswer.TheVariants.{Cleared}
use Rattle.law_commit.specs.Below.fkv_pending.MailTask.TheVariants.{Clear}
use Rattle.law_commit.specs.Below.fkv_pending.TheMailing.TheVariants.{LoadsState}
use Rattle.law_commit.specs.Below.fkv_pending.PendingRequest.{PendingRequest}
use Rattle.law_commit.specs.Below.fkv_pending.Attempting.{AttemptState, attempt_ask, attempt_begun, attempt_next}
use Rattle.law_commit.specs.Below.fkv_pending.Mailing.{mail_ask, mail_next}
use Rattle.law_commit.specs.Below.fkv_pending.Pending.{with_asked, with_held, without_gone}
use Rattle.law_commit.proofs.Below.fkv_pending.Shown.{AttemptRestsOrAsks, attempt_begun_rests, attempt_rests}
use Rattle.fkv_plane.specs.declared.asks.Ask.{Ask}
use Rattle.fkv_plane.specs.declared.asks.Ask.TheVariants.{Done}
use Rattle.law_commit.specs.Below.fkv_session.Told.{Told}
use Rattle.law_commit.specs.Below.fkv_session.Told.TheVariants as told
use Rattle.law_commit.specs.Below.fkv_session.Catching.TheVariants as catching
use Rattle.law_commit.specs.Below.fkv_session.CatchCause.{CatchCause}
use Rattle.law_commit.specs.Below.fkv_session.CatchCause.TheVariants.{Refreshes, Shifts, Wakes}
use Rattle.law_commit.specs.Below.fkv_session.Sitting.{Sitting}
use Rattle.law_commit.specs.Below.fkv_session.Sitting.TheVariants.{Attempts, CatchesUp, ClearsMail, Idle, Leaves, LoadsDurable, Polls, StoresCut, StoresOwing, Turns}
use Rattle.law_commit.specs.Below.fkv_session.CatchingUp.{catch_ask, refresh_begun, wake_begun}
use Rattle.law_commit.specs.Below.fkv_session.OwnTurns.{own_turn_begun}
use Rattle.law_commit.specs.Below.fkv_session.Sessions.{Seat, SessionState, accepts, answers, answers_after_turn, asks_after, attempt_left, attempt_ledto, attempt_moved, attempted, attempts, bits_of, call_begun, catch_ledto, caught, clear_ledto, finishes_request, is_finished, is_no_room, is_owed, is_word_ask, keeps_request, lacks_room, leave_ledto, op_begun, own_turn_moved, poll_begun, poll_call, poll_ledto, poll_left, polls_at, polls_request, refresh_call, refusal_of, refuses, request_finished, request_in_hand, room_of, serial_taken, session_ask, session_begun, session_next, shifts, sitting_next, sleep_call, ticket_after, turn_ledto, update_done, wake_call, with_request}
use Rattle.law_commit.specs.Below.fkv_session.Shares.{is_shift}
use Rattle.law_commit.proofs.Below.fkv_session.Shown.{attempt_ends}
use Rattle.fkv_words.specs.PhaseWords.{phase_said}
use Rattle.law_commit.specs.Shares.Waiting.{is_shifted, shifts_at}
use Rattle.law_order.proofs.OfShifts.Attempts.{AttemptRow, HasCome, attempt_begins_row, attempt_shifts}
use Rattle.law_order.proofs.OfShifts.Catches.{CatchRow, HasPassed, SaysElse, catch_ends, catch_row, loads_next}
use Rattle.law_order.proofs.OfShifts.Tries.{IsShift, ShiftsBy}

-- ---- attempts
-- of an attempt at a call nothing is known of its share; a polled one has come with it
abbrev Any : PendingRequest → Type 0
Any pending = ⊤

abbrev pub Come : Seen → PendingRequest → Type 0
Come seen pending = HasCome seen pending.request

come_asked : (seen : Seen) (pending : PendingRequest) (b : Bool) → Come seen pending → Come seen (with_asked pending b)
unfolding with_asked
come_asked seen pending b come = come

come_held : (seen : Seen) (pending : PendingRequest) (its : Option HeldRecord) → Come seen pending → Come seen (with_held pending its)
unfolding with_held
come_held seen pending its come = come

come_lost : (seen : Seen) (pending : PendingRequest) (begin : Addr) → Come seen pending → Come seen (without_gone pending begin)
unfolding without_gone
come_lost seen pending begin come = come

pub record Shifting (X F : Type 0) (C : PendingRequest → Type 0) (k : Seat) (a : AttemptState) : Type 0 where
  pub rests : AttemptRestsOrAsks a
  pub row : AttemptRow X F C k.places a a.step

-- where it ends
ends_with : (X F : Type 0) (C : PendingRequest → Type 0) (k : Seat) (a : AttemptState) (its : TryAnswer) → Shifting X F C k a → attempt_ask k.places k.number a ≡ Done its → IsShift X F its
ends_with X F C k a its knows asks = subst (AttemptRow X F C k.places a) (attempt_ends k.places k.number a its knows.rests asks) knows.row

-- ---- by the control state
abbrev pub SitsRow : ℕ → Seat → SessionState → Sitting → Type 0
SitsRow top k s (Attempts false) = Shifting (HasPassed top s.seen) ⊤ Any k s.attempt
SitsRow top k s (Attempts true) = (is_prepare s.seen.phase ≡ false) × Shifting ⊥ ⊤ Any k s.attempt
SitsRow top k s (Polls i) = Shifting ⊥ ⊥ (Come s.seen) k s.attempt
SitsRow top k s (CatchesUp Shifts) = CatchRow top s.seen s.catching s.catching.step
SitsRow top k s step = ⊤

-- a polled request is one of those that wait
pub record BeginsPoll (k : Seat) (s : SessionState) (index : ℕ) : Type 0 where
  pub pending : PendingRequest
  pub waits : slice_get s.requests index ≡ Some pending
  pub spare : ℕ
  pub is_orphaned : Bool
  pub is : s.attempt ≡ attempt_begun k.places (bits_of k) pending s.seen AtPoll spare is_orphaned

abbrev pub LeadsRow : ℕ → Seat → SessionState → Sitting → Type 0
LeadsRow top k s (Polls i) = Shifting ⊥ ⊥ (Come s.seen) k s.attempt ⊎ BeginsPoll k s i
LeadsRow top k s step = SitsRow top k s step

module _ (top : ℕ) (k : Seat) where
  abbrev Leads : SessionState → Type 0
  Leads s = LeadsRow top k s s.step

  begun_call : (X : Type 0) (s : SessionState) (seen : Seen) → Shifting X ⊤ Any k (attempt_begun k.places (bits_of k) (request_in_hand s) seen (AtCall (bounds_of k.shape)) s.spare s.is_orphaned)
  begun_call X s seen = record {
    rests = attempt_begun_rests k.places (bits_of k) (request_in_hand s) seen (AtCall (bounds_of k.shape)) s.spare s.is_orphaned;
    row = attempt_begins_row X ⊤ Any (λ pending b its. tt) (λ pending held its. tt) (λ pending begin its. tt) k.places (bits_of k) (request_in_hand s) seen (AtCall (bounds_of k.shape)) s.spare s.is_orphaned tt;
  }

  -- a poll begins what waits
  pub settled : (s : SessionState) (step : Sitting) → s.step ≡ step → ((i index : ℕ) (pending : PendingRequest) → s.step ≡ Polls i → slice_get s.requests index ≡ Some pending → Come s.seen pending) → LeadsRow top k s step → SitsRow top k s step
  settled s (Polls i) at come (inl goes) = goes
  settled s (Polls i) at come (inr begins) = subst (Shifting ⊥ ⊥ (Come s.seen) k) (sym begins.is) (record {
    rests = attempt_begun_rests k.places (bits_of k) begins.pending s.seen AtPoll begins.spare begins.is_orphaned;
    row = attempt_begins_row ⊥ ⊥ (Come s.seen) (come_asked s.seen) (come_held s.seen) (come_lost s.seen) k.places (bits_of k) begins.pending s.seen AtPoll begins.spare begins.is_orphaned (come i i begins.pending at begins.waits);
  })
  settled s (Attempts false) at come row = row
  settled s (Attempts true) at come row = row
  settled s (CatchesUp Shifts) at come row = row
  settled s (CatchesUp Refreshes) at come row = tt
  settled s (CatchesUp Wakes) at come row = tt
  settled s (Idle its) at come row = tt
  settled s ClearsMail at come row = tt
  settled s (StoresOwing i) at come row = tt
  settled s (Turns its) at come row = tt
  settled s StoresCut at come row = tt
  settled s Leaves at come row = tt
  settled s LoadsDurable at come row = tt

  -- ---- where they lead
  still : (s : SessionState) (step : Sitting) → s.step ≡ step → LeadsRow top k s step → Leads s
  still s step at row = subst (LeadsRow top k s) (sym at) row

  either : (b : Bool) (one other : SessionState) → Leads one → Leads other → Leads (if b then one else other)
  either true one other first second = first
  either false one other first second = second

  turn_leads : (s : SessionState) (its : Told) → Leads (answers_after_turn s its)
  turn_leads s its = either s.wants_turn (record s { own_turn = own_turn_begun s.own_turn; step = Turns its }) (answers s its) tt tt

  polls_found : (s : SessionState) (i : ℕ) (found : Option PendingRequest) → slice_get s.requests i ≡ found → Leads (polls_request k s i found)
  polls_found s i None got = turn_leads s (told.Polled (length s.requests))
  polls_found s i (Some pending) got = inr (record { pending = pending; waits = got; spare = s.spare; is_orphaned = s.is_orphaned; is = refl })

  polls_lead : (s : SessionState) (i : ℕ) → Leads (polls_at k s i)
  unfolding polls_at
  polls_lead s i = polls_found s i (slice_get s.requests i) refl

  accepts_lead : (s : SessionState) (why : Reason) → Leads (accepts s why)
  unfolding accepts
  accepts_lead s why =
      either (is_read s.op) (answers (with_request (record s { ticket = ticket_after s.ticket })) (told.PendingRead (record { 0 = ticket_after s.ticket })))
      (answers_after_turn (with_request (serial_taken (record s { wants_turn = is_no_room why }))) (told.Pending (record { 0 = s.serial + 1 }) why)) tt
      (turn_leads (with_request (serial_taken (record s { wants_turn = is_no_room why }))) (told.Pending (record { 0 = s.serial + 1 }) why))

  shifts_lead : (s : SessionState) (has_shifted : Bool) → (has_shifted ≡ false → HasPassed top s.seen) → Leads (shifts s has_shifted)
  unfolding shifts
  shifts_lead s false passes = (passes refl, tt)
  shifts_lead s true passes = accepts_lead s reason.Contended

  attempted_leads : (s : SessionState) (has_shifted : Bool) (its : TryAnswer) → (its ≡ tried.Shift → has_shifted ≡ false → HasPassed top s.seen) → Leads (attempted s has_shifted its)
  attempted_leads s has_shifted (tried.Done reply) passes = either (is_read s.op) (answers s told.Absent) (update_done s reply) tt tt
  attempted_leads s has_shifted (tried.Found value) passes = tt
  attempted_leads s has_shifted tried.Absent passes = tt
  attempted_leads s has_shifted (tried.Wait why) passes = accepts_lead s why
  attempted_leads s has_shifted (tried.AwaitsDisk sought) passes = accepts_lead s reason.Disk
  attempted_leads s has_shifted tried.Shift passes = shifts_lead s has_shifted (passes refl)
  attempted_leads s has_shifted tried.IndexFull passes = tt
  attempted_leads s has_shifted tried.LogFull passes = tt

  first_leads : (s : SessionState) (ask : Ask TryAnswer) → s.step ≡ Attempts false → attempt_ask k.places k.number s.attempt ≡ ask → Shifting (HasPassed top s.seen) ⊤ Any k s.attempt → Leads (attempt_ledto s false ask)
  unfolding attempt_ledto
  first_leads s (Done its) at asks knows =
      attempted_leads (attempt_left s) false its (λ is first. subst (IsShift (HasPassed top s.seen) ⊤) is (ends_with (HasPassed top s.seen) ⊤ Any k s.attempt its knows asks))
  first_leads s ask at asks knows = still s (Attempts false) at knows

  second_leads : (s : SessionState) (ask : Ask TryAnswer) → s.step ≡ Attempts true → is_prepare s.seen.phase ≡ false → Shifting ⊥ ⊤ Any k s.attempt → Leads (attempt_ledto s true ask)
  unfolding attempt_ledto
  second_leads s (Done its) at other knows = attempted_leads (attempt_left s) true its (λ is first. (let clash : true ≡ false = first in cc))
  second_leads s ask at other knows = still s (Attempts true) at (other, knows)

  caught_leads : (s : SessionState) (cause : CatchCause) (ask : Ask (Unit {0})) → s.step ≡ CatchesUp cause → ((its : Unit {0}) → cause ≡ Shifts → ask ≡ Done its → is_prepare s.catching.seen.phase ≡ false)
      → (cause ≡ Shifts → CatchRow top s.seen s.catching s.catching.step) → Leads (catch_ledto k s cause ask)
  unfolding catch_ledto attempts
  caught_leads s Refreshes (Done its) at ends row = tt
  caught_leads s Wakes (Done its) at ends row = tt
  caught_leads s Shifts (Done its) at ends row = (ends its refl refl, begun_call ⊥ (record s { seen = s.catching.seen }) s.catching.seen)
  caught_leads s Refreshes ask at ends row = still s (CatchesUp Refreshes) at tt
  caught_leads s Wakes ask at ends row = still s (CatchesUp Wakes) at tt
  caught_leads s Shifts ask at ends row = still s (CatchesUp Shifts) at (row refl)

  clear_leads : (s : SessionState) (ask : Ask MailAnswer) → s.step ≡ ClearsMail → Leads (clear_ledto k s ask)
  unfolding clear_ledto
  clear_leads s (Done Cleared) at = polls_lead (record s { is_orphaned = false }) 0
  clear_leads s (Done its) at = polls_lead s 0
  clear_leads s ask at = still s ClearsMail at tt

  finishes_lead : (s : SessionState) (i : ℕ) (its : TryAnswer) → Leads (finishes_request k s i its)
  unfolding finishes_request
  finishes_lead s i its = either (is_owed s) (request_finished s i its) (polls_at k (request_finished s i its) i) tt (polls_lead (request_finished s i its) i)

  keeps_lead : (s : SessionState) (i : ℕ) (its : TryAnswer) → Leads (keeps_request k s i its)
  unfolding keeps_request
  keeps_lead s i its = polls_lead (record s { requests = slice_set s.requests i s.attempt.pending; wants_turn = s.wants_turn || lacks_room its }) (i + 1)

  poll_leads : (s : SessionState) (i : ℕ) (ask : Ask TryAnswer) → s.step ≡ Polls i → Shifting ⊥ ⊥ (Come s.seen) k s.attempt → Leads (poll_ledto k s i ask)
  unfolding poll_ledto
  poll_leads s i (Done its) at knows = either (is_finished its) (finishes_request k (poll_left s) i its) (keeps_request k (poll_left s) i its) (finishes_lead (poll_left s) i its) (keeps_lead (poll_left s) i its)
  poll_leads s i ask at knows = still s (Polls i) at (inl knows)

  turned_leads : (s : SessionState) (its : Told) (ask : Ask (Unit {0})) → s.step ≡ Turns its → Leads (turn_ledto s its ask)
  unfolding turn_ledto
  turned_leads s its (Done through) at = tt
  turned_leads s its ask at = still s (Turns its) at tt

  left_leads : (s : SessionState) (ask : Ask (Unit {0})) → s.step ≡ Leaves → Leads (leave_ledto s ask)
  unfolding leave_ledto
  left_leads s (Done its) at = tt
  left_leads s ask at = still s Leaves at tt

  -- ---- each reply
  pub record RepliesSo (s : SessionState) (reply : ℕ) : Type 0 where
    pub first : s.step ≡ Attempts false → s.attempt.step ≡ Tries → ShiftsBy (HasPassed top s.seen) ⊤ k.places s.attempt.trial reply
    pub second : s.step ≡ Attempts true → s.attempt.step ≡ Tries → is_prepare s.seen.phase ≡ false → ShiftsBy ⊥ ⊤ k.places s.attempt.trial reply
    pub polls : (i : ℕ) → s.step ≡ Polls i → s.attempt.step ≡ Tries → Come s.seen s.attempt.pending → ShiftsBy ⊥ ⊥ k.places s.attempt.trial reply
    pub loads : s.step ≡ CatchesUp Shifts → s.catching.step ≡ catching.Refreshes → HasPassed top s.seen → loads_next s.catching.refreshing → SaysElse (phase_said reply)

  module _ (s : SessionState) (reply : ℕ) (so : RepliesSo s reply) where
    abbrev next : AttemptState
    next = attempt_next k.places (bits_of k) (room_of k) k.number s.attempt reply

    goes : (X F : Type 0) (C : PendingRequest → Type 0) → ((pending : PendingRequest) (b : Bool) → C pending → C (with_asked pending b)) → ((pending : PendingRequest) (its : Option HeldRecord) → C pending → C (with_held pending its))
        → ((pending : PendingRequest) (begin : Addr) → C pending → C (without_gone pending begin)) → (s.attempt.step ≡ Tries → C s.attempt.pending → ShiftsBy X F k.places s.attempt.trial reply) → Shifting X F C k s.attempt → Shifting X F C k next
    goes X F C asked held lost by knows = record {
      rests = attempt_rests k.places (bits_of k) (room_of k) k.number s.attempt reply knows.rests;
      row = attempt_shifts X F C asked held lost k.places (bits_of k) (room_of k) k.number s.attempt reply knows.rests by knows.row;
    }

    first_next : s.step ≡ Attempts false → Shifting (HasPassed top s.seen) ⊤ Any k s.attempt → Shifting (HasPassed top s.seen) ⊤ Any k next
    first_next at knows = goes (HasPassed top s.seen) ⊤ Any (λ pending b its. tt) (λ pending held its. tt) (λ pending begin its. tt) (λ tries its. so.first at tries) knows

    second_next : s.step ≡ Attempts true → is_prepare s.seen.phase ≡ false → Shifting ⊥ ⊤ Any k s.attempt → Shifting ⊥ ⊤ Any k next
    second_next at other knows = goes ⊥ ⊤ Any (λ pending b its. tt) (λ pending held its. tt) (λ pending begin its. tt) (λ tries its. so.second at tries other) knows

    poll_next : (i : ℕ) → s.step ≡ Polls i → Shifting ⊥ ⊥ (Come s.seen) k s.attempt → Shifting ⊥ ⊥ (Come s.seen) k next
    poll_next i at knows = goes ⊥ ⊥ (Come s.seen) (come_asked s.seen) (come_held s.seen) (come_lost s.seen) (λ tries its. so.polls i at tries its) knows

    sits_lead : (asks : ℕ) (step : Sitting) → s.step ≡ step → SitsRow top k s step → Leads (sitting_next k (record s { asks = asks; effect = None }) step reply)
    unfolding sitting_next
    sits_lead asks (Idle its) at row = still (record s { asks = asks; effect = None }) (Idle its) at tt
    sits_lead asks (Attempts false) at row = first_leads (attempt_moved k (record s { asks = asks; effect = None }) reply) (attempt_ask k.places k.number next) at refl (first_next at row)
    sits_lead asks (Attempts true) at row = second_leads (attempt_moved k (record s { asks = asks; effect = None }) reply) (attempt_ask k.places k.number next) at row.0 (second_next at row.0 row.1)
    sits_lead asks (CatchesUp cause) at row =
        let after : SessionState = caught k (record s { asks = asks; effect = None }) reply in
        let row_so : cause ≡ Shifts → CatchRow top s.seen after.catching after.catching.step =
        (λ is. catch_row top s.seen k.places (bits_of k) k.number s.catching s.requests reply (subst (λ (x : CatchCause). SitsRow top k s (CatchesUp x)) is row) (λ refreshes passes loads. so.loads (at ∙ ap CatchesUp is) refreshes passes loads)) in
        caught_leads after cause (catch_ask k.places k.number after.catching after.requests) at (λ its is done. catch_ends top s.seen k.places k.number after.catching after.requests its (row_so is) done) row_so
    sits_lead asks ClearsMail at row = clear_leads (record s { asks = asks; effect = None; mailing = mail_next s.mailing reply }) (mail_ask k.number (mail_next s.mailing reply)) at
    sits_lead asks (Polls i) at row = poll_leads (attempt_moved k (record s { asks = asks; effect = None }) reply) i (attempt_ask k.places k.number next) at (poll_next i at row)
    sits_lead asks (StoresOwing i) at row = polls_lead (record s { asks = asks; effect = None }) i
    sits_lead asks (Turns its) at row = turned_leads (own_turn_moved k (record s { asks = asks; effect = None }) reply) its _ at
    sits_lead asks StoresCut at row = tt
    sits_lead asks Leaves at row = left_leads (record s { asks = asks; effect = None; leaving = _ }) _ at
    sits_lead asks LoadsDurable at row = tt

    pub next_leads : SitsRow top k s s.step → Leads (session_next k s reply)
    next_leads row = sits_lead (asks_after s.asks (is_word_ask (session_ask k s))) s.step refl row

    -- and none has shifted by it
    none_told : (its : TryAnswer) → IsShift ⊥ ⊥ its → is_shift (Done its) ≡ false
    none_told (tried.Done reply) none = refl
    none_told (tried.Found value) none = refl
    none_told tried.Absent none = refl
    none_told (tried.Wait why) none = refl
    none_told (tried.AwaitsDisk sought) none = refl
    none_told tried.Shift none = absurd none
    none_told tried.IndexFull none = absurd none
    none_told tried.LogFull none = absurd none

    none_shifted : (its : TryAnswer) → IsShift ⊥ ⊤ its → is_shifted (Done its) ≡ false
    none_shifted tried.Shift none = absurd none
    none_shifted its none = refl

    second_none : (ask : Ask TryAnswer) → attempt_ask k.places k.number next ≡ ask → Shifting ⊥ ⊤ Any k next → is_shifted ask ≡ false
    second_none (Done its) asks knows = none_shifted its (ends_with ⊥ ⊤ Any k next its knows asks)
    second_none ask asks knows = refl

    poll_none : (ask : Ask TryAnswer) → attempt_ask k.places k.number next ≡ ask → Shifting ⊥ ⊥ (Come s.seen) k next → is_shift ask ≡ false
    poll_none (Done its) asks knows = none_told its (ends_with ⊥ ⊥ (Come s.seen) k next its knows asks)
    poll_none ask asks knows = refl

    none_at : (step : Sitting) → s.step ≡ step → SitsRow top k s step → shifts_at k s step reply ≡ false
    none_at (Attempts true) at row = second_none (attempt_ask k.places k.number next) refl (second_next at row.0 row.1)
    none_at (Attempts false) at row = refl
    none_at (Polls i) at row = poll_none (attempt_ask k.places k.number next) refl (poll_next i at row)
    none_at step at row = refl

    pub none_shifts : SitsRow top k s s.step → shifts_at k s s.step reply ≡ false
    none_shifts row = none_at s.step refl row

  -- ---- each call
  op_leads : (s : SessionState) (op : Op) (why : Option Fault) → Leads (op_begun k s op why)
  unfolding op_begun attempts
  op_leads s op (Some why) = tt
  op_leads s op None = begun_call (HasPassed top s.seen) (record s { op = op }) s.seen

  clears_lead : (s : SessionState) → Leads (poll_begun k s)
  clears_lead s = either s.is_orphaned (record s { mailing = LoadsState Clear; step = ClearsMail }) (polls_at k s 0) tt (polls_lead s 0)

  call_leads : (s : SessionState) (its : Call) → Leads (call_begun k s its)
  unfolding refresh_call poll_call sleep_call wake_call
  call_leads s (call.Op op) = op_leads s op (refusal_of s op)
  call_leads s call.Refresh = either s.is_awake (record s { catching = refresh_begun s.catching s.seen s.serial; step = CatchesUp Refreshes }) (refuses s fault.Asleep) tt tt
  call_leads s call.Poll = either s.is_awake (poll_begun k (record s { finished = [] })) (refuses s fault.Asleep) (clears_lead (record s { finished = [] })) tt
  call_leads s call.Sleep =
      either (not s.is_awake) (refuses s fault.Asleep) (if length s.requests == 0 then record s { step = StoresCut } else refuses s fault.PendingLeft) tt (either (length s.requests == 0) (record s { step = StoresCut }) (refuses s fault.PendingLeft) tt tt)
  call_leads s call.Wake = either s.is_awake (refuses s fault.Awake) (record s { catching = wake_begun s.catching s.seen s.serial; step = CatchesUp Wakes }) tt tt
  call_leads s call.Durable = tt

  pub begun_leads : (s : SessionState) (its : Call) → Leads (session_begun k s its)
  begun_leads s its = call_leads (record s { asks = 0; effect = None; wants_turn = false }) its
