-- What is known of a session's requests goes on by each reply, each call that begins and each action that is given.
use Rattle.std.proofs.Common.{◌≡◌, ℕ, ◌+◌, ◌∙◌, refl, sym, ap, Bool, true, false, List, [], ◌∷◌, ◌++◌, length}
use Rattle.std.specs.Prelude.{Option, Some, None, if◌then◌else◌, not, ◌==◌, ◌||◌, slice_get, slice_set}
use Rattle.std.specs.List.{remove}
use Rattle.fkv_base.specs.declared.faults.Fault.{Fault}
use Rattle.fkv_base.specs.declared.faults.Fault.TheVariants as fault
use Rattle.fkv_map.specs.declared.operations.Call.{Call}
use Rattle.fkv_map.specs.declared.operations.Call.TheVariants as call
use Rattle.fkv_map.specs.declared.operations.Op.{Op}
use Rattle.fkv_plane.specs.declared.actions.Action.{Action}
use Rattle.fkv_plane.specs.declared.asks.Ask.{Ask}
use Rattle.fkv_plane.specs.declared.asks.Ask.TheVariants.{Done}
use Rattle.fkv_epoch.specs.declared.leaving.Leaving.TheVariants.{StoresZero}
use Rattle.fkv_epoch.specs.Leaving.{leave_ask, leave_next}
use Rattle.fkv_latch.specs.declared.latching.LatchAnswer.{LatchAnswer}
use Rattle.fkv_latch.specs.declared.latching.LatchAnswer.TheVariants.{Taken as LatchTaken}
use Rattle.fkv_latch.specs.Latching.{latch_next_ask}
use Rattle.fkv_ops.specs.declared.answers.Reason.{Reason}
use Rattle.fkv_ops.specs.declared.answers.Reason.TheVariants as reason
use Rattle.fkv_ops.specs.declared.answers.TryAnswer.{TryAnswer}
use Rattle.fkv_ops.specs.declared.answers.TryAnswer.TheVariants as tried
use Rattle.fkv_ops.specs.Requests.{is_read}
use Rattle.fkv_pending.specs.declared.mailing.MailAnswer.{MailAnswer}
use Rattle.fkv_pending.specs.declared.mailing.MailAnswer.TheVariants.{Cleared}
use Rattle.fkv_pending.specs.declared.mailing.MailTask.TheVariants.{Clear}
use Rattle.fkv_pending.specs.declared.mailing.Mailing.TheVariants.{LoadsState}
use Rattle.fkv_pending.specs.declared.pending_requests.PendingRequest.{PendingRequest}
use Rattle.fkv_pending.specs.Attempting.{AttemptState}
use Rattle.fkv_pending.specs.Mailing.{mail_ask, mail_next}
use Rattle.fkv_pending.specs.Pending.{with_latch}
use Rattle.fkv_session.specs.declared.answers.Told.{Told}
use Rattle.fkv_session.specs.declared.answers.Told.TheVariants as told
use Rattle.fkv_session.specs.declared.catching_up.Catching.{Catching}
use Rattle.fkv_session.specs.declared.catching_up.Catching.TheVariants.{Latches}
use Rattle.fkv_session.specs.declared.sessions.CatchCause.{CatchCause}
use Rattle.fkv_session.specs.declared.sessions.CatchCause.TheVariants.{Refreshes, Wakes, Shifts}
use Rattle.fkv_session.specs.declared.sessions.Sitting.{Sitting}
use Rattle.fkv_session.specs.declared.sessions.Sitting.TheVariants.{Idle, Attempts, CatchesUp, ClearsMail, Polls, StoresOwing, Turns, StoresCut, Leaves, LoadsDurable}
use Rattle.fkv_session.specs.CatchingUp.{CatchState, refresh_begun, wake_begun, latched, latch_marked, catching_requests}
use Rattle.fkv_session.specs.OwnTurns.{own_turn_ask, own_turn_begun, own_turn_given}
use Rattle.fkv_session.specs.Sessions.{SessionState, Seat, is_busy, answers, answers_after_turn, request_in_hand, attempts, polls_request, polls_at, refuses, refusal_of, op_begun, refresh_call, poll_begun, poll_call, sleep_call, wake_call, call_begun, session_begun, session_next, session_given, attempt_left, poll_left, serial_taken, update_done, ticket_after, is_no_room, with_request, accepts, shifts, attempted, attempt_ledto, caught_up, catch_ledto, clear_ledto, is_finished, is_owed, request_finished, finishes_request, lacks_room, keeps_request, poll_ledto, turn_ledto, leave_ledto, attempt_moved, caught, own_turn_moved, sitting_next, sitting_given, asks_after, is_word_ask, session_ask, IsOpened}
use Rattle.law_local.specs.Sessions.Known.{is_attempting, is_polling, KnowsRequests, IsHandedOver, IsKnownAnew, is_accepted, attempt_after, attempt_comes_to, catch_comes_to, KeepsKnown, with_op, BeginsKnown}
use Rattle.law_local.proofs.OfSessions.Lists.{AllKnown, AllBut, all_behind, all_left, all_set, but_one}

never : true ≡ false → ⊥
never e = cc

-- one request is polled
abbrev polls_one : Sitting → Bool
polls_one (Polls index) = true
polls_one step = false

other_index : (s : SessionState) (i index : ℕ) → s.step ≡ Polls i → s.step ≡ Polls index → index ≡ i
other_index s i index at e = let same : ◌≡◌ {A = Sitting} (Polls index) (Polls i) = sym e ∙ at in cc

idle_polls_none : (step : Sitting) → is_busy step ≡ false → polls_one step ≡ false
idle_polls_none (Polls index) idle = cc
idle_polls_none step idle = refl

idle_attempts_none : (step : Sitting) → is_busy step ≡ false → is_attempting step ≡ false
idle_attempts_none (Attempts has_shifted) idle = cc
idle_attempts_none (Polls index) idle = cc
idle_attempts_none step idle = refl

none_known : (P : PendingRequest → Type 0) (requests : List PendingRequest) → requests ≡ [] → AllKnown P requests
none_known P requests e index pending got = let none : slice_get requests index ≡ None = ap (λ (xs : List PendingRequest). slice_get xs index) e in cc

-- ---- what is known of the state that comes of it
module _ (P : PendingRequest → Type 0) (Q : AttemptState → Type 0) where
  either_known : (c : Bool) (a b : SessionState) → (c ≡ true → KnowsRequests P Q a) → (c ≡ false → KnowsRequests P Q b) → KnowsRequests P Q (if c then a else b)
  either_known true a b one other = one refl
  either_known false a b one other = other refl

  -- a state in which nothing is attempted
  rests : (s : SessionState) (step : Sitting) → s.step ≡ step → is_attempting step ≡ false → AllKnown P s.requests → KnowsRequests P Q s
  rests s step at none all = record {
    waiting = λ index pending got other. all index pending got;
    attempted = λ e. absurd (never (sym e ∙ (ap is_attempting at ∙ none)));
  }

  -- one in which an attempt goes on
  goes_on : (s : SessionState) → AllKnown P s.requests → Q s.attempt → KnowsRequests P Q s
  goes_on s all its = record { waiting = λ index pending got other. all index pending got; attempted = λ e. its }

  goes_on_polling : (s : SessionState) (i : ℕ) → s.step ≡ Polls i → AllBut P s.requests i → Q s.attempt → KnowsRequests P Q s
  goes_on_polling s i at but its = record { waiting = λ index pending got other. but index pending got (λ e. other (at ∙ ap Polls (sym e))); attempted = λ e. its }

  answers_known : (s : SessionState) (its : Told) → AllKnown P s.requests → KnowsRequests P Q (answers s its)
  answers_known s its all = rests (answers s its) (Idle its) refl refl all

  turn_known : (s : SessionState) (its : Told) → AllKnown P s.requests → KnowsRequests P Q (answers_after_turn s its)
  turn_known s its all =
      either_known s.wants_turn (record s { own_turn = own_turn_begun s.own_turn; step = Turns its }) (answers s its)
      (λ e. rests (record s { own_turn = own_turn_begun s.own_turn; step = Turns its }) (Turns its) refl refl all) (λ e. answers_known s its all)

  -- an attempt begins
  attempts_known : (k : Seat) (s : SessionState) (has_shifted : Bool) → AllKnown P s.requests → IsKnownAnew k (request_in_hand s) s.seen Q → KnowsRequests P Q (attempts k s has_shifted)
  unfolding attempts
  attempts_known k s has_shifted all anew = record { waiting = λ index pending got other. all index pending got; attempted = λ e. anew s.spare s.is_orphaned }

  polls_found : (k : Seat) (s : SessionState) (i : ℕ) (found : Option PendingRequest) → slice_get s.requests i ≡ found → AllKnown P s.requests → IsHandedOver k s.seen P Q → KnowsRequests P Q (polls_request k s i found)
  polls_found k s i None got all hands = turn_known s (told.Polled (length s.requests)) all
  polls_found k s i (Some its) got all hands = record { waiting = λ index pending at other. all index pending at; attempted = λ e. hands its s.spare s.is_orphaned (all i its got) }

  polls_known : (k : Seat) (s : SessionState) (i : ℕ) → AllKnown P s.requests → IsHandedOver k s.seen P Q → KnowsRequests P Q (polls_at k s i)
  unfolding polls_at
  polls_known k s i all hands = polls_found k s i (slice_get s.requests i) refl all hands

  -- what an attempt at a call comes to
  accepts_known : (s : SessionState) (why : Reason) → AllKnown P s.requests → P s.attempt.pending → KnowsRequests P Q (accepts s why)
  unfolding accepts
  accepts_known s why all its =
      either_known (is_read s.op) (answers (with_request read) (told.PendingRead (record { 0 = ticket_after s.ticket }))) (answers_after_turn (with_request update) (told.Pending (record { 0 = s.serial + 1 }) why))
      (λ e. answers_known (with_request read) (told.PendingRead (record { 0 = ticket_after s.ticket })) more) (λ e. turn_known (with_request update) (told.Pending (record { 0 = s.serial + 1 }) why) more)
    where
      more : AllKnown P (s.requests ++ s.attempt.pending ∷ [])
      more = all_behind P s.requests s.attempt.pending all its

      read : SessionState
      read = record s { ticket = ticket_after s.ticket }

      update : SessionState
      update = serial_taken (record s { wants_turn = is_no_room why })

  shifts_known : (s : SessionState) (has_shifted : Bool) → AllKnown P s.requests → (has_shifted ≡ true → P s.attempt.pending) → KnowsRequests P Q (shifts s has_shifted)
  unfolding shifts
  shifts_known s false all its = rests (record s { catching = refresh_begun s.catching s.seen s.serial; step = CatchesUp Shifts }) (CatchesUp Shifts) refl refl all
  shifts_known s true all its = accepts_known s reason.Contended all (its refl)

  attempted_known : (s : SessionState) (has_shifted : Bool) (its : TryAnswer) → AllKnown P s.requests → (is_accepted has_shifted its ≡ true → P s.attempt.pending) → KnowsRequests P Q (attempted s has_shifted its)
  attempted_known s has_shifted (tried.Done reply) all accepted = either_known (is_read s.op) (answers s told.Absent) (update_done s reply) (λ e. answers_known s told.Absent all) (λ e. answers_known (serial_taken s) (told.Done (record { 0 = s.serial + 1 }) reply) all)
  attempted_known s has_shifted (tried.Found value) all accepted = answers_known s (told.Found value) all
  attempted_known s has_shifted tried.Absent all accepted = answers_known s told.Absent all
  attempted_known s has_shifted (tried.Wait why) all accepted = accepts_known s why all (accepted refl)
  attempted_known s has_shifted (tried.AwaitsDisk sought) all accepted = accepts_known s reason.Disk all (accepted refl)
  attempted_known s has_shifted tried.Shift all accepted = shifts_known s has_shifted all accepted
  attempted_known s has_shifted tried.IndexFull all accepted = answers_known s (told.Refused fault.IndexFull) all
  attempted_known s has_shifted tried.LogFull all accepted = answers_known s (told.Refused fault.LogFull) all

  attempt_known : (s : SessionState) (has_shifted : Bool) (ask : Ask TryAnswer) → AllKnown P s.requests → Q s.attempt → ((its : TryAnswer) → ask ≡ Done its → is_accepted has_shifted its ≡ true → P s.attempt.pending) → KnowsRequests P Q (attempt_ledto s has_shifted ask)
  unfolding attempt_ledto
  attempt_known s has_shifted (Done its) all known accepted = attempted_known (attempt_left s) has_shifted its all (accepted its refl)
  attempt_known s has_shifted ask all known accepted = goes_on s all known

  -- what a session that catches up comes to
  caught_up_known : (k : Seat) (s : SessionState) (cause : CatchCause) → AllKnown P s.requests → (cause ≡ Shifts → IsKnownAnew k (request_in_hand s) s.seen Q) → KnowsRequests P Q (caught_up k s cause)
  caught_up_known k s Refreshes all anew = answers_known s (told.Refreshed s.seen.phase s.seen.version) all
  caught_up_known k s Wakes all anew = answers_known (record s { is_awake = true }) (told.Woken s.seen.phase s.seen.version) all
  caught_up_known k s Shifts all anew = attempts_known k s true all (anew refl)

  catch_known : (k : Seat) (s : SessionState) (cause : CatchCause) (ask : Ask (Unit {0})) → s.step ≡ CatchesUp cause → AllKnown P s.requests
      → ((its : Unit {0}) → cause ≡ Shifts → ask ≡ Done its → IsKnownAnew k (request_in_hand (record s { seen = s.catching.seen })) s.catching.seen Q) → KnowsRequests P Q (catch_ledto k s cause ask)
  unfolding catch_ledto
  catch_known k s cause (Done its) at all anew = caught_up_known k (record s { seen = s.catching.seen }) cause all (λ shifts. anew its shifts refl)
  catch_known k s cause ask at all anew = rests s (CatchesUp cause) at refl all

  -- what a poll comes to
  clear_known : (k : Seat) (s : SessionState) (ask : Ask MailAnswer) → s.step ≡ ClearsMail → AllKnown P s.requests → IsHandedOver k s.seen P Q → KnowsRequests P Q (clear_ledto k s ask)
  unfolding clear_ledto
  clear_known k s (Done Cleared) at all hands = polls_known k (record s { is_orphaned = false }) 0 all hands
  clear_known k s (Done its) at all hands = polls_known k s 0 all hands
  clear_known k s ask at all hands = rests s ClearsMail at refl all

  finishes_known : (k : Seat) (s : SessionState) (i : ℕ) (its : TryAnswer) → AllBut P s.requests i → IsHandedOver k s.seen P Q → KnowsRequests P Q (finishes_request k s i its)
  unfolding finishes_request
  finishes_known k s i its but hands =
      let rest : AllKnown P (remove s.requests i) = all_left P s.requests i but in
      either_known (is_owed s) (request_finished s i its) (polls_at k (request_finished s i its) i) (λ e. rests (request_finished s i its) (StoresOwing i) refl refl rest) (λ e. polls_known k (request_finished s i its) i rest hands)

  keeps_known : (k : Seat) (s : SessionState) (i : ℕ) (its : TryAnswer) → AllBut P s.requests i → P s.attempt.pending → IsHandedOver k s.seen P Q → KnowsRequests P Q (keeps_request k s i its)
  unfolding keeps_request
  keeps_known k s i its but known hands =
      polls_known k (record s { requests = slice_set s.requests i s.attempt.pending; wants_turn = s.wants_turn || lacks_room its }) (i + 1) (all_set P s.requests i s.attempt.pending but known) hands

  poll_known : (k : Seat) (s : SessionState) (i : ℕ) (ask : Ask TryAnswer) → s.step ≡ Polls i → AllBut P s.requests i → Q s.attempt → IsHandedOver k s.seen P Q
      → ((its : TryAnswer) → ask ≡ Done its → is_finished its ≡ false → P s.attempt.pending) → KnowsRequests P Q (poll_ledto k s i ask)
  unfolding poll_ledto
  poll_known k s i (Done its) at but known hands kept =
      either_known (is_finished its) (finishes_request k (poll_left s) i its) (keeps_request k (poll_left s) i its)
      (λ e. finishes_known k (poll_left s) i its but hands) (λ e. keeps_known k (poll_left s) i its but (kept its refl e) hands)
  poll_known k s i ask at but known hands kept = goes_on_polling s i at but known

  turned_known : (s : SessionState) (its : Told) (ask : Ask (Unit {0})) → s.step ≡ Turns its → AllKnown P s.requests → KnowsRequests P Q (turn_ledto s its ask)
  unfolding turn_ledto
  turned_known s its (Done through) at all = answers_known s its all
  turned_known s its ask at all = rests s (Turns its) at refl all

  left_known : (s : SessionState) (ask : Ask (Unit {0})) → s.step ≡ Leaves → AllKnown P s.requests → KnowsRequests P Q (leave_ledto s ask)
  unfolding leave_ledto
  left_known s (Done its) at all = answers_known (record s { is_awake = false }) told.Slept all
  left_known s ask at all = rests s Leaves at refl all

  -- ---- the requests that take latches
  latched_all : (requests : List PendingRequest) (i : ℕ) (found : Option PendingRequest) → ((pending : PendingRequest) → P pending → P (with_latch pending true)) → slice_get requests i ≡ found → AllKnown P requests → AllKnown P (latched requests i found)
  latched_all requests i None latches got all = all
  latched_all requests i (Some its) latches got all = all_set P requests i (with_latch its true) (but_one P requests i all) (latches its (all i its got))

  marked_all : (requests : List PendingRequest) (i : ℕ) (ask : Ask LatchAnswer) → ((pending : PendingRequest) → P pending → P (with_latch pending true)) → AllKnown P requests → AllKnown P (latch_marked requests i ask)
  unfolding latch_marked
  marked_all requests i (Done LatchTaken) latches all = latched_all requests i (slice_get requests i) latches refl all
  marked_all requests i ask latches all = all

  caught_all : (c : CatchState) (requests : List PendingRequest) (step : Catching) (reply : ℕ) → ((pending : PendingRequest) → P pending → P (with_latch pending true)) → AllKnown P requests → AllKnown P (catching_requests c requests step reply)
  unfolding catching_requests
  caught_all c requests (Latches i) reply latches all = marked_all requests i (latch_next_ask c.latching reply) latches all
  caught_all c requests step reply latches all = all

  -- ---- calls and actions
  -- where no request is polled
  all_waiting : (s : SessionState) (step : Sitting) → s.step ≡ step → polls_one step ≡ false → KnowsRequests P Q s → AllKnown P s.requests
  all_waiting s step at none knows index pending got = knows.waiting index pending got (λ e. never (sym (ap polls_one (sym at ∙ e)) ∙ none))

  op_known : (k : Seat) (s : SessionState) (op : Op) (why : Option Fault) → AllKnown P s.requests → (why ≡ None → IsKnownAnew k (request_in_hand (with_op s op)) s.seen Q) → KnowsRequests P Q (op_begun k s op why)
  unfolding op_begun
  op_known k s op (Some why) all anew = answers_known s (told.Refused why) all
  op_known k s op None all anew = attempts_known k (with_op s op) false all (anew refl)

  clears_known : (k : Seat) (s : SessionState) → AllKnown P s.requests → IsHandedOver k s.seen P Q → KnowsRequests P Q (poll_begun k s)
  clears_known k s all hands =
      either_known s.is_orphaned (record s { mailing = LoadsState Clear; step = ClearsMail }) (polls_at k s 0) (λ e. rests (record s { mailing = LoadsState Clear; step = ClearsMail }) ClearsMail refl refl all) (λ e. polls_known k s 0 all hands)

  call_known : (k : Seat) (s : SessionState) (its : Call) → AllKnown P s.requests → BeginsKnown k s its P Q → KnowsRequests P Q (call_begun k (record s { asks = 0; effect = None; wants_turn = false }) its)
  unfolding refresh_call poll_call sleep_call wake_call
  call_known k s (call.Op op) all begins = op_known k (record s { asks = 0; effect = None; wants_turn = false }) op (refusal_of s op) all (λ none. begins.calls op refl none)
  call_known k s call.Refresh all begins =
      let t : SessionState = record s { asks = 0; effect = None; wants_turn = false } in
      let next : SessionState = record t { catching = refresh_begun s.catching s.seen s.serial; step = CatchesUp Refreshes } in
      either_known s.is_awake next (refuses t fault.Asleep) (λ e. rests next (CatchesUp Refreshes) refl refl all) (λ e. answers_known t (told.Refused fault.Asleep) all)
  call_known k s call.Poll all begins =
      let t : SessionState = record s { asks = 0; effect = None; wants_turn = false } in
      either_known s.is_awake (poll_begun k (record t { finished = [] })) (refuses t fault.Asleep)
      (λ e. clears_known k (record t { finished = [] }) all (begins.polls refl e)) (λ e. answers_known t (told.Refused fault.Asleep) all)
  call_known k s call.Sleep all begins =
      let t : SessionState = record s { asks = 0; effect = None; wants_turn = false } in
      either_known (not s.is_awake) (refuses t fault.Asleep) (if length s.requests == 0 then record t { step = StoresCut } else refuses t fault.PendingLeft) (λ e. answers_known t (told.Refused fault.Asleep) all)
      (λ e. either_known (length s.requests == 0) (record t { step = StoresCut }) (refuses t fault.PendingLeft) (λ o. rests (record t { step = StoresCut }) StoresCut refl refl all) (λ o. answers_known t (told.Refused fault.PendingLeft) all))
  call_known k s call.Wake all begins =
      let t : SessionState = record s { asks = 0; effect = None; wants_turn = false } in
      let next : SessionState = record t { catching = wake_begun s.catching s.seen s.serial; step = CatchesUp Wakes } in
      either_known s.is_awake (refuses t fault.Awake) next (λ e. answers_known t (told.Refused fault.Awake) all) (λ e. rests next (CatchesUp Wakes) refl refl all)
  call_known k s call.Durable all begins = rests (record s { asks = 0; effect = None; wants_turn = false; step = LoadsDurable }) LoadsDurable refl refl all

  -- a call that begins where none is in hand
  pub begun_known : (k : Seat) (s : SessionState) (its : Call) → is_busy s.step ≡ false → KnowsRequests P Q s → BeginsKnown k s its P Q → KnowsRequests P Q (session_begun k s its)
  begun_known k s its idle knows begins = call_known k s its (all_waiting s s.step refl (idle_polls_none s.step idle) knows) begins

  action_known : (k : Seat) (s : SessionState) (step : Sitting) (action : Action) → s.step ≡ step → KnowsRequests P Q s → KnowsRequests P Q (sitting_given k s step action)
  unfolding sitting_given
  action_known k s (Turns its) action at knows =
      turned_known (record s { own_turn = own_turn_given s.own_turn action }) its (own_turn_ask k.shape (own_turn_given s.own_turn action)) at (all_waiting s (Turns its) at refl knows)
  action_known k s step action at knows = knows

  -- an action that is given
  pub given_known : (k : Seat) (s : SessionState) (action : Action) → KnowsRequests P Q s → KnowsRequests P Q (session_given k s action)
  given_known k s action knows = action_known k s s.step action refl knows

  -- a session whose store was opened
  pub opened_known : (s : SessionState) → IsOpened s → KnowsRequests P Q s
  opened_known s opened = rests s s.step refl (idle_attempts_none s.step opened.none_in_hand) (none_known P s.requests opened.none_wait)

-- ---- a session that makes no step
pub stays_known : (P P' : PendingRequest → Type 0) (Q Q' : AttemptState → Type 0) (s : SessionState) → ((pending : PendingRequest) → P pending → P' pending) → (is_attempting s.step ≡ true → Q s.attempt → Q' s.attempt)
    → KnowsRequests P Q s → KnowsRequests P' Q' s
stays_known P P' Q Q' s waits attempts knows = record {
  waiting = λ index pending got other. waits pending (knows.waiting index pending got other);
  attempted = λ e. attempts e (knows.attempted e);
}

-- ---- each reply
module _ (P P' : PendingRequest → Type 0) (Q Q' : AttemptState → Type 0) (k : Seat) (s : SessionState) (reply : ℕ) (knows : KnowsRequests P Q s) (keeps : KeepsKnown k s reply P P' Q Q') where
  all_kept : (step : Sitting) → s.step ≡ step → polls_one step ≡ false → AllKnown P' s.requests
  all_kept step at none index pending got = keeps.waits pending (all_waiting P Q s step at none knows index pending got)

  but_kept : (i : ℕ) → s.step ≡ Polls i → AllBut P' s.requests i
  but_kept i at index pending got other = keeps.waits pending (knows.waiting index pending got (λ e. other (other_index s i index at e)))

  moved_known : is_attempting s.step ≡ true → Q' (attempt_after k s reply)
  moved_known attempting = keeps.attempts attempting (knows.attempted attempting)

  sitting_known : (asks : ℕ) (step : Sitting) → s.step ≡ step → KnowsRequests P' Q' (sitting_next k (record s { asks = asks; effect = None }) step reply)
  unfolding sitting_next
  sitting_known asks (Idle its) at = rests P' Q' (record s { asks = asks; effect = None }) (Idle its) at refl (all_kept (Idle its) at refl)
  sitting_known asks (Attempts has_shifted) at =
      let its : Q' (attempt_after k s reply) = moved_known (ap is_attempting at) in
      attempt_known P' Q' (attempt_moved k (record s { asks = asks; effect = None }) reply) has_shifted (attempt_comes_to k s reply) (all_kept (Attempts has_shifted) at refl) its
      (λ told comes accepted. keeps.accepts has_shifted told at comes accepted its)
  sitting_known asks (CatchesUp cause) at =
      catch_known P' Q' k (caught k (record s { asks = asks; effect = None }) reply) cause (catch_comes_to k s reply) at
      (caught_all P' Q' s.catching s.requests s.catching.step reply (λ pending. keeps.latches cause pending at) (all_kept (CatchesUp cause) at refl))
      (λ its shifts done. keeps.begins_anew its (at ∙ ap CatchesUp shifts) done)
  sitting_known asks ClearsMail at =
      clear_known P' Q' k (record s { asks = asks; effect = None; mailing = mail_next s.mailing reply }) (mail_ask k.number (mail_next s.mailing reply)) at (all_kept ClearsMail at refl) (keeps.hands_over (ap is_polling at))
  sitting_known asks (Polls i) at =
      let its : Q' (attempt_after k s reply) = moved_known (ap is_attempting at) in
      poll_known P' Q' k (attempt_moved k (record s { asks = asks; effect = None }) reply) i (attempt_comes_to k s reply) at (but_kept i at) its (keeps.hands_over (ap is_polling at))
      (λ told comes waits. keeps.keeps i told at comes waits its)
  sitting_known asks (StoresOwing i) at = polls_known P' Q' k (record s { asks = asks; effect = None }) i (all_kept (StoresOwing i) at refl) (keeps.hands_over (ap is_polling at))
  sitting_known asks (Turns its) at =
      let moved : SessionState = own_turn_moved k (record s { asks = asks; effect = None }) reply in
      turned_known P' Q' moved its (own_turn_ask k.shape moved.own_turn) at (all_kept (Turns its) at refl)
  sitting_known asks StoresCut at = rests P' Q' (record s { asks = asks; effect = None; leaving = StoresZero; step = Leaves }) Leaves refl refl (all_kept StoresCut at refl)
  sitting_known asks Leaves at = left_known P' Q' (record s { asks = asks; effect = None; leaving = leave_next s.leaving }) (leave_ask k.number (leave_next s.leaving)) at (all_kept Leaves at refl)
  sitting_known asks LoadsDurable at = answers_known P' Q' (record s { asks = asks; effect = None }) (told.Durable (record { 0 = reply })) (all_kept LoadsDurable at refl)

  pub next_known : KnowsRequests P' Q' (session_next k s reply)
  next_known = sitting_known (asks_after s.asks (is_word_ask (session_ask k s))) s.step refl
