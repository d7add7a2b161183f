-- Where a session's calls and the replies that it gets lead it, in what the guard's actor is like.
use Rattle.std.proofs.Common.{inl, inr, ◌≡◌, ℕ, ◌+◌, ◌∙◌, refl, sym, ap, subst, [], Bool, true, false, length}
use Rattle.fkv_base.specs.declared.faults.Fault.{Fault}
use Rattle.fkv_base.specs.declared.faults.Fault.TheVariants as fault
use Rattle.fkv_map.specs.declared.operations.Call.{Call}
use Rattle.fkv_map.specs.declared.operations.Call.TheVariants as call
use Rattle.fkv_map.specs.declared.operations.Op.{Op}
use Rattle.fkv_plane.specs.declared.asks.Ask.{Ask}
use Rattle.fkv_plane.specs.Passing.{is_done}
use Rattle.fkv_epoch.specs.declared.leaving.Leaving.TheVariants.{StoresZero}
use Rattle.fkv_epoch.specs.Leaving.{leave_ask, leave_next}
use Rattle.fkv_ops.specs.declared.answers.Reason.{Reason}
use Rattle.fkv_ops.specs.declared.answers.Reason.TheVariants as reason
use Rattle.fkv_ops.specs.declared.answers.TryAnswer.{TryAnswer}
use Rattle.fkv_ops.specs.declared.answers.TryAnswer.TheVariants as tried
use Rattle.fkv_ops.specs.declared.requests.Occasion.TheVariants.{Call as AtCall, Poll as AtPoll}
use Rattle.fkv_ops.specs.Requests.{is_read}
use Rattle.fkv_pending.specs.declared.attempting.Attempting.{Attempting}
use Rattle.fkv_pending.specs.declared.attempting.Attempting.TheVariants.{Ended}
use Rattle.fkv_pending.specs.declared.mailing.MailAnswer.{MailAnswer}
use Rattle.fkv_pending.specs.declared.mailing.MailAnswer.TheVariants.{Cleared}
use Rattle.fkv_pending.specs.declared.mailing.MailTask.TheVariants.{Clear}
use Rattle.fkv_pending.specs.declared.mailing.Mailing.TheVariants.{LoadsState}
use Rattle.fkv_pending.specs.declared.pending_requests.PendingRequest.{PendingRequest}
use Rattle.fkv_pending.specs.Attempting.{AttemptState, attempt_ask}
use Rattle.fkv_pending.proofs.Shown.{is_attempt_end, AttemptRestsOrAsks, attempt_done, attempt_begun_rests}
use Rattle.fkv_session.specs.declared.answers.Told.{Told}
use Rattle.fkv_session.specs.declared.answers.Told.TheVariants as told
use Rattle.fkv_session.specs.declared.sessions.CatchCause.{CatchCause}
use Rattle.fkv_session.specs.declared.sessions.CatchCause.TheVariants.{Refreshes, Wakes, Shifts}
use Rattle.fkv_session.specs.declared.sessions.Sitting.TheVariants.{Attempts, CatchesUp, ClearsMail, Polls, Turns, StoresCut}
use Rattle.fkv_session.specs.CatchingUp.{catch_ask, wake_begun}
use Rattle.fkv_session.specs.OwnTurns.{own_turn_begun}
use Rattle.fkv_session.specs.Sessions.{SessionState, Seat, bits_of, answers, refuses, answers_after_turn, request_in_hand, attempts, polls_request, polls_at, refusal_of, op_begun, refresh_call, poll_begun, poll_call, sleep_call, wake_call, call_begun, session_begun, ticket_after, attempt_left, serial_taken, update_done, is_no_room, lacks_room, with_request, accepts, shifts, attempted, attempt_ledto, caught_up, catch_ledto, clear_ledto, is_finished, is_owed, request_finished, finishes_request, keeps_request, poll_left, poll_ledto, leave_ledto}
use Rattle.std.specs.Prelude.{if◌then◌else◌, ◌==◌, ◌||◌, not, Option, Some, None, slice_get, slice_set}
use Rattle.fkv_plane.specs.declared.asks.Ask.TheVariants.{Done}
use Rattle.fkv_epoch.specs.EpochWorld.{ToScan, ToRefresh, ToProtect}
use Rattle.fkv_flush.specs.GuardSeen.{LastSeen}
use Rattle.fkv_flush.specs.GuardWorld.{ToDo}
use Rattle.fkv_flush.proofs.Shown.{Likeness}
use Rattle.law_world.specs.GuardSessions.Likenesses.{last_seen, through}
use Rattle.law_world.specs.GuardSessions.Attempts.{attempt_onward, attempt_likeness}
use Rattle.law_world.specs.GuardSessions.Catches.{catch_onward, catch_likeness}
use Rattle.law_world.specs.GuardSessions.Sessions.{sitting_onward, session_likeness}
use Rattle.law_world.specs.GuardSessions.Rows.{SittingKnows, CatchKnows}
use Rattle.law_world.proofs.OfGuardSessions.Onwards.{Leads, Keeps, Begins, stayed}
use Rattle.law_world.proofs.OfGuardSessions.AttemptsLed.{AttemptLed, attempt_begun_led}
use Rattle.law_world.proofs.OfGuardSessions.AppendsLed.{truth}
use Rattle.law_world.proofs.OfGuardSessions.CatchesLed.{catch_through}
use Rattle.fkv_ops.specs.Bounds.{bounds_of}

pub record SessionLed (protected : Bool) (mid : Likeness) (s : SessionState) : Type 0 where
  pub leads : Leads protected mid (sitting_onward s s.step) (session_likeness s)
  pub knows : SittingKnows s s.step

module _ (protected : Bool) (k : Seat) where
  abbrev pub Free : LastSeen → SessionState → Type 0
  Free seen s = SessionLed protected (through seen) s

  either_led : (c : Bool) (seen : LastSeen) (a b : SessionState) → Free seen a → Free seen b → Free seen (if c then a else b)
  either_led true seen a b one other = one
  either_led false seen a b one other = other

  pub answers_led : (s : SessionState) (its : Told) → Free (last_seen s.seen) (answers s its)
  answers_led s its = record { leads = Keeps refl refl; knows = tt }

  turn_after_led : (s : SessionState) (its : Told) → Free (last_seen s.seen) (answers_after_turn s its)
  turn_after_led s its = either_led s.wants_turn (last_seen s.seen) (record s { own_turn = own_turn_begun s.own_turn; step = Turns its }) (answers s its)
      (record { leads = Begins (ToDo ToScan) refl tt refl refl tt refl; knows = tt }) (answers_led s its)

  attempts_led : (s : SessionState) (has_shifted : Bool) → Free (last_seen s.seen) (attempts k s has_shifted)
  unfolding attempts
  attempts_led s has_shifted = record {
    leads = attempt_begun_led protected k.places (bits_of k) (last_seen s.seen) (request_in_hand s) s.seen (AtCall (bounds_of k.shape)) s.spare s.is_orphaned;
    knows = attempt_begun_rests k.places (bits_of k) (request_in_hand s) s.seen (AtCall (bounds_of k.shape)) s.spare s.is_orphaned;
  }

  polls_request_led : (s : SessionState) (index : ℕ) (found : Option PendingRequest) → Free (last_seen s.seen) (polls_request k s index found)
  polls_request_led s index None = turn_after_led s (told.Polled (length s.requests))
  polls_request_led s index (Some pending) = record {
    leads = attempt_begun_led protected k.places (bits_of k) (last_seen s.seen) pending s.seen AtPoll s.spare s.is_orphaned;
    knows = attempt_begun_rests k.places (bits_of k) pending s.seen AtPoll s.spare s.is_orphaned;
  }

  pub polls_led : (s : SessionState) (index : ℕ) → Free (last_seen s.seen) (polls_at k s index)
  unfolding polls_at
  polls_led s index = polls_request_led s index (slice_get s.requests index)

  accepts_led : (s : SessionState) (why : Reason) → Free (last_seen s.seen) (accepts s why)
  unfolding accepts
  accepts_led s why =
      either_led (is_read s.op) (last_seen s.seen) (answers (with_request (record s { ticket = ticket_after s.ticket })) (told.PendingRead (record { 0 = ticket_after s.ticket })))
      (answers_after_turn (with_request (serial_taken (record s { wants_turn = is_no_room why }))) (told.Pending (record { 0 = s.serial + 1 }) why))
      (answers_led (with_request (record s { ticket = ticket_after s.ticket })) (told.PendingRead (record { 0 = ticket_after s.ticket })))
      (turn_after_led (with_request (serial_taken (record s { wants_turn = is_no_room why }))) (told.Pending (record { 0 = s.serial + 1 }) why))

  shifts_led : (s : SessionState) (has_shifted : Bool) → protected ≡ true → Free (last_seen s.seen) (shifts s has_shifted)
  unfolding shifts
  shifts_led s false its = record { leads = Begins (ToDo ToRefresh) refl tt refl refl (refl, its) refl; knows = (refl, tt) }
  shifts_led s true its = accepts_led s reason.Contended

  attempted_led : (s : SessionState) (has_shifted : Bool) (its : TryAnswer) → protected ≡ true → Free (last_seen s.seen) (attempted s has_shifted its)
  attempted_led s has_shifted (tried.Done reply) is = either_led (is_read s.op) (last_seen s.seen) (answers s told.Absent) (update_done s reply) (answers_led s told.Absent) (answers_led (serial_taken s) (told.Done (record { 0 = s.serial + 1 }) reply))
  attempted_led s has_shifted (tried.Found value) is = answers_led s (told.Found value)
  attempted_led s has_shifted tried.Absent is = answers_led s told.Absent
  attempted_led s has_shifted (tried.Wait why) is = accepts_led s why
  attempted_led s has_shifted (tried.AwaitsDisk sought) is = accepts_led s reason.Disk
  attempted_led s has_shifted tried.Shift is = shifts_led s has_shifted is
  attempted_led s has_shifted tried.IndexFull is = answers_led s (told.Refused fault.IndexFull)
  attempted_led s has_shifted tried.LogFull is = answers_led s (told.Refused fault.LogFull)

  finishes_led : (s : SessionState) (index : ℕ) (its : TryAnswer) → Free (last_seen s.seen) (finishes_request k s index its)
  unfolding finishes_request
  finishes_led s index its =
      either_led (is_owed s) (last_seen s.seen) (request_finished s index its) (polls_at k (request_finished s index its) index) (record { leads = Keeps refl refl; knows = tt }) (polls_led (request_finished s index its) index)

  keeps_led : (s : SessionState) (index : ℕ) (its : TryAnswer) → Free (last_seen s.seen) (keeps_request k s index its)
  unfolding keeps_request
  keeps_led s index its = polls_led (record s { requests = slice_set s.requests index s.attempt.pending; wants_turn = s.wants_turn || lacks_room its }) (index + 1)

  caught_up_led : (s : SessionState) (cause : CatchCause) → Free (last_seen s.seen) (caught_up k s cause)
  caught_up_led s Refreshes = record { leads = Keeps refl refl; knows = tt }
  caught_up_led s Wakes = record { leads = Keeps refl refl; knows = tt }
  caught_up_led s Shifts = attempts_led s true

  pub clear_led : (s : SessionState) (ask : Ask MailAnswer) → s.step ≡ ClearsMail → Free (last_seen s.seen) (clear_ledto k s ask)
  unfolding clear_ledto
  clear_led s (Done Cleared) at = polls_led (record s { is_orphaned = false }) 0
  clear_led s (Done its) at = polls_led s 0
  clear_led s ask at = rw at (record { leads = Keeps refl refl; knows = tt })

  -- an attempt at its end is through
  attempt_through : (seen : LastSeen) (mid : Likeness) (a : AttemptState) (step : Attempting) → is_attempt_end step ≡ true → Leads true mid (attempt_onward a step) (attempt_likeness seen (record a { step = step })) → mid ≡ through seen
  attempt_through seen mid a (Ended its) ended led = stayed true mid (through seen) led
  attempt_through seen mid a step ended led = cc

  has_ended : (a : AttemptState) (its : TryAnswer) → AttemptRestsOrAsks a → attempt_ask k.places k.number a ≡ Done its → is_attempt_end a.step ≡ true
  has_ended a its rests asks = sym (attempt_done k.places k.number a rests) ∙ ap is_done asks

pub attempt_ends : (k : Seat) (mid : Likeness) (s : SessionState) (has_shifted : Bool) (ask : Ask TryAnswer) → s.step ≡ Attempts has_shifted → attempt_ask k.places k.number s.attempt ≡ ask → AttemptRestsOrAsks s.attempt
    → AttemptLed (last_seen s.seen) mid s.attempt → SessionLed true mid (attempt_ledto s has_shifted ask)
unfolding attempt_ledto
attempt_ends k mid s has_shifted (Done its) at asks rests led =
    let ended = attempt_through true k (last_seen s.seen) mid s.attempt s.attempt.step (has_ended true k s.attempt its rests asks) led in
    subst (λ m. SessionLed true m (attempted (attempt_left s) has_shifted its)) (sym ended) (attempted_led true k (attempt_left s) has_shifted its refl)
attempt_ends k mid s has_shifted ask at asks rests led = rw at (record { leads = led; knows = rests })

pub poll_ends : (k : Seat) (mid : Likeness) (s : SessionState) (index : ℕ) (ask : Ask TryAnswer) → s.step ≡ Polls index → attempt_ask k.places k.number s.attempt ≡ ask → AttemptRestsOrAsks s.attempt
    → AttemptLed (last_seen s.seen) mid s.attempt → SessionLed true mid (poll_ledto k s index ask)
unfolding poll_ledto
poll_ends k mid s index (Done its) at asks rests led =
    let ended = attempt_through true k (last_seen s.seen) mid s.attempt s.attempt.step (has_ended true k s.attempt its rests asks) led in
    subst (λ m. SessionLed true m (if is_finished its then finishes_request k (poll_left s) index its else keeps_request k (poll_left s) index its)) (sym ended)
    (either_led true k (is_finished its) (last_seen s.seen) (finishes_request k (poll_left s) index its) (keeps_request k (poll_left s) index its) (finishes_led true k (poll_left s) index its) (keeps_led true k (poll_left s) index its))
poll_ends k mid s index ask at asks rests led = rw at (record { leads = led; knows = rests })

pub catch_ends : (protected : Bool) (k : Seat) (mid : Likeness) (s : SessionState) (cause : CatchCause) (ask : Ask (Unit {0})) → s.step ≡ CatchesUp cause → catch_ask k.places k.number s.catching s.requests ≡ ask
    → Leads protected mid (catch_onward s.catching s.catching.step) (catch_likeness s.catching) → CatchKnows s.catching s.catching.step → SessionLed protected mid (catch_ledto k s cause ask)
unfolding catch_ledto
catch_ends protected k mid s cause (Done its) at asks led knows =
    let ended = catch_through protected k.places k.number s.catching s.requests mid s.catching.step its knows asks led in
    subst (λ m. SessionLed protected m (caught_up k (record s { seen = s.catching.seen }) cause)) (sym ended) (caught_up_led protected k (record s { seen = s.catching.seen }) cause)
catch_ends protected k mid s cause ask at asks led knows = rw at (record { leads = led; knows = knows })

pub leave_led : (protected : Bool) (s : SessionState) (reply : ℕ) → SessionLed protected (through (last_seen s.seen)) (leave_ledto (record s { leaving = leave_next StoresZero }) (leave_ask reply (leave_next StoresZero)))
unfolding leave_ledto leave_next leave_ask
leave_led protected s reply = record { leads = Keeps refl refl; knows = tt }

-- what a call begins
op_led : (k : Seat) (s : SessionState) (op : Op) (why : Option Fault) → SessionLed s.is_awake (through (last_seen s.seen)) (op_begun k s op why)
unfolding op_begun
op_led k s op (Some why) = answers_led s.is_awake k s (told.Refused why)
op_led k s op None = attempts_led s.is_awake k (record s { op = op }) false

poll_led : (k : Seat) (s : SessionState) → SessionLed s.is_awake (through (last_seen s.seen)) (poll_begun k s)
poll_led k s = either_led s.is_awake k s.is_orphaned (last_seen s.seen) (record s { mailing = LoadsState Clear; step = ClearsMail }) (polls_at k s 0) (record { leads = Keeps refl refl; knows = tt }) (polls_led s.is_awake k s 0)

call_led : (k : Seat) (s : SessionState) (its : Call) → SessionLed s.is_awake (through (last_seen s.seen)) (call_begun k s its)
unfolding refresh_call poll_call sleep_call wake_call
call_led k s (call.Op op) = op_led k s op (refusal_of s op)
call_led k s call.Refresh = elim (truth s.is_awake) [
  | inl e ↦ rw e (record { leads = Begins (ToDo ToRefresh) refl tt refl refl (refl, refl) refl; knows = (refl, tt) })
  | inr e ↦ rw e (record { leads = Keeps refl refl; knows = tt })
]
call_led k s call.Poll = either_led s.is_awake k s.is_awake (last_seen s.seen) (poll_begun k (record s { finished = [] })) (refuses s fault.Asleep) (poll_led k (record s { finished = [] })) (answers_led s.is_awake k s (told.Refused fault.Asleep))
call_led k s call.Sleep =
    either_led s.is_awake k (not s.is_awake) (last_seen s.seen) (refuses s fault.Asleep) (if length s.requests == 0 then record s { step = StoresCut } else refuses s fault.PendingLeft) (answers_led s.is_awake k s (told.Refused fault.Asleep))
    (either_led s.is_awake k (length s.requests == 0) (last_seen s.seen) (record s { step = StoresCut }) (refuses s fault.PendingLeft) (record { leads = Keeps refl refl; knows = tt }) (answers_led s.is_awake k s (told.Refused fault.PendingLeft)))
call_led k s call.Wake =
    either_led s.is_awake k s.is_awake (last_seen s.seen) (refuses s fault.Awake) (record s { catching = wake_begun s.catching s.seen s.serial; step = CatchesUp Wakes }) (answers_led s.is_awake k s (told.Refused fault.Awake))
    (record { leads = Begins (ToDo ToProtect) refl tt refl refl refl refl; knows = (refl, tt) })
call_led k s call.Durable = record { leads = Keeps refl refl; knows = tt }

pub begun_led : (k : Seat) (s : SessionState) (its : Call) → SessionLed s.is_awake (through (last_seen s.seen)) (session_begun k s its)
begun_led k s its = call_led k (record s { asks = 0; effect = None; wants_turn = false }) its
