-- A session whose call is in hand asks for something: whatever it begins asks, and where a machine inside it is at its end it goes on.
use Rattle.std.proofs.Common.{◌≡◌, ℕ, ◌+◌, ◌∙◌, refl, sym, ap, arith, Bool, true, false, List, [], ◌∷◌, length}
use Rattle.std.specs.Prelude.{◌==◌, ◌||◌, not, if◌then◌else◌, Option, Some, None, slice_get, slice_set}
use Rattle.fkv_base.specs.declared.faults.Fault.{Fault}
use Rattle.fkv_base.specs.declared.faults.Fault.TheVariants as fault
use Rattle.fkv_map.specs.declared.operations.Call.{Call}
use Rattle.fkv_map.specs.declared.operations.Call.TheVariants as call
use Rattle.fkv_map.specs.declared.operations.Op.{Op}
use Rattle.fkv_plane.specs.declared.actions.Action.{Action}
use Rattle.fkv_plane.specs.declared.asks.Ask.{Ask}
use Rattle.fkv_plane.specs.declared.asks.Ask.TheVariants.{Done}
use Rattle.fkv_plane.specs.Passing.{is_done, passed}
use Rattle.fkv_plane.proofs.Shown.{passed_done}
use Rattle.fkv_epoch.specs.Leaving.{leave_ask, leave_next}
use Rattle.fkv_epoch.specs.Protecting.{protect_ask}
use Rattle.fkv_epoch.specs.Refreshing.{refresh_ask}
use Rattle.fkv_epoch.specs.Scanning.{scan_ask}
use Rattle.fkv_ops.specs.Bounds.{bounds_of}
use Rattle.fkv_ops.specs.declared.answers.Reason.{Reason}
use Rattle.fkv_ops.specs.declared.answers.Reason.TheVariants as reason
use Rattle.fkv_ops.specs.declared.answers.TryAnswer.{TryAnswer}
use Rattle.fkv_ops.specs.declared.answers.TryAnswer.TheVariants as tried
use Rattle.fkv_ops.specs.declared.requests.Occasion.TheVariants.{Call as AtCall, Poll as AtPoll}
use Rattle.fkv_ops.specs.Requests.{is_read}
use Rattle.fkv_pending.specs.declared.mailing.MailAnswer.{MailAnswer}
use Rattle.fkv_pending.specs.declared.mailing.MailAnswer.TheVariants.{Cleared}
use Rattle.fkv_pending.specs.declared.mailing.MailTask.TheVariants.{Clear}
use Rattle.fkv_pending.specs.declared.mailing.Mailing.TheVariants.{LoadsState}
use Rattle.fkv_pending.specs.declared.pending_requests.PendingRequest.{PendingRequest}
use Rattle.fkv_pending.specs.Mailing.{mail_ask, mail_next}
use Rattle.fkv_pending.specs.Attempting.{attempt_ask}
use Rattle.fkv_pending.proofs.Shown.{attempt_begun_asks, mail_done}
use Rattle.fkv_session.specs.declared.answers.Told.{Told}
use Rattle.fkv_session.specs.declared.answers.Told.TheVariants as told
use Rattle.fkv_session.specs.declared.sessions.CatchCause.{CatchCause}
use Rattle.fkv_session.specs.declared.sessions.CatchCause.TheVariants.{Refreshes, Wakes, Shifts}
use Rattle.fkv_session.specs.declared.sessions.Sitting.{Sitting}
use Rattle.fkv_session.specs.declared.sessions.Sitting.TheVariants.{Idle, Attempts, CatchesUp, ClearsMail, Polls, StoresOwing, Turns, StoresCut, Leaves, LoadsDurable}
use Rattle.fkv_session.specs.AsksLeft.{session_asks_left}
use Rattle.fkv_session.specs.CatchingUp.{catch_ask, catching_ask, refresh_begun, wake_begun}
use Rattle.fkv_session.specs.OwnTurns.{own_turn_ask, own_turning_ask, own_turn_begun, own_turn_given}
use Rattle.fkv_session.specs.Sessions.{Seat, SessionState, bits_of, is_busy, sitting_ask, session_ask, answers, refuses, answers_after_turn, request_in_hand, attempts, polls_request, polls_at, refusal_of, op_begun, refresh_call, poll_begun, poll_call, sleep_call, wake_call, call_begun, attempt_left, poll_left, serial_taken, is_no_room, with_request, ticket_after, accepts, shifts, attempted, attempt_ledto, caught_up, catch_ledto, clear_ledto, is_finished, is_owed, request_finished, finishes_request, lacks_room, keeps_request, poll_ledto, turn_ledto, leave_ledto, attempt_moved, caught, own_turn_moved, sitting_next, sitting_given, asks_after, is_word_ask}
use Rattle.fkv_session.specs.SessionRun.{SessionEvent, Begins, Replies, Gets, begins, session_happens, session_run}
use Rattle.fkv_session.proofs.SessionLeft.{session_left}

-- a call that is in hand asks
abbrev AsksAt : Seat → SessionState → Sitting → Type 0
AsksAt k s step = is_busy step ≡ true → is_done (sitting_ask k s step) ≡ false

abbrev pub AsksInHand : Seat → SessionState → Type 0
AsksInHand k s = AsksAt k s s.step

either_asks : (b : Bool) (k : Seat) (s t : SessionState) → AsksInHand k s → AsksInHand k t → AsksInHand k (if b then s else t)
either_asks true k s t one other = one
either_asks false k s t one other = other

-- what it begins

idle_asks : (k : Seat) (s : SessionState) (its : Told) → AsksInHand k (answers s its)
idle_asks k s its busy = cc

turn_asks : (k : Seat) (s : SessionState) (its : Told) → AsksInHand k (answers_after_turn s its)
unfolding sitting_ask own_turning_ask scan_ask passed
turn_asks k s its = either_asks s.wants_turn k (record s { own_turn = own_turn_begun s.own_turn; step = Turns its }) (answers s its) (λ busy. refl) (idle_asks k s its)

attempts_asks : (k : Seat) (s : SessionState) (has_shifted : Bool) → AsksInHand k (attempts k s has_shifted)
unfolding attempts sitting_ask
attempts_asks k s has_shifted busy =
    passed_done (attempt_ask k.places k.number (attempts k s has_shifted).attempt) told.Slept ∙ attempt_begun_asks k.places (bits_of k) k.number (request_in_hand s) s.seen (AtCall (bounds_of k.shape)) s.spare s.is_orphaned

found_asks : (k : Seat) (s : SessionState) (index : ℕ) (found : Option PendingRequest) → AsksInHand k (polls_request k s index found)
unfolding sitting_ask
found_asks k s index None = turn_asks k s (told.Polled (length s.requests))
found_asks k s index (Some pending) = λ busy.
    passed_done (attempt_ask k.places k.number (polls_request k s index (Some pending)).attempt) told.Slept ∙ attempt_begun_asks k.places (bits_of k) k.number pending s.seen AtPoll s.spare s.is_orphaned

polls_asks : (k : Seat) (s : SessionState) (index : ℕ) → AsksInHand k (polls_at k s index)
unfolding polls_at
polls_asks k s index = found_asks k s index (slice_get s.requests index)

catches_up : (k : Seat) (s : SessionState) (cause : CatchCause) → AsksInHand k (record s { catching = refresh_begun s.catching s.seen s.serial; step = CatchesUp cause })
unfolding sitting_ask catching_ask refresh_ask passed
catches_up k s cause busy = refl

wakes_up : (k : Seat) (s : SessionState) → AsksInHand k (record s { catching = wake_begun s.catching s.seen s.serial; step = CatchesUp Wakes })
unfolding sitting_ask catching_ask protect_ask passed
wakes_up k s busy = refl

op_asks : (k : Seat) (s : SessionState) (op : Op) (refusal : Option Fault) → AsksInHand k (op_begun k s op refusal)
unfolding op_begun
op_asks k s op (Some why) = idle_asks k s (told.Refused why)
op_asks k s op None = attempts_asks k (record s { op = op }) false

refused_asks : (k : Seat) (s : SessionState) (why : Fault) → AsksInHand k (refuses s why)
refused_asks k s why = idle_asks k s (told.Refused why)

clears : (k : Seat) (s : SessionState) → AsksInHand k (record s { mailing = LoadsState Clear; step = ClearsMail })
unfolding sitting_ask
clears k s busy = passed_done (mail_ask k.number (LoadsState Clear)) told.Slept ∙ mail_done k.number (LoadsState Clear)

call_asks : (k : Seat) (s : SessionState) (its : Call) → AsksInHand k (call_begun k s its)
unfolding refresh_call poll_call sleep_call wake_call sitting_ask
call_asks k s (call.Op op) = op_asks k s op (refusal_of s op)
call_asks k s call.Refresh = either_asks s.is_awake k (record s { catching = refresh_begun s.catching s.seen s.serial; step = CatchesUp Refreshes }) (refuses s fault.Asleep) (catches_up k s Refreshes) (refused_asks k s fault.Asleep)
call_asks k s call.Poll =
    let its : SessionState = record s { finished = [] } in
    either_asks s.is_awake k (poll_begun k its) (refuses s fault.Asleep)
    (either_asks s.is_orphaned k (record its { mailing = LoadsState Clear; step = ClearsMail }) (polls_at k its 0) (clears k its) (polls_asks k its 0)) (refused_asks k s fault.Asleep)
call_asks k s call.Sleep =
    let left = if length s.requests == 0 then record s { step = StoresCut } else refuses s fault.PendingLeft in
    either_asks (not s.is_awake) k (refuses s fault.Asleep) left (refused_asks k s fault.Asleep)
    (either_asks (length s.requests == 0) k (record s { step = StoresCut }) (refuses s fault.PendingLeft) (λ busy. refl) (refused_asks k s fault.PendingLeft))
call_asks k s call.Wake = either_asks s.is_awake k (refuses s fault.Awake) (record s { catching = wake_begun s.catching s.seen s.serial; step = CatchesUp Wakes }) (refused_asks k s fault.Awake) (wakes_up k s)
call_asks k s call.Durable = λ busy. refl

-- where a reply leads

still_asks : (k : Seat) (s : SessionState) (step : Sitting) → s.step ≡ step → is_done (sitting_ask k s step) ≡ false → AsksInHand k s
still_asks k s step at asks busy = ap (λ (x : Sitting). is_done (sitting_ask k s x)) at ∙ asks

accepts_asks : (k : Seat) (s : SessionState) (why : Reason) → AsksInHand k (accepts s why)
unfolding accepts
accepts_asks k s why =
    let read = with_request (record s { ticket = ticket_after s.ticket }) in
    let updated = with_request (serial_taken (record s { wants_turn = is_no_room why })) in
    let its_read = told.PendingRead (record { 0 = ticket_after s.ticket }) in
    let its_update = told.Pending (record { 0 = s.serial + 1 }) why in
    either_asks (is_read s.op) k (answers read its_read) (answers_after_turn updated its_update) (idle_asks k read its_read) (turn_asks k updated its_update)

shifts_asks : (k : Seat) (s : SessionState) (has_shifted : Bool) → AsksInHand k (shifts s has_shifted)
unfolding shifts
shifts_asks k s false = catches_up k s Shifts
shifts_asks k s true = accepts_asks k s reason.Contended

attempted_asks : (k : Seat) (s : SessionState) (has_shifted : Bool) (its : TryAnswer) → AsksInHand k (attempted s has_shifted its)
attempted_asks k s has_shifted (tried.Done its) =
    let done = told.Done (record { 0 = s.serial + 1 }) its in
    either_asks (is_read s.op) k (answers s told.Absent) (answers (serial_taken s) done) (idle_asks k s told.Absent) (idle_asks k (serial_taken s) done)
attempted_asks k s has_shifted (tried.Found value) = idle_asks k s (told.Found value)
attempted_asks k s has_shifted tried.Absent = idle_asks k s told.Absent
attempted_asks k s has_shifted (tried.Wait why) = accepts_asks k s why
attempted_asks k s has_shifted (tried.AwaitsDisk sought) = accepts_asks k s reason.Disk
attempted_asks k s has_shifted tried.Shift = shifts_asks k s has_shifted
attempted_asks k s has_shifted tried.IndexFull = refused_asks k s fault.IndexFull
attempted_asks k s has_shifted tried.LogFull = refused_asks k s fault.LogFull

passed_asks : {A : Type 0} (inside ask : Ask A) (its : Told) → inside ≡ ask → is_done ask ≡ false → is_done (passed inside its) ≡ false
passed_asks inside ask its same asks = passed_done inside its ∙ ap is_done same ∙ asks

attempt_asks : (k : Seat) (s : SessionState) (has_shifted : Bool) (ask : Ask TryAnswer) → s.step ≡ Attempts has_shifted → attempt_ask k.places k.number s.attempt ≡ ask → AsksInHand k (attempt_ledto s has_shifted ask)
unfolding attempt_ledto sitting_ask
attempt_asks k s has_shifted (Done its) at same = attempted_asks k (attempt_left s) has_shifted its
attempt_asks k s has_shifted ask at same = still_asks k s (Attempts has_shifted) at (passed_asks (attempt_ask k.places k.number s.attempt) ask told.Slept same refl)

caught_asks : (k : Seat) (s : SessionState) (cause : CatchCause) → AsksInHand k (caught_up k s cause)
caught_asks k s Refreshes = idle_asks k s (told.Refreshed s.seen.phase s.seen.version)
caught_asks k s Wakes = idle_asks k (record s { is_awake = true }) (told.Woken s.seen.phase s.seen.version)
caught_asks k s Shifts = attempts_asks k s true

catch_asks : (k : Seat) (s : SessionState) (cause : CatchCause) (ask : Ask (Unit {0})) → s.step ≡ CatchesUp cause → catch_ask k.places k.number s.catching s.requests ≡ ask → AsksInHand k (catch_ledto k s cause ask)
unfolding catch_ledto sitting_ask
catch_asks k s cause (Done its) at same = caught_asks k (record s { seen = s.catching.seen }) cause
catch_asks k s cause ask at same = still_asks k s (CatchesUp cause) at (passed_asks (catch_ask k.places k.number s.catching s.requests) ask told.Slept same refl)

clear_asks : (k : Seat) (s : SessionState) (ask : Ask MailAnswer) → s.step ≡ ClearsMail → mail_ask k.number s.mailing ≡ ask → AsksInHand k (clear_ledto k s ask)
unfolding clear_ledto sitting_ask
clear_asks k s (Done Cleared) at same = polls_asks k (record s { is_orphaned = false }) 0
clear_asks k s (Done its) at same = polls_asks k s 0
clear_asks k s ask at same = still_asks k s ClearsMail at (passed_asks (mail_ask k.number s.mailing) ask told.Slept same refl)

finishes_asks : (k : Seat) (s : SessionState) (index : ℕ) (its : TryAnswer) → AsksInHand k (finishes_request k s index its)
unfolding finishes_request sitting_ask
finishes_asks k s index its = either_asks (is_owed s) k (request_finished s index its) (polls_at k (request_finished s index its) index) (λ busy. refl) (polls_asks k (request_finished s index its) index)

keeps_asks : (k : Seat) (s : SessionState) (index : ℕ) (its : TryAnswer) → AsksInHand k (keeps_request k s index its)
unfolding keeps_request
keeps_asks k s index its = polls_asks k (record s { requests = slice_set s.requests index s.attempt.pending; wants_turn = s.wants_turn || lacks_room its }) (index + 1)

poll_asks : (k : Seat) (s : SessionState) (index : ℕ) (ask : Ask TryAnswer) → s.step ≡ Polls index → attempt_ask k.places k.number s.attempt ≡ ask → AsksInHand k (poll_ledto k s index ask)
unfolding poll_ledto sitting_ask
poll_asks k s index (Done its) at same =
    let left = poll_left s in
    either_asks (is_finished its) k (finishes_request k left index its) (keeps_request k left index its) (finishes_asks k left index its) (keeps_asks k left index its)
poll_asks k s index ask at same = still_asks k s (Polls index) at (passed_asks (attempt_ask k.places k.number s.attempt) ask told.Slept same refl)

turn_led_asks : (k : Seat) (s : SessionState) (its : Told) (ask : Ask (Unit {0})) → s.step ≡ Turns its → own_turn_ask k.shape s.own_turn ≡ ask → AsksInHand k (turn_ledto s its ask)
unfolding turn_ledto sitting_ask
turn_led_asks k s its (Done through) at same = idle_asks k s its
turn_led_asks k s its ask at same = still_asks k s (Turns its) at (passed_asks (own_turn_ask k.shape s.own_turn) ask its same refl)

leave_led_asks : (k : Seat) (s : SessionState) (ask : Ask (Unit {0})) → s.step ≡ Leaves → leave_ask k.number s.leaving ≡ ask → AsksInHand k (leave_ledto s ask)
unfolding leave_ledto sitting_ask
leave_led_asks k s (Done its) at same = idle_asks k (record s { is_awake = false }) told.Slept
leave_led_asks k s ask at same = still_asks k s Leaves at (passed_asks (leave_ask k.number s.leaving) ask told.Slept same refl)

next_asks : (k : Seat) (s : SessionState) (step : Sitting) (reply : ℕ) → s.step ≡ step → AsksInHand k (sitting_next k s step reply)
unfolding sitting_next sitting_ask leave_ask passed
next_asks k s (Idle its) reply at = λ busy. absurd (none (ap is_busy (sym at) ∙ busy))
  where
    none : false ≡ true → ⊥
    none e = cc
next_asks k s (Attempts has_shifted) reply at = attempt_asks k (attempt_moved k s reply) has_shifted (attempt_ask k.places k.number (attempt_moved k s reply).attempt) at refl
next_asks k s (CatchesUp cause) reply at = catch_asks k (caught k s reply) cause (catch_ask k.places k.number (caught k s reply).catching (caught k s reply).requests) at refl
next_asks k s ClearsMail reply at = clear_asks k (record s { mailing = mail_next s.mailing reply }) (mail_ask k.number (mail_next s.mailing reply)) at refl
next_asks k s (Polls index) reply at = poll_asks k (attempt_moved k s reply) index (attempt_ask k.places k.number (attempt_moved k s reply).attempt) at refl
next_asks k s (StoresOwing index) reply at = polls_asks k s index
next_asks k s (Turns its) reply at = turn_led_asks k (own_turn_moved k s reply) its (own_turn_ask k.shape (own_turn_moved k s reply).own_turn) at refl
next_asks k s StoresCut reply at = λ busy. refl
next_asks k s Leaves reply at = leave_led_asks k (record s { leaving = leave_next s.leaving }) (leave_ask k.number (leave_next s.leaving)) at refl
next_asks k s LoadsDurable reply at = idle_asks k s (told.Durable (record { 0 = reply }))

given_asks : (k : Seat) (s : SessionState) (step : Sitting) (action : Action) → s.step ≡ step → AsksInHand k s → AsksInHand k (sitting_given k s step action)
unfolding sitting_given
given_asks k s (Turns its) action at held = turn_led_asks k (record s { own_turn = own_turn_given s.own_turn action }) its (own_turn_ask k.shape (own_turn_given s.own_turn action)) at refl
given_asks k s step action at held = held

begins_asks : (k : Seat) (s : SessionState) (busy : Bool) (its : Call) → AsksInHand k s → AsksInHand k (begins k s busy its)
begins_asks k s true its held = held
begins_asks k s false its held = call_asks k (record s { asks = 0; effect = None; wants_turn = false }) its

event_asks : (k : Seat) (s : SessionState) (event : SessionEvent) → AsksInHand k s → AsksInHand k (session_happens k s event)
unfolding session_happens
event_asks k s (Begins its) held = begins_asks k s (is_busy s.step) its held
event_asks k s (Replies reply) held = next_asks k (record s { asks = asks_after s.asks (is_word_ask (session_ask k s)); effect = None }) s.step reply refl
event_asks k s (Gets action) held = given_asks k s s.step action refl held

opening_asks : (k : Seat) (s : SessionState) → is_busy s.step ≡ false → AsksInHand k s
opening_asks k s idle busy = absurd (none (sym idle ∙ busy))
  where
    none : false ≡ true → ⊥
    none e = cc

-- at every moment of a run
run_asks : (k : Seat) (opening : SessionState) (events : List SessionEvent) → is_busy opening.step ≡ false → AsksInHand k (session_run k opening events)
unfolding session_run
run_asks k opening [] idle = opening_asks k opening idle
run_asks k opening (event ∷ before) idle = event_asks k (session_run k opening before) event (run_asks k opening before idle)

-- so where no asks are left no call is in hand
ended_by : (k : Seat) (s : SessionState) (busy : Bool) → is_busy s.step ≡ busy → AsksInHand k s → session_asks_left k s ≡ 0 → busy ≡ false
ended_by k s false e held none = refl
ended_by k s true e held none = let some = (session_left k s).0 (held e) in let no : ⊥ = omega (arith, some, none) in absurd no

pub run_ended : (k : Seat) (opening : SessionState) (events : List SessionEvent) → is_busy opening.step ≡ false → session_asks_left k (session_run k opening events) ≡ 0 → is_busy (session_run k opening events).step ≡ false
run_ended k opening events idle none = ended_by k (session_run k opening events) (is_busy (session_run k opening events).step) refl (run_asks k opening events idle) none
