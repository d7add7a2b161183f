-- A session's serial is one that its cut words can say.
use Rattle.std.proofs.Common.{◌≡◌, ℕ, ◌+◌, ◌<◌, ◌≤◌, List, [], ◌∷◌, length, refl, arith, sym, subst, Bool, true, false}
use Rattle.std.specs.Prelude.{Option, Some, None, if◌then◌else◌, not, ◌==◌, ◌&&◌, ◌||◌, slice_get, slice_set}
use Rattle.std.proofs.lemmas.Bool.Decides.{nat_tests}
use Rattle.fkv_base.specs.Limits.{last_serial}
use Rattle.fkv_base.specs.declared.faults.Fault.{Fault}
use Rattle.fkv_base.specs.declared.faults.Fault.TheVariants as fault
use Rattle.fkv_map.specs.declared.operations.Call.{Call}
use Rattle.fkv_map.specs.declared.operations.Call.TheVariants as call
use Rattle.fkv_map.specs.declared.operations.Op.{Op}
use Rattle.fkv_map.specs.Map.{is_reserved}
use Rattle.fkv_plane.specs.declared.actions.Action.{Action}
use Rattle.fkv_plane.specs.declared.asks.Ask.{Ask}
use Rattle.fkv_plane.specs.declared.asks.Ask.TheVariants.{Done}
use Rattle.fkv_epoch.specs.Leaving.{leave_next}
use Rattle.law_refine.specs.Below.fkv_ops.Reason.{Reason}
use Rattle.law_refine.specs.Below.fkv_ops.Reason.TheVariants as reason
use Rattle.law_refine.specs.Below.fkv_ops.TryAnswer.{TryAnswer}
use Rattle.law_refine.specs.Below.fkv_ops.TryAnswer.TheVariants as tried
use Rattle.law_refine.specs.Below.fkv_ops.Requests.{is_read}
use Rattle.law_refine.specs.Below.fkv_pending.MailAnswer.{MailAnswer}
use Rattle.law_refine.specs.Below.fkv_pending.MailAnswer.TheVariants.{Cleared}
use Rattle.law_refine.specs.Below.fkv_pending.PendingRequest.{PendingRequest}
use Rattle.law_refine.specs.Below.fkv_pending.Mailing.{mail_next}
use Rattle.law_refine.specs.Below.fkv_session.Told.{Told}
use Rattle.law_refine.specs.Below.fkv_session.Told.TheVariants as told
use Rattle.law_refine.specs.Below.fkv_session.CatchCause.{CatchCause}
use Rattle.law_refine.specs.Below.fkv_session.CatchCause.TheVariants.{Refreshes, Shifts, Wakes}
use Rattle.law_refine.specs.Below.fkv_session.Sitting.{Sitting}
use Rattle.law_refine.specs.Below.fkv_session.Sitting.TheVariants.{Idle, Attempts, CatchesUp, ClearsMail, Polls, StoresOwing, Turns, StoresCut, Leaves, LoadsDurable}
use Rattle.law_refine.specs.Below.fkv_session.OwnTurns.{own_turn_given}
use Rattle.law_refine.specs.Below.fkv_session.Sessions.{IsOpened, SessionState, Seat, accepts, answers, answers_after_turn, asks_after, attempt_ledto, attempt_left, attempt_moved, attempted, attempts, call_begun, catch_ledto, caught, caught_up, clear_ledto, finishes_request, is_busy, is_finished, is_full, is_owed, is_spent, is_word_ask, keeps_request, lacks_room, leave_ledto, op_begun, own_turn_moved, poll_begun, poll_call, poll_ledto, poll_left, polls_at, polls_request, refresh_call, refusal_of, refuses, request_finished, serial_taken, session_ask, shifts, sitting_given, sitting_next, sleep_call, ticket_after, turn_ledto, update_done, wake_call, with_request, is_no_room}
use Rattle.law_refine.specs.Below.fkv_session.SessionRun.{Begins, Gets, Replies, SessionEvent, begins, session_happens, session_run}

-- an update in hand can take one more serial
abbrev HasMore : Op → ℕ → Type 0
HasMore op serial = (serial ≤ last_serial) × (is_read op ≡ false → serial < last_serial)

abbrev FitsAt : SessionState → Sitting → Type 0
FitsAt s (Attempts has_shifted) = HasMore s.op s.serial
FitsAt s (CatchesUp Shifts) = HasMore s.op s.serial
FitsAt s step = s.serial ≤ last_serial

abbrev Fits : SessionState → Type 0
Fits s = FitsAt s s.step

low_of : (s : SessionState) (step : Sitting) → FitsAt s step → s.serial ≤ last_serial
low_of s (Attempts has_shifted) its = its.0
low_of s (CatchesUp Shifts) its = its.0
low_of s (CatchesUp Refreshes) its = its
low_of s (CatchesUp Wakes) its = its
low_of s (Idle told) its = its
low_of s ClearsMail its = its
low_of s (Polls i) its = its
low_of s (StoresOwing i) its = its
low_of s (Turns told) its = its
low_of s StoresCut its = its
low_of s Leaves its = its
low_of s LoadsDurable its = its

stays : (s : SessionState) (step : Sitting) → s.step ≡ step → FitsAt s step → Fits s
stays s step at its = subst (FitsAt s) (sym at) its

either_fits : (c : Bool) (a b : SessionState) → (c ≡ true → Fits a) → (c ≡ false → Fits b) → Fits (if c then a else b)
either_fits true a b one other = one refl
either_fits false a b one other = other refl

-- ---- a call is answered, or polls go on
turn_fits : (s : SessionState) (its : Told) → s.serial ≤ last_serial → Fits (answers_after_turn s its)
turn_fits s its low = either_fits s.wants_turn _ (answers s its) (λ wants. low) (λ none. low)

found_fits : (k : Seat) (s : SessionState) (i : ℕ) (found : Option PendingRequest) → s.serial ≤ last_serial → Fits (polls_request k s i found)
found_fits k s i None low = turn_fits s (told.Polled (length s.requests)) low
found_fits k s i (Some pending) low = low

polls_fit : (k : Seat) (s : SessionState) (i : ℕ) → s.serial ≤ last_serial → Fits (polls_at k s i)
unfolding polls_at
polls_fit k s i low = found_fits k s i (slice_get s.requests i) low

attempts_fit : (k : Seat) (s : SessionState) (has_shifted : Bool) → HasMore s.op s.serial → Fits (attempts k s has_shifted)
unfolding attempts
attempts_fit k s has_shifted its = its

-- ---- an attempt at a call
one_more : (op : Op) (serial : ℕ) → HasMore op serial → is_read op ≡ false → serial + 1 ≤ last_serial
one_more op serial its updates = let low = its.1 updates in omega (arith, low)

accepts_fit : (s : SessionState) (why : Reason) → HasMore s.op s.serial → Fits (accepts s why)
unfolding accepts
accepts_fit s why its =
    either_fits (is_read s.op) (answers (with_request (record s { ticket = ticket_after s.ticket })) (told.PendingRead (record { 0 = ticket_after s.ticket }))) _ (λ reads. its.0)
    (λ updates. turn_fits (with_request (serial_taken (record s { wants_turn = is_no_room why }))) (told.Pending (record { 0 = s.serial + 1 }) why) (one_more s.op s.serial its updates))

shifts_fit : (s : SessionState) (has_shifted : Bool) → HasMore s.op s.serial → Fits (shifts s has_shifted)
unfolding shifts
shifts_fit s false its = its
shifts_fit s true its = accepts_fit s reason.Contended its

attempted_fits : (s : SessionState) (has_shifted : Bool) (its : TryAnswer) → HasMore s.op s.serial → Fits (attempted s has_shifted its)
attempted_fits s has_shifted (tried.Done reply) more = either_fits (is_read s.op) (answers s told.Absent) (update_done s reply) (λ reads. more.0) (λ updates. one_more s.op s.serial more updates)
attempted_fits s has_shifted (tried.Found value) more = more.0
attempted_fits s has_shifted tried.Absent more = more.0
attempted_fits s has_shifted (tried.Wait why) more = accepts_fit s why more
attempted_fits s has_shifted (tried.AwaitsDisk sought) more = accepts_fit s reason.Disk more
attempted_fits s has_shifted tried.Shift more = shifts_fit s has_shifted more
attempted_fits s has_shifted tried.IndexFull more = more.0
attempted_fits s has_shifted tried.LogFull more = more.0

attempt_fits : (s : SessionState) (has_shifted : Bool) (ask : Ask TryAnswer) → s.step ≡ Attempts has_shifted → HasMore s.op s.serial → Fits (attempt_ledto s has_shifted ask)
unfolding attempt_ledto
attempt_fits s has_shifted (Done its) at more = attempted_fits (attempt_left s) has_shifted its more
attempt_fits s has_shifted ask at more = stays s (Attempts has_shifted) at more

-- ---- it catches up
caught_fits : (k : Seat) (s : SessionState) (cause : CatchCause) → FitsAt s (CatchesUp cause) → Fits (caught_up k s cause)
caught_fits k s Refreshes its = its
caught_fits k s Wakes its = its
caught_fits k s Shifts its = attempts_fit k s true its

catches_fit : (k : Seat) (s : SessionState) (cause : CatchCause) (ask : Ask (Unit {0})) → s.step ≡ CatchesUp cause → FitsAt s (CatchesUp cause) → Fits (catch_ledto k s cause ask)
unfolding catch_ledto
catches_fit k s Refreshes (Done through) at its = caught_fits k (record s { seen = s.catching.seen }) Refreshes its
catches_fit k s Wakes (Done through) at its = caught_fits k (record s { seen = s.catching.seen }) Wakes its
catches_fit k s Shifts (Done through) at its = caught_fits k (record s { seen = s.catching.seen }) Shifts its
catches_fit k s cause ask at its = stays s (CatchesUp cause) at its

catching_fits : (k : Seat) (s : SessionState) (asks : ℕ) (cause : CatchCause) (reply : ℕ) → s.step ≡ CatchesUp cause → FitsAt s (CatchesUp cause) → Fits (sitting_next k (record s { asks = asks; effect = None }) (CatchesUp cause) reply)
unfolding sitting_next
catching_fits k s asks Refreshes reply at its = catches_fit k (caught k (record s { asks = asks; effect = None }) reply) Refreshes _ at its
catching_fits k s asks Wakes reply at its = catches_fit k (caught k (record s { asks = asks; effect = None }) reply) Wakes _ at its
catching_fits k s asks Shifts reply at its = catches_fit k (caught k (record s { asks = asks; effect = None }) reply) Shifts _ at its

-- ---- polls, turns and leaving
clears_fit : (k : Seat) (s : SessionState) (ask : Ask MailAnswer) → s.step ≡ ClearsMail → s.serial ≤ last_serial → Fits (clear_ledto k s ask)
unfolding clear_ledto
clears_fit k s (Done Cleared) at low = polls_fit k (record s { is_orphaned = false }) 0 low
clears_fit k s (Done its) at low = polls_fit k s 0 low
clears_fit k s ask at low = stays s ClearsMail at low

finishes_fit : (k : Seat) (s : SessionState) (i : ℕ) (its : TryAnswer) → s.serial ≤ last_serial → Fits (finishes_request k s i its)
unfolding finishes_request
finishes_fit k s i its low = either_fits (is_owed s) (request_finished s i its) (polls_at k (request_finished s i its) i) (λ owed. low) (λ other. polls_fit k (request_finished s i its) i low)

keeps_fit : (k : Seat) (s : SessionState) (i : ℕ) (its : TryAnswer) → s.serial ≤ last_serial → Fits (keeps_request k s i its)
unfolding keeps_request
keeps_fit k s i its low = polls_fit k (record s { requests = slice_set s.requests i s.attempt.pending; wants_turn = s.wants_turn || lacks_room its }) (i + 1) low

poll_fits : (k : Seat) (s : SessionState) (i : ℕ) (ask : Ask TryAnswer) → s.step ≡ Polls i → s.serial ≤ last_serial → Fits (poll_ledto k s i ask)
unfolding poll_ledto
poll_fits k s i (Done its) at low =
    either_fits (is_finished its) (finishes_request k (poll_left s) i its) (keeps_request k (poll_left s) i its) (λ yes. finishes_fit k (poll_left s) i its low) (λ no. keeps_fit k (poll_left s) i its low)
poll_fits k s i ask at low = stays s (Polls i) at low

turned_fits : (s : SessionState) (its : Told) (ask : Ask (Unit {0})) → s.step ≡ Turns its → s.serial ≤ last_serial → Fits (turn_ledto s its ask)
unfolding turn_ledto
turned_fits s its (Done through) at low = low
turned_fits s its ask at low = stays s (Turns its) at low

leaves_fit : (s : SessionState) (ask : Ask (Unit {0})) → s.step ≡ Leaves → s.serial ≤ last_serial → Fits (leave_ledto s ask)
unfolding leave_ledto
leaves_fit s (Done its) at low = low
leaves_fit s ask at low = stays s Leaves at low

-- ---- a reply
replied_fits : (k : Seat) (s : SessionState) (asks : ℕ) (step : Sitting) (reply : ℕ) → s.step ≡ step → FitsAt s step → Fits (sitting_next k (record s { asks = asks; effect = None }) step reply)
unfolding sitting_next
replied_fits k s asks (Idle its) reply at fits = stays (record s { asks = asks; effect = None }) (Idle its) at fits
replied_fits k s asks (Attempts has_shifted) reply at fits = attempt_fits (attempt_moved k (record s { asks = asks; effect = None }) reply) has_shifted _ at fits
replied_fits k s asks (CatchesUp cause) reply at fits = catching_fits k s asks cause reply at fits
replied_fits k s asks ClearsMail reply at fits = clears_fit k (record s { asks = asks; effect = None; mailing = mail_next s.mailing reply }) _ at fits
replied_fits k s asks (Polls i) reply at fits = poll_fits k (attempt_moved k (record s { asks = asks; effect = None }) reply) i _ at fits
replied_fits k s asks (StoresOwing i) reply at fits = polls_fit k (record s { asks = asks; effect = None }) i fits
replied_fits k s asks (Turns its) reply at fits = turned_fits (own_turn_moved k (record s { asks = asks; effect = None }) reply) its _ at fits
replied_fits k s asks StoresCut reply at fits = fits
replied_fits k s asks Leaves reply at fits = leaves_fit (record s { asks = asks; effect = None; leaving = leave_next s.leaving }) _ at fits
replied_fits k s asks LoadsDurable reply at fits = fits

-- ---- an action
given_fits : (k : Seat) (s : SessionState) (step : Sitting) (action : Action) → s.step ≡ step → Fits s → FitsAt s step → Fits (sitting_given k s step action)
unfolding sitting_given
given_fits k s (Turns its) action at fits here = turned_fits (record s { own_turn = own_turn_given s.own_turn action }) its _ at here
given_fits k s step action at fits here = fits

-- ---- a call that begins
none_spent : (a b c d : Bool) (w x y z : Fault) → ◌≡◌ {A = Option Fault} (if a then Some w else if b then Some x else if c then Some y else if d then Some z else None) None → d ≡ false
none_spent true b c d w x y z none = cc
none_spent false true c d w x y z none = cc
none_spent false false true d w x y z none = cc
none_spent false false false true w x y z none = cc
none_spent false false false false w x y z none = refl

unspent : (reads : Bool) (serial : ℕ) → (not reads && serial == last_serial) ≡ false → serial ≤ last_serial → reads ≡ false → serial < last_serial
unspent false serial spent low updates = grind (arith, nat_tests, spent, low)
unspent true serial spent low updates = cc

op_fits : (k : Seat) (s : SessionState) (op : Op) (why : Option Fault) → refusal_of s op ≡ why → s.serial ≤ last_serial → Fits (op_begun k s op why)
unfolding op_begun
op_fits k s op (Some why) is low = low
op_fits k s op None is low =
    attempts_fit k (record s { op = op }) false
    (low, λ updates. unspent (is_read op) s.serial (none_spent (not s.is_awake) (is_reserved op) (is_full s.requests) (is_spent s op) fault.Asleep fault.ValueReserved fault.PendingFull fault.SerialsSpent is) low updates)

polls_begin : (k : Seat) (s : SessionState) → s.serial ≤ last_serial → Fits (poll_begun k s)
polls_begin k s low = either_fits s.is_orphaned _ (polls_at k s 0) (λ orphaned. low) (λ none. polls_fit k s 0 low)

called_fits : (k : Seat) (s : SessionState) (its : Call) → s.serial ≤ last_serial → Fits (call_begun k s its)
unfolding refresh_call poll_call sleep_call wake_call
called_fits k s (call.Op op) low = op_fits k s op (refusal_of s op) refl low
called_fits k s call.Refresh low = either_fits s.is_awake _ (refuses s fault.Asleep) (λ awake. low) (λ asleep. low)
called_fits k s call.Poll low = either_fits s.is_awake (poll_begun k (record s { finished = [] })) (refuses s fault.Asleep) (λ awake. polls_begin k (record s { finished = [] }) low) (λ asleep. low)
called_fits k s call.Sleep low =
    either_fits (not s.is_awake) (refuses s fault.Asleep) (if length s.requests == 0 then record s { step = StoresCut } else refuses s fault.PendingLeft) (λ asleep. low)
    (λ awake. either_fits (length s.requests == 0) (record s { step = StoresCut }) (refuses s fault.PendingLeft) (λ empty. low) (λ left. low))
called_fits k s call.Wake low = either_fits s.is_awake (refuses s fault.Awake) _ (λ awake. low) (λ asleep. low)
called_fits k s call.Durable low = low

begins_fits : (k : Seat) (s : SessionState) (its : Call) (busy : Bool) → Fits s → Fits (begins k s busy its)
begins_fits k s its true fits = fits
begins_fits k s its false fits = called_fits k (record s { asks = 0; effect = None; wants_turn = false }) its (low_of s s.step fits)

event_fits : (k : Seat) (s : SessionState) (event : SessionEvent) → Fits s → Fits (session_happens k s event)
unfolding session_happens
event_fits k s (Begins its) fits = begins_fits k s its (is_busy s.step) fits
event_fits k s (Replies reply) fits = replied_fits k s (asks_after s.asks (is_word_ask (session_ask k s))) s.step reply refl fits
event_fits k s (Gets action) fits = given_fits k s s.step action refl fits fits

-- ---- a run
opening_fits : (s : SessionState) (step : Sitting) → is_busy step ≡ false → s.serial ≤ last_serial → FitsAt s step
opening_fits s (Idle its) idle low = low
opening_fits s step idle low = cc

run_fits_all : (k : Seat) (first : SessionState) (events : List SessionEvent) → IsOpened first → Fits (session_run k first events)
unfolding session_run
run_fits_all k first [] opened = opening_fits first first.step opened.none_in_hand opened.serial_fits
run_fits_all k first (event ∷ before) opened = event_fits k (session_run k first before) event (run_fits_all k first before opened)

pub run_fits : (k : Seat) (first : SessionState) (events : List SessionEvent) → IsOpened first → (session_run k first events).serial ≤ last_serial
run_fits k first events opened = let s : SessionState = session_run k first events in low_of s s.step (run_fits_all k first events opened)
