-- What is told of its cut words and its owing word at every moment of a run, and when a session stores them.
use Rattle.std.proofs.Common.{◌≡◌, ℕ, ◌-◌, ◌<◌, ◌∙◌, List, [], ◌∷◌, length, refl, arith, ap, subst, Bool, true, false}
use Rattle.std.specs.Prelude.{Option, Some, None, not, ◌==◌, ◌≢◌}
use Rattle.std.proofs.lemmas.Bool.Decides.{nat_tests}
use Rattle.fkv_base.specs.declared.faults.Fault.{Fault}
use Rattle.fkv_base.specs.declared.faults.Fault.TheVariants as fault
use Rattle.fkv_map.specs.declared.operations.Call.{Call}
use Rattle.fkv_map.specs.declared.operations.Call.TheVariants as call
use Rattle.fkv_map.specs.declared.operations.Op.{Op}
use Rattle.fkv_plane.specs.declared.actions.Action.{Action}
use Rattle.fkv_plane.specs.declared.asks.Ask.{Ask}
use Rattle.fkv_plane.specs.declared.asks.Ask.TheVariants.{Store}
use Rattle.fkv_plane.specs.declared.places.SessionWord.TheVariants as own
use Rattle.fkv_plane.specs.Places.{session_place}
use Rattle.fkv_plane.specs.Passing.{passed}
use Rattle.fkv_pending.specs.declared.mailing.MailTask.TheVariants.{Clear}
use Rattle.fkv_pending.specs.declared.mailing.Mailing.TheVariants.{LoadsState}
use Rattle.fkv_session.specs.declared.answers.Told.{Told}
use Rattle.fkv_session.specs.declared.answers.Told.TheVariants as told
use Rattle.fkv_session.specs.declared.catching_up.Catching.{Catching}
use Rattle.fkv_session.specs.declared.catching_up.Catching.TheVariants as catching
use Rattle.fkv_session.specs.declared.sessions.CatchCause.{CatchCause}
use Rattle.fkv_session.specs.declared.sessions.CatchCause.TheVariants.{Refreshes, Wakes}
use Rattle.fkv_session.specs.declared.sessions.Sitting.{Sitting}
use Rattle.fkv_session.specs.declared.sessions.Sitting.TheVariants.{Idle, Attempts, CatchesUp, ClearsMail, Polls, StoresOwing, Turns, StoresCut, Leaves, LoadsDurable}
use Rattle.fkv_session.specs.CatchingUp.{refresh_begun, wake_begun, cut_of, cut_at, owing, catching_ask}
use Rattle.fkv_session.specs.Cuts.{version_left}
use Rattle.fkv_session.specs.OwnTurns.{own_turn_given}
use Rattle.fkv_session.specs.Sessions.{SessionState, Seat, IsOpened, is_busy, refusal_of, op_begun, refresh_call, polls_at, poll_begun, poll_call, sleep_call, wake_call, call_begun, sitting_ask, session_ask, sitting_next, sitting_given, refuses, asks_after, is_word_ask}
use Rattle.fkv_session.specs.SessionRun.{SessionEvent, Begins, Replies, Gets, begins, session_happens, session_run}
use Rattle.fkv_session.specs.Words.{IsMark, IsMarkStore, LeavesVersion, OwesUpdates, HasFinished, GoesToSleep, AreMarkStores, stored_by, stored_behind, stored_last, left_by, serial_left, AreMarksTold}
use Rattle.fkv_session.proofs.MarksSpared.{IsOff, StoresOff, passed_off, refresh_off, protect_off, leave_off, latch_off, mail_off, attempt_off}
use Rattle.fkv_session.proofs.Marked.{IsMarked, CatchAt, StepMarks, Moment, MarksAfter, LeavesSo, MarkedBy, moment_of, still, either_marks, answer_marks, attempts_marks, polls_marks, turned_marks, same_left, next_marks, off_apart}
use Rattle.fkv_session.proofs.TurnSpared.{own_turn_off, own_turn_given_spares}

-- an action stores nothing
given_marks : (k : Seat) (words : ℕ → ℕ) (left : Option ℕ) (s : SessionState) (step : Sitting) (action : Action) → s.step ≡ step → StepMarks k words left s step → MarksAfter (moment_of k words left s) (sitting_given k s step action)
unfolding sitting_given
given_marks k words left s (Turns its) action e marks =
    turned_marks (moment_of k words left s) (record s { own_turn = own_turn_given s.own_turn action }) its _ left e (same_left s.seen.version.0 s.serial left) marks.0 (own_turn_given_spares s.own_turn action marks.1)
given_marks k words left s (Idle its) action e marks = still (moment_of k words left s) s left (Idle its) (same_left s.seen.version.0 s.serial left) e marks
given_marks k words left s (Attempts has_shifted) action e marks = still (moment_of k words left s) s left (Attempts has_shifted) (same_left s.seen.version.0 s.serial left) e marks
given_marks k words left s (CatchesUp cause) action e marks = still (moment_of k words left s) s left (CatchesUp cause) (same_left s.seen.version.0 s.serial left) e marks
given_marks k words left s ClearsMail action e marks = still (moment_of k words left s) s left ClearsMail (same_left s.seen.version.0 s.serial left) e marks
given_marks k words left s (Polls i) action e marks = still (moment_of k words left s) s left (Polls i) (same_left s.seen.version.0 s.serial left) e marks
given_marks k words left s (StoresOwing i) action e marks = still (moment_of k words left s) s left (StoresOwing i) (same_left s.seen.version.0 s.serial left) e marks
given_marks k words left s StoresCut action e marks = still (moment_of k words left s) s left StoresCut (same_left s.seen.version.0 s.serial left) e marks
given_marks k words left s Leaves action e marks = still (moment_of k words left s) s left Leaves (same_left s.seen.version.0 s.serial left) e marks
given_marks k words left s LoadsDurable action e marks = still (moment_of k words left s) s left LoadsDurable (same_left s.seen.version.0 s.serial left) e marks

-- a call that begins
op_marks : (m : Moment) (s : SessionState) (op : Op) (why : Option Fault) (left : Option ℕ) → LeavesSo m s left → MarkedBy m s left → MarksAfter m (op_begun m.seat s op why)
unfolding op_begun
op_marks m s op (Some why) left so marked = answer_marks m s (told.Refused why) left so marked
op_marks m s op None left so marked = attempts_marks m (record s { op = op }) false left so marked

clears_marks : (m : Moment) (s : SessionState) (left : Option ℕ) → LeavesSo m s left → MarkedBy m s left → MarksAfter m (poll_begun m.seat s)
clears_marks m s left so marked =
    let clears : SessionState = record s { mailing = LoadsState Clear; step = ClearsMail } in
    either_marks s.is_orphaned m clears (polls_at m.seat s 0) (still m clears left ClearsMail so refl marked) (polls_marks m s 0 left so marked)

call_marks : (m : Moment) (s : SessionState) (its : Call) (left : Option ℕ) → LeavesSo m s left → MarkedBy m s left → MarksAfter m (call_begun m.seat s its)
unfolding refresh_call poll_call sleep_call wake_call
call_marks m s (call.Op op) left so marked = op_marks m s op (refusal_of s op) left so marked
call_marks m s call.Refresh left so marked =
    let refreshes : SessionState = record s { catching = refresh_begun s.catching s.seen s.serial; step = CatchesUp Refreshes } in
    either_marks s.is_awake m refreshes (refuses s fault.Asleep) (still m refreshes left (CatchesUp Refreshes) so refl (record { serial = refl; at = (refl, marked) })) (answer_marks m s (told.Refused fault.Asleep) left so marked)
call_marks m s call.Poll left so marked = either_marks s.is_awake m (poll_begun m.seat (record s { finished = [] })) (refuses s fault.Asleep) (clears_marks m (record s { finished = [] }) left so marked) (answer_marks m s (told.Refused fault.Asleep) left so marked)
call_marks m s call.Sleep left so marked =
    let sleeps : SessionState = record s { step = StoresCut } in
    either_marks (not s.is_awake) m (refuses s fault.Asleep) _ (answer_marks m s (told.Refused fault.Asleep) left so marked)
    (either_marks (length s.requests == 0) m sleeps (refuses s fault.PendingLeft) (still m sleeps left StoresCut so refl marked) (answer_marks m s (told.Refused fault.PendingLeft) left so marked))
call_marks m s call.Wake left so marked =
    let wakes : SessionState = record s { catching = wake_begun s.catching s.seen s.serial; step = CatchesUp Wakes } in
    either_marks s.is_awake m (refuses s fault.Awake) wakes (answer_marks m s (told.Refused fault.Awake) left so marked) (still m wakes left (CatchesUp Wakes) so refl (record { serial = refl; at = (refl, marked) }))
call_marks m s call.Durable left so marked = let loads : SessionState = record s { step = LoadsDurable } in still m loads left LoadsDurable so refl marked

-- where no call is in hand all is told
idle_marks : (k : Seat) (words : ℕ → ℕ) (left : Option ℕ) (s : SessionState) (step : Sitting) → is_busy step ≡ false → StepMarks k words left s step → IsMarked k.number words left s.seen.version.0 s.requests
idle_marks k words left s (Idle its) idle marks = marks
idle_marks k words left s step idle marks = cc

begins_marks : (k : Seat) (words : ℕ → ℕ) (left : Option ℕ) (s : SessionState) (its : Call) (busy : Bool) → is_busy s.step ≡ busy → StepMarks k words left s s.step → MarksAfter (moment_of k words left s) (begins k s busy its)
begins_marks k words left s its true e marks = still (moment_of k words left s) s left s.step (same_left s.seen.version.0 s.serial left) refl marks
begins_marks k words left s its false e marks =
    call_marks (moment_of k words left s) (record s { asks = 0; effect = None; wants_turn = false }) its left (same_left s.seen.version.0 s.serial left) (idle_marks k words left s s.step e marks)

replies_marks : (k : Seat) (words : ℕ → ℕ) (left : Option ℕ) (s : SessionState) (asks : ℕ) (step : Sitting) (reply : ℕ) (busy : Bool) → s.step ≡ step → is_busy step ≡ busy → k.number < k.places.sessions → StepMarks k words left s step
    → MarksAfter (moment_of k (λ place. stored_by (sitting_ask k s step) place (words place)) left s) (sitting_next k (record s { asks = asks; effect = None }) step reply)
unfolding sitting_next sitting_ask
replies_marks k words left s asks (Idle its) reply busy e b some marks =
    still (moment_of k words left s) (record s { asks = asks; effect = None }) left (Idle its) (same_left s.seen.version.0 s.serial left) e marks
replies_marks k words left s asks step reply true e b some marks = next_marks k words left s asks step reply e b some marks
replies_marks k words left s asks step reply false e b some marks = cc

pub event_marks : (k : Seat) (words : ℕ → ℕ) (left : Option ℕ) (s : SessionState) (event : SessionEvent) → k.number < k.places.sessions → StepMarks k words left s s.step
    → StepMarks k (λ place. stored_behind k s event place (words place)) (left_by s (session_happens k s event) left) (session_happens k s event) (session_happens k s event).step
unfolding session_happens
event_marks k words left s (Begins its) some marks = begins_marks k words left s its (is_busy s.step) refl marks
event_marks k words left s (Replies reply) some marks = replies_marks k words left s (asks_after s.asks (is_word_ask (session_ask k s))) s.step reply (is_busy s.step) refl refl some marks
event_marks k words left s (Gets action) some marks = given_marks k words left s s.step action refl marks

opening_marks : (k : Seat) (words : ℕ → ℕ) (s : SessionState) (step : Sitting) → is_busy step ≡ false → StepMarks k words None s step
opening_marks k words s (Idle its) idle = record { cut = tt; owing = tt }
opening_marks k words s step idle = cc

-- at every moment of a run
pub run_marks : (k : Seat) (opening : SessionState) (first : ℕ → ℕ) (events : List SessionEvent) → IsOpened opening → k.number < k.places.sessions
    → StepMarks k (λ place. stored_last k opening first events place) (serial_left k opening events) (session_run k opening events) (session_run k opening events).step
unfolding session_run stored_last serial_left
run_marks k opening first [] opened some = opening_marks k first opening opening.step opened.none_in_hand
run_marks k opening first (event ∷ before) opened some =
    event_marks k (λ place. stored_last k opening first before place) (serial_left k opening before) (session_run k opening before) event some (run_marks k opening first before opened some)

-- as words that are told
told_marks : (k : Seat) (s : SessionState) (words : ℕ → ℕ) (left : Option ℕ) (serial : ℕ) → left ≡ Some serial → IsMarked k.number words left s.seen.version.0 s.requests → AreMarksTold k s words serial
told_marks k s words None serial e marked = cc
told_marks k s words (Some its) serial e marked =
    let same : its ≡ serial = cc in
    record { cut = marked.cut.2 ∙ ap (λ (n : ℕ). cut_at n (s.seen.version.0 - 1)) same; owing = marked.owing }

pub run_told_marks : (k : Seat) (opening : SessionState) (first : ℕ → ℕ) (events : List SessionEvent) (serial : ℕ) → IsOpened opening → k.number < k.places.sessions → is_busy (session_run k opening events).step ≡ false
    → serial_left k opening events ≡ Some serial → AreMarksTold k (session_run k opening events) (λ place. stored_last k opening first events place) serial
run_told_marks k opening first events serial opened some rests left =
    let s : SessionState = session_run k opening events in
    told_marks k s (λ place. stored_last k opening first events place) (serial_left k opening events) serial left
    (idle_marks k (λ place. stored_last k opening first events place) (serial_left k opening events) s s.step rests (run_marks k opening first events opened some))

-- no other step stores such a word
off_mark : (n : ℕ) (ask : Ask Told) (place word : ℕ) → StoresOff n ask → ask ≡ Store place word → IsMark n place → ⊥
off_mark n ask place word off e mark =
    let its : IsOff n place = subst (λ (x : Ask Told). StoresOff n x) e off in
    let other = off_apart n place place its mark in
    let same : (place == place) ≡ true = grind (arith, nat_tests) in
    cc

differs : (a b : ℕ) → (a == b) ≡ false → a ≢ b
differs a b e = grind (arith, nat_tests, e)

catch_stores : (k : Seat) (words : ℕ → ℕ) (left : Option ℕ) (s : SessionState) (cause : CatchCause) (step : Catching) (place word : ℕ) → s.step ≡ CatchesUp cause → s.catching.serial ≡ s.serial
    → CatchAt k.number words left s.seen s.serial s.catching s.requests step
    → passed (catching_ask k.places k.number s.catching s.requests step) told.Slept ≡ Store place word → IsMark k.number place → IsMarkStore k s place word
unfolding catching_ask passed
catch_stores k words left s cause catching.Ended place word e same at asks mark = cc
catch_stores k words left s cause catching.Refreshes place word e same at asks mark = absurd (off_mark k.number _ place word (passed_off k.number (passed _ tt) told.Slept (passed_off k.number _ tt (refresh_off k.number s.catching.refreshing))) asks mark)
catch_stores k words left s cause catching.Protects place word e same at asks mark = absurd (off_mark k.number _ place word (passed_off k.number (passed _ tt) told.Slept (passed_off k.number _ tt (protect_off k.number s.catching.protecting))) asks mark)
catch_stores k words left s cause catching.StoresCut place word e same at asks mark =
    let there : place ≡ session_place k.number (cut_of (version_left s)) = cc in
    let stored : word ≡ cut_at s.catching.serial (version_left s) = cc in
    LeavesVersion e (differs s.catching.seen.version.0 s.seen.version.0 at.0) there (stored ∙ ap (λ (n : ℕ). cut_at n (version_left s)) same)
catch_stores k words left s cause catching.StoresOwing place word e same at asks mark =
    let there : place ≡ session_place k.number own.Owing = cc in
    let stored : word ≡ owing s.catching.seen s.requests = cc in
    OwesUpdates e (differs s.catching.seen.version.0 s.seen.version.0 at.0) there stored
catch_stores k words left s cause (catching.Latches i) place word e same at asks mark = absurd (off_mark k.number _ place word (passed_off k.number (passed _ tt) told.Slept (passed_off k.number _ tt (latch_off k.number s.catching.latching))) asks mark)
catch_stores k words left s cause catching.Finishes place word e same at asks mark = absurd (off_mark k.number _ place word (passed_off k.number (passed _ tt) told.Slept (passed_off k.number _ tt (refresh_off k.number s.catching.refreshing))) asks mark)

step_stores : (k : Seat) (words : ℕ → ℕ) (left : Option ℕ) (s : SessionState) (step : Sitting) (place word : ℕ) → s.step ≡ step → k.number < k.places.sessions → StepMarks k words left s step → sitting_ask k s step ≡ Store place word → IsMark k.number place
    → IsMarkStore k s place word
unfolding sitting_ask
step_stores k words left s (Idle its) place word e some marks asks mark = cc
step_stores k words left s (Attempts has_shifted) place word e some marks asks mark = absurd (off_mark k.number _ place word (passed_off k.number _ told.Slept (attempt_off k.places k.number s.attempt some)) asks mark)
step_stores k words left s (CatchesUp cause) place word e some marks asks mark = catch_stores k words left s cause s.catching.step place word e marks.serial marks.at asks mark
step_stores k words left s ClearsMail place word e some marks asks mark = absurd (off_mark k.number _ place word (passed_off k.number _ told.Slept (mail_off k.number s.mailing)) asks mark)
step_stores k words left s (Polls i) place word e some marks asks mark = absurd (off_mark k.number _ place word (passed_off k.number _ told.Slept (attempt_off k.places k.number s.attempt some)) asks mark)
step_stores k words left s (StoresOwing i) place word e some marks asks mark =
    let at : place ≡ session_place k.number own.Owing = cc in
    let stored : word ≡ owing s.seen s.requests = cc in
    HasFinished e at stored
step_stores k words left s (Turns its) place word e some marks asks mark = absurd (off_mark k.number _ place word (passed_off k.number _ its (own_turn_off k.number k.shape s.own_turn marks.1)) asks mark)
step_stores k words left s StoresCut place word e some marks asks mark =
    let at : place ≡ session_place k.number (cut_of s.seen.version.0) = cc in
    let stored : word ≡ cut_at s.serial s.seen.version.0 = cc in
    GoesToSleep e at stored
step_stores k words left s Leaves place word e some marks asks mark = absurd (off_mark k.number _ place word (passed_off k.number _ told.Slept (leave_off k.number s.leaving)) asks mark)
step_stores k words left s LoadsDurable place word e some marks asks mark = cc

pub run_stores : (k : Seat) (opening : SessionState) (events : List SessionEvent) → IsOpened opening → k.number < k.places.sessions → AreMarkStores k (session_run k opening events)
run_stores k opening events opened some =
    λ place word asks mark. step_stores k (λ at. stored_last k opening (λ x. 0) events at) (serial_left k opening events) (session_run k opening events) (session_run k opening events).step place word refl some (run_marks k opening (λ x. 0) events opened some) asks mark
