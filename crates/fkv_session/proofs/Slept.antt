-- While a session sleeps the cut word of its version tells its serial, and its epoch word is 0.
use Rattle.std.proofs.Common.{◌≡◌, ℕ, ◌+◌, ◌∙◌, List, [], ◌∷◌, length, refl, sym, subst, Bool, true, false}
use Rattle.std.specs.Prelude.{Option, Some, None, if◌then◌else◌, not, ◌==◌, ◌||◌, ◌%◌, slice_get, slice_set}
use Rattle.fkv_base.specs.declared.faults.Fault.{Fault}
use Rattle.fkv_base.specs.declared.faults.Fault.TheVariants as fault
use Rattle.fkv_map.specs.declared.operations.Call.{Call}
use Rattle.fkv_map.specs.declared.operations.Call.TheVariants as call
use Rattle.fkv_map.specs.declared.operations.Op.{Op}
use Rattle.fkv_plane.specs.declared.actions.Action.{Action}
use Rattle.fkv_plane.specs.declared.asks.Ask.{Ask}
use Rattle.fkv_plane.specs.declared.asks.Ask.TheVariants.{Done}
use Rattle.fkv_plane.specs.declared.places.SessionWord.TheVariants as own
use Rattle.fkv_plane.specs.Places.{session_place}
use Rattle.fkv_plane.specs.Passing.{passed}
use Rattle.fkv_epoch.specs.declared.leaving.Leaving.{Leaving}
use Rattle.fkv_epoch.specs.declared.leaving.Leaving.TheVariants as leave
use Rattle.fkv_epoch.specs.Leaving.{leave_ask, leave_next}
use Rattle.fkv_ops.specs.declared.answers.Reason.{Reason}
use Rattle.fkv_ops.specs.declared.answers.Reason.TheVariants as reason
use Rattle.fkv_ops.specs.declared.answers.TryAnswer.{TryAnswer}
use Rattle.fkv_ops.specs.declared.answers.TryAnswer.TheVariants as tried
use Rattle.fkv_ops.specs.Requests.{is_read}
use Rattle.fkv_pending.specs.declared.mailing.MailAnswer.{MailAnswer}
use Rattle.fkv_pending.specs.declared.mailing.MailAnswer.TheVariants.{Cleared}
use Rattle.fkv_pending.specs.declared.pending_requests.PendingRequest.{PendingRequest}
use Rattle.fkv_pending.specs.Mailing.{mail_next}
use Rattle.fkv_session.specs.declared.answers.Told.{Told}
use Rattle.fkv_session.specs.declared.answers.Told.TheVariants as told
use Rattle.fkv_session.specs.declared.sessions.CatchCause.{CatchCause}
use Rattle.fkv_session.specs.declared.sessions.CatchCause.TheVariants.{Refreshes, Wakes, Shifts}
use Rattle.fkv_session.specs.declared.sessions.Sitting.{Sitting}
use Rattle.fkv_session.specs.declared.sessions.Sitting.TheVariants.{Idle, Attempts, CatchesUp, ClearsMail, Polls, StoresOwing, Turns, StoresCut, Leaves, LoadsDurable}
use Rattle.fkv_session.specs.CatchingUp.{cut_of, cut_at}
use Rattle.fkv_session.specs.OwnTurns.{own_turn_given}
use Rattle.fkv_session.specs.Sessions.{SessionState, Seat, IsOpened, is_busy, answers, answers_after_turn, ticket_after, attempts, polls_request, polls_at, refusal_of, op_begun, refresh_call, poll_begun, poll_call, sleep_call, wake_call, call_begun, attempt_left, poll_left, serial_taken, update_done, is_no_room, with_request, accepts, shifts, attempted, attempt_ledto, caught_up, catch_ledto, clear_ledto, is_finished, is_owed, request_finished, lacks_room, finishes_request, keeps_request, poll_ledto, turn_ledto, leave_ledto, attempt_moved, caught, own_turn_moved, sitting_ask, session_ask, sitting_next, sitting_given, refuses, asks_after, is_word_ask}
use Rattle.fkv_session.specs.SessionRun.{SessionEvent, Begins, Replies, Gets, begins, session_happens, session_run}
use Rattle.fkv_session.specs.Words.{stored_by, stored_behind, stored_last, IsCutAsleep}
use Rattle.fkv_session.proofs.MarksSpared.{passed_off, leave_off}
use Rattle.fkv_session.proofs.Marked.{off_word, cut_mark, same_place}

-- what it has stored before it sleeps
abbrev pub HasLeft : Seat → SessionState → (ℕ → ℕ) → Type 0
HasLeft k s words = IsCutAsleep k s words × (words (session_place k.number own.Epoch) ≡ 0)

-- only a session that is awake does anything but to wake, to leave, and to load its durable word
abbrev pub StepSlept : Seat → (ℕ → ℕ) → SessionState → Sitting → Type 0
StepSlept k words s (Idle its) = s.is_awake ≡ false → HasLeft k s words
StepSlept k words s LoadsDurable = s.is_awake ≡ false → HasLeft k s words
StepSlept k words s Leaves = IsCutAsleep k s words × (s.leaving ≡ leave.StoresZero)
StepSlept k words s (CatchesUp Wakes) = Unit {0}
StepSlept k words s step = s.is_awake ≡ true

abbrev pub SleptAfter : Seat → (ℕ → ℕ) → SessionState → Type 0
SleptAfter k words s = StepSlept k words s s.step

either_slept : (c : Bool) (k : Seat) (words : ℕ → ℕ) (a b : SessionState) → SleptAfter k words a → SleptAfter k words b → SleptAfter k words (if c then a else b)
either_slept true k words a b one other = one
either_slept false k words a b one other = other

-- by the test
tested_slept : (c : Bool) (k : Seat) (words : ℕ → ℕ) (a b : SessionState) → (c ≡ true → SleptAfter k words a) → (c ≡ false → SleptAfter k words b) → SleptAfter k words (if c then a else b)
tested_slept true k words a b one other = one refl
tested_slept false k words a b one other = other refl

still_slept : (k : Seat) (words : ℕ → ℕ) (s : SessionState) (step : Sitting) → s.step ≡ step → StepSlept k words s step → SleptAfter k words s
still_slept k words s step e slept = subst (λ (x : Sitting). StepSlept k words s x) (sym e) slept

answer_slept : (k : Seat) (words : ℕ → ℕ) (s : SessionState) (its : Told) → s.is_awake ≡ true → SleptAfter k words (answers s its)
answer_slept k words s its awake = λ asleep. cc

turn_slept : (k : Seat) (words : ℕ → ℕ) (s : SessionState) (its : Told) → s.is_awake ≡ true → SleptAfter k words (answers_after_turn s its)
turn_slept k words s its awake = either_slept s.wants_turn k words _ (answers s its) awake (answer_slept k words s its awake)

attempts_slept : (k : Seat) (words : ℕ → ℕ) (s : SessionState) (has_shifted : Bool) → s.is_awake ≡ true → SleptAfter k words (attempts k s has_shifted)
unfolding attempts
attempts_slept k words s has_shifted awake = awake

found_slept : (k : Seat) (words : ℕ → ℕ) (s : SessionState) (i : ℕ) (found : Option PendingRequest) → s.is_awake ≡ true → SleptAfter k words (polls_request k s i found)
found_slept k words s i None awake = turn_slept k words s (told.Polled (length s.requests)) awake
found_slept k words s i (Some pending) awake = awake

polls_slept : (k : Seat) (words : ℕ → ℕ) (s : SessionState) (i : ℕ) → s.is_awake ≡ true → SleptAfter k words (polls_at k s i)
unfolding polls_at
polls_slept k words s i awake = found_slept k words s i (slice_get s.requests i) awake

accepts_slept : (k : Seat) (words : ℕ → ℕ) (s : SessionState) (why : Reason) → s.is_awake ≡ true → SleptAfter k words (accepts s why)
unfolding accepts
accepts_slept k words s why awake =
    either_slept (is_read s.op) k words (answers (with_request (record s { ticket = ticket_after s.ticket })) (told.PendingRead (record { 0 = ticket_after s.ticket }))) _ (λ asleep. cc)
    (turn_slept k words (with_request (serial_taken (record s { wants_turn = is_no_room why }))) (told.Pending (record { 0 = s.serial + 1 }) why) awake)

shifts_slept : (k : Seat) (words : ℕ → ℕ) (s : SessionState) (has_shifted : Bool) → s.is_awake ≡ true → SleptAfter k words (shifts s has_shifted)
unfolding shifts
shifts_slept k words s false awake = awake
shifts_slept k words s true awake = accepts_slept k words s reason.Contended awake

attempted_slept : (k : Seat) (words : ℕ → ℕ) (s : SessionState) (has_shifted : Bool) (its : TryAnswer) → s.is_awake ≡ true → SleptAfter k words (attempted s has_shifted its)
attempted_slept k words s has_shifted (tried.Done reply) awake = either_slept (is_read s.op) k words (answers s told.Absent) (update_done s reply) (λ asleep. cc) (λ asleep. cc)
attempted_slept k words s has_shifted (tried.Found value) awake = λ asleep. cc
attempted_slept k words s has_shifted tried.Absent awake = λ asleep. cc
attempted_slept k words s has_shifted (tried.Wait why) awake = accepts_slept k words s why awake
attempted_slept k words s has_shifted (tried.AwaitsDisk sought) awake = accepts_slept k words s reason.Disk awake
attempted_slept k words s has_shifted tried.Shift awake = shifts_slept k words s has_shifted awake
attempted_slept k words s has_shifted tried.IndexFull awake = λ asleep. cc
attempted_slept k words s has_shifted tried.LogFull awake = λ asleep. cc

attempt_slept : (k : Seat) (words : ℕ → ℕ) (s : SessionState) (has_shifted : Bool) (ask : Ask TryAnswer) → s.step ≡ Attempts has_shifted → s.is_awake ≡ true → SleptAfter k words (attempt_ledto s has_shifted ask)
unfolding attempt_ledto
attempt_slept k words s has_shifted (Done its) e awake = attempted_slept k words (attempt_left s) has_shifted its awake
attempt_slept k words s has_shifted ask e awake = still_slept k words s (Attempts has_shifted) e awake

caught_up_slept : (k : Seat) (words : ℕ → ℕ) (s : SessionState) (cause : CatchCause) → StepSlept k words s (CatchesUp cause) → SleptAfter k words (caught_up k s cause)
caught_up_slept k words s Refreshes slept = λ asleep. cc
caught_up_slept k words s Wakes slept = λ asleep. cc
caught_up_slept k words s Shifts slept = attempts_slept k words s true slept

seen_slept : (k : Seat) (words : ℕ → ℕ) (s t : SessionState) (cause : CatchCause) → s.is_awake ≡ t.is_awake → StepSlept k words s (CatchesUp cause) → StepSlept k words t (CatchesUp cause)
seen_slept k words s t Refreshes same slept = sym same ∙ slept
seen_slept k words s t Wakes same slept = tt
seen_slept k words s t Shifts same slept = sym same ∙ slept

catch_slept : (k : Seat) (words : ℕ → ℕ) (s : SessionState) (cause : CatchCause) (ask : Ask (Unit {0})) → s.step ≡ CatchesUp cause → StepSlept k words s (CatchesUp cause) → SleptAfter k words (catch_ledto k s cause ask)
unfolding catch_ledto
catch_slept k words s cause (Done its) e slept = caught_up_slept k words (record s { seen = s.catching.seen }) cause (seen_slept k words s (record s { seen = s.catching.seen }) cause refl slept)
catch_slept k words s cause ask e slept = still_slept k words s (CatchesUp cause) e slept

clear_slept : (k : Seat) (words : ℕ → ℕ) (s : SessionState) (ask : Ask MailAnswer) → s.step ≡ ClearsMail → s.is_awake ≡ true → SleptAfter k words (clear_ledto k s ask)
unfolding clear_ledto
clear_slept k words s (Done Cleared) e awake = polls_slept k words (record s { is_orphaned = false }) 0 awake
clear_slept k words s (Done its) e awake = polls_slept k words s 0 awake
clear_slept k words s ask e awake = still_slept k words s ClearsMail e awake

finishes_slept : (k : Seat) (words : ℕ → ℕ) (s : SessionState) (i : ℕ) (its : TryAnswer) → s.is_awake ≡ true → SleptAfter k words (finishes_request k s i its)
unfolding finishes_request
finishes_slept k words s i its awake = either_slept (is_owed s) k words (request_finished s i its) (polls_at k (request_finished s i its) i) awake (polls_slept k words (request_finished s i its) i awake)

keeps_slept : (k : Seat) (words : ℕ → ℕ) (s : SessionState) (i : ℕ) (its : TryAnswer) → s.is_awake ≡ true → SleptAfter k words (keeps_request k s i its)
unfolding keeps_request
keeps_slept k words s i its awake = polls_slept k words (record s { requests = slice_set s.requests i s.attempt.pending; wants_turn = s.wants_turn || lacks_room its }) (i + 1) awake

poll_slept : (k : Seat) (words : ℕ → ℕ) (s : SessionState) (i : ℕ) (ask : Ask TryAnswer) → s.step ≡ Polls i → s.is_awake ≡ true → SleptAfter k words (poll_ledto k s i ask)
unfolding poll_ledto
poll_slept k words s i (Done its) e awake =
    either_slept (is_finished its) k words (finishes_request k (poll_left s) i its) (keeps_request k (poll_left s) i its) (finishes_slept k words (poll_left s) i its awake) (keeps_slept k words (poll_left s) i its awake)
poll_slept k words s i ask e awake = still_slept k words s (Polls i) e awake

turned_slept : (k : Seat) (words : ℕ → ℕ) (s : SessionState) (its : Told) (ask : Ask (Unit {0})) → s.step ≡ Turns its → s.is_awake ≡ true → SleptAfter k words (turn_ledto s its ask)
unfolding turn_ledto
turned_slept k words s its (Done through) e awake = λ asleep. cc
turned_slept k words s its ask e awake = still_slept k words s (Turns its) e awake

left_slept : (k : Seat) (words : ℕ → ℕ) (s : SessionState) (leaving : Leaving) → leaving ≡ leave.StoresZero → HasLeft k s words → SleptAfter k words (leave_ledto (record s { leaving = leave_next leaving }) (leave_ask k.number (leave_next leaving)))
unfolding leave_ledto leave_next leave_ask
left_slept k words s leave.StoresZero e left = λ asleep. left
left_slept k words s leave.AtRest e left = cc

zero_stored : (n : ℕ) (leaving : Leaving) (before : ℕ) → leaving ≡ leave.StoresZero → stored_by (passed (leave_ask n leaving) told.Slept) (session_place n own.Epoch) before ≡ 0
unfolding leave_ask passed
zero_stored n leave.StoresZero before e = same_place (session_place n own.Epoch) 0 before
zero_stored n leave.AtRest before e = cc

next_slept : (k : Seat) (words : ℕ → ℕ) (s : SessionState) (asks : ℕ) (step : Sitting) (reply : ℕ) → s.step ≡ step → StepSlept k words s step
    → SleptAfter k (λ place. stored_by (sitting_ask k s step) place (words place)) (sitting_next k (record s { asks = asks; effect = None }) step reply)
unfolding sitting_next sitting_ask
next_slept k words s asks (Idle its) reply e slept = let t : SessionState = record s { asks = asks; effect = None } in still_slept k (λ place. stored_by (sitting_ask k s (Idle its)) place (words place)) t (Idle its) e slept
next_slept k words s asks (Attempts has_shifted) reply e slept = let t : SessionState = record s { asks = asks; effect = None } in attempt_slept k (λ place. stored_by (sitting_ask k s (Attempts has_shifted)) place (words place)) (attempt_moved k t reply) has_shifted _ e slept
next_slept k words s asks (CatchesUp cause) reply e slept =
    let t : SessionState = record s { asks = asks; effect = None } in
    catch_slept k (λ place. stored_by (sitting_ask k s (CatchesUp cause)) place (words place)) (caught k t reply) cause _ e (seen_slept k (λ place. stored_by (sitting_ask k s (CatchesUp cause)) place (words place)) s (caught k t reply) cause refl (any_words cause slept))
  where
    any_words : (cause : CatchCause) → StepSlept k words s (CatchesUp cause) → StepSlept k (λ place. stored_by (sitting_ask k s (CatchesUp cause)) place (words place)) s (CatchesUp cause)
    any_words Refreshes slept = slept
    any_words Wakes slept = tt
    any_words Shifts slept = slept
next_slept k words s asks ClearsMail reply e slept = let t : SessionState = record s { asks = asks; effect = None } in clear_slept k (λ place. stored_by (sitting_ask k s ClearsMail) place (words place)) (record t { mailing = mail_next s.mailing reply }) _ e slept
next_slept k words s asks (Polls i) reply e slept = let t : SessionState = record s { asks = asks; effect = None } in poll_slept k (λ place. stored_by (sitting_ask k s (Polls i)) place (words place)) (attempt_moved k t reply) i _ e slept
next_slept k words s asks (StoresOwing i) reply e slept = let t : SessionState = record s { asks = asks; effect = None } in polls_slept k (λ place. stored_by (sitting_ask k s (StoresOwing i)) place (words place)) t i slept
next_slept k words s asks (Turns its) reply e slept = let t : SessionState = record s { asks = asks; effect = None } in turned_slept k (λ place. stored_by (sitting_ask k s (Turns its)) place (words place)) (own_turn_moved k t reply) its _ e slept
next_slept k words s asks StoresCut reply e slept = (same_place (session_place k.number (cut_of s.seen.version.0)) (cut_at s.serial s.seen.version.0) _, refl)
next_slept k words s asks Leaves reply e slept =
    let cut = off_word k.number (passed (leave_ask k.number s.leaving) told.Slept) (session_place k.number (cut_of s.seen.version.0)) (words (session_place k.number (cut_of s.seen.version.0))) (passed_off k.number _ told.Slept (leave_off k.number s.leaving))
    (cut_mark k.number (s.seen.version.0 % 2 == 0)) in
    left_slept k (λ place. stored_by (sitting_ask k s Leaves) place (words place)) (record s { asks = asks; effect = None }) s.leaving slept.1
    (cut ∙ slept.0, zero_stored k.number s.leaving (words (session_place k.number own.Epoch)) slept.1)
next_slept k words s asks LoadsDurable reply e slept = λ asleep. slept asleep

given_slept : (k : Seat) (words : ℕ → ℕ) (s : SessionState) (step : Sitting) (action : Action) → s.step ≡ step → StepSlept k words s step → SleptAfter k words (sitting_given k s step action)
unfolding sitting_given
given_slept k words s (Turns its) action e slept = turned_slept k words (record s { own_turn = own_turn_given s.own_turn action }) its _ e slept
given_slept k words s (Idle its) action e slept = still_slept k words s (Idle its) e slept
given_slept k words s (Attempts has_shifted) action e slept = still_slept k words s (Attempts has_shifted) e slept
given_slept k words s (CatchesUp cause) action e slept = still_slept k words s (CatchesUp cause) e slept
given_slept k words s ClearsMail action e slept = still_slept k words s ClearsMail e slept
given_slept k words s (Polls i) action e slept = still_slept k words s (Polls i) e slept
given_slept k words s (StoresOwing i) action e slept = still_slept k words s (StoresOwing i) e slept
given_slept k words s StoresCut action e slept = still_slept k words s StoresCut e slept
given_slept k words s Leaves action e slept = still_slept k words s Leaves e slept
given_slept k words s LoadsDurable action e slept = still_slept k words s LoadsDurable e slept

-- a call that begins
awake_first : (awake : Bool) (rest : Option Fault) → (if not awake then Some fault.Asleep else rest) ≡ None → awake ≡ true
awake_first true rest none = refl
awake_first false rest none = cc

op_slept : (k : Seat) (words : ℕ → ℕ) (s : SessionState) (op : Op) (why : Option Fault) → refusal_of s op ≡ why → (s.is_awake ≡ false → HasLeft k s words) → SleptAfter k words (op_begun k s op why)
unfolding op_begun
op_slept k words s op (Some why) e slept = slept
op_slept k words s op None e slept = attempts_slept k words (record s { op = op }) false (awake_first s.is_awake _ e)

begins_polls : (k : Seat) (words : ℕ → ℕ) (s : SessionState) → s.is_awake ≡ true → SleptAfter k words (poll_begun k s)
begins_polls k words s awake = either_slept s.is_orphaned k words _ (polls_at k s 0) awake (polls_slept k words s 0 awake)

not_true : (c : Bool) → not c ≡ false → c ≡ true
not_true true e = refl
not_true false e = cc

call_slept : (k : Seat) (words : ℕ → ℕ) (s : SessionState) (its : Call) → (s.is_awake ≡ false → HasLeft k s words) → SleptAfter k words (call_begun k s its)
unfolding refresh_call poll_call sleep_call wake_call
call_slept k words s (call.Op op) slept = op_slept k words s op (refusal_of s op) refl slept
call_slept k words s call.Refresh slept = tested_slept s.is_awake k words _ (refuses s fault.Asleep) (λ awake. awake) (λ asleep. slept)
call_slept k words s call.Poll slept = tested_slept s.is_awake k words (poll_begun k (record s { finished = [] })) (refuses s fault.Asleep) (λ awake. begins_polls k words (record s { finished = [] }) awake) (λ asleep. slept)
call_slept k words s call.Sleep slept =
    tested_slept (not s.is_awake) k words (refuses s fault.Asleep) _ (λ asleep. slept)
    (λ awake. either_slept (length s.requests == 0) k words (record s { step = StoresCut }) (refuses s fault.PendingLeft) (not_true s.is_awake awake) slept)
call_slept k words s call.Wake slept = either_slept s.is_awake k words (refuses s fault.Awake) _ slept tt
call_slept k words s call.Durable slept = slept

idle_slept : (k : Seat) (words : ℕ → ℕ) (s : SessionState) (step : Sitting) → is_busy step ≡ false → StepSlept k words s step → s.is_awake ≡ false → HasLeft k s words
idle_slept k words s (Idle its) idle slept = slept
idle_slept k words s step idle slept = cc

begins_slept : (k : Seat) (words : ℕ → ℕ) (s : SessionState) (its : Call) (busy : Bool) → is_busy s.step ≡ busy → StepSlept k words s s.step → SleptAfter k words (begins k s busy its)
begins_slept k words s its true e slept = slept
begins_slept k words s its false e slept = call_slept k words (record s { asks = 0; effect = None; wants_turn = false }) its (idle_slept k words s s.step e slept)

event_slept : (k : Seat) (words : ℕ → ℕ) (s : SessionState) (event : SessionEvent) → StepSlept k words s s.step
    → SleptAfter k (λ place. stored_behind k s event place (words place)) (session_happens k s event)
unfolding session_happens
event_slept k words s (Begins its) slept = begins_slept k words s its (is_busy s.step) refl slept
event_slept k words s (Replies reply) slept = next_slept k words s (asks_after s.asks (is_word_ask (session_ask k s))) s.step reply refl slept
event_slept k words s (Gets action) slept = given_slept k words s s.step action refl slept

opening_slept : (k : Seat) (words : ℕ → ℕ) (s : SessionState) (step : Sitting) → s.is_awake ≡ true → is_busy step ≡ false → StepSlept k words s step
opening_slept k words s (Idle its) awake idle = λ asleep. cc
opening_slept k words s step awake idle = cc

pub run_steps : (k : Seat) (opening : SessionState) (first : ℕ → ℕ) (events : List SessionEvent) → IsOpened opening → SleptAfter k (λ place. stored_last k opening first events place) (session_run k opening events)
unfolding session_run stored_last
run_steps k opening first [] opened = opening_slept k first opening opening.step opened.awake opened.none_in_hand
run_steps k opening first (event ∷ before) opened = event_slept k (λ place. stored_last k opening first before place) (session_run k opening before) event (run_steps k opening first before opened)

-- where no call is in hand
pub run_slept : (k : Seat) (opening : SessionState) (first : ℕ → ℕ) (events : List SessionEvent) → IsOpened opening → is_busy (session_run k opening events).step ≡ false → (session_run k opening events).is_awake ≡ false
    → IsCutAsleep k (session_run k opening events) (λ place. stored_last k opening first events place)
run_slept k opening first events opened rests asleep =
    let s : SessionState = session_run k opening events in
    let left = idle_slept k (λ place. stored_last k opening first events place) s s.step rests (run_steps k opening first events opened) asleep in
    left.0
