-- Where a poll stores the owing word, that tells as many updates as wait, or one more.
use Rattle.std.specs.List.{remove, count_by}
use Rattle.std.proofs.lemmas.List.Sums.{sum_by-cons}
use Rattle.fkv_base.specs.declared.numbers.Version.{Version}
use Rattle.fkv_pending.specs.Pending.{is_update_of}
use Rattle.fkv_session.specs.CatchingUp.{owing}
use Rattle.std.proofs.Common.{◌≡◌, ℕ, ◌+◌, ◌-◌, ◌<◌, ◌≤◌, zero, suc, arith, ◌∙◌, List, [], ◌∷◌, length, refl, ap, sym, subst, Bool, true, false}
use Rattle.std.specs.Prelude.{cond, Option, Some, None, if◌then◌else◌, not, ◌==◌, ◌||◌, slice_get, slice_set}
use Rattle.fkv_base.specs.declared.faults.Fault.{Fault}
use Rattle.fkv_base.specs.declared.faults.Fault.TheVariants as fault
use Rattle.fkv_map.specs.declared.operations.Call.{Call}
use Rattle.fkv_map.specs.declared.operations.Call.TheVariants as call
use Rattle.fkv_map.specs.declared.operations.Op.{Op}
use Rattle.fkv_plane.specs.declared.actions.Action.{Action}
use Rattle.fkv_plane.specs.declared.asks.Ask.{Ask}
use Rattle.fkv_plane.specs.declared.asks.Ask.TheVariants.{Done}
use Rattle.fkv_plane.specs.declared.places.SessionWord.TheVariants as own
use Rattle.fkv_plane.specs.Places.{session_place}
use Rattle.fkv_epoch.specs.Leaving.{leave_next}
use Rattle.fkv_ops.specs.declared.answers.Reason.{Reason}
use Rattle.fkv_ops.specs.declared.answers.Reason.TheVariants as reason
use Rattle.fkv_ops.specs.declared.answers.TryAnswer.{TryAnswer}
use Rattle.fkv_ops.specs.declared.answers.TryAnswer.TheVariants as tried
use Rattle.fkv_ops.specs.Requests.{is_read}
use Rattle.fkv_pending.specs.declared.mailing.MailAnswer.{MailAnswer}
use Rattle.fkv_pending.specs.declared.mailing.MailAnswer.TheVariants.{Cleared}
use Rattle.fkv_pending.specs.declared.pending_requests.PendingRequest.{PendingRequest}
use Rattle.fkv_pending.specs.Mailing.{mail_next}
use Rattle.fkv_session.specs.declared.answers.Told.{Told}
use Rattle.fkv_session.specs.declared.answers.Told.TheVariants as told
use Rattle.fkv_session.specs.declared.sessions.CatchCause.{CatchCause}
use Rattle.fkv_session.specs.declared.sessions.CatchCause.TheVariants.{Refreshes, Wakes, Shifts}
use Rattle.fkv_session.specs.declared.sessions.Sitting.{Sitting}
use Rattle.fkv_session.specs.declared.sessions.Sitting.TheVariants.{Idle, Attempts, CatchesUp, ClearsMail, Polls, StoresOwing, Turns, StoresCut, Leaves, LoadsDurable}
use Rattle.fkv_session.specs.OwnTurns.{own_turn_given}
use Rattle.fkv_session.specs.Sessions.{SessionState, Seat, IsOpened, bits_of, room_of, is_busy, answers, answers_after_turn, ticket_after, attempts, polls_request, polls_at, refusal_of, op_begun, refresh_call, poll_begun, poll_call, sleep_call, wake_call, call_begun, attempt_left, poll_left, serial_taken, update_done, is_no_room, with_request, accepts, shifts, attempted, attempt_ledto, caught_up, catch_ledto, clear_ledto, is_finished, is_owed, request_finished, lacks_room, finishes_request, keeps_request, poll_ledto, turn_ledto, leave_ledto, attempt_moved, caught, own_turn_moved, sitting_ask, session_ask, sitting_next, sitting_given, refuses, asks_after, is_word_ask}
use Rattle.fkv_session.specs.SessionRun.{SessionEvent, Begins, Replies, Gets, begins, session_happens, session_run}
use Rattle.fkv_session.specs.Words.{stored_by, stored_behind, stored_last, left_with, left_by, serial_left}
use Rattle.fkv_session.specs.InOrder.{IsOwedOrOneMore}
use Rattle.fkv_session.proofs.AttemptKeeps.{attempt_keeps}
use Rattle.fkv_session.proofs.MarksSpared.{StoresOff, passed_off, attempt_off}
use Rattle.fkv_session.proofs.Marked.{HasOwing, IsAt, StepMarks, Moment, LeavesSo, moment_of, owed_of, owing_mark, off_word, same_left}
use Rattle.fkv_session.proofs.MarkRuns.{run_marks}

-- of the version that the session has left
abbrev HasNear : ℕ → (ℕ → ℕ) → Option ℕ → ℕ → List PendingRequest → Type 0
HasNear n words None version requests = Unit {0}
HasNear n words (Some serial) version requests = IsOwedOrOneMore (words (session_place n own.Owing)) (owed_of version requests)

abbrev StepNear : ℕ → (ℕ → ℕ) → Option ℕ → SessionState → Sitting → Type 0
StepNear n words left s (StoresOwing i) = HasNear n words left s.seen.version.0 s.requests
StepNear n words left s step = Unit {0}

abbrev NearAfter : Moment → SessionState → Type 0
NearAfter m s = StepNear m.seat.number m.words (left_with (s.seen.version.0 == m.version) m.serial m.left) s s.step

either_near : (c : Bool) (m : Moment) (a b : SessionState) → NearAfter m a → NearAfter m b → NearAfter m (if c then a else b)
either_near true m a b one other = one
either_near false m a b one other = other

still_near : (m : Moment) (s : SessionState) (step : Sitting) → s.step ≡ step → StepNear m.seat.number m.words (left_with (s.seen.version.0 == m.version) m.serial m.left) s step → NearAfter m s
still_near m s step e near = subst (λ (x : Sitting). StepNear m.seat.number m.words (left_with (s.seen.version.0 == m.version) m.serial m.left) s x) (sym e) near

-- one that leaves was one of them, or none
removed_count : (version : Version) (requests : List PendingRequest) (i : ℕ) (p : PendingRequest) → slice_get requests i ≡ Some p
    → count_by (is_update_of version) requests ≡ count_by (is_update_of version) (remove requests i) + cond (is_update_of version p) 1 0
removed_count version [] i p got = cc
removed_count version (o ∷ rest) zero p got =
    let same : o ≡ p = cc in
    let all = sum_by-cons (λ x. cond (is_update_of version x) 1 0) o rest in
    let one : ◌≡◌ {A = ℕ} (cond (is_update_of version o) 1 0) (cond (is_update_of version p) 1 0) = ap (λ (x : PendingRequest). cond (is_update_of version x) 1 0) same in
    omega (arith, all, one)
removed_count version (o ∷ rest) (suc i) p got =
    let all = sum_by-cons (λ x. cond (is_update_of version x) 1 0) o rest in
    let others = sum_by-cons (λ x. cond (is_update_of version x) 1 0) o (remove rest i) in
    let left = removed_count version rest i p got in
    omega (arith, all, others, left)

one_at_most : (c : Bool) → cond c 1 0 ≤ 1
one_at_most true = omega arith
one_at_most false = omega arith

near_removed : (n : ℕ) (words : ℕ → ℕ) (left : Option ℕ) (version : ℕ) (requests : List PendingRequest) (i : ℕ) (p : PendingRequest) → slice_get requests i ≡ Some p → HasOwing n words left version requests
    → HasNear n words left version (remove requests i)
near_removed n words None version requests i p got has = tt
near_removed n words (Some serial) version requests i p got has =
    let count = removed_count (record { 0 = version - 1 }) requests i p got in
    let few = one_at_most (is_update_of (record { 0 = version - 1 }) p) in
    record { no_fewer = omega (arith, has, count); one_more = omega (arith, has, count, few) }

turn_near : (m : Moment) (s : SessionState) (its : Told) → NearAfter m (answers_after_turn s its)
turn_near m s its = either_near s.wants_turn m _ (answers s its) tt tt

attempts_near : (m : Moment) (s : SessionState) (has_shifted : Bool) → NearAfter m (attempts m.seat s has_shifted)
unfolding attempts
attempts_near m s has_shifted = tt

found_near : (m : Moment) (s : SessionState) (i : ℕ) (found : Option PendingRequest) → NearAfter m (polls_request m.seat s i found)
found_near m s i None = turn_near m s (told.Polled (length s.requests))
found_near m s i (Some pending) = tt

polls_near : (m : Moment) (s : SessionState) (i : ℕ) → NearAfter m (polls_at m.seat s i)
unfolding polls_at
polls_near m s i = found_near m s i (slice_get s.requests i)

accepts_near : (m : Moment) (s : SessionState) (why : Reason) → NearAfter m (accepts s why)
unfolding accepts
accepts_near m s why =
    either_near (is_read s.op) m (answers (with_request (record s { ticket = ticket_after s.ticket })) (told.PendingRead (record { 0 = ticket_after s.ticket }))) _ tt
    (turn_near m (with_request (serial_taken (record s { wants_turn = is_no_room why }))) (told.Pending (record { 0 = s.serial + 1 }) why))

shifts_near : (m : Moment) (s : SessionState) (has_shifted : Bool) → NearAfter m (shifts s has_shifted)
unfolding shifts
shifts_near m s false = tt
shifts_near m s true = accepts_near m s reason.Contended

attempted_near : (m : Moment) (s : SessionState) (has_shifted : Bool) (its : TryAnswer) → NearAfter m (attempted s has_shifted its)
attempted_near m s has_shifted (tried.Done reply) = either_near (is_read s.op) m (answers s told.Absent) (update_done s reply) tt tt
attempted_near m s has_shifted (tried.Found value) = tt
attempted_near m s has_shifted tried.Absent = tt
attempted_near m s has_shifted (tried.Wait why) = accepts_near m s why
attempted_near m s has_shifted (tried.AwaitsDisk sought) = accepts_near m s reason.Disk
attempted_near m s has_shifted tried.Shift = shifts_near m s has_shifted
attempted_near m s has_shifted tried.IndexFull = tt
attempted_near m s has_shifted tried.LogFull = tt

attempt_near : (m : Moment) (s : SessionState) (has_shifted : Bool) (ask : Ask TryAnswer) → s.step ≡ Attempts has_shifted → NearAfter m (attempt_ledto s has_shifted ask)
unfolding attempt_ledto
attempt_near m s has_shifted (Done its) e = attempted_near m (attempt_left s) has_shifted its
attempt_near m s has_shifted ask e = still_near m s (Attempts has_shifted) e tt

caught_up_near : (m : Moment) (s : SessionState) (cause : CatchCause) → NearAfter m (caught_up m.seat s cause)
caught_up_near m s Refreshes = tt
caught_up_near m s Wakes = tt
caught_up_near m s Shifts = attempts_near m s true

catch_near : (m : Moment) (s : SessionState) (cause : CatchCause) (ask : Ask (Unit {0})) → s.step ≡ CatchesUp cause → NearAfter m (catch_ledto m.seat s cause ask)
unfolding catch_ledto
catch_near m s cause (Done its) e = caught_up_near m (record s { seen = s.catching.seen }) cause
catch_near m s cause ask e = still_near m s (CatchesUp cause) e tt

clear_near : (m : Moment) (s : SessionState) (ask : Ask MailAnswer) → s.step ≡ ClearsMail → NearAfter m (clear_ledto m.seat s ask)
unfolding clear_ledto
clear_near m s (Done Cleared) e = polls_near m (record s { is_orphaned = false }) 0
clear_near m s (Done its) e = polls_near m s 0
clear_near m s ask e = still_near m s ClearsMail e tt

finishes_near : (m : Moment) (s : SessionState) (i : ℕ) (its : TryAnswer) (left : Option ℕ) → LeavesSo m s left → HasOwing m.seat.number m.words left s.seen.version.0 s.requests → IsAt s.requests i s.attempt.pending
    → NearAfter m (finishes_request m.seat s i its)
unfolding finishes_request
finishes_near m s i its left so has at =
    either_near (is_owed s) m (request_finished s i its) (polls_at m.seat (request_finished s i its) i)
    (subst (λ (x : Option ℕ). HasNear m.seat.number m.words x s.seen.version.0 (remove s.requests i)) (sym so) (near_removed m.seat.number m.words left s.seen.version.0 s.requests i at.its at.at has))
    (polls_near m (request_finished s i its) i)

keeps_near : (m : Moment) (s : SessionState) (i : ℕ) (its : TryAnswer) → NearAfter m (keeps_request m.seat s i its)
unfolding keeps_request
keeps_near m s i its = polls_near m (record s { requests = slice_set s.requests i s.attempt.pending; wants_turn = s.wants_turn || lacks_room its }) (i + 1)

poll_near : (m : Moment) (s : SessionState) (i : ℕ) (ask : Ask TryAnswer) (left : Option ℕ) → s.step ≡ Polls i → LeavesSo m s left → HasOwing m.seat.number m.words left s.seen.version.0 s.requests → IsAt s.requests i s.attempt.pending
    → NearAfter m (poll_ledto m.seat s i ask)
unfolding poll_ledto
poll_near m s i (Done its) left e so has at =
    let at_left : IsAt s.requests i s.attempt.pending = record { its = at.its; at = at.at; same = at.same } in
    either_near (is_finished its) m (finishes_request m.seat (poll_left s) i its) (keeps_request m.seat (poll_left s) i its) (finishes_near m (poll_left s) i its left so has at_left) (keeps_near m (poll_left s) i its)
poll_near m s i ask left e so has at = still_near m s (Polls i) e tt

turned_near : (m : Moment) (s : SessionState) (its : Told) (ask : Ask (Unit {0})) → s.step ≡ Turns its → NearAfter m (turn_ledto s its ask)
unfolding turn_ledto
turned_near m s its (Done through) e = tt
turned_near m s its ask e = still_near m s (Turns its) e tt

left_near : (m : Moment) (s : SessionState) (ask : Ask (Unit {0})) → s.step ≡ Leaves → NearAfter m (leave_ledto s ask)
unfolding leave_ledto
left_near m s (Done its) e = tt
left_near m s ask e = still_near m s Leaves e tt

-- a poll's attempt stores no such word
owing_off : (n : ℕ) (ask : Ask Told) (words : ℕ → ℕ) (left : Option ℕ) (version : ℕ) (requests : List PendingRequest) → StoresOff n ask → HasOwing n words left version requests
    → HasOwing n (λ place. stored_by ask place (words place)) left version requests
owing_off n ask words None version requests off has = tt
owing_off n ask words (Some serial) version requests off has = off_word n ask (session_place n own.Owing) (words (session_place n own.Owing)) off (owing_mark n) ∙ has

kept_at : (k : Seat) (s : SessionState) (asks reply i : ℕ) → IsAt s.requests i s.attempt.pending → IsAt s.requests i (attempt_moved k (record s { asks = asks; effect = None }) reply).attempt.pending
kept_at k s asks reply i at =
    let kept = attempt_keeps k.places (bits_of k) (room_of k) k.number s.attempt reply in
    record { its = at.its; at = at.at; same = record { name = kept.name ∙ at.same.name; op = kept.op ∙ at.same.op; version = kept.version ∙ at.same.version } }

next_near : (k : Seat) (words : ℕ → ℕ) (left : Option ℕ) (s : SessionState) (asks : ℕ) (step : Sitting) (reply : ℕ) → s.step ≡ step → k.number < k.places.sessions → StepMarks k words left s step
    → NearAfter (moment_of k (λ place. stored_by (sitting_ask k s step) place (words place)) left s) (sitting_next k (record s { asks = asks; effect = None }) step reply)
unfolding sitting_next sitting_ask
next_near k words left s asks (Idle its) reply e some marks = still_near (moment_of k (λ place. stored_by (sitting_ask k s (Idle its)) place (words place)) left s) (record s { asks = asks; effect = None }) (Idle its) e tt
next_near k words left s asks (Attempts has_shifted) reply e some marks = let t : SessionState = record s { asks = asks; effect = None } in attempt_near (moment_of k (λ place. stored_by (sitting_ask k s (Attempts has_shifted)) place (words place)) left s) (attempt_moved k t reply) has_shifted _ e
next_near k words left s asks (CatchesUp cause) reply e some marks = let t : SessionState = record s { asks = asks; effect = None } in catch_near (moment_of k (λ place. stored_by (sitting_ask k s (CatchesUp cause)) place (words place)) left s) (caught k t reply) cause _ e
next_near k words left s asks ClearsMail reply e some marks = let t : SessionState = record s { asks = asks; effect = None } in clear_near (moment_of k (λ place. stored_by (sitting_ask k s ClearsMail) place (words place)) left s) (record t { mailing = mail_next s.mailing reply }) _ e
next_near k words left s asks (Polls i) reply e some marks =
    let t : SessionState = record s { asks = asks; effect = None } in
    poll_near (moment_of k (λ place. stored_by (sitting_ask k s (Polls i)) place (words place)) left s) (attempt_moved k t reply) i _ left e (same_left s.seen.version.0 s.serial left)
    (owing_off k.number _ words left s.seen.version.0 s.requests (passed_off k.number _ told.Slept (attempt_off k.places k.number s.attempt some)) marks.0.owing) (kept_at k s asks reply i marks.1)
next_near k words left s asks (StoresOwing i) reply e some marks = polls_near (moment_of k (λ place. stored_by (sitting_ask k s (StoresOwing i)) place (words place)) left s) (record s { asks = asks; effect = None }) i
next_near k words left s asks (Turns its) reply e some marks = let t : SessionState = record s { asks = asks; effect = None } in turned_near (moment_of k (λ place. stored_by (sitting_ask k s (Turns its)) place (words place)) left s) (own_turn_moved k t reply) its _ e
next_near k words left s asks StoresCut reply e some marks = tt
next_near k words left s asks Leaves reply e some marks = let t : SessionState = record s { asks = asks; effect = None } in left_near (moment_of k (λ place. stored_by (sitting_ask k s Leaves) place (words place)) left s) (record t { leaving = leave_next s.leaving }) _ e
next_near k words left s asks LoadsDurable reply e some marks = tt

-- where nothing is replied to
same_near : (k : Seat) (words : ℕ → ℕ) (left : Option ℕ) (s : SessionState) (step : Sitting) → s.step ≡ step → StepNear k.number words left s step → NearAfter (moment_of k words left s) s
same_near k words left s step e near = still_near (moment_of k words left s) s step e (subst (λ (x : Option ℕ). StepNear k.number words x s step) (sym (same_left s.seen.version.0 s.serial left)) near)

given_near : (k : Seat) (words : ℕ → ℕ) (left : Option ℕ) (s : SessionState) (step : Sitting) (action : Action) → s.step ≡ step → StepNear k.number words left s step → NearAfter (moment_of k words left s) (sitting_given k s step action)
unfolding sitting_given
given_near k words left s (Turns its) action e near = turned_near (moment_of k words left s) (record s { own_turn = own_turn_given s.own_turn action }) its _ e
given_near k words left s (StoresOwing i) action e near = same_near k words left s (StoresOwing i) e near
given_near k words left s (Idle its) action e near = same_near k words left s (Idle its) e tt
given_near k words left s (Attempts has_shifted) action e near = same_near k words left s (Attempts has_shifted) e tt
given_near k words left s (CatchesUp cause) action e near = same_near k words left s (CatchesUp cause) e tt
given_near k words left s ClearsMail action e near = same_near k words left s ClearsMail e tt
given_near k words left s (Polls i) action e near = same_near k words left s (Polls i) e tt
given_near k words left s StoresCut action e near = same_near k words left s StoresCut e tt
given_near k words left s Leaves action e near = same_near k words left s Leaves e tt
given_near k words left s LoadsDurable action e near = same_near k words left s LoadsDurable e tt

-- a call that begins
op_near : (m : Moment) (s : SessionState) (op : Op) (why : Option Fault) → NearAfter m (op_begun m.seat s op why)
unfolding op_begun
op_near m s op (Some why) = tt
op_near m s op None = attempts_near m (record s { op = op }) false

clears_near : (m : Moment) (s : SessionState) → NearAfter m (poll_begun m.seat s)
clears_near m s = either_near s.is_orphaned m _ (polls_at m.seat s 0) tt (polls_near m s 0)

call_near : (m : Moment) (s : SessionState) (its : Call) → NearAfter m (call_begun m.seat s its)
unfolding refresh_call poll_call sleep_call wake_call
call_near m s (call.Op op) = op_near m s op (refusal_of s op)
call_near m s call.Refresh = either_near s.is_awake m _ (refuses s fault.Asleep) tt tt
call_near m s call.Poll = either_near s.is_awake m (poll_begun m.seat (record s { finished = [] })) (refuses s fault.Asleep) (clears_near m (record s { finished = [] })) tt
call_near m s call.Sleep = either_near (not s.is_awake) m (refuses s fault.Asleep) _ tt (either_near (length s.requests == 0) m (record s { step = StoresCut }) (refuses s fault.PendingLeft) tt tt)
call_near m s call.Wake = either_near s.is_awake m (refuses s fault.Awake) _ tt tt
call_near m s call.Durable = tt

begins_near : (k : Seat) (words : ℕ → ℕ) (left : Option ℕ) (s : SessionState) (its : Call) (busy : Bool) → StepNear k.number words left s s.step → NearAfter (moment_of k words left s) (begins k s busy its)
begins_near k words left s its true near = same_near k words left s s.step refl near
begins_near k words left s its false near = call_near (moment_of k words left s) (record s { asks = 0; effect = None; wants_turn = false }) its

event_near : (k : Seat) (words : ℕ → ℕ) (left : Option ℕ) (s : SessionState) (event : SessionEvent) → k.number < k.places.sessions → StepMarks k words left s s.step → StepNear k.number words left s s.step
    → StepNear k.number (λ place. stored_behind k s event place (words place)) (left_by s (session_happens k s event) left) (session_happens k s event) (session_happens k s event).step
unfolding session_happens
event_near k words left s (Begins its) some marks near = begins_near k words left s its (is_busy s.step) near
event_near k words left s (Replies reply) some marks near = next_near k words left s (asks_after s.asks (is_word_ask (session_ask k s))) s.step reply refl some marks
event_near k words left s (Gets action) some marks near = given_near k words left s s.step action refl near

opening_near : (n : ℕ) (words : ℕ → ℕ) (s : SessionState) (step : Sitting) → is_busy step ≡ false → StepNear n words None s step
opening_near n words s (Idle its) idle = tt
opening_near n words s step idle = cc

run_steps : (k : Seat) (opening : SessionState) (first : ℕ → ℕ) (events : List SessionEvent) → IsOpened opening → k.number < k.places.sessions
    → StepNear k.number (λ place. stored_last k opening first events place) (serial_left k opening events) (session_run k opening events) (session_run k opening events).step
unfolding session_run stored_last serial_left
run_steps k opening first [] opened some = opening_near k.number first opening opening.step opened.none_in_hand
run_steps k opening first (event ∷ before) opened some =
    event_near k (λ place. stored_last k opening first before place) (serial_left k opening before) (session_run k opening before) event some (run_marks k opening first before opened some) (run_steps k opening first before opened some)

-- as it is said
said_near : (n : ℕ) (words : ℕ → ℕ) (left : Option ℕ) (serial version : ℕ) (requests : List PendingRequest) → left ≡ Some serial → HasNear n words left version requests → IsOwedOrOneMore (words (session_place n own.Owing)) (owed_of version requests)
said_near n words None serial version requests e near = cc
said_near n words (Some its) serial version requests e near = near

pub run_near : (k : Seat) (opening : SessionState) (first : ℕ → ℕ) (events : List SessionEvent) (index serial : ℕ) → IsOpened opening → k.number < k.places.sessions → (session_run k opening events).step ≡ StoresOwing index
    → serial_left k opening events ≡ Some serial
    → IsOwedOrOneMore (stored_last k opening first events (session_place k.number own.Owing)) (owing (session_run k opening events).seen (session_run k opening events).requests)
run_near k opening first events index serial opened some e left =
    let s : SessionState = session_run k opening events in
    let words : ℕ → ℕ = λ place. stored_last k opening first events place in
    said_near k.number words (serial_left k opening events) serial s.seen.version.0 s.requests left
    (subst (λ (x : Sitting). StepNear k.number words (serial_left k opening events) s x) e (run_steps k opening first events opened some))
