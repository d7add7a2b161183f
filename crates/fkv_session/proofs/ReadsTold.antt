-- At every moment of a run the reads whose attempts have come to an end are those that answers tell.
use Rattle.std.proofs.Common.{◌≡◌, ℕ, ◌+◌, ◌<◌, ◌∙◌, List, [], ◌∷◌, ◌++◌, length, refl, arith, ap, sym, subst, Bool, true, false}
use Rattle.std.specs.Prelude.{slice_get, slice_set, Option, Some, None, if◌then◌else◌, not, ◌==◌, ◌||◌}
use Rattle.fkv_base.specs.declared.faults.Fault.{Fault}
use Rattle.fkv_map.specs.declared.operations.Call.{Call}
use Rattle.fkv_map.specs.declared.operations.Call.TheVariants as call
use Rattle.fkv_map.specs.declared.operations.Op.{Op}
use Rattle.fkv_map.specs.declared.operations.Reply.{Reply}
use Rattle.fkv_plane.specs.declared.actions.Action.{Action}
use Rattle.fkv_plane.specs.declared.asks.Ask.{Ask}
use Rattle.fkv_plane.specs.declared.asks.Ask.TheVariants.{Done}
use Rattle.fkv_epoch.specs.Leaving.{leave_next}
use Rattle.fkv_ops.specs.declared.answers.Reason.{Reason}
use Rattle.fkv_ops.specs.declared.answers.Reason.TheVariants as reason
use Rattle.fkv_ops.specs.declared.answers.TryAnswer.{TryAnswer}
use Rattle.fkv_ops.specs.declared.answers.TryAnswer.TheVariants as tried
use Rattle.fkv_ops.specs.Requests.{is_read}
use Rattle.fkv_pending.specs.declared.mailing.MailAnswer.{MailAnswer}
use Rattle.fkv_pending.specs.declared.mailing.MailAnswer.TheVariants.{Cleared}
use Rattle.fkv_pending.specs.declared.pending_requests.PendingRequest.{PendingRequest}
use Rattle.fkv_pending.specs.declared.pending_requests.RequestName.{RequestName}
use Rattle.fkv_pending.specs.declared.pending_requests.RequestName.TheVariants.{Update, Read}
use Rattle.fkv_pending.specs.Mailing.{mail_next}
use Rattle.fkv_session.specs.declared.answers.Finished.{Finished}
use Rattle.fkv_session.specs.declared.answers.Finished.TheVariants as finished
use Rattle.fkv_session.specs.declared.answers.Told.{Told}
use Rattle.fkv_session.specs.declared.answers.Told.TheVariants as told
use Rattle.fkv_session.specs.declared.sessions.CatchCause.{CatchCause}
use Rattle.fkv_session.specs.declared.sessions.CatchCause.TheVariants.{Refreshes, Wakes, Shifts}
use Rattle.fkv_session.specs.declared.sessions.Sitting.{Sitting}
use Rattle.fkv_session.specs.declared.sessions.Sitting.TheVariants.{Idle, Attempts, CatchesUp, ClearsMail, Polls, StoresOwing, Turns, StoresCut, Leaves, LoadsDurable}
use Rattle.fkv_session.specs.OwnTurns.{own_turn_given}
use Rattle.fkv_session.specs.Sessions.{SessionState, Seat, IsOpened, is_busy, answers, answers_after_turn, ticket_after, attempts, polls_request, polls_at, refusal_of, op_begun, refresh_call, poll_begun, poll_call, sleep_call, wake_call, call_begun, session_begun, attempt_left, poll_left, serial_taken, update_done, is_no_room, with_request, accepts, shifts, attempted, attempt_ledto, caught_up, catch_ledto, clear_ledto, finished_of, is_finished, is_owed, request_finished, lacks_room, finishes_request, keeps_request, poll_ledto, turn_ledto, leave_ledto, attempt_moved, caught, own_turn_moved, sitting_next, sitting_given, asks_after, is_word_ask, session_ask, refuses}
use Rattle.fkv_session.specs.SessionRun.{SessionEvent, Begins, Replies, Gets, begins, session_happens, session_run, Telling, telling, answered, is_calling, told_after, tellings, with_coming, in_hand}
use Rattle.fkv_session.specs.Accounts.{number_of}
use Rattle.fkv_session.specs.Reads.{ReadAnswered, with_called, with_polled, reads_replied, reads_behind, reads_ended, reads_by_poll, reads_told, AreReadsAnswered, IsAttemptOf}
use Rattle.fkv_session.specs.Replies.{op_called, serials_taken}
use Rattle.fkv_session.specs.Words.{stored_last, serial_left}
use Rattle.fkv_session.proofs.Books.{number_append}
use Rattle.fkv_session.proofs.Marked.{StepMarks}
use Rattle.fkv_session.proofs.MarkRuns.{run_marks}
use Rattle.fkv_session.proofs.Replied.{IsCallOf, KnowsCall, run_told}
use Rattle.fkv_session.proofs.Sound.{settled}

abbrev ReadsAfter : List ReadAnswered → List Telling → SessionState → Type 0
ReadsAfter ended before s = AreReadsAnswered ended (settled s.step s.finished before) (in_hand s.step s.finished)

abbrev ReadsAt : List ReadAnswered → List Telling → SessionState → Sitting → Type 0
ReadsAt ended before s step = AreReadsAnswered ended (settled step s.finished before) (in_hand step s.finished)

still_reads : (ended : List ReadAnswered) (before : List Telling) (s : SessionState) (step : Sitting) → s.step ≡ step → ReadsAt ended before s step → ReadsAfter ended before s
still_reads ended before s step e reads = subst (λ (x : Sitting). ReadsAt ended before s x) (sym e) reads

either_reads : (c : Bool) (ended : List ReadAnswered) (before : List Telling) (a b : SessionState) → ReadsAfter ended before a → ReadsAfter ended before b → ReadsAfter ended before (if c then a else b)
either_reads true ended before a b one other = one
either_reads false ended before a b one other = other

-- by the test
tested_reads : (c : Bool) (ended : List ReadAnswered) (before : List Telling) (a b : SessionState) → (c ≡ true → ReadsAfter ended before a) → (c ≡ false → ReadsAfter ended before b) → ReadsAfter ended before (if c then a else b)
tested_reads true ended before a b one other = one refl
tested_reads false ended before a b one other = other refl

turn_reads : (ended : List ReadAnswered) (before : List Telling) (s : SessionState) (its : Told) → AreReadsAnswered ended (telling its s.finished ∷ before) [] → ReadsAfter ended before (answers_after_turn s its)
turn_reads ended before s its reads = either_reads s.wants_turn ended before _ (answers s its) reads reads

-- a poll tells what it has in hand
polled_reads : (ended : List ReadAnswered) (before : List Telling) (left : ℕ) (its : List Finished) → AreReadsAnswered ended before its → AreReadsAnswered ended (telling (told.Polled left) its ∷ before) []
polled_reads ended before left its reads =
    λ such.
    let was = reads such in
    let both = number_append such (reads_by_poll its) (reads_told before) in
    omega (arith, was, both)

polls_found : (ended : List ReadAnswered) (before : List Telling) (k : Seat) (s : SessionState) (i : ℕ) (found : Option PendingRequest) → AreReadsAnswered ended before s.finished → ReadsAfter ended before (polls_request k s i found)
polls_found ended before k s i None reads = turn_reads ended before s (told.Polled (length s.requests)) (polled_reads ended before (length s.requests) s.finished reads)
polls_found ended before k s i (Some pending) reads = reads

polls_reads : (ended : List ReadAnswered) (before : List Telling) (k : Seat) (s : SessionState) (i : ℕ) → AreReadsAnswered ended before s.finished → ReadsAfter ended before (polls_at k s i)
unfolding polls_at
polls_reads ended before k s i reads = polls_found ended before k s i (slice_get s.requests i) reads

-- what an attempt at a call ends with
attempts_reads : (ended : List ReadAnswered) (before : List Telling) (k : Seat) (s : SessionState) (has_shifted : Bool) → AreReadsAnswered ended before [] → ReadsAfter ended before (attempts k s has_shifted)
unfolding attempts
attempts_reads ended before k s has_shifted reads = reads

accepts_reads : (ended : List ReadAnswered) (before : List Telling) (s : SessionState) (why : Reason) → AreReadsAnswered ended before [] → ReadsAfter ended before (accepts s why)
unfolding accepts
accepts_reads ended before s why reads =
    either_reads (is_read s.op) ended before (answers (with_request (record s { ticket = ticket_after s.ticket })) (told.PendingRead (record { 0 = ticket_after s.ticket }))) _ reads
    (turn_reads ended before (with_request (serial_taken (record s { wants_turn = is_no_room why }))) (told.Pending (record { 0 = s.serial + 1 }) why) reads)

shifts_reads : (ended : List ReadAnswered) (before : List Telling) (s : SessionState) (has_shifted : Bool) → AreReadsAnswered ended before [] → ReadsAfter ended before (shifts s has_shifted)
unfolding shifts
shifts_reads ended before s false reads = reads
shifts_reads ended before s true reads = accepts_reads ended before s reason.Contended reads

-- one more has ended, and is told
one_more : (ended : List ReadAnswered) (told : List ReadAnswered) (it : ReadAnswered) (such : ReadAnswered → Bool) → number_of such ended ≡ number_of such told + 0 → number_of such (it ∷ ended) ≡ number_of such (it ∷ told) + 0
one_more ended told it such was = omega (arith, was)

done_reads : (ended : List ReadAnswered) (before : List Telling) (s : SessionState) (reply : Reply) (c : Bool) → AreReadsAnswered ended before []
    → ReadsAfter (if c then record { ticket = None; value = None } ∷ ended else ended) before (if c then answers s told.Absent else update_done s reply)
done_reads ended before s reply true reads = λ such. one_more ended (reads_told before) (record { ticket = None; value = None }) such (reads such)
done_reads ended before s reply false reads = reads

attempted_reads : (ended : List ReadAnswered) (before : List Telling) (s : SessionState) (has_shifted : Bool) (its : TryAnswer) → AreReadsAnswered ended before [] → ReadsAfter (with_called s.op (Done its) ended) before (attempted s has_shifted its)
attempted_reads ended before s has_shifted (tried.Done reply) reads = done_reads ended before s reply (is_read s.op) reads
attempted_reads ended before s has_shifted (tried.Found value) reads = λ such. one_more ended (reads_told before) (record { ticket = None; value = Some value }) such (reads such)
attempted_reads ended before s has_shifted tried.Absent reads = λ such. one_more ended (reads_told before) (record { ticket = None; value = None }) such (reads such)
attempted_reads ended before s has_shifted (tried.Wait why) reads = accepts_reads ended before s why reads
attempted_reads ended before s has_shifted (tried.AwaitsDisk sought) reads = accepts_reads ended before s reason.Disk reads
attempted_reads ended before s has_shifted tried.Shift reads = shifts_reads ended before s has_shifted reads
attempted_reads ended before s has_shifted tried.IndexFull reads = reads
attempted_reads ended before s has_shifted tried.LogFull reads = reads

attempt_reads : (ended : List ReadAnswered) (before : List Telling) (s : SessionState) (has_shifted : Bool) (ask : Ask TryAnswer) → s.step ≡ Attempts has_shifted → AreReadsAnswered ended before []
    → ReadsAfter (with_called s.op ask ended) before (attempt_ledto s has_shifted ask)
unfolding attempt_ledto
attempt_reads ended before s has_shifted (Done its) e reads = attempted_reads ended before (attempt_left s) has_shifted its reads
attempt_reads ended before s has_shifted ask e reads = still_reads ended before s (Attempts has_shifted) e reads

caught_up_reads : (ended : List ReadAnswered) (before : List Telling) (k : Seat) (s : SessionState) (cause : CatchCause) → AreReadsAnswered ended before [] → ReadsAfter ended before (caught_up k s cause)
caught_up_reads ended before k s Refreshes reads = reads
caught_up_reads ended before k s Wakes reads = reads
caught_up_reads ended before k s Shifts reads = attempts_reads ended before k s true reads

catch_reads : (ended : List ReadAnswered) (before : List Telling) (k : Seat) (s : SessionState) (cause : CatchCause) (ask : Ask (Unit {0})) → s.step ≡ CatchesUp cause → AreReadsAnswered ended before [] → ReadsAfter ended before (catch_ledto k s cause ask)
unfolding catch_ledto
catch_reads ended before k s cause (Done its) e reads = caught_up_reads ended before k (record s { seen = s.catching.seen }) cause reads
catch_reads ended before k s cause ask e reads = still_reads ended before s (CatchesUp cause) e reads

clear_reads : (ended : List ReadAnswered) (before : List Telling) (k : Seat) (s : SessionState) (ask : Ask MailAnswer) → s.step ≡ ClearsMail → AreReadsAnswered ended before s.finished → ReadsAfter ended before (clear_ledto k s ask)
unfolding clear_ledto
clear_reads ended before k s (Done Cleared) e reads = polls_reads ended before k (record s { is_orphaned = false }) 0 reads
clear_reads ended before k s (Done its) e reads = polls_reads ended before k s 0 reads
clear_reads ended before k s ask e reads = still_reads ended before s ClearsMail e reads

-- what a poll finishes goes behind what it has in hand
reads_append : (its : List Finished) (it : Finished) → reads_by_poll (its ++ it ∷ []) ≡ reads_by_poll its ++ reads_by_poll (it ∷ [])
reads_append [] it = refl
reads_append (finished.Read ticket value ∷ rest) it = ap (λ (more : List ReadAnswered). record { ticket = Some ticket; value = value } ∷ more) (reads_append rest it)
reads_append (finished.Update serial reply ∷ rest) it = reads_append rest it

finished_one : (ended : List ReadAnswered) (before : List Telling) (its : List Finished) (it : Finished) (more : List ReadAnswered) → ((such : ReadAnswered → Bool) → number_of such more ≡ number_of such (reads_by_poll (it ∷ [])) + number_of such ended)
    → AreReadsAnswered ended before its → AreReadsAnswered more before (its ++ it ∷ [])
finished_one ended before its it more counts reads =
    λ such.
    let was = reads such in
    let count = counts such in
    let both = number_append such (reads_by_poll its) (reads_by_poll (it ∷ [])) in
    let same : number_of such (reads_by_poll (its ++ it ∷ [])) ≡ number_of such (reads_by_poll its ++ reads_by_poll (it ∷ [])) = ap (number_of such) (reads_append its it) in
    omega (arith, was, count, both, same)

polled_counts : (ended : List ReadAnswered) (name : RequestName) (its : TryAnswer) (such : ReadAnswered → Bool) → is_finished its ≡ true
    → number_of such (with_polled name (Done its) ended) ≡ number_of such (reads_by_poll (finished_of name its ∷ [])) + number_of such ended
polled_counts ended (Update serial) (tried.Done reply) such e = omega arith
polled_counts ended (Update serial) (tried.Found value) such e = omega arith
polled_counts ended (Update serial) tried.Absent such e = omega arith
polled_counts ended (Read ticket) (tried.Done reply) such e = omega arith
polled_counts ended (Read ticket) (tried.Found value) such e = omega arith
polled_counts ended (Read ticket) tried.Absent such e = omega arith
polled_counts ended name its such e = cc

-- where the request goes on waiting its attempt has come to no end
kept_so : (ended : List ReadAnswered) (name : RequestName) (its : TryAnswer) → is_finished its ≡ false → with_polled name (Done its) ended ≡ ended
kept_so ended name (tried.Done reply) e = cc
kept_so ended name (tried.Found value) e = cc
kept_so ended name tried.Absent e = cc
kept_so ended (Read ticket) its e = refl
kept_so ended (Update serial) its e = refl

finishes_reads : (ended : List ReadAnswered) (before : List Telling) (k : Seat) (s : SessionState) (i : ℕ) (its : TryAnswer) → is_finished its ≡ true → AreReadsAnswered ended before s.finished
    → ReadsAfter (with_polled s.attempt.pending.name (Done its) ended) before (finishes_request k s i its)
unfolding finishes_request
finishes_reads ended before k s i its e reads =
    let after = finished_one ended before s.finished (finished_of s.attempt.pending.name its) (with_polled s.attempt.pending.name (Done its) ended) (λ such. polled_counts ended s.attempt.pending.name its such e) reads in
    either_reads (is_owed s) (with_polled s.attempt.pending.name (Done its) ended) before (request_finished s i its) (polls_at k (request_finished s i its) i) after
    (polls_reads (with_polled s.attempt.pending.name (Done its) ended) before k (request_finished s i its) i after)

keeps_reads : (ended : List ReadAnswered) (before : List Telling) (k : Seat) (s : SessionState) (i : ℕ) (its : TryAnswer) → AreReadsAnswered ended before s.finished → ReadsAfter ended before (keeps_request k s i its)
unfolding keeps_request
keeps_reads ended before k s i its reads = polls_reads ended before k (record s { requests = slice_set s.requests i s.attempt.pending; wants_turn = s.wants_turn || lacks_room its }) (i + 1) reads

poll_reads : (ended : List ReadAnswered) (before : List Telling) (k : Seat) (s : SessionState) (i : ℕ) (ask : Ask TryAnswer) → s.step ≡ Polls i → AreReadsAnswered ended before s.finished
    → ReadsAfter (with_polled s.attempt.pending.name ask ended) before (poll_ledto k s i ask)
unfolding poll_ledto
poll_reads ended before k s i (Done its) e reads =
    tested_reads (is_finished its) (with_polled s.attempt.pending.name (Done its) ended) before (finishes_request k (poll_left s) i its) (keeps_request k (poll_left s) i its)
    (λ ends. finishes_reads ended before k (poll_left s) i its ends reads)
    (λ waits. subst (λ (x : List ReadAnswered). ReadsAfter x before (keeps_request k (poll_left s) i its)) (sym (kept_so ended s.attempt.pending.name its waits)) (keeps_reads ended before k (poll_left s) i its reads))
poll_reads ended before k s i ask e reads = under_way s.attempt.pending.name
  where
    under_way : (name : RequestName) → ReadsAfter (with_polled name ask ended) before s
    under_way (Read ticket) = still_reads ended before s (Polls i) e reads
    under_way (Update serial) = still_reads ended before s (Polls i) e reads

turned_reads : (ended : List ReadAnswered) (before : List Telling) (s : SessionState) (its : Told) (ask : Ask (Unit {0})) → s.step ≡ Turns its → AreReadsAnswered ended (telling its s.finished ∷ before) [] → ReadsAfter ended before (turn_ledto s its ask)
unfolding turn_ledto
turned_reads ended before s its (Done through) e reads = reads
turned_reads ended before s its ask e reads = still_reads ended before s (Turns its) e reads

left_reads : (ended : List ReadAnswered) (before : List Telling) (s : SessionState) (ask : Ask (Unit {0})) → s.step ≡ Leaves → AreReadsAnswered ended before [] → ReadsAfter ended before (leave_ledto s ask)
unfolding leave_ledto
left_reads ended before s (Done its) e reads = reads
left_reads ended before s ask e reads = still_reads ended before s Leaves e reads

abbrev ReadsNow : List ReadAnswered → List Telling → SessionState → Sitting → Type 0
ReadsNow ended before s step = AreReadsAnswered ended (with_coming step s.finished before) (in_hand step s.finished)

next_reads : (ended : List ReadAnswered) (before : List Telling) (k : Seat) (s : SessionState) (step : Sitting) (reply : ℕ) → s.step ≡ step → is_busy step ≡ true → ReadsNow ended before s step
    → ReadsAfter (reads_replied k s step reply ended) before (sitting_next k s step reply)
unfolding sitting_next
next_reads ended before k s (Idle its) reply e busy reads = cc
next_reads ended before k s (Attempts has_shifted) reply e busy reads = attempt_reads ended before (attempt_moved k s reply) has_shifted _ e reads
next_reads ended before k s (CatchesUp cause) reply e busy reads = catch_reads ended before k (caught k s reply) cause _ e reads
next_reads ended before k s ClearsMail reply e busy reads = clear_reads ended before k (record s { mailing = mail_next s.mailing reply }) _ e reads
next_reads ended before k s (Polls i) reply e busy reads = poll_reads ended before k (attempt_moved k s reply) i _ e reads
next_reads ended before k s (StoresOwing i) reply e busy reads = polls_reads ended before k s i reads
next_reads ended before k s (Turns its) reply e busy reads = turned_reads ended before (own_turn_moved k s reply) its _ e reads
next_reads ended before k s StoresCut reply e busy reads = reads
next_reads ended before k s Leaves reply e busy reads = left_reads ended before (record s { leaving = leave_next s.leaving }) _ e reads
next_reads ended before k s LoadsDurable reply e busy reads = reads

given_reads : (ended : List ReadAnswered) (before : List Telling) (k : Seat) (s : SessionState) (step : Sitting) (action : Action) → s.step ≡ step → is_busy step ≡ true → ReadsNow ended before s step → ReadsAfter ended before (sitting_given k s step action)
unfolding sitting_given
given_reads ended before k s (Idle its) action e busy reads = cc
given_reads ended before k s (Turns its) action e busy reads = turned_reads ended before (record s { own_turn = own_turn_given s.own_turn action }) its _ e reads
given_reads ended before k s (Attempts has_shifted) action e busy reads = still_reads ended before s (Attempts has_shifted) e reads
given_reads ended before k s (CatchesUp cause) action e busy reads = still_reads ended before s (CatchesUp cause) e reads
given_reads ended before k s ClearsMail action e busy reads = still_reads ended before s ClearsMail e reads
given_reads ended before k s (Polls i) action e busy reads = still_reads ended before s (Polls i) e reads
given_reads ended before k s (StoresOwing i) action e busy reads = still_reads ended before s (StoresOwing i) e reads
given_reads ended before k s StoresCut action e busy reads = still_reads ended before s StoresCut e reads
given_reads ended before k s Leaves action e busy reads = still_reads ended before s Leaves e reads
given_reads ended before k s LoadsDurable action e busy reads = still_reads ended before s LoadsDurable e reads

-- a call that begins
op_reads : (ended : List ReadAnswered) (before : List Telling) (k : Seat) (s : SessionState) (op : Op) (why : Option Fault) → AreReadsAnswered ended before [] → ReadsAfter ended before (op_begun k s op why)
unfolding op_begun
op_reads ended before k s op (Some why) reads = reads
op_reads ended before k s op None reads = attempts_reads ended before k (record s { op = op }) false reads

clears_reads : (ended : List ReadAnswered) (before : List Telling) (k : Seat) (s : SessionState) → AreReadsAnswered ended before s.finished → ReadsAfter ended before (poll_begun k s)
clears_reads ended before k s reads = either_reads s.is_orphaned ended before _ (polls_at k s 0) reads (polls_reads ended before k s 0 reads)

call_reads : (ended : List ReadAnswered) (before : List Telling) (k : Seat) (s : SessionState) (its : Call) → AreReadsAnswered ended before [] → ReadsAfter ended before (call_begun k s its)
unfolding refresh_call poll_call sleep_call wake_call
call_reads ended before k s (call.Op op) reads = op_reads ended before k s op (refusal_of s op) reads
call_reads ended before k s call.Refresh reads = either_reads s.is_awake ended before _ (refuses s _) reads reads
call_reads ended before k s call.Poll reads = either_reads s.is_awake ended before _ (refuses s _) (clears_reads ended before k (record s { finished = [] }) reads) reads
call_reads ended before k s call.Sleep reads = either_reads (not s.is_awake) ended before (refuses s _) _ reads (either_reads (length s.requests == 0) ended before (record s { step = StoresCut }) (refuses s _) reads reads)
call_reads ended before k s call.Wake reads = either_reads s.is_awake ended before (refuses s _) _ reads reads
call_reads ended before k s call.Durable reads = reads

-- the answers behind an event, with the one that is coming, are those that have settled
settles : (step : Sitting) (finished : List Finished) (before : List Telling) → with_coming step finished (answered step finished before) ≡ settled step finished before
settles (Idle its) finished before = refl
settles (Turns its) finished before = refl
settles step finished before = refl

after_reads : (ended : List ReadAnswered) (before : List Telling) (s : SessionState) → ReadsAfter ended before s → ReadsNow ended (answered s.step s.finished before) s s.step
after_reads ended before s reads = subst (λ (all : List Telling). AreReadsAnswered ended all (in_hand s.step s.finished)) (sym (settles s.step s.finished before)) reads

idle_reads : (ended : List ReadAnswered) (before : List Telling) (s : SessionState) (step : Sitting) → is_busy step ≡ false → ReadsNow ended before s step → AreReadsAnswered ended before []
idle_reads ended before s (Idle its) idle reads = reads
idle_reads ended before s step idle reads = cc

begins_reads : (ended : List ReadAnswered) (before : List Telling) (k : Seat) (s : SessionState) (its : Call) (busy : Bool) → is_busy s.step ≡ busy → ReadsNow ended before s s.step
    → ReadsNow ended (told_after (if busy then false else true) (begins k s busy its) before) (begins k s busy its) (begins k s busy its).step
begins_reads ended before k s its true e reads = reads
begins_reads ended before k s its false e reads = after_reads ended before (session_begun k s its) (call_reads ended before k (record s { asks = 0; effect = None; wants_turn = false }) its (idle_reads ended before s s.step e reads))

next_now : (ended : List ReadAnswered) (before : List Telling) (k : Seat) (s : SessionState) (step : Sitting) (reply : ℕ) (busy : Bool) → s.step ≡ step → is_busy step ≡ busy → ReadsNow ended before s step
    → ReadsNow (reads_replied k s step reply ended) (told_after busy (sitting_next k s step reply) before) (sitting_next k s step reply) (sitting_next k s step reply).step
unfolding sitting_next
next_now ended before k s step reply true e busy reads = after_reads (reads_replied k s step reply ended) before (sitting_next k s step reply) (next_reads ended before k s step reply e busy reads)
next_now ended before k s (Idle its) reply false e busy reads = subst (λ (x : Sitting). ReadsNow ended before s x) (sym e) reads
next_now ended before k s step reply false e busy reads = cc

given_now : (ended : List ReadAnswered) (before : List Telling) (k : Seat) (s : SessionState) (step : Sitting) (action : Action) (busy : Bool) → s.step ≡ step → is_busy step ≡ busy → ReadsNow ended before s step
    → ReadsNow ended (told_after busy (sitting_given k s step action) before) (sitting_given k s step action) (sitting_given k s step action).step
unfolding sitting_given
given_now ended before k s step action true e busy reads = after_reads ended before (sitting_given k s step action) (given_reads ended before k s step action e busy reads)
given_now ended before k s (Idle its) action false e busy reads = subst (λ (x : Sitting). ReadsNow ended before s x) (sym e) reads
given_now ended before k s step action false e busy reads = cc

event_reads : (ended : List ReadAnswered) (before : List Telling) (k : Seat) (s : SessionState) (event : SessionEvent) → ReadsNow ended before s s.step
    → ReadsNow (reads_behind k s event ended) (told_after (is_calling s event) (session_happens k s event) before) (session_happens k s event) (session_happens k s event).step
unfolding session_happens
event_reads ended before k s (Begins its) reads = begins_reads ended before k s its (is_busy s.step) refl reads
event_reads ended before k s (Replies reply) reads =
    next_now ended before k (record s { asks = asks_after s.asks (is_word_ask (session_ask k s)); effect = None }) s.step reply (is_busy s.step) refl refl reads
event_reads ended before k s (Gets action) reads = given_now ended before k s s.step action (is_busy s.step) refl refl reads

opening_reads : (s : SessionState) (step : Sitting) → is_busy step ≡ false → ReadsNow [] [] s step
opening_reads s (Idle its) idle = λ such. refl
opening_reads s step idle = cc

-- at every moment of a run
pub run_reads : (k : Seat) (opening : SessionState) (events : List SessionEvent) → IsOpened opening
    → ReadsNow (reads_ended k opening events) (tellings k opening events) (session_run k opening events) (session_run k opening events).step
unfolding session_run tellings reads_ended
run_reads k opening [] opened = opening_reads opening opening.step opened.none_in_hand
run_reads k opening (event ∷ before) opened = event_reads (reads_ended k opening before) (tellings k opening before) k (session_run k opening before) event (run_reads k opening before opened)

-- what is attempted
called_so : (called : Option Op) (s : SessionState) → IsCallOf called s → called ≡ Some s.attempt.pending.request.op
called_so called s its = its.called_so ∙ ap Some (sym its.op)

pub run_called : (k : Seat) (opening : SessionState) (events : List SessionEvent) (has_shifted : Bool) → IsOpened opening → (session_run k opening events).step ≡ Attempts has_shifted
    → op_called k opening events ≡ Some (session_run k opening events).attempt.pending.request.op
run_called k opening events has_shifted opened e =
    let s : SessionState = session_run k opening events in
    called_so (op_called k opening events) s (subst (λ (x : Sitting). KnowsCall (serials_taken k opening events) (op_called k opening events) s x) e (run_told k opening events opened).knows)

pub run_attempted : (k : Seat) (opening : SessionState) (events : List SessionEvent) (index : ℕ) → IsOpened opening → k.number < k.places.sessions → (session_run k opening events).step ≡ Polls index
    → IsAttemptOf (session_run k opening events).requests index (session_run k opening events).attempt.pending
run_attempted k opening events index opened some e =
    let s : SessionState = session_run k opening events in
    let words : ℕ → ℕ = λ place. stored_last k opening (λ x. 0) events place in
    let marks : StepMarks k words (serial_left k opening events) s (Polls index) = subst (λ (x : Sitting). StepMarks k words (serial_left k opening events) s x) e (run_marks k opening (λ x. 0) events opened some) in
    record { its = marks.1.its; at = marks.1.at; name = marks.1.same.name; op = marks.1.same.op }
