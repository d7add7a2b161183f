-- At every moment of a run the tickets that answers gave follow on one another, and the session's is the last of them.
use Rattle.std.proofs.Common.{◌≡◌, ℕ, ◌+◌, ◌≤◌, List, [], ◌∷◌, length, refl, arith, sym, subst, inl, inr, Bool, true, false}
use Rattle.std.specs.Prelude.{slice_get, Option, Some, None, if◌then◌else◌, not, ◌==◌, ◌^◌, ◌-◌}
use Rattle.std.proofs.lemmas.Bool.Decides.{nat_tests}
use Rattle.fkv_base.specs.declared.faults.Fault.{Fault}
use Rattle.fkv_map.specs.declared.operations.Call.{Call}
use Rattle.fkv_map.specs.declared.operations.Call.TheVariants as call
use Rattle.fkv_map.specs.declared.operations.Op.{Op}
use Rattle.fkv_plane.specs.declared.actions.Action.{Action}
use Rattle.fkv_plane.specs.declared.asks.Ask.{Ask}
use Rattle.fkv_plane.specs.declared.asks.Ask.TheVariants.{Done}
use Rattle.fkv_epoch.specs.Leaving.{leave_next}
use Rattle.fkv_ops.specs.declared.answers.Reason.{Reason}
use Rattle.fkv_ops.specs.declared.answers.Reason.TheVariants as reason
use Rattle.fkv_ops.specs.declared.answers.TryAnswer.{TryAnswer}
use Rattle.fkv_ops.specs.declared.answers.TryAnswer.TheVariants as tried
use Rattle.fkv_ops.specs.Requests.{is_read}
use Rattle.fkv_pending.specs.declared.mailing.MailAnswer.{MailAnswer}
use Rattle.fkv_pending.specs.declared.mailing.MailAnswer.TheVariants.{Cleared}
use Rattle.fkv_pending.specs.declared.pending_requests.PendingRequest.{PendingRequest}
use Rattle.fkv_pending.specs.Mailing.{mail_next}
use Rattle.fkv_session.specs.declared.answers.Finished.{Finished}
use Rattle.fkv_session.specs.declared.answers.Told.{Told}
use Rattle.fkv_session.specs.declared.answers.Told.TheVariants as told
use Rattle.fkv_session.specs.declared.sessions.CatchCause.{CatchCause}
use Rattle.fkv_session.specs.declared.sessions.CatchCause.TheVariants.{Refreshes, Wakes, Shifts}
use Rattle.fkv_session.specs.declared.sessions.Sitting.{Sitting}
use Rattle.fkv_session.specs.declared.sessions.Sitting.TheVariants.{Idle, Attempts, CatchesUp, ClearsMail, Polls, StoresOwing, Turns, StoresCut, Leaves, LoadsDurable}
use Rattle.fkv_session.specs.OwnTurns.{own_turn_given}
use Rattle.fkv_session.specs.Sessions.{SessionState, Seat, is_busy, answers, answers_after_turn, ticket_after, attempts, polls_request, polls_at, refusal_of, op_begun, refresh_call, poll_begun, poll_call, sleep_call, wake_call, call_begun, session_begun, attempt_left, poll_left, serial_taken, update_done, is_no_room, with_request, accepts, shifts, attempted, attempt_ledto, caught_up, catch_ledto, clear_ledto, is_finished, is_owed, request_finished, finishes_request, keeps_request, poll_ledto, turn_ledto, leave_ledto, attempt_moved, caught, own_turn_moved, sitting_next, sitting_given, asks_after, is_word_ask, session_ask, IsOpened}
use Rattle.fkv_session.specs.SessionRun.{SessionEvent, Begins, Replies, Gets, begins, session_happens, session_run, Telling, telling, answered, is_calling, told_after, tellings, with_coming}
use Rattle.fkv_session.specs.Tickets.{tickets_given, newest_ticket, ComesBehind, ComeInTurn, AreTicketsInTurn}

-- the answers with the one that this state gives or has coming
abbrev settled : Sitting → List Finished → List Telling → List Telling
settled (Idle its) finished before = telling its finished ∷ before
settled (Turns its) finished before = telling its finished ∷ before
settled step finished before = before

abbrev IsInTurnAfter : List Telling → SessionState → Type 0
IsInTurnAfter before s = AreTicketsInTurn s.ticket (settled s.step s.finished before)

still : (before : List Telling) (s : SessionState) (step : Sitting) → s.step ≡ step → AreTicketsInTurn s.ticket (settled step s.finished before) → IsInTurnAfter before s
still before s step e held = subst (λ (x : Sitting). AreTicketsInTurn s.ticket (settled x s.finished before)) (sym e) held

either_held : (c : Bool) (before : List Telling) (a b : SessionState) → IsInTurnAfter before a → IsInTurnAfter before b → IsInTurnAfter before (if c then a else b)
either_held true before a b one other = one
either_held false before a b one other = other

-- an answer that gives no ticket
abbrev IsPlain : Told → Type 0
IsPlain (told.PendingRead ticket) = ⊥
IsPlain its = Unit {0}

plain_books : (ticket : ℕ) (before : List Telling) (its : Told) (finished : List Finished) → IsPlain its → AreTicketsInTurn ticket before → AreTicketsInTurn ticket (telling its finished ∷ before)
plain_books ticket before (told.PendingRead its) finished plain books = absurd plain
plain_books ticket before (told.Done n its) finished plain books = record { in_turn = books.in_turn; newest = books.newest }
plain_books ticket before (told.Pending n why) finished plain books = record { in_turn = books.in_turn; newest = books.newest }
plain_books ticket before (told.Polled left) finished plain books = record { in_turn = books.in_turn; newest = books.newest }
plain_books ticket before (told.Found value) finished plain books = record { in_turn = books.in_turn; newest = books.newest }
plain_books ticket before told.Absent finished plain books = record { in_turn = books.in_turn; newest = books.newest }
plain_books ticket before (told.Refreshed phase version) finished plain books = record { in_turn = books.in_turn; newest = books.newest }
plain_books ticket before (told.Woken phase version) finished plain books = record { in_turn = books.in_turn; newest = books.newest }
plain_books ticket before told.Slept finished plain books = record { in_turn = books.in_turn; newest = books.newest }
plain_books ticket before (told.Durable n) finished plain books = record { in_turn = books.in_turn; newest = books.newest }
plain_books ticket before (told.Refused why) finished plain books = record { in_turn = books.in_turn; newest = books.newest }

-- a ticket is a word
newest_fits : (tickets : List ℕ) → ComeInTurn tickets → newest_ticket tickets ≤ 2 ^ 64 - 1
newest_fits [] turn = omega arith
newest_fits (ticket ∷ before) (inl one, rest) = let (less, same) = one in omega (arith, less, same)
newest_fits (ticket ∷ before) (inr again, rest) = let same = again.1 in omega (arith, same)

next_comes : (ticket : ℕ) → ticket ≤ 2 ^ 64 - 1 → ComesBehind ticket (ticket_after ticket)
next_comes ticket fits = tested (ticket == 2 ^ 64 - 1) refl
  where
    tested : (c : Bool) → (ticket == 2 ^ 64 - 1) ≡ c → ComesBehind ticket (if c then 1 else ticket + 1)
    tested true e = inr (grind (arith, nat_tests, e), refl)
    tested false e = inl (grind (arith, nat_tests, e, fits), refl)

read_books : (ticket : ℕ) (before : List Telling) (finished : List Finished) → AreTicketsInTurn ticket before → AreTicketsInTurn (ticket_after ticket) (telling (told.PendingRead (record { 0 = ticket_after ticket })) finished ∷ before)
read_books ticket before finished books =
    let fits = newest_fits (tickets_given before) books.in_turn in
    let newest = books.newest in
    record {
      in_turn = (subst (λ (last : ℕ). ComesBehind last (ticket_after ticket)) newest (next_comes ticket (omega (arith, fits, newest))), books.in_turn);
      newest = refl;
    }

-- answers
plain_held : (before : List Telling) (s : SessionState) (its : Told) → IsPlain its → AreTicketsInTurn s.ticket before → IsInTurnAfter before (answers s its)
plain_held before s its plain books = plain_books s.ticket before its s.finished plain books

turn_held : (before : List Telling) (s : SessionState) (its : Told) → IsPlain its → AreTicketsInTurn s.ticket before → IsInTurnAfter before (answers_after_turn s its)
turn_held before s its plain books = let all = plain_books s.ticket before its s.finished plain books in either_held s.wants_turn before _ (answers s its) all all

attempts_held : (before : List Telling) (k : Seat) (s : SessionState) (has_shifted : Bool) → AreTicketsInTurn s.ticket before → IsInTurnAfter before (attempts k s has_shifted)
unfolding attempts
attempts_held before k s has_shifted books = books

polls_found : (before : List Telling) (k : Seat) (s : SessionState) (i : ℕ) (found : Option PendingRequest) → AreTicketsInTurn s.ticket before → IsInTurnAfter before (polls_request k s i found)
polls_found before k s i None books = turn_held before s (told.Polled (length s.requests)) tt books
polls_found before k s i (Some pending) books = books

polls_held : (before : List Telling) (k : Seat) (s : SessionState) (i : ℕ) → AreTicketsInTurn s.ticket before → IsInTurnAfter before (polls_at k s i)
unfolding polls_at
polls_held before k s i books = polls_found before k s i (slice_get s.requests i) books

accepts_held : (before : List Telling) (s : SessionState) (why : Reason) → AreTicketsInTurn s.ticket before → IsInTurnAfter before (accepts s why)
unfolding accepts
accepts_held before s why books =
    either_held (is_read s.op) before (answers (with_request (record s { ticket = ticket_after s.ticket })) (told.PendingRead (record { 0 = ticket_after s.ticket }))) _
    (read_books s.ticket before s.finished books)
    (turn_held before (with_request (serial_taken (record s { wants_turn = is_no_room why }))) (told.Pending (record { 0 = s.serial + 1 }) why) tt books)

shifts_held : (before : List Telling) (s : SessionState) (has_shifted : Bool) → AreTicketsInTurn s.ticket before → IsInTurnAfter before (shifts s has_shifted)
unfolding shifts
shifts_held before s false books = books
shifts_held before s true books = accepts_held before s reason.Contended books

attempted_held : (before : List Telling) (s : SessionState) (has_shifted : Bool) (its : TryAnswer) → AreTicketsInTurn s.ticket before → IsInTurnAfter before (attempted s has_shifted its)
attempted_held before s has_shifted (tried.Done reply) books = either_held (is_read s.op) before (answers s told.Absent) (update_done s reply) (plain_held before s told.Absent tt books) (plain_held before (serial_taken s) _ tt books)
attempted_held before s has_shifted (tried.Found value) books = plain_held before s (told.Found value) tt books
attempted_held before s has_shifted tried.Absent books = plain_held before s told.Absent tt books
attempted_held before s has_shifted (tried.Wait why) books = accepts_held before s why books
attempted_held before s has_shifted (tried.AwaitsDisk sought) books = accepts_held before s reason.Disk books
attempted_held before s has_shifted tried.Shift books = shifts_held before s has_shifted books
attempted_held before s has_shifted tried.IndexFull books = plain_held before s _ tt books
attempted_held before s has_shifted tried.LogFull books = plain_held before s _ tt books

attempt_held : (before : List Telling) (s : SessionState) (has_shifted : Bool) (ask : Ask TryAnswer) → s.step ≡ Attempts has_shifted → AreTicketsInTurn s.ticket before → IsInTurnAfter before (attempt_ledto s has_shifted ask)
unfolding attempt_ledto
attempt_held before s has_shifted (Done its) e books = attempted_held before (attempt_left s) has_shifted its books
attempt_held before s has_shifted ask e books = still before s (Attempts has_shifted) e books

caught_up_held : (before : List Telling) (k : Seat) (s : SessionState) (cause : CatchCause) → AreTicketsInTurn s.ticket before → IsInTurnAfter before (caught_up k s cause)
caught_up_held before k s Refreshes books = plain_held before s _ tt books
caught_up_held before k s Wakes books = plain_held before (record s { is_awake = true }) _ tt books
caught_up_held before k s Shifts books = attempts_held before k s true books

catch_held : (before : List Telling) (k : Seat) (s : SessionState) (cause : CatchCause) (ask : Ask (Unit {0})) → s.step ≡ CatchesUp cause → AreTicketsInTurn s.ticket before → IsInTurnAfter before (catch_ledto k s cause ask)
unfolding catch_ledto
catch_held before k s cause (Done its) e books = caught_up_held before k (record s { seen = s.catching.seen }) cause books
catch_held before k s cause ask e books = still before s (CatchesUp cause) e books

clear_held : (before : List Telling) (k : Seat) (s : SessionState) (ask : Ask MailAnswer) → s.step ≡ ClearsMail → AreTicketsInTurn s.ticket before → IsInTurnAfter before (clear_ledto k s ask)
unfolding clear_ledto
clear_held before k s (Done Cleared) e books = polls_held before k (record s { is_orphaned = false }) 0 books
clear_held before k s (Done its) e books = polls_held before k s 0 books
clear_held before k s ask e books = still before s ClearsMail e books

finishes_held : (before : List Telling) (k : Seat) (s : SessionState) (i : ℕ) (its : TryAnswer) → AreTicketsInTurn s.ticket before → IsInTurnAfter before (finishes_request k s i its)
unfolding finishes_request
finishes_held before k s i its books = either_held (is_owed s) before (request_finished s i its) (polls_at k (request_finished s i its) i) books (polls_held before k (request_finished s i its) i books)

keeps_held : (before : List Telling) (k : Seat) (s : SessionState) (i : ℕ) (its : TryAnswer) → AreTicketsInTurn s.ticket before → IsInTurnAfter before (keeps_request k s i its)
unfolding keeps_request
keeps_held before k s i its books = polls_held before k _ (i + 1) books

poll_held : (before : List Telling) (k : Seat) (s : SessionState) (i : ℕ) (ask : Ask TryAnswer) → s.step ≡ Polls i → AreTicketsInTurn s.ticket before → IsInTurnAfter before (poll_ledto k s i ask)
unfolding poll_ledto
poll_held before k s i (Done its) e books = either_held (is_finished its) before _ (keeps_request k (poll_left s) i its) (finishes_held before k (poll_left s) i its books) (keeps_held before k (poll_left s) i its books)
poll_held before k s i ask e books = still before s (Polls i) e books

turned_held : (before : List Telling) (s : SessionState) (its : Told) (ask : Ask (Unit {0})) → s.step ≡ Turns its → AreTicketsInTurn s.ticket (telling its s.finished ∷ before) → IsInTurnAfter before (turn_ledto s its ask)
unfolding turn_ledto
turned_held before s its (Done through) e books = books
turned_held before s its ask e books = still before s (Turns its) e books

left_held : (before : List Telling) (s : SessionState) (ask : Ask (Unit {0})) → s.step ≡ Leaves → AreTicketsInTurn s.ticket before → IsInTurnAfter before (leave_ledto s ask)
unfolding leave_ledto
left_held before s (Done its) e books = plain_held before (record s { is_awake = false }) told.Slept tt books
left_held before s ask e books = still before s Leaves e books

next_held : (before : List Telling) (k : Seat) (s : SessionState) (step : Sitting) (reply : ℕ) → s.step ≡ step → is_busy step ≡ true → AreTicketsInTurn s.ticket (with_coming step s.finished before) → IsInTurnAfter before (sitting_next k s step reply)
unfolding sitting_next
next_held before k s (Idle its) reply e busy books = cc
next_held before k s (Attempts has_shifted) reply e busy books = attempt_held before (attempt_moved k s reply) has_shifted _ e books
next_held before k s (CatchesUp cause) reply e busy books = catch_held before k (caught k s reply) cause _ e books
next_held before k s ClearsMail reply e busy books = clear_held before k (record s { mailing = mail_next s.mailing reply }) _ e books
next_held before k s (Polls i) reply e busy books = poll_held before k (attempt_moved k s reply) i _ e books
next_held before k s (StoresOwing i) reply e busy books = polls_held before k s i books
next_held before k s (Turns its) reply e busy books = turned_held before (own_turn_moved k s reply) its _ e books
next_held before k s StoresCut reply e busy books = books
next_held before k s Leaves reply e busy books = left_held before (record s { leaving = leave_next s.leaving }) _ e books
next_held before k s LoadsDurable reply e busy books = plain_held before s _ tt books

given_held : (before : List Telling) (k : Seat) (s : SessionState) (step : Sitting) (action : Action) → s.step ≡ step → is_busy step ≡ true → AreTicketsInTurn s.ticket (with_coming step s.finished before) → IsInTurnAfter before (sitting_given k s step action)
unfolding sitting_given
given_held before k s (Idle its) action e busy books = cc
given_held before k s (Turns its) action e busy books = turned_held before (record s { own_turn = own_turn_given s.own_turn action }) its _ e books
given_held before k s (Attempts has_shifted) action e busy books = still before s (Attempts has_shifted) e books
given_held before k s (CatchesUp cause) action e busy books = still before s (CatchesUp cause) e books
given_held before k s ClearsMail action e busy books = still before s ClearsMail e books
given_held before k s (Polls i) action e busy books = still before s (Polls i) e books
given_held before k s (StoresOwing i) action e busy books = still before s (StoresOwing i) e books
given_held before k s StoresCut action e busy books = still before s StoresCut e books
given_held before k s Leaves action e busy books = still before s Leaves e books
given_held before k s LoadsDurable action e busy books = still before s LoadsDurable e books

-- a call that begins
op_held : (before : List Telling) (k : Seat) (s : SessionState) (op : Op) (why : Option Fault) → AreTicketsInTurn s.ticket before → IsInTurnAfter before (op_begun k s op why)
unfolding op_begun
op_held before k s op (Some why) books = plain_held before s _ tt books
op_held before k s op None books = attempts_held before k (record s { op = op }) false books

clears_held : (before : List Telling) (k : Seat) (s : SessionState) → AreTicketsInTurn s.ticket before → IsInTurnAfter before (poll_begun k s)
clears_held before k s books = either_held s.is_orphaned before _ (polls_at k s 0) books (polls_held before k s 0 books)

call_held : (before : List Telling) (k : Seat) (s : SessionState) (its : Call) → AreTicketsInTurn s.ticket before → IsInTurnAfter before (call_begun k s its)
unfolding refresh_call poll_call sleep_call wake_call
call_held before k s (call.Op op) books = op_held before k s op (refusal_of s op) books
call_held before k s call.Refresh books = either_held s.is_awake before _ _ books (plain_held before s _ tt books)
call_held before k s call.Poll books = either_held s.is_awake before _ _ (clears_held before k (record s { finished = [] }) books) (plain_held before s _ tt books)
call_held before k s call.Sleep books = either_held (not s.is_awake) before _ _ (plain_held before s _ tt books) (either_held (length s.requests == 0) before _ _ books (plain_held before s _ tt books))
call_held before k s call.Wake books = either_held s.is_awake before _ _ (plain_held before s _ tt books) books
call_held before k s call.Durable books = books

idle_coming : (step : Sitting) (finished : List Finished) (before : List Telling) → is_busy step ≡ false → with_coming step finished before ≡ before
idle_coming (Idle its) finished before idle = refl
idle_coming step finished before idle = cc

-- the answers behind an event, with the one that is coming, are those that have settled
settles : (step : Sitting) (finished : List Finished) (before : List Telling) → with_coming step finished (answered step finished before) ≡ settled step finished before
settles (Idle its) finished before = refl
settles (Turns its) finished before = refl
settles step finished before = refl

abbrev Holds : List Telling → SessionState → Type 0
Holds before s = AreTicketsInTurn s.ticket (with_coming s.step s.finished before)

after_holds : (before : List Telling) (s : SessionState) → IsInTurnAfter before s → Holds (answered s.step s.finished before) s
after_holds before s held = subst (λ (all : List Telling). AreTicketsInTurn s.ticket all) (sym (settles s.step s.finished before)) held

begins_holds : (before : List Telling) (k : Seat) (s : SessionState) (its : Call) (busy : Bool) → is_busy s.step ≡ busy → Holds before s → Holds (told_after (if busy then false else true) (begins k s busy its) before) (begins k s busy its)
begins_holds before k s its true e held = held
begins_holds before k s its false e held =
    let books = subst (λ (all : List Telling). AreTicketsInTurn s.ticket all) (idle_coming s.step s.finished before e) held in
    after_holds before (session_begun k s its) (call_held before k (record s { asks = 0; effect = None; wants_turn = false }) its books)

next_holds : (before : List Telling) (k : Seat) (s : SessionState) (step : Sitting) (reply : ℕ) (busy : Bool) → s.step ≡ step → is_busy step ≡ busy → AreTicketsInTurn s.ticket (with_coming step s.finished before)
    → Holds (told_after busy (sitting_next k s step reply) before) (sitting_next k s step reply)
unfolding sitting_next
next_holds before k s step reply true e busy held = after_holds before (sitting_next k s step reply) (next_held before k s step reply e busy held)
next_holds before k s (Idle its) reply false e busy held = subst (λ (x : Sitting). AreTicketsInTurn s.ticket (with_coming x s.finished before)) (sym e) held
next_holds before k s step reply false e busy held = cc

given_holds : (before : List Telling) (k : Seat) (s : SessionState) (step : Sitting) (action : Action) (busy : Bool) → s.step ≡ step → is_busy step ≡ busy → AreTicketsInTurn s.ticket (with_coming step s.finished before)
    → Holds (told_after busy (sitting_given k s step action) before) (sitting_given k s step action)
unfolding sitting_given
given_holds before k s step action true e busy held = after_holds before (sitting_given k s step action) (given_held before k s step action e busy held)
given_holds before k s (Idle its) action false e busy held = subst (λ (x : Sitting). AreTicketsInTurn s.ticket (with_coming x s.finished before)) (sym e) held
given_holds before k s step action false e busy held = cc

event_holds : (before : List Telling) (k : Seat) (s : SessionState) (event : SessionEvent) → Holds before s → Holds (told_after (is_calling s event) (session_happens k s event) before) (session_happens k s event)
unfolding session_happens
event_holds before k s (Begins its) held = begins_holds before k s its (is_busy s.step) refl held
event_holds before k s (Replies reply) held = next_holds before k (record s { asks = asks_after s.asks (is_word_ask (session_ask k s)); effect = None }) s.step reply (is_busy s.step) refl refl held
event_holds before k s (Gets action) held = given_holds before k s s.step action (is_busy s.step) refl refl held

opening_holds : (s : SessionState) (step : Sitting) → is_busy step ≡ false → s.ticket ≡ 0 → AreTicketsInTurn s.ticket (with_coming step s.finished [])
opening_holds s (Idle its) idle none = record { in_turn = tt; newest = none }
opening_holds s step idle none = cc

-- at every moment of a run
pub run_tickets : (k : Seat) (opening : SessionState) (events : List SessionEvent) → IsOpened opening → Holds (tellings k opening events) (session_run k opening events)
unfolding session_run tellings
run_tickets k opening [] opened = opening_holds opening opening.step opened.none_in_hand opened.no_ticket
run_tickets k opening (event ∷ before) opened = event_holds (tellings k opening before) k (session_run k opening before) event (run_tickets k opening before opened)
