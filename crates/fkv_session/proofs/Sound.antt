-- At every moment of a run the session's accounts are right, and the attempt in hand is that of the request that it should be.
use Rattle.std.proofs.Common.{◌≡◌, ℕ, ◌+◌, ◌∙◌, zero, suc, List, [], ◌∷◌, ◌++◌, length, refl, arith, ap, sym, subst, Bool, true, false}
use Rattle.std.specs.Prelude.{slice_get, slice_set, Option, Some, None, if◌then◌else◌, not, ◌==◌, ◌*◌}
use Rattle.std.specs.List.{remove}
use Rattle.fkv_base.specs.declared.faults.Fault.{Fault}
use Rattle.fkv_map.specs.declared.operations.Call.{Call}
use Rattle.fkv_map.specs.declared.operations.Call.TheVariants as call
use Rattle.fkv_map.specs.declared.operations.Op.{Op}
use Rattle.fkv_plane.specs.declared.actions.Action.{Action}
use Rattle.fkv_plane.specs.declared.asks.Ask.{Ask}
use Rattle.fkv_plane.specs.declared.asks.Ask.TheVariants.{Done}
use Rattle.fkv_epoch.specs.Leaving.{leave_next}
use Rattle.fkv_latch.specs.declared.latching.LatchAnswer.{LatchAnswer}
use Rattle.fkv_latch.specs.declared.latching.LatchAnswer.TheVariants.{Taken}
use Rattle.fkv_latch.specs.Latching.{latch_next_ask}
use Rattle.fkv_ops.specs.Bounds.{bounds_of}
use Rattle.fkv_ops.specs.declared.answers.Reason.{Reason}
use Rattle.fkv_ops.specs.declared.answers.Reason.TheVariants as reason
use Rattle.fkv_ops.specs.declared.answers.TryAnswer.{TryAnswer}
use Rattle.fkv_ops.specs.declared.answers.TryAnswer.TheVariants as tried
use Rattle.fkv_ops.specs.declared.requests.Occasion.TheVariants.{Call as AtCall, Poll as AtPoll}
use Rattle.fkv_ops.specs.Requests.{is_read}
use Rattle.fkv_pending.specs.declared.mailing.MailAnswer.{MailAnswer}
use Rattle.fkv_pending.specs.declared.mailing.MailAnswer.TheVariants.{Cleared}
use Rattle.fkv_pending.specs.declared.pending_requests.PendingRequest.{PendingRequest}
use Rattle.fkv_pending.specs.declared.pending_requests.RequestName.{RequestName}
use Rattle.fkv_pending.specs.declared.pending_requests.RequestName.TheVariants.{Update, Read}
use Rattle.fkv_pending.specs.Pending.{with_latch}
use Rattle.fkv_pending.specs.Mailing.{mail_next}
use Rattle.fkv_session.specs.declared.answers.Finished.{Finished}
use Rattle.fkv_session.specs.declared.answers.Told.{Told}
use Rattle.fkv_session.specs.declared.answers.Told.TheVariants as told
use Rattle.fkv_session.specs.declared.catching_up.Catching.{Catching}
use Rattle.fkv_session.specs.declared.catching_up.Catching.TheVariants.{Latches}
use Rattle.fkv_session.specs.declared.sessions.CatchCause.{CatchCause}
use Rattle.fkv_session.specs.declared.sessions.CatchCause.TheVariants.{Refreshes, Wakes, Shifts}
use Rattle.fkv_session.specs.declared.sessions.Sitting.{Sitting}
use Rattle.fkv_session.specs.declared.sessions.Sitting.TheVariants.{Idle, Attempts, CatchesUp, ClearsMail, Polls, StoresOwing, Turns, StoresCut, Leaves, LoadsDurable}
use Rattle.fkv_session.specs.CatchingUp.{refresh_begun, wake_begun, CatchState, latched, latch_marked, catching_requests}
use Rattle.fkv_session.specs.OwnTurns.{own_turn_given}
use Rattle.fkv_session.specs.Sessions.{SessionState, Seat, bits_of, is_busy, answers, answers_after_turn, ticket_after, name_of, request_in_hand, attempts, polls_request, polls_at, refusal_of, op_begun, refresh_call, poll_begun, poll_call, sleep_call, wake_call, call_begun, session_begun, attempt_left, poll_left, serial_taken, update_done, is_no_room, with_request, accepts, shifts, attempted, attempt_ledto, caught_up, catch_ledto, clear_ledto, finished_of, is_finished, is_owed, request_finished, finishes_request, keeps_request, poll_ledto, turn_ledto, leave_ledto, attempt_moved, caught, own_turn_moved, sitting_next, sitting_given, asks_after, is_word_ask, session_ask}
use Rattle.fkv_session.specs.SessionRun.{SessionEvent, Begins, Replies, Gets, begins, session_happens, session_run, Telling, telling, answered, is_calling, told_after, tellings, with_coming, in_hand}
use Rattle.fkv_session.specs.Sessions.{IsOpened}
use Rattle.fkv_session.specs.Accounts.{names_of, name_finished}
use Rattle.fkv_session.proofs.AttemptKeeps.{attempt_keeps, begun_same}
use Rattle.fkv_session.proofs.CatchKeeps.{catch_serial}
use Rattle.fkv_session.proofs.Books.{AreBooksKept, IsPlain, plain_kept, polled_kept, done_kept, update_kept, read_kept, finished_kept}

-- what is attempted, by how far the call has come
abbrev pub Knows : SessionState → Sitting → Type 0
Knows s (Attempts has_shifted) = s.attempt.pending.name ≡ name_of s
Knows s (Polls index) = slice_get (names_of s.requests) index ≡ Some s.attempt.pending.name
Knows s (CatchesUp cause) = s.catching.serial ≡ s.serial
Knows s step = Unit {0}

-- the answers with the one that this state gives or has coming
abbrev pub settled : Sitting → List Finished → List Telling → List Telling
settled (Idle its) finished before = telling its finished ∷ before
settled (Turns its) finished before = telling its finished ∷ before
settled step finished before = before

pub record IsHeld (first : ℕ) (before : List Telling) (s : SessionState) (step : Sitting) : Type 0 where
  pub books : AreBooksKept first s.serial before (names_of s.requests) (in_hand step s.finished)
  pub knows : Knows s step

abbrev pub IsHeldAfter : ℕ → List Telling → SessionState → Type 0
IsHeldAfter first before s = IsHeld first (settled s.step s.finished before) s s.step

still : (first : ℕ) (before : List Telling) (s : SessionState) (step : Sitting) → s.step ≡ step → IsHeld first (settled step s.finished before) s step → IsHeldAfter first before s
still first before s step e held = subst (λ (x : Sitting). IsHeld first (settled x s.finished before) s x) (sym e) held

either_held : (c : Bool) (first : ℕ) (before : List Telling) (a b : SessionState) → IsHeldAfter first before a → IsHeldAfter first before b → IsHeldAfter first before (if c then a else b)
either_held true first before a b one other = one
either_held false first before a b one other = other

-- lists of names
names_append : (xs : List PendingRequest) (p : PendingRequest) → names_of (xs ++ p ∷ []) ≡ names_of xs ++ p.name ∷ []
names_append [] p = refl
names_append (o ∷ xs) p = ap (λ (rest : List RequestName). o.name ∷ rest) (names_append xs p)

names_removed : (xs : List PendingRequest) (i : ℕ) → names_of (remove xs i) ≡ remove (names_of xs) i
names_removed [] zero = refl
names_removed [] (suc i) = refl
names_removed (o ∷ xs) zero = refl
names_removed (o ∷ xs) (suc i) = ap (λ (rest : List RequestName). o.name ∷ rest) (names_removed xs i)

pub names_set : (xs : List PendingRequest) (i : ℕ) (p : PendingRequest) → slice_get (names_of xs) i ≡ Some p.name → names_of (slice_set xs i p) ≡ names_of xs
names_set [] i p got = refl
names_set (o ∷ xs) zero p got = let same : p.name ≡ o.name = cc in ap (λ (name : RequestName). name ∷ names_of xs) same
names_set (o ∷ xs) (suc i) p got = ap (λ (rest : List RequestName). o.name ∷ rest) (names_set xs i p got)

name_at : (xs : List PendingRequest) (i : ℕ) (p : PendingRequest) → slice_get xs i ≡ Some p → slice_get (names_of xs) i ≡ Some p.name
name_at [] i p got = cc
name_at (o ∷ xs) zero p got = let same : o ≡ p = cc in rw same refl
name_at (o ∷ xs) (suc i) p got = name_at xs i p got

latch_name : (p : PendingRequest) (latch : Bool) → (with_latch p latch).name ≡ p.name
unfolding with_latch
latch_name p latch = refl

latched_names : (requests : List PendingRequest) (i : ℕ) (found : Option PendingRequest) → slice_get requests i ≡ found → names_of (latched requests i found) ≡ names_of requests
latched_names requests i None got = refl
latched_names requests i (Some p) got = names_set requests i (with_latch p true) (name_at requests i p got ∙ ap Some (sym (latch_name p true)))

marked_names : (requests : List PendingRequest) (i : ℕ) (ask : Ask LatchAnswer) → names_of (latch_marked requests i ask) ≡ names_of requests
unfolding latch_marked
marked_names requests i (Done Taken) = latched_names requests i (slice_get requests i) refl
marked_names requests i ask = refl

caught_names : (c : CatchState) (requests : List PendingRequest) (step : Catching) (reply : ℕ) → names_of (catching_requests c requests step reply) ≡ names_of requests
unfolding catching_requests
caught_names c requests (Latches i) reply = marked_names requests i (latch_next_ask c.latching reply)
caught_names c requests step reply = refl

-- answers
plain_held : (first : ℕ) (before : List Telling) (s : SessionState) (its : Told) → IsPlain its → AreBooksKept first s.serial before (names_of s.requests) [] → IsHeldAfter first before (answers s its)
plain_held first before s its plain books = record { books = plain_kept first s.serial before (names_of s.requests) its s.finished plain books; knows = tt }

turn_held : (first : ℕ) (before : List Telling) (s : SessionState) (its : Told) → AreBooksKept first s.serial (telling its s.finished ∷ before) (names_of s.requests) [] → IsHeldAfter first before (answers_after_turn s its)
turn_held first before s its books = either_held s.wants_turn first before _ (answers s its) (record { books = books; knows = tt }) (record { books = books; knows = tt })

attempts_held : (first : ℕ) (before : List Telling) (k : Seat) (s : SessionState) (has_shifted : Bool) → AreBooksKept first s.serial before (names_of s.requests) [] → IsHeldAfter first before (attempts k s has_shifted)
unfolding attempts
attempts_held first before k s has_shifted books = record {
  books = books;
  knows = (begun_same k.places (bits_of k) (request_in_hand s) s.seen (AtCall (bounds_of k.shape)) s.spare s.is_orphaned).name;
}

polls_found : (first : ℕ) (before : List Telling) (k : Seat) (s : SessionState) (i : ℕ) (found : Option PendingRequest) → slice_get s.requests i ≡ found → AreBooksKept first s.serial before (names_of s.requests) s.finished
    → IsHeldAfter first before (polls_request k s i found)
polls_found first before k s i None got books = turn_held first before s (told.Polled (length s.requests)) (polled_kept first s.serial before (names_of s.requests) (length s.requests) s.finished books)
polls_found first before k s i (Some pending) got books = record {
  books = books;
  knows = name_at s.requests i pending got ∙ ap Some (sym (begun_same k.places (bits_of k) pending s.seen AtPoll s.spare s.is_orphaned).name);
}

polls_held : (first : ℕ) (before : List Telling) (k : Seat) (s : SessionState) (i : ℕ) → AreBooksKept first s.serial before (names_of s.requests) s.finished → IsHeldAfter first before (polls_at k s i)
unfolding polls_at
polls_held first before k s i books = polls_found first before k s i (slice_get s.requests i) refl books

-- what an attempt at a call ends with
accepts_either : (first : ℕ) (before : List Telling) (s : SessionState) (why : Reason) (c : Bool) → AreBooksKept first s.serial before (names_of s.requests) []
    → s.attempt.pending.name ≡ (if c then Read (record { 0 = ticket_after s.ticket }) else Update (record { 0 = s.serial + 1 }))
    → IsHeldAfter first before (if c then answers (with_request (record s { ticket = ticket_after s.ticket })) (told.PendingRead (record { 0 = ticket_after s.ticket }))
    else answers_after_turn (with_request (serial_taken (record s { wants_turn = is_no_room why }))) (told.Pending (record { 0 = s.serial + 1 }) why))
accepts_either first before s why true books its =
    record {
      books = subst (λ (names : List RequestName). AreBooksKept first s.serial (telling (told.PendingRead (record { 0 = ticket_after s.ticket })) s.finished ∷ before) names [])
          (sym (names_append s.requests s.attempt.pending ∙ ap (λ (name : RequestName). names_of s.requests ++ name ∷ []) its))
          (read_kept first s.serial before (names_of s.requests) (record { 0 = ticket_after s.ticket }) s.finished books);
      knows = tt;
    }
accepts_either first before s why false books its =
    turn_held first before (with_request (serial_taken (record s { wants_turn = is_no_room why }))) (told.Pending (record { 0 = s.serial + 1 }) why)
    (subst (λ (names : List RequestName). AreBooksKept first (s.serial + 1) (telling (told.Pending (record { 0 = s.serial + 1 }) why) s.finished ∷ before) names [])
    (sym (names_append s.requests s.attempt.pending ∙ ap (λ (name : RequestName). names_of s.requests ++ name ∷ []) its))
    (update_kept first s.serial before (names_of s.requests) (record { 0 = s.serial + 1 }) why s.finished refl books))

accepts_held : (first : ℕ) (before : List Telling) (s : SessionState) (why : Reason) → AreBooksKept first s.serial before (names_of s.requests) [] → s.attempt.pending.name ≡ name_of s → IsHeldAfter first before (accepts s why)
unfolding accepts
accepts_held first before s why books its = accepts_either first before s why (is_read s.op) books its

shifts_held : (first : ℕ) (before : List Telling) (s : SessionState) (has_shifted : Bool) → AreBooksKept first s.serial before (names_of s.requests) [] → s.attempt.pending.name ≡ name_of s → IsHeldAfter first before (shifts s has_shifted)
unfolding shifts
shifts_held first before s false books its = record { books = books; knows = refl }
shifts_held first before s true books its = accepts_held first before s reason.Contended books its

attempted_held : (first : ℕ) (before : List Telling) (s : SessionState) (has_shifted : Bool) (its : TryAnswer) → AreBooksKept first s.serial before (names_of s.requests) [] → s.attempt.pending.name ≡ name_of s
    → IsHeldAfter first before (attempted s has_shifted its)
attempted_held first before s has_shifted (tried.Done reply) books its =
    either_held (is_read s.op) first before (answers s told.Absent) (update_done s reply) (plain_held first before s told.Absent tt books)
    (record { books = done_kept first s.serial before (names_of s.requests) (record { 0 = s.serial + 1 }) reply s.finished refl books; knows = tt })
attempted_held first before s has_shifted (tried.Found value) books its = plain_held first before s (told.Found value) tt books
attempted_held first before s has_shifted tried.Absent books its = plain_held first before s told.Absent tt books
attempted_held first before s has_shifted (tried.Wait why) books its = accepts_held first before s why books its
attempted_held first before s has_shifted (tried.AwaitsDisk sought) books its = accepts_held first before s reason.Disk books its
attempted_held first before s has_shifted tried.Shift books its = shifts_held first before s has_shifted books its
attempted_held first before s has_shifted tried.IndexFull books its = plain_held first before s _ tt books
attempted_held first before s has_shifted tried.LogFull books its = plain_held first before s _ tt books

attempt_held : (first : ℕ) (before : List Telling) (s : SessionState) (has_shifted : Bool) (ask : Ask TryAnswer) → s.step ≡ Attempts has_shifted → AreBooksKept first s.serial before (names_of s.requests) [] → s.attempt.pending.name ≡ name_of s
    → IsHeldAfter first before (attempt_ledto s has_shifted ask)
unfolding attempt_ledto
attempt_held first before s has_shifted (Done its) e books named = attempted_held first before (attempt_left s) has_shifted its books named
attempt_held first before s has_shifted ask e books named = still first before s (Attempts has_shifted) e (record { books = books; knows = named })

caught_up_held : (first : ℕ) (before : List Telling) (k : Seat) (s : SessionState) (cause : CatchCause) → AreBooksKept first s.serial before (names_of s.requests) [] → IsHeldAfter first before (caught_up k s cause)
caught_up_held first before k s Refreshes books = plain_held first before s _ tt books
caught_up_held first before k s Wakes books = plain_held first before (record s { is_awake = true }) _ tt books
caught_up_held first before k s Shifts books = attempts_held first before k s true books

catch_held : (first : ℕ) (before : List Telling) (k : Seat) (s : SessionState) (cause : CatchCause) (ask : Ask (Unit {0})) → s.step ≡ CatchesUp cause → s.catching.serial ≡ s.serial → AreBooksKept first s.serial before (names_of s.requests) []
    → IsHeldAfter first before (catch_ledto k s cause ask)
unfolding catch_ledto
catch_held first before k s cause (Done its) e same books = caught_up_held first before k (record s { seen = s.catching.seen }) cause books
catch_held first before k s cause ask e same books = still first before s (CatchesUp cause) e (record { books = books; knows = same })

clear_held : (first : ℕ) (before : List Telling) (k : Seat) (s : SessionState) (ask : Ask MailAnswer) → s.step ≡ ClearsMail → AreBooksKept first s.serial before (names_of s.requests) s.finished
    → IsHeldAfter first before (clear_ledto k s ask)
unfolding clear_ledto
clear_held first before k s (Done Cleared) e books = polls_held first before k (record s { is_orphaned = false }) 0 books
clear_held first before k s (Done its) e books = polls_held first before k s 0 books
clear_held first before k s ask e books = still first before s ClearsMail e (record { books = books; knows = tt })

-- a poll tells of a request by its name
finished_name : (name : RequestName) (its : TryAnswer) → name_finished (finished_of name its) ≡ name
finished_name (Update serial) (tried.Done reply) = refl
finished_name (Update serial) (tried.Found value) = refl
finished_name (Update serial) its = refl
finished_name (Read ticket) (tried.Found value) = refl
finished_name (Read ticket) its = refl

request_books : (first : ℕ) (before : List Telling) (s : SessionState) (i : ℕ) (its : TryAnswer) → slice_get (names_of s.requests) i ≡ Some s.attempt.pending.name → AreBooksKept first s.serial before (names_of s.requests) s.finished
    → AreBooksKept first s.serial before (names_of (request_finished s i its).requests) (request_finished s i its).finished
request_books first before s i its got books =
    subst (λ (names : List RequestName). AreBooksKept first s.serial before names (request_finished s i its).finished) (sym (names_removed s.requests i))
    (finished_kept first s.serial before (names_of s.requests) s.finished i (finished_of s.attempt.pending.name its) (got ∙ ap Some (sym (finished_name s.attempt.pending.name its))) books)

finishes_held : (first : ℕ) (before : List Telling) (k : Seat) (s : SessionState) (i : ℕ) (its : TryAnswer) → slice_get (names_of s.requests) i ≡ Some s.attempt.pending.name → AreBooksKept first s.serial before (names_of s.requests) s.finished
    → IsHeldAfter first before (finishes_request k s i its)
unfolding finishes_request
finishes_held first before k s i its got books =
    let after = request_books first before s i its got books in
    either_held (is_owed s) first before (request_finished s i its) (polls_at k (request_finished s i its) i) (record { books = after; knows = tt }) (polls_held first before k (request_finished s i its) i after)

keeps_held : (first : ℕ) (before : List Telling) (k : Seat) (s : SessionState) (i : ℕ) (its : TryAnswer) → slice_get (names_of s.requests) i ≡ Some s.attempt.pending.name → AreBooksKept first s.serial before (names_of s.requests) s.finished
    → IsHeldAfter first before (keeps_request k s i its)
unfolding keeps_request
keeps_held first before k s i its got books =
    polls_held first before k _ (i + 1)
    (subst (λ (names : List RequestName). AreBooksKept first s.serial before names s.finished) (sym (names_set s.requests i s.attempt.pending got)) books)

poll_held : (first : ℕ) (before : List Telling) (k : Seat) (s : SessionState) (i : ℕ) (ask : Ask TryAnswer) → s.step ≡ Polls i → slice_get (names_of s.requests) i ≡ Some s.attempt.pending.name → AreBooksKept first s.serial before (names_of s.requests) s.finished
    → IsHeldAfter first before (poll_ledto k s i ask)
unfolding poll_ledto
poll_held first before k s i (Done its) e got books =
    either_held (is_finished its) first before _ (keeps_request k (poll_left s) i its) (finishes_held first before k (poll_left s) i its got books) (keeps_held first before k (poll_left s) i its got books)
poll_held first before k s i ask e got books = still first before s (Polls i) e (record { books = books; knows = got })

turned_held : (first : ℕ) (before : List Telling) (s : SessionState) (its : Told) (ask : Ask (Unit {0})) → s.step ≡ Turns its → AreBooksKept first s.serial (telling its s.finished ∷ before) (names_of s.requests) []
    → IsHeldAfter first before (turn_ledto s its ask)
unfolding turn_ledto
turned_held first before s its (Done through) e books = record { books = books; knows = tt }
turned_held first before s its ask e books = still first before s (Turns its) e (record { books = books; knows = tt })

left_held : (first : ℕ) (before : List Telling) (s : SessionState) (ask : Ask (Unit {0})) → s.step ≡ Leaves → AreBooksKept first s.serial before (names_of s.requests) []
    → IsHeldAfter first before (leave_ledto s ask)
unfolding leave_ledto
left_held first before s (Done its) e books = plain_held first before (record s { is_awake = false }) told.Slept tt books
left_held first before s ask e books = still first before s Leaves e (record { books = books; knows = tt })

-- the attempt's name goes on through a reply
moved_name : (k : Seat) (s : SessionState) (reply : ℕ) → (attempt_moved k s reply).attempt.pending.name ≡ s.attempt.pending.name
moved_name k s reply = (attempt_keeps k.places (bits_of k) (k.shape.disk_pages * k.shape.page) k.number s.attempt reply).name

pub next_held : (first : ℕ) (before : List Telling) (k : Seat) (s : SessionState) (step : Sitting) (reply : ℕ) → s.step ≡ step → is_busy step ≡ true → IsHeld first (with_coming step s.finished before) s step
    → IsHeldAfter first before (sitting_next k s step reply)
unfolding sitting_next
next_held first before k s (Idle its) reply e busy held = cc
next_held first before k s (Attempts has_shifted) reply e busy held = attempt_held first before (attempt_moved k s reply) has_shifted _ e held.books (moved_name k s reply ∙ held.knows)
next_held first before k s (CatchesUp cause) reply e busy held =
    catch_held first before k (caught k s reply) cause _ e (catch_serial k.places (bits_of k) k.number s.catching s.requests reply ∙ held.knows) (subst (λ (names : List RequestName). AreBooksKept first s.serial before names []) (sym (caught_names s.catching s.requests s.catching.step reply)) held.books)
next_held first before k s ClearsMail reply e busy held = clear_held first before k (record s { mailing = mail_next s.mailing reply }) _ e held.books
next_held first before k s (Polls i) reply e busy held = poll_held first before k (attempt_moved k s reply) i _ e (held.knows ∙ ap Some (sym (moved_name k s reply))) held.books
next_held first before k s (StoresOwing i) reply e busy held = polls_held first before k s i held.books
next_held first before k s (Turns its) reply e busy held = turned_held first before (own_turn_moved k s reply) its _ e held.books
next_held first before k s StoresCut reply e busy held = record { books = held.books; knows = tt }
next_held first before k s Leaves reply e busy held = left_held first before (record s { leaving = leave_next s.leaving }) _ e held.books
next_held first before k s LoadsDurable reply e busy held = plain_held first before s _ tt held.books

-- an action that a claimer gets
pub given_held : (first : ℕ) (before : List Telling) (k : Seat) (s : SessionState) (step : Sitting) (action : Action) → s.step ≡ step → is_busy step ≡ true → IsHeld first (with_coming step s.finished before) s step
    → IsHeldAfter first before (sitting_given k s step action)
unfolding sitting_given
given_held first before k s (Idle its) action e busy held = cc
given_held first before k s (Turns its) action e busy held = turned_held first before (record s { own_turn = own_turn_given s.own_turn action }) its _ e held.books
given_held first before k s (Attempts has_shifted) action e busy held = still first before s (Attempts has_shifted) e held
given_held first before k s (CatchesUp cause) action e busy held = still first before s (CatchesUp cause) e held
given_held first before k s ClearsMail action e busy held = still first before s ClearsMail e held
given_held first before k s (Polls i) action e busy held = still first before s (Polls i) e held
given_held first before k s (StoresOwing i) action e busy held = still first before s (StoresOwing i) e held
given_held first before k s StoresCut action e busy held = still first before s StoresCut e held
given_held first before k s Leaves action e busy held = still first before s Leaves e held
given_held first before k s LoadsDurable action e busy held = still first before s LoadsDurable e held

-- a call that begins
op_held : (first : ℕ) (before : List Telling) (k : Seat) (s : SessionState) (op : Op) (why : Option Fault) → AreBooksKept first s.serial before (names_of s.requests) [] → IsHeldAfter first before (op_begun k s op why)
unfolding op_begun
op_held first before k s op (Some why) books = plain_held first before s _ tt books
op_held first before k s op None books = attempts_held first before k (record s { op = op }) false books

clears_held : (first : ℕ) (before : List Telling) (k : Seat) (s : SessionState) → AreBooksKept first s.serial before (names_of s.requests) s.finished → IsHeldAfter first before (poll_begun k s)
clears_held first before k s books = either_held s.is_orphaned first before _ (polls_at k s 0) (record { books = books; knows = tt }) (polls_held first before k s 0 books)

pub call_held : (first : ℕ) (before : List Telling) (k : Seat) (s : SessionState) (its : Call) → AreBooksKept first s.serial before (names_of s.requests) [] → IsHeldAfter first before (call_begun k s its)
unfolding refresh_call poll_call sleep_call wake_call
call_held first before k s (call.Op op) books = op_held first before k s op (refusal_of s op) books
call_held first before k s call.Refresh books = either_held s.is_awake first before (record s { catching = refresh_begun s.catching s.seen s.serial; step = CatchesUp Refreshes }) _ (record { books = books; knows = refl }) (plain_held first before s _ tt books)
call_held first before k s call.Poll books = either_held s.is_awake first before _ _ (clears_held first before k (record s { finished = [] }) books) (plain_held first before s _ tt books)
call_held first before k s call.Sleep books = either_held (not s.is_awake) first before _ _ (plain_held first before s _ tt books)
    (either_held (length s.requests == 0) first before _ _ (record { books = books; knows = tt }) (plain_held first before s _ tt books))
call_held first before k s call.Wake books = either_held s.is_awake first before _ (record s { catching = wake_begun s.catching s.seen s.serial; step = CatchesUp Wakes }) (plain_held first before s _ tt books) (record { books = books; knows = refl })
call_held first before k s call.Durable books = record { books = books; knows = tt }

idle_hand : (step : Sitting) (finished : List Finished) → is_busy step ≡ false → in_hand step finished ≡ []
idle_hand (Idle its) finished idle = refl
idle_hand step finished idle = cc

idle_coming : (step : Sitting) (finished : List Finished) (before : List Telling) → is_busy step ≡ false → with_coming step finished before ≡ before
idle_coming (Idle its) finished before idle = refl
idle_coming step finished before idle = cc

-- the answers behind an event, with the one that is coming, are those that have settled
settles : (step : Sitting) (finished : List Finished) (before : List Telling) → with_coming step finished (answered step finished before) ≡ settled step finished before
settles (Idle its) finished before = refl
settles (Turns its) finished before = refl
settles step finished before = refl

abbrev pub Holds : ℕ → List Telling → SessionState → Type 0
Holds first before s = IsHeld first (with_coming s.step s.finished before) s s.step

after_holds : (first : ℕ) (before : List Telling) (s : SessionState) → IsHeldAfter first before s → Holds first (answered s.step s.finished before) s
after_holds first before s held = subst (λ (all : List Telling). IsHeld first all s s.step) (sym (settles s.step s.finished before)) held

begins_holds : (first : ℕ) (before : List Telling) (k : Seat) (s : SessionState) (its : Call) (busy : Bool) → is_busy s.step ≡ busy → Holds first before s
    → Holds first (told_after (if busy then false else true) (begins k s busy its) before) (begins k s busy its)
begins_holds first before k s its true e held = held
begins_holds first before k s its false e held =
    let all = subst (λ (all : List Telling). AreBooksKept first s.serial all (names_of s.requests) (in_hand s.step s.finished)) (idle_coming s.step s.finished before e) held.books in
    let books : AreBooksKept first s.serial before (names_of s.requests) [] = subst (λ (its : List Finished). AreBooksKept first s.serial before (names_of s.requests) its) (idle_hand s.step s.finished e) all in
    after_holds first before (session_begun k s its) (call_held first before k (record s { asks = 0; effect = None; wants_turn = false }) its books)

next_holds : (first : ℕ) (before : List Telling) (k : Seat) (s : SessionState) (step : Sitting) (reply : ℕ) (busy : Bool) → s.step ≡ step → is_busy step ≡ busy → IsHeld first (with_coming step s.finished before) s step
    → Holds first (told_after busy (sitting_next k s step reply) before) (sitting_next k s step reply)
unfolding sitting_next
next_holds first before k s step reply true e busy held = after_holds first before (sitting_next k s step reply) (next_held first before k s step reply e busy held)
next_holds first before k s (Idle its) reply false e busy held = subst (λ (x : Sitting). IsHeld first (with_coming x s.finished before) s x) (sym e) held
next_holds first before k s step reply false e busy held = cc

given_holds : (first : ℕ) (before : List Telling) (k : Seat) (s : SessionState) (step : Sitting) (action : Action) (busy : Bool) → s.step ≡ step → is_busy step ≡ busy → IsHeld first (with_coming step s.finished before) s step
    → Holds first (told_after busy (sitting_given k s step action) before) (sitting_given k s step action)
unfolding sitting_given
given_holds first before k s step action true e busy held = after_holds first before (sitting_given k s step action) (given_held first before k s step action e busy held)
given_holds first before k s (Idle its) action false e busy held = subst (λ (x : Sitting). IsHeld first (with_coming x s.finished before) s x) (sym e) held
given_holds first before k s step action false e busy held = cc

-- an event keeps what holds
pub event_holds : (first : ℕ) (before : List Telling) (k : Seat) (s : SessionState) (event : SessionEvent) → Holds first before s
    → Holds first (told_after (is_calling s event) (session_happens k s event) before) (session_happens k s event)
unfolding session_happens
event_holds first before k s (Begins its) held = begins_holds first before k s its (is_busy s.step) refl held
event_holds first before k s (Replies reply) held =
    next_holds first before k (record s { asks = asks_after s.asks (is_word_ask (session_ask k s)); effect = None }) s.step reply (is_busy s.step) refl refl (record { books = held.books; knows = held.knows })
event_holds first before k s (Gets action) held = given_holds first before k s s.step action (is_busy s.step) refl refl held

opening_holds : (s : SessionState) (step : Sitting) → is_busy step ≡ false → s.requests ≡ [] → IsHeld s.serial (with_coming step s.finished []) s step
opening_holds s (Idle its) idle none = record {
  books = record {
    serials = record { in_turn = refl; counted = omega arith };
    accounts = λ such. rw none refl;
    rising = rw none (omega arith);
  };
  knows = tt;
}
opening_holds s step idle none = cc

-- at every moment of a run
pub run_holds : (k : Seat) (opening : SessionState) (events : List SessionEvent) → IsOpened opening → Holds opening.serial (tellings k opening events) (session_run k opening events)
unfolding session_run tellings
run_holds k opening [] opened = opening_holds opening opening.step opened.none_in_hand opened.none_wait
run_holds k opening (event ∷ before) opened = event_holds opening.serial (tellings k opening before) k (session_run k opening before) event (run_holds k opening before opened)
