-- How a session stands to what was called: which update each serial was called for, which read waits for each ticket, and the call that it made last.
-- A reply keeps that, up to the answer that it leads to.
use Rattle.std.proofs.Common.{◌≡◌, ℕ, ◌+◌, ◌<◌, ◌≤◌, ◌∙◌, List, [], length, refl, arith, ap, sym, subst, Bool, true, false}
use Rattle.std.specs.Prelude.{slice_get, slice_set, Option, Some, None, if◌then◌else◌, not, ◌==◌, ◌||◌, ⊤}
use Rattle.std.proofs.lemmas.Bool.Decides.{nat_tests}
use Rattle.fkv_base.specs.declared.faults.Fault.{Fault}
use Rattle.fkv_map.specs.declared.operations.Call.{Call}
use Rattle.fkv_map.specs.declared.operations.Call.TheVariants as call
use Rattle.fkv_map.specs.declared.operations.Op.{Op}
use Rattle.fkv_map.specs.declared.operations.Op.TheVariants as op
use Rattle.fkv_plane.specs.declared.actions.Action.{Action}
use Rattle.fkv_plane.specs.declared.asks.Ask.{Ask}
use Rattle.fkv_plane.specs.declared.asks.Ask.TheVariants.{Done}
use Rattle.fkv_epoch.specs.Leaving.{leave_ask, leave_next}
use Rattle.law_world.specs.Below.fkv_ops.Reason.{Reason}
use Rattle.law_world.specs.Below.fkv_ops.Reason.TheVariants as reason
use Rattle.law_world.specs.Below.fkv_ops.TryAnswer.{TryAnswer}
use Rattle.law_world.specs.Below.fkv_ops.TryAnswer.TheVariants as tried
use Rattle.law_world.specs.Below.fkv_ops.Requests.{is_read}
use Rattle.law_world.specs.Below.fkv_pending.MailAnswer.{MailAnswer}
use Rattle.law_world.specs.Below.fkv_pending.MailAnswer.TheVariants.{Cleared}
use Rattle.law_world.specs.Below.fkv_pending.MailTask.TheVariants.{Clear}
use Rattle.law_world.specs.Below.fkv_pending.TheMailing.TheVariants.{LoadsState}
use Rattle.law_world.specs.Below.fkv_pending.PendingRequest.{PendingRequest}
use Rattle.law_world.specs.Below.fkv_pending.RequestName.{RequestName}
use Rattle.law_world.specs.Below.fkv_pending.RequestName.TheVariants.{Update, Read}
use Rattle.law_world.specs.Below.fkv_pending.Ticket.{Ticket}
use Rattle.law_world.specs.Below.fkv_pending.Mailing.{mail_ask, mail_next}
use Rattle.law_world.specs.Below.fkv_pending.Attempting.{AttemptState, attempt_ask, attempt_next}
use Rattle.law_world.proofs.Below.fkv_pending.Shown.{attempt_rests}
use Rattle.law_world.specs.Below.fkv_session.Told.{Told}
use Rattle.law_world.specs.Below.fkv_session.Told.TheVariants as told
use Rattle.law_world.specs.Below.fkv_session.CatchCause.{CatchCause}
use Rattle.law_world.specs.Below.fkv_session.CatchCause.TheVariants as cause
use Rattle.law_world.specs.Below.fkv_session.Sitting.{Sitting}
use Rattle.law_world.specs.Below.fkv_session.Sitting.TheVariants.{Idle, Attempts, CatchesUp, ClearsMail, Polls, StoresOwing, Turns, StoresCut, Leaves, LoadsDurable}
use Rattle.law_world.specs.Below.fkv_session.CatchingUp.{catch_ask}
use Rattle.law_world.specs.Below.fkv_session.OwnTurns.{own_turn_ask, own_turn_given}
use Rattle.law_world.specs.Below.fkv_session.Sessions.{SessionState, Seat, bits_of, room_of, session_ask, answers, answers_after_turn, refuses, attempts, polls_request, polls_at, update_done, is_no_room, with_request, serial_taken, ticket_after, name_of, accepts, shifts, attempted, attempt_left, poll_left, attempt_ledto, caught_up, catch_ledto, clear_ledto, is_finished, is_owed, request_finished, finishes_request, lacks_room, keeps_request, poll_ledto, turn_ledto, leave_ledto, attempt_moved, caught, own_turn_moved, sitting_next, sitting_given, is_word_ask, asks_after, refusal_of, op_begun, refresh_call, poll_begun, poll_call, sleep_call, wake_call, call_begun, session_begun}
use Rattle.law_world.proofs.Below.fkv_session.Shown.{IsUnderWay, IsUpdateEnd, KnowsUpdate, attempt_ends, attempt_keeps, attempt_so}
use Rattle.law_refine.proofs.OfCalls.Named.{AreEach, each_on, each_more, each_less, each_set, each_at, caught_each}

-- ---- what was called
-- by serial the update that was called so, and by ticket the read that waits for it; and the last call
pub record Ledger : Type 0 where
  pub updates : ℕ → Option Op
  pub reads : ℕ → Option Op
  pub made : Option Call

abbrev pub update_of : Op → Option Op
update_of (op.Read key) = None
update_of its = Some its

-- the update that a call is of
abbrev pub update_called : Option Call → Option Op
update_called (Some (call.Op its)) = update_of its
update_called made = None

abbrev pub op_of : Option Call → Option Op
op_of (Some (call.Op its)) = Some its
op_of made = None

abbrev pub IsReadCall : Option Call → Type 0
IsReadCall (Some (call.Op its)) = is_read its ≡ true
IsReadCall made = ⊥

-- the reads that wait, with the one that this answer leaves waiting
abbrev pub reads_with : Ledger → Told → ℕ → Option Op
reads_with l (told.PendingRead given) = λ ticket. if given.0 == ticket then op_of l.made else l.reads ticket
reads_with l its = l.reads

abbrev pub reads_at : Ledger → Sitting → ℕ → Option Op
reads_at l (Idle its) = reads_with l its
reads_at l (Turns its) = reads_with l its
reads_at l step = l.reads

-- an update that waits was called under its serial, and a read before its ticket came, as long as tickets don't come round
abbrev pub IsCalled : Type 0 → (ℕ → Option Op) → (ℕ → Option Op) → ℕ → ℕ → RequestName → Op → Type 0
IsCalled Fresh updates reads serial ticket (Update its) o = (its.0 ≤ serial) × (updates its.0 ≡ Some o)
IsCalled Fresh updates reads serial ticket (Read its) o = Fresh → (its.0 ≤ ticket) × (reads its.0 ≡ Some o)

-- an answer of a read is one to a read's call
abbrev pub IsAnswerTo : Option Call → Told → Type 0
IsAnswerTo made (told.Found value) = IsReadCall made
IsAnswerTo made told.Absent = IsReadCall made
IsAnswerTo made (told.PendingRead ticket) = IsReadCall made
IsAnswerTo made its = ⊤

-- the update that was called under the next serial: none, but where the call in hand is one, or has just been refused
abbrev pub AtAnswer : Ledger → ℕ → Told → Type 0
AtAnswer l serial (told.Refused why) = l.updates (serial + 1) ≡ update_called l.made
AtAnswer l serial its = (l.updates (serial + 1) ≡ None) × IsAnswerTo l.made its

abbrev pub IsInHand : Ledger → ℕ → Op → Type 0
IsInHand l serial o = (l.made ≡ Some (call.Op o)) × (l.updates (serial + 1) ≡ update_of o)

abbrev pub AtNext : Ledger → ℕ → Op → Sitting → Type 0
AtNext l serial o (Idle its) = AtAnswer l serial its
AtNext l serial o (Attempts has_shifted) = IsInHand l serial o
AtNext l serial o (CatchesUp cause.Shifts) = IsInHand l serial o
AtNext l serial o (Turns its) = AtAnswer l serial its
AtNext l serial o step = l.updates (serial + 1) ≡ None

abbrev pub NoneLater : Ledger → ℕ → Type 0
NoneLater l serial = (n : ℕ) → serial + 1 < n → l.updates n ≡ None

pub record Stands (Fresh : Type 0) (l : Ledger) (serial ticket : ℕ) (o : Op) (requests : List PendingRequest) (step : Sitting) : Type 0 where
  pub waiting : AreEach (IsCalled Fresh l.updates (reads_at l step) serial ticket) requests
  pub next : AtNext l serial o step
  pub later : NoneLater l serial

abbrev pub IsStanding : Type 0 → Ledger → SessionState → Type 0
IsStanding Fresh l s = Stands Fresh l s.serial s.ticket s.op s.requests s.step

-- what waits, as long as no answer comes
abbrev pub AreWaiting : Type 0 → Ledger → SessionState → Type 0
AreWaiting Fresh l s = AreEach (IsCalled Fresh l.updates l.reads s.serial s.ticket) s.requests

-- no update in hand
pub record IsCalm (Fresh : Type 0) (l : Ledger) (serial ticket : ℕ) (requests : List PendingRequest) : Type 0 where
  pub waiting : AreEach (IsCalled Fresh l.updates l.reads serial ticket) requests
  pub none : l.updates (serial + 1) ≡ None
  pub later : NoneLater l serial

abbrev pub Calm : Type 0 → Ledger → SessionState → Type 0
Calm Fresh l s = IsCalm Fresh l s.serial s.ticket s.requests

-- an operation is in hand
pub record IsOpen (Fresh : Type 0) (l : Ledger) (serial ticket : ℕ) (o : Op) (requests : List PendingRequest) : Type 0 where
  pub waiting : AreEach (IsCalled Fresh l.updates l.reads serial ticket) requests
  pub in_hand : IsInHand l serial o
  pub later : NoneLater l serial

abbrev pub Open : Type 0 → Ledger → SessionState → Type 0
Open Fresh l s = IsOpen Fresh l s.serial s.ticket s.op s.requests

still : (Fresh : Type 0) (l : Ledger) (s : SessionState) (step : Sitting) → s.step ≡ step → Stands Fresh l s.serial s.ticket s.op s.requests step → IsStanding Fresh l s
still Fresh l s step at its = subst (Stands Fresh l s.serial s.ticket s.op s.requests) (sym at) its

either_stands : (Fresh : Type 0) (l : Ledger) (c : Bool) (a b : SessionState) → IsStanding Fresh l a → IsStanding Fresh l b → IsStanding Fresh l (if c then a else b)
either_stands Fresh l true a b one other = one
either_stands Fresh l false a b one other = other

-- an answer that leaves nothing waiting, and is none of a read
abbrev IsPlain : Told → Type 0
IsPlain (told.Found value) = ⊥
IsPlain told.Absent = ⊥
IsPlain (told.PendingRead ticket) = ⊥
IsPlain (told.Refused why) = ⊥
IsPlain its = ⊤

plain_reads : (l : Ledger) (its : Told) → IsPlain its → reads_with l its ≡ l.reads
plain_reads l (told.PendingRead ticket) plain = absurd plain
plain_reads l its plain = refl

plain_answer : (l : Ledger) (serial : ℕ) (its : Told) → IsPlain its → l.updates (serial + 1) ≡ None → AtAnswer l serial its
plain_answer l serial (told.Found value) plain none = absurd plain
plain_answer l serial told.Absent plain none = absurd plain
plain_answer l serial (told.PendingRead ticket) plain none = absurd plain
plain_answer l serial (told.Refused why) plain none = absurd plain
plain_answer l serial its plain none = (none, tt)

plainly : (Fresh : Type 0) (l : Ledger) (s : SessionState) (its : Told) → IsPlain its → Calm Fresh l s → IsStanding Fresh l (answers s its)
plainly Fresh l s its plain calm = record {
  waiting = subst (λ (reads : ℕ → Option Op). AreEach (IsCalled Fresh l.updates reads s.serial s.ticket) s.requests) (sym (plain_reads l its plain)) calm.waiting;
  next = plain_answer l s.serial its plain calm.none;
  later = calm.later;
}

plainly_turns : (Fresh : Type 0) (l : Ledger) (s : SessionState) (its : Told) → IsPlain its → Calm Fresh l s → IsStanding Fresh l (answers_after_turn s its)
plainly_turns Fresh l s its plain calm = either_stands Fresh l s.wants_turn _ (answers s its)
    (record {
      waiting = subst (λ (reads : ℕ → Option Op). AreEach (IsCalled Fresh l.updates reads s.serial s.ticket) s.requests) (sym (plain_reads l its plain)) calm.waiting;
      next = plain_answer l s.serial its plain calm.none;
      later = calm.later;
    })
    (plainly Fresh l s its plain calm)

-- a call that is refused
refused : (Fresh : Type 0) (l : Ledger) (s : SessionState) (why : Fault) → AreWaiting Fresh l s → l.updates (s.serial + 1) ≡ update_called l.made → NoneLater l s.serial → IsStanding Fresh l (refuses s why)
refused Fresh l s why waiting next later = record { waiting = waiting; next = next; later = later }

open_called : (l : Ledger) (serial : ℕ) (o : Op) → IsInHand l serial o → l.updates (serial + 1) ≡ update_called l.made
open_called l serial o its = its.1 ∙ sym (ap update_called its.0)

-- ---- an attempt at a call
attempts_stand : (Fresh : Type 0) (l : Ledger) (k : Seat) (s : SessionState) (has_shifted : Bool) → Open Fresh l s → IsStanding Fresh l (attempts k s has_shifted)
unfolding attempts
attempts_stand Fresh l k s has_shifted its = record { waiting = its.waiting; next = its.in_hand; later = its.later }

-- one more serial
serial_later : (Fresh : Type 0) (updates reads : ℕ → Option Op) (serial ticket : ℕ) (requests : List PendingRequest) → AreEach (IsCalled Fresh updates reads serial ticket) requests → AreEach (IsCalled Fresh updates reads (serial + 1) ticket) requests
serial_later Fresh updates reads serial ticket requests all = each_on _ _ requests on all
  where
    on : (name : RequestName) (o : Op) → IsCalled Fresh updates reads serial ticket name o → IsCalled Fresh updates reads (serial + 1) ticket name o
    on (Update its) o called = let low = called.0 in (omega (arith, low), called.1)
    on (Read its) o called = called

-- one more ticket
ticket_later : (Fresh : Type 0) (l : Ledger) (serial ticket : ℕ) (given : Ticket) (requests : List PendingRequest) → (Fresh → given.0 ≡ ticket + 1)
    → AreEach (IsCalled Fresh l.updates l.reads serial ticket) requests → AreEach (IsCalled Fresh l.updates (reads_with l (told.PendingRead given)) serial given.0) requests
ticket_later Fresh l serial ticket given requests fresh all = each_on _ _ requests on all
  where
    on : (name : RequestName) (o : Op) → IsCalled Fresh l.updates l.reads serial ticket name o → IsCalled Fresh l.updates (reads_with l (told.PendingRead given)) serial given.0 name o
    on (Update its) o called = called
    on (Read its) o called = λ new.
        let low = (called new).0 in
        let above = fresh new in
        let other : (given.0 == its.0) ≡ false = grind (arith, nat_tests, low, above) in
        (omega (arith, low, above), rw other (called new).1)

read_is_none : (o : Op) → is_read o ≡ true → update_of o ≡ None
read_is_none (op.Read key) e = refl
read_is_none o e = cc

pub update_is_some : (o : Op) → is_read o ≡ false → update_of o ≡ Some o
update_is_some (op.Read key) e = cc
update_is_some o e = refl

read_called : (made : Option Call) (o : Op) → made ≡ Some (call.Op o) → is_read o ≡ true → IsReadCall made
read_called made o e read = subst IsReadCall (sym e) read

same_ticket : (n : ℕ) → (n == n) ≡ true
same_ticket n = grind (arith, nat_tests)

-- the request is accepted and waits
accepts_either : (Fresh : Type 0) (l : Ledger) (s : SessionState) (why : Reason) (c : Bool) → is_read s.op ≡ c → (Fresh → ticket_after s.ticket ≡ s.ticket + 1) → Open Fresh l s → s.attempt.pending.request.op ≡ s.op
    → s.attempt.pending.name ≡ (if c then Read (record { 0 = ticket_after s.ticket }) else Update (record { 0 = s.serial + 1 }))
    → IsStanding Fresh l (if c then answers (with_request (record s { ticket = ticket_after s.ticket })) (told.PendingRead (record { 0 = ticket_after s.ticket }))
    else answers_after_turn (with_request (serial_taken (record s { wants_turn = is_no_room why }))) (told.Pending (record { 0 = s.serial + 1 }) why))
accepts_either Fresh l s why true r fresh its same named = record {
  waiting = each_more _ s.requests s.attempt.pending (ticket_later Fresh l s.serial s.ticket given s.requests fresh its.waiting) new;
  next = (its.in_hand.1 ∙ read_is_none s.op r, read_called l.made s.op its.in_hand.0 r);
  later = its.later;
}
  where
    given : Ticket
    given = record { 0 = ticket_after s.ticket }

    new : IsCalled Fresh l.updates (reads_with l (told.PendingRead given)) s.serial given.0 s.attempt.pending.name s.attempt.pending.request.op
    new = rw named (rw same (λ one. (omega arith, rw (same_ticket given.0) (ap op_of its.in_hand.0))))
accepts_either Fresh l s why false r fresh its same named =
    plainly_turns Fresh l (with_request (serial_taken (record s { wants_turn = is_no_room why }))) (told.Pending (record { 0 = s.serial + 1 }) why) tt
    (record {
      waiting = each_more _ s.requests s.attempt.pending (serial_later Fresh l.updates l.reads s.serial s.ticket s.requests its.waiting) new;
      none = its.later (s.serial + 1 + 1) (omega arith);
      later = λ n above. its.later n (omega (arith, above));
    })
  where
    new : IsCalled Fresh l.updates l.reads (s.serial + 1) s.ticket s.attempt.pending.name s.attempt.pending.request.op
    new = rw named (rw same (omega arith, its.in_hand.1 ∙ update_is_some s.op r))

-- what is attempted at a call: its operation, under the next name
pub record IsAtCall (s : SessionState) : Type 0 where
  pub name : s.attempt.pending.name ≡ name_of s
  pub op : s.attempt.pending.request.op ≡ s.op

accepts_stand : (Fresh : Type 0) (l : Ledger) (s : SessionState) (why : Reason) → (Fresh → ticket_after s.ticket ≡ s.ticket + 1) → Open Fresh l s → IsAtCall s → IsStanding Fresh l (accepts s why)
unfolding accepts
accepts_stand Fresh l s why fresh its at = accepts_either Fresh l s why (is_read s.op) refl fresh its at.op at.name

shifts_stand : (Fresh : Type 0) (l : Ledger) (s : SessionState) (has_shifted : Bool) → (Fresh → ticket_after s.ticket ≡ s.ticket + 1) → Open Fresh l s → IsAtCall s → IsStanding Fresh l (shifts s has_shifted)
unfolding shifts
shifts_stand Fresh l s false fresh its at = record { waiting = its.waiting; next = its.in_hand; later = its.later }
shifts_stand Fresh l s true fresh its at = accepts_stand Fresh l s reason.Contended fresh its at

-- a read is answered
read_none : (Fresh : Type 0) (l : Ledger) (s : SessionState) → Open Fresh l s → is_read s.op ≡ true → (l.updates (s.serial + 1) ≡ None) × IsReadCall l.made
read_none Fresh l s its r = (its.in_hand.1 ∙ read_is_none s.op r, read_called l.made s.op its.in_hand.0 r)

done_either : (Fresh : Type 0) (l : Ledger) (s : SessionState) (reply : _) (c : Bool) → is_read s.op ≡ c → Open Fresh l s → IsStanding Fresh l (if c then answers s told.Absent else update_done s reply)
done_either Fresh l s reply true r its = record { waiting = its.waiting; next = read_none Fresh l s its r; later = its.later }
done_either Fresh l s reply false r its = record {
  waiting = serial_later Fresh l.updates l.reads s.serial s.ticket s.requests its.waiting;
  next = (its.later (s.serial + 1 + 1) (omega arith), tt);
  later = λ n above. its.later n (omega (arith, above));
}

read_or : (c : Bool) → (c ≡ false → ⊥) → c ≡ true
read_or true ends = refl
read_or false ends = absurd (ends refl)

attempted_stands : (Fresh : Type 0) (l : Ledger) (s : SessionState) (has_shifted : Bool) (its : TryAnswer) → (Fresh → ticket_after s.ticket ≡ s.ticket + 1) → Open Fresh l s → IsAtCall s → (is_read s.op ≡ false → IsUpdateEnd its)
    → IsStanding Fresh l (attempted s has_shifted its)
attempted_stands Fresh l s has_shifted (tried.Done reply) fresh its at ends = done_either Fresh l s reply (is_read s.op) refl its
attempted_stands Fresh l s has_shifted (tried.Found value) fresh its at ends = record { waiting = its.waiting; next = read_none Fresh l s its (read_or (is_read s.op) ends); later = its.later }
attempted_stands Fresh l s has_shifted tried.Absent fresh its at ends = record { waiting = its.waiting; next = read_none Fresh l s its (read_or (is_read s.op) ends); later = its.later }
attempted_stands Fresh l s has_shifted (tried.Wait why) fresh its at ends = accepts_stand Fresh l s why fresh its at
attempted_stands Fresh l s has_shifted (tried.AwaitsDisk sought) fresh its at ends = accepts_stand Fresh l s reason.Disk fresh its at
attempted_stands Fresh l s has_shifted tried.Shift fresh its at ends = shifts_stand Fresh l s has_shifted fresh its at
attempted_stands Fresh l s has_shifted tried.IndexFull fresh its at ends = refused Fresh l s _ its.waiting (open_called l s.serial s.op its.in_hand) its.later
attempted_stands Fresh l s has_shifted tried.LogFull fresh its at ends = refused Fresh l s _ its.waiting (open_called l s.serial s.op its.in_hand) its.later

called_stands : (Fresh : Type 0) (l : Ledger) (k : Seat) (s : SessionState) (has_shifted : Bool) (ask : Ask TryAnswer) → s.step ≡ Attempts has_shifted → (Fresh → ticket_after s.ticket ≡ s.ticket + 1) → Open Fresh l s → IsAtCall s
    → ((its : TryAnswer) → ask ≡ Done its → is_read s.op ≡ false → IsUpdateEnd its) → IsStanding Fresh l (attempt_ledto s has_shifted ask)
unfolding attempt_ledto
called_stands Fresh l k s has_shifted (Done its) step fresh open_so at ends =
    attempted_stands Fresh l (attempt_left s) has_shifted its fresh (record { waiting = open_so.waiting; in_hand = open_so.in_hand; later = open_so.later }) (record { name = at.name; op = at.op }) (ends its refl)
called_stands Fresh l k s has_shifted ask step fresh open_so at ends = still Fresh l s (Attempts has_shifted) step (record { waiting = open_so.waiting; next = open_so.in_hand; later = open_so.later })

-- ---- a poll
request_stands : (Fresh : Type 0) (l : Ledger) (k : Seat) (s : SessionState) (index : ℕ) (found : Option PendingRequest) → Calm Fresh l s → IsStanding Fresh l (polls_request k s index found)
request_stands Fresh l k s index None calm = plainly_turns Fresh l s (told.Polled (length s.requests)) tt calm
request_stands Fresh l k s index (Some pending) calm = record { waiting = calm.waiting; next = calm.none; later = calm.later }

polls_stand : (Fresh : Type 0) (l : Ledger) (k : Seat) (s : SessionState) (index : ℕ) → Calm Fresh l s → IsStanding Fresh l (polls_at k s index)
unfolding polls_at
polls_stand Fresh l k s index calm = request_stands Fresh l k s index (slice_get s.requests index) calm

finishes_stands : (Fresh : Type 0) (l : Ledger) (k : Seat) (s : SessionState) (index : ℕ) (its : TryAnswer) → Calm Fresh l s → IsStanding Fresh l (finishes_request k s index its)
unfolding finishes_request
finishes_stands Fresh l k s index its calm =
    let less = each_less _ s.requests index calm.waiting in
    either_stands Fresh l (is_owed s) (request_finished s index its) (polls_at k (request_finished s index its) index)
    (record { waiting = less; next = calm.none; later = calm.later }) (polls_stand Fresh l k (request_finished s index its) index (record { waiting = less; none = calm.none; later = calm.later }))

keeps_stands : (Fresh : Type 0) (l : Ledger) (k : Seat) (s : SessionState) (index : ℕ) (its : TryAnswer) → Calm Fresh l s
    → IsCalled Fresh l.updates l.reads s.serial s.ticket s.attempt.pending.name s.attempt.pending.request.op → IsStanding Fresh l (keeps_request k s index its)
unfolding keeps_request
keeps_stands Fresh l k s index its calm named =
    polls_stand Fresh l k (record s { requests = slice_set s.requests index s.attempt.pending; wants_turn = s.wants_turn || lacks_room its }) (index + 1)
    (record { waiting = each_set _ s.requests index s.attempt.pending calm.waiting named; none = calm.none; later = calm.later })

-- what a poll attempts waits under its name
pub record IsInPoll (requests : List PendingRequest) (index : ℕ) (pending : PendingRequest) : Type 0 where
  pub its : PendingRequest
  pub at : slice_get requests index ≡ Some its
  pub name : pending.name ≡ its.name
  pub op : pending.request.op ≡ its.request.op

pub polled_called : (P : RequestName → Op → Type 0) (requests : List PendingRequest) (index : ℕ) (pending : PendingRequest) → IsInPoll requests index pending → AreEach P requests → P pending.name pending.request.op
polled_called P requests index pending at all = rw at.name (rw at.op (each_at P requests index at.its at.at all))

polled_stands : (Fresh : Type 0) (l : Ledger) (k : Seat) (s : SessionState) (index : ℕ) (ask : Ask TryAnswer) → s.step ≡ Polls index → Calm Fresh l s → IsInPoll s.requests index s.attempt.pending → IsStanding Fresh l (poll_ledto k s index ask)
unfolding poll_ledto
polled_stands Fresh l k s index (Done its) step calm at =
    let left : Calm Fresh l (poll_left s) = record { waiting = calm.waiting; none = calm.none; later = calm.later } in
    either_stands Fresh l (is_finished its) (finishes_request k (poll_left s) index its) (keeps_request k (poll_left s) index its)
    (finishes_stands Fresh l k (poll_left s) index its left)
    (keeps_stands Fresh l k (poll_left s) index its left
    (polled_called (IsCalled Fresh l.updates l.reads s.serial s.ticket) s.requests index s.attempt.pending at calm.waiting))
polled_stands Fresh l k s index ask step calm at = still Fresh l s (Polls index) step (record { waiting = calm.waiting; next = calm.none; later = calm.later })

-- ---- each other state
caught_stands : (Fresh : Type 0) (l : Ledger) (k : Seat) (s : SessionState) (its : CatchCause) → Stands Fresh l s.serial s.ticket s.op s.requests (CatchesUp its) → IsStanding Fresh l (caught_up k s its)
caught_stands Fresh l k s cause.Refreshes stands = plainly Fresh l s _ tt (record { waiting = stands.waiting; none = stands.next; later = stands.later })
caught_stands Fresh l k s cause.Wakes stands = plainly Fresh l (record s { is_awake = true }) _ tt (record { waiting = stands.waiting; none = stands.next; later = stands.later })
caught_stands Fresh l k s cause.Shifts stands = attempts_stand Fresh l k s true (record { waiting = stands.waiting; in_hand = stands.next; later = stands.later })

catch_stands : (Fresh : Type 0) (l : Ledger) (k : Seat) (s : SessionState) (its : CatchCause) (ask : Ask (Unit {0})) → s.step ≡ CatchesUp its → Stands Fresh l s.serial s.ticket s.op s.requests (CatchesUp its)
    → IsStanding Fresh l (catch_ledto k s its ask)
unfolding catch_ledto
catch_stands Fresh l k s its (Done through) step stands = caught_stands Fresh l k (record s { seen = s.catching.seen }) its stands
catch_stands Fresh l k s its ask step stands = still Fresh l s (CatchesUp its) step stands

clear_stands : (Fresh : Type 0) (l : Ledger) (k : Seat) (s : SessionState) (ask : Ask MailAnswer) → s.step ≡ ClearsMail → Calm Fresh l s → IsStanding Fresh l (clear_ledto k s ask)
unfolding clear_ledto
clear_stands Fresh l k s (Done Cleared) step calm = polls_stand Fresh l k (record s { is_orphaned = false }) 0 calm
clear_stands Fresh l k s (Done its) step calm = polls_stand Fresh l k s 0 calm
clear_stands Fresh l k s ask step calm = still Fresh l s ClearsMail step (record { waiting = calm.waiting; next = calm.none; later = calm.later })

turned_stands : (Fresh : Type 0) (l : Ledger) (s : SessionState) (its : Told) (ask : Ask (Unit {0})) → s.step ≡ Turns its → Stands Fresh l s.serial s.ticket s.op s.requests (Turns its) → IsStanding Fresh l (turn_ledto s its ask)
unfolding turn_ledto
turned_stands Fresh l s its (Done through) step stands = record { waiting = stands.waiting; next = stands.next; later = stands.later }
turned_stands Fresh l s its ask step stands = still Fresh l s (Turns its) step stands

left_stands : (Fresh : Type 0) (l : Ledger) (s : SessionState) (ask : Ask (Unit {0})) → s.step ≡ Leaves → Calm Fresh l s → IsStanding Fresh l (leave_ledto s ask)
unfolding leave_ledto
left_stands Fresh l s (Done its) step calm = plainly Fresh l (record s { is_awake = false }) told.Slept tt calm
left_stands Fresh l s ask step calm = still Fresh l s Leaves step (record { waiting = calm.waiting; next = calm.none; later = calm.later })

-- ---- each reply
-- what is attempted, by how far the call has come
pub record KnowsAttempt (s : SessionState) : Type 0 where
  pub at : IsAtCall s
  pub under_way : IsUnderWay s.attempt

abbrev pub Knows : SessionState → Sitting → Type 0
Knows s (Attempts has_shifted) = KnowsAttempt s
Knows s (Polls index) = IsInPoll s.requests index s.attempt.pending
Knows s step = ⊤

moved_ends : (k : Seat) (a : AttemptState) (reply : ℕ) → IsUnderWay a → (its : TryAnswer)
    → attempt_ask k.places k.number (attempt_next k.places (bits_of k) (room_of k) k.number a reply) ≡ Done its → is_read a.pending.request.op ≡ false → IsUpdateEnd its
moved_ends k a reply way its asks update =
    let after : AttemptState = attempt_next k.places (bits_of k) (room_of k) k.number a reply in
    let keeps = attempt_keeps k.places (bits_of k) (room_of k) k.number a reply in
    let so = attempt_so k.places (bits_of k) (room_of k) k.number a reply way.knows in
    let rests = attempt_rests k.places (bits_of k) (room_of k) k.number a reply way.rests in
    let ended = attempt_ends k.places k.number after its rests asks in
    subst (KnowsUpdate after) ended (so.knows (ap is_read keeps.op ∙ update))

sitting_stands : (Fresh : Type 0) (l : Ledger) (k : Seat) (s : SessionState) (step : Sitting) (reply : ℕ) → s.step ≡ step → (Fresh → ticket_after s.ticket ≡ s.ticket + 1) → Knows s step
    → Stands Fresh l s.serial s.ticket s.op s.requests step → IsStanding Fresh l (sitting_next k s step reply)
unfolding sitting_next
sitting_stands Fresh l k s (Idle its) reply at fresh knows stands = still Fresh l s (Idle its) at stands
sitting_stands Fresh l k s (Attempts has_shifted) reply at fresh knows stands =
    let after : SessionState = attempt_moved k s reply in
    let keeps = attempt_keeps k.places (bits_of k) (room_of k) k.number s.attempt reply in
    called_stands Fresh l k after has_shifted (attempt_ask k.places k.number after.attempt) at fresh (record { waiting = stands.waiting; in_hand = stands.next; later = stands.later })
    (record { name = keeps.name ∙ knows.at.name; op = keeps.op ∙ knows.at.op })
    (λ its asks update. moved_ends k s.attempt reply knows.under_way its asks (ap is_read knows.at.op ∙ update))
sitting_stands Fresh l k s (Polls index) reply at fresh knows stands =
    let after : SessionState = attempt_moved k s reply in
    let keeps = attempt_keeps k.places (bits_of k) (room_of k) k.number s.attempt reply in
    polled_stands Fresh l k after index (attempt_ask k.places k.number after.attempt) at (record { waiting = stands.waiting; none = stands.next; later = stands.later })
    (record { its = knows.its; at = knows.at; name = keeps.name ∙ knows.name; op = keeps.op ∙ knows.op })
sitting_stands Fresh l k s (CatchesUp its) reply at fresh knows stands =
    let after : SessionState = caught k s reply in
    catch_stands Fresh l k after its (catch_ask k.places k.number after.catching after.requests) at
    (record { waiting = caught_each _ s.catching s.requests s.catching.step reply stands.waiting; next = stands.next; later = stands.later })
sitting_stands Fresh l k s ClearsMail reply at fresh knows stands =
    clear_stands Fresh l k (record s { mailing = mail_next s.mailing reply }) (mail_ask k.number (mail_next s.mailing reply)) at (record { waiting = stands.waiting; none = stands.next; later = stands.later })
sitting_stands Fresh l k s (StoresOwing index) reply at fresh knows stands = polls_stand Fresh l k s index (record { waiting = stands.waiting; none = stands.next; later = stands.later })
sitting_stands Fresh l k s (Turns its) reply at fresh knows stands =
    let after : SessionState = own_turn_moved k s reply in
    turned_stands Fresh l after its (own_turn_ask k.shape after.own_turn) at stands
sitting_stands Fresh l k s StoresCut reply at fresh knows stands = record { waiting = stands.waiting; next = stands.next; later = stands.later }
sitting_stands Fresh l k s Leaves reply at fresh knows stands =
    left_stands Fresh l (record s { leaving = leave_next s.leaving }) (leave_ask k.number (leave_next s.leaving)) at (record { waiting = stands.waiting; none = stands.next; later = stands.later })
sitting_stands Fresh l k s LoadsDurable reply at fresh knows stands = plainly Fresh l s _ tt (record { waiting = stands.waiting; none = stands.next; later = stands.later })

counted_knows : (s : SessionState) (asks : ℕ) (step : Sitting) → Knows s step → Knows (record s { asks = asks; effect = None }) step
counted_knows s asks (Attempts has_shifted) knows = record { at = record { name = knows.at.name; op = knows.at.op }; under_way = knows.under_way }
counted_knows s asks (Polls index) knows = knows
counted_knows s asks step knows = tt

pub next_stands : (Fresh : Type 0) (l : Ledger) (k : Seat) (s : SessionState) (reply : ℕ) → (Fresh → ticket_after s.ticket ≡ s.ticket + 1) → Knows s s.step → IsStanding Fresh l s
    → IsStanding Fresh l (sitting_next k (record s { asks = asks_after s.asks (is_word_ask (session_ask k s)); effect = None }) s.step reply)
next_stands Fresh l k s reply fresh knows stands =
    let asks : ℕ = asks_after s.asks (is_word_ask (session_ask k s)) in
    sitting_stands Fresh l k (record s { asks = asks; effect = None }) s.step reply refl fresh (counted_knows s asks s.step knows) stands

-- an action that it gets
pub given_stands : (Fresh : Type 0) (l : Ledger) (k : Seat) (s : SessionState) (step : Sitting) (action : Action) → s.step ≡ step → Stands Fresh l s.serial s.ticket s.op s.requests step → IsStanding Fresh l (sitting_given k s step action)
unfolding sitting_given
given_stands Fresh l k s (Turns its) action at stands =
    let after : SessionState = record s { own_turn = own_turn_given s.own_turn action } in
    turned_stands Fresh l after its (own_turn_ask k.shape after.own_turn) at stands
given_stands Fresh l k s step action at stands = still Fresh l s step at stands

-- ---- a call that begins
pub record IsBegun (Fresh : Type 0) (l : Ledger) (serial ticket : ℕ) (requests : List PendingRequest) (its : Call) : Type 0 where
  pub waiting : AreEach (IsCalled Fresh l.updates l.reads serial ticket) requests
  pub made : l.made ≡ Some its
  pub next : l.updates (serial + 1) ≡ update_called (Some its)
  pub later : NoneLater l serial

begun_refused : (Fresh : Type 0) (l : Ledger) (s : SessionState) (its : Call) (why : Fault) → IsBegun Fresh l s.serial s.ticket s.requests its → IsStanding Fresh l (refuses s why)
begun_refused Fresh l s its why begun = refused Fresh l s why begun.waiting (begun.next ∙ sym (ap update_called begun.made)) begun.later

op_stands : (Fresh : Type 0) (l : Ledger) (k : Seat) (s : SessionState) (o : Op) (why : Option Fault) → IsBegun Fresh l s.serial s.ticket s.requests (call.Op o) → IsStanding Fresh l (op_begun k s o why)
unfolding op_begun
op_stands Fresh l k s o (Some why) begun = begun_refused Fresh l s (call.Op o) why begun
op_stands Fresh l k s o None begun = attempts_stand Fresh l k (record s { op = o }) false (record { waiting = begun.waiting; in_hand = (begun.made, begun.next); later = begun.later })

clears_stand : (Fresh : Type 0) (l : Ledger) (k : Seat) (s : SessionState) → Calm Fresh l s → IsStanding Fresh l (poll_begun k s)
clears_stand Fresh l k s calm =
    either_stands Fresh l s.is_orphaned (record s { mailing = LoadsState Clear; step = ClearsMail }) (polls_at k s 0) (record { waiting = calm.waiting; next = calm.none; later = calm.later }) (polls_stand Fresh l k s 0 calm)

call_stands : (Fresh : Type 0) (l : Ledger) (k : Seat) (s : SessionState) (its : Call) → IsBegun Fresh l s.serial s.ticket s.requests its → IsStanding Fresh l (call_begun k s its)
unfolding refresh_call poll_call sleep_call wake_call
call_stands Fresh l k s (call.Op o) begun = op_stands Fresh l k s o (refusal_of s o) begun
call_stands Fresh l k s call.Refresh begun = either_stands Fresh l s.is_awake _ (refuses s _) (record { waiting = begun.waiting; next = begun.next; later = begun.later }) (begun_refused Fresh l s call.Refresh _ begun)
call_stands Fresh l k s call.Poll begun =
    either_stands Fresh l s.is_awake _ (refuses s _) (clears_stand Fresh l k (record s { finished = [] }) (record { waiting = begun.waiting; none = begun.next; later = begun.later })) (begun_refused Fresh l s call.Poll _ begun)
call_stands Fresh l k s call.Sleep begun = either_stands Fresh l (not s.is_awake) (refuses s _) _ (begun_refused Fresh l s call.Sleep _ begun)
    (either_stands Fresh l (length s.requests == 0) (record s { step = StoresCut }) (refuses s _) (record { waiting = begun.waiting; next = begun.next; later = begun.later }) (begun_refused Fresh l s call.Sleep _ begun))
call_stands Fresh l k s call.Wake begun = either_stands Fresh l s.is_awake (refuses s _) _ (begun_refused Fresh l s call.Wake _ begun) (record { waiting = begun.waiting; next = begun.next; later = begun.later })
call_stands Fresh l k s call.Durable begun = record { waiting = begun.waiting; next = begun.next; later = begun.later }

pub begun_stands : (Fresh : Type 0) (l : Ledger) (k : Seat) (s : SessionState) (its : Call) → IsBegun Fresh l s.serial s.ticket s.requests its → IsStanding Fresh l (session_begun k s its)
begun_stands Fresh l k s its begun = call_stands Fresh l k (record s { asks = 0; effect = None; wants_turn = false }) its begun
