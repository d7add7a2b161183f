-- How a session's reads go along with its replies, by the session's control state, where the readings stand as the reply leaves them.
use Rattle.std.proofs.Common.{◌≡◌, ℕ, zero, suc, ◌+◌, ◌<◌, ◌∙◌, refl, sym, ap, subst, arith, inr, Bool, true, false, List, [], ◌∷◌, ◌++◌, length}
use Rattle.std.specs.Prelude.{⊤, Option, Some, None, if◌then◌else◌, not, ◌==◌, ◌||◌, slice_get, slice_set}
use Rattle.std.specs.List.{remove}
use Rattle.std.proofs.lemmas.Bool.Decides.{nat_tests}
use Rattle.fkv_epoch.proofs.Shown.{item_within}
use Rattle.fkv_base.specs.declared.faults.Fault.{Fault}
use Rattle.fkv_base.specs.declared.faults.Fault.TheVariants as fault
use Rattle.fkv_map.specs.declared.operations.Call.{Call}
use Rattle.fkv_map.specs.declared.operations.Call.TheVariants as call
use Rattle.fkv_map.specs.declared.operations.Op.{Op}
use Rattle.fkv_map.specs.declared.operations.Reply.{Reply}
use Rattle.fkv_map.specs.Keys.{key_of}
use Rattle.fkv_plane.specs.declared.actions.Action.{Action}
use Rattle.fkv_plane.specs.declared.asks.Ask.{Ask}
use Rattle.fkv_plane.specs.declared.asks.Ask.TheVariants.{Done}
use Rattle.fkv_epoch.specs.Leaving.{leave_ask, leave_next}
use Rattle.fkv_latch.specs.declared.latching.LatchAnswer.{LatchAnswer}
use Rattle.fkv_latch.specs.declared.latching.LatchAnswer.TheVariants.{Taken as LatchTaken}
use Rattle.fkv_latch.specs.Latching.{latch_next_ask}
use Rattle.law_log.specs.Ghosts.{Reading}
use Rattle.law_commit.specs.Below.fkv_ops.DiskRecord.{DiskRecord}
use Rattle.law_commit.specs.Below.fkv_ops.Reason.{Reason}
use Rattle.law_commit.specs.Below.fkv_ops.Reason.TheVariants as reason
use Rattle.law_commit.specs.Below.fkv_ops.TryAnswer.{TryAnswer}
use Rattle.law_commit.specs.Below.fkv_ops.TryAnswer.TheVariants as tried
use Rattle.law_commit.specs.Below.fkv_ops.Occasion.{Occasion}
use Rattle.law_commit.specs.Below.fkv_ops.Occasion.TheVariants.{Call as AtCall, Poll as AtPoll}
use Rattle.law_commit.specs.Below.fkv_ops.Bounds.{bounds_of}
use Rattle.law_commit.specs.Below.fkv_ops.Seen.{Seen}
use Rattle.law_commit.specs.Below.fkv_ops.Requests.{is_read}
use Rattle.law_commit.specs.Below.fkv_pending.MailAnswer.{MailAnswer}
use Rattle.law_commit.specs.Below.fkv_pending.MailAnswer.TheVariants.{Cleared}
use Rattle.law_commit.specs.Below.fkv_pending.MailTask.TheVariants.{Clear}
use Rattle.law_commit.specs.Below.fkv_pending.TheMailing.TheVariants.{LoadsState}
use Rattle.law_commit.specs.Below.fkv_pending.PendingRequest.{PendingRequest}
use Rattle.law_commit.specs.Below.fkv_pending.RequestName.{RequestName}
use Rattle.law_commit.specs.Below.fkv_pending.RequestName.TheVariants.{Update, Read}
use Rattle.law_commit.specs.Below.fkv_pending.Ticket.{Ticket}
use Rattle.law_commit.specs.Below.fkv_pending.Pending.{with_latch}
use Rattle.law_commit.specs.Below.fkv_pending.Mailing.{mail_ask, mail_next}
use Rattle.law_commit.specs.Below.fkv_pending.Attempting.{AttemptState, is_poll, attempt_begun}
use Rattle.law_commit.specs.Below.fkv_session.Accounts.{names_of}
use Rattle.law_commit.specs.Below.fkv_session.Finished.{Finished}
use Rattle.law_commit.specs.Below.fkv_session.Told.{Told}
use Rattle.law_commit.specs.Below.fkv_session.Told.TheVariants as told
use Rattle.law_commit.specs.Below.fkv_session.Catching.{Catching}
use Rattle.law_commit.specs.Below.fkv_session.Catching.TheVariants.{Latches}
use Rattle.law_commit.specs.Below.fkv_session.CatchCause.{CatchCause}
use Rattle.law_commit.specs.Below.fkv_session.CatchCause.TheVariants.{Refreshes, Wakes, Shifts}
use Rattle.law_commit.specs.Below.fkv_session.Sitting.{Sitting}
use Rattle.law_commit.specs.Below.fkv_session.Sitting.TheVariants.{Idle, Attempts, CatchesUp, ClearsMail, Polls, StoresOwing, Turns, StoresCut, Leaves, LoadsDurable}
use Rattle.law_commit.specs.Below.fkv_session.CatchingUp.{CatchState, refresh_begun, wake_begun, catch_ask, latched, latch_marked, catching_requests}
use Rattle.law_commit.specs.Below.fkv_session.OwnTurns.{own_turn_ask, own_turn_begun, own_turn_given}
use Rattle.law_commit.specs.Below.fkv_session.Sessions.{SessionState, Seat, bits_of, session_ask, answers, answers_after_turn, refuses, request_in_hand, attempts, polls_request, polls_at, update_done, is_no_room, with_request, serial_taken, ticket_after, name_of, accepts, shifts, attempted, attempt_left, poll_left, attempt_ledto, caught_up, catch_ledto, clear_ledto, finished_of, is_finished, is_owed, request_finished, finishes_request, lacks_room, keeps_request, poll_ledto, turn_ledto, leave_ledto, attempt_moved, caught, own_turn_moved, sitting_next, session_next, sitting_given, session_given, is_word_ask, asks_after, refusal_of, op_begun, refresh_call, poll_begun, poll_call, sleep_call, wake_call, call_begun, session_begun}
use Rattle.law_commit.proofs.Below.fkv_session.Shown.{IsUpdateEnd}
use Rattle.law_commit.specs.Below.law_local.Sessions.Known.{attempt_after, attempt_comes_to}
use Rattle.law_commit.proofs.Below.law_local.OfSessions.Lists.{all_behind, all_left, all_set, but_one}
use Rattle.law_commit.proofs.Below.law_local.OfSessions.AttemptInputs.{begun_goes, begun_pending}
use Rattle.law_commit.specs.Below.law_local.Tries.ReadRows.{IsCalledFor, HasRead, SoughtReads, AnsweredReads}
use Rattle.law_commit.specs.Below.law_local.Tries.TryRows.{key_in}
use Rattle.law_commit.proofs.Below.law_local.OfTries.ReadAttempts.{reads_begin}
use Rattle.law_order.specs.Known.Told.{AreApart}
use Rattle.law_commit.specs.Below.law_refine.Events.Names.{is_read_name, IsNamedSo}
use Rattle.law_commit.specs.Below.law_refine.Events.Sessions.{ticket_of}
use Rattle.law_order.specs.Reads.Reads.{SessionReadings, WaitsSo, AllWait, AllWaitBut, reading_tried, TriedAs, TriedSo, FinishedSo, AllFinished, CatchReads, TurnReads, SitsReads}

-- ---- where a call has come to its end
-- a ticket is given to the read in hand
abbrev pub with_ticket : SessionReadings → ℕ → SessionReadings
with_ticket r ticket = record { given = λ other. if ticket == other then true else r.given other; in_hand = r.in_hand; waiting = λ other. if ticket == other then r.in_hand else r.waiting other }

abbrev pub with_told : SessionReadings → Told → SessionReadings
with_told r (told.PendingRead ticket) = with_ticket r ticket.0
with_told r its = r

-- the answer tells what the reads have
abbrev pub TellsReads : SessionReadings → List Finished → Told → Type 0
TellsReads r its (told.Found value) = (key : ℕ) × HasRead r.in_hand key (Some value.0)
TellsReads r its told.Absent = (key : ℕ) × HasRead r.in_hand key None
TellsReads r its (told.Polled left) = AllFinished r its
TellsReads r its answer = ⊤

abbrev pub ComesTo : SessionReadings → SessionState → Sitting → Type 0
ComesTo r s (Idle its) = AllWait (with_told r its) s.requests × TellsReads r s.finished its
ComesTo r s step = SitsReads r s step

abbrev pub Comes : SessionReadings → SessionState → Type 0
Comes r s = ComesTo r s s.step

still : (r : SessionReadings) (s : SessionState) (step : Sitting) → s.step ≡ step → ComesTo r s step → Comes r s
still r s step at its = subst (ComesTo r s) (sym at) its

either_comes : (r : SessionReadings) (c : Bool) (a b : SessionState) → (c ≡ true → Comes r a) → (c ≡ false → Comes r b) → Comes r (if c then a else b)
either_comes r true a b one other = one refl
either_comes r false a b one other = other refl

-- ---- an attempt begins
begun_tried : (r : SessionReadings) (k : Seat) (pending : PendingRequest) (seen : Seen) (occasion : Occasion) (spare : ℕ) (is_orphaned : Bool)
    → (is_read pending.request.op ≡ true → (is_poll occasion ≡ true → r.given (ticket_of pending.name) ≡ true) × (is_poll occasion ≡ false → pending.sought ≡ None) × SoughtReads (key_in pending.request) (reading_tried r (is_poll occasion) (ticket_of pending.name)) pending.sought)
    → TriedSo r (attempt_begun k.places (bits_of k) pending seen occasion spare is_orphaned)
begun_tried r k pending seen occasion spare is_orphaned its =
    let begun : AttemptState = attempt_begun k.places (bits_of k) pending seen occasion spare is_orphaned in
    let tried_as : TriedAs r pending (is_poll occasion) begun = λ read.
    let facts = its read in
    (facts.0, reads_begin (key_in pending.request) (reading_tried r (is_poll occasion) (ticket_of pending.name)) k.places (bits_of k) pending seen occasion spare is_orphaned read facts.1 facts.2) in
    let same : begun.pending ≡ pending = begun_pending k.places (bits_of k) pending seen occasion spare is_orphaned in
    let at : begun.occasion ≡ occasion = (begun_goes (bits_of k) seen occasion k.places pending spare is_orphaned).its_occasion in
    subst (λ (o : Occasion). TriedAs r begun.pending (is_poll o) begun) (sym at) (subst (λ (p : PendingRequest). TriedAs r p (is_poll occasion) begun) (sym same) tried_as)

attempts_come : (r : SessionReadings) (k : Seat) (s : SessionState) (has_shifted : Bool) → AllWait r s.requests → (is_read s.op ≡ true → IsCalledFor r.in_hand (key_of s.op).0) → Comes r (attempts k s has_shifted)
unfolding attempts
attempts_come r k s has_shifted all called = (all, begun_tried r k (request_in_hand s) s.seen (AtCall (bounds_of k.shape)) s.spare s.is_orphaned (λ read. (λ e. never e, λ e. refl, called read)))
  where
    never : {X : Type 0} → false ≡ true → X
    never e = cc

polled_turn : (r : SessionReadings) (s : SessionState) (left : ℕ) → AllWait r s.requests → AllFinished r s.finished → Comes r (answers_after_turn s (told.Polled left))
polled_turn r s left all its =
    either_comes r s.wants_turn (record s { own_turn = own_turn_begun s.own_turn; step = Turns (told.Polled left) }) (answers s (told.Polled left)) (λ e. (all, its)) (λ e. (all, its))

polls_found : (r : SessionReadings) (k : Seat) (s : SessionState) (i : ℕ) (found : Option PendingRequest) → slice_get s.requests i ≡ found → AllWait r s.requests → AllFinished r s.finished → Comes r (polls_request k s i found)
polls_found r k s i None got all its = polled_turn r s (length s.requests) all its
polls_found r k s i (Some pending) got all its = (
  but_one (WaitsSo r) s.requests i all,
  begun_tried r k pending s.seen AtPoll s.spare s.is_orphaned (λ read. let waits = all i pending got read in (λ e. waits.0, λ e. never e, waits.1)),
  its,
)
  where
    never : {X : Type 0} → true ≡ false → X
    never e = cc

polls_come : (r : SessionReadings) (k : Seat) (s : SessionState) (i : ℕ) → AllWait r s.requests → AllFinished r s.finished → Comes r (polls_at k s i)
unfolding polls_at
polls_come r k s i all its = polls_found r k s i (slice_get s.requests i) refl all its

-- ---- the ticket that comes next is none that waits
named_at : (requests more : List PendingRequest) (i : ℕ) (its : PendingRequest) → slice_get requests i ≡ Some its → slice_get (names_of (requests ++ more)) i ≡ Some its.name
named_at [] more i its got = cc
named_at (o ∷ rest) more zero its got = let same : o ≡ its = cc in ap (λ (p : PendingRequest). Some p.name) same
named_at (o ∷ rest) more (suc i) its got = named_at rest more i its got

named_last : (requests : List PendingRequest) (last : PendingRequest) → slice_get (names_of (requests ++ last ∷ [])) (length requests) ≡ Some last.name
named_last [] last = refl
named_last (o ∷ rest) last = named_last rest last

apart_last : (requests : List PendingRequest) (last : PendingRequest) (i : ℕ) (its : PendingRequest) → AreApart (names_of (requests ++ last ∷ [])) → slice_get requests i ≡ Some its → its.name ≡ last.name → ⊥
apart_last requests last i its apart got same =
    let here : slice_get (names_of (requests ++ last ∷ [])) i ≡ Some last.name = named_at requests (last ∷ []) i its got ∙ ap Some same in
    let at : i ≡ length requests = apart i (length requests) last.name here (named_last requests last) in
    let low : i < length requests = item_within requests i its got in
    omega (arith, at, low)

abbrev pub AllNamed : List PendingRequest → Type 0
AllNamed requests = (index : ℕ) (pending : PendingRequest) → slice_get requests index ≡ Some pending → IsNamedSo pending

read_name : (name : RequestName) (ticket : Ticket) → is_read_name name ≡ true → ticket_of name ≡ ticket.0 → name ≡ Read ticket
read_name (Update serial) ticket read same = cc
read_name (Read its) ticket read same = ap (λ (n : ℕ). Read (record { 0 = n })) same

-- what waits keeps its own ticket
abbrev WaitsWith : SessionReadings → PendingRequest → Bool → Type 0
WaitsWith r pending c = ((if c then true else r.given (ticket_of pending.name)) ≡ true) × SoughtReads (key_in pending.request) (if c then r.in_hand else r.waiting (ticket_of pending.name)) pending.sought

kept_waits : (r : SessionReadings) (requests : List PendingRequest) (last : PendingRequest) (ticket : Ticket) → AllWait r requests → AllNamed requests → last.name ≡ Read ticket → AreApart (names_of (requests ++ last ∷ []))
    → AllWait (with_ticket r ticket.0) requests
kept_waits r requests last ticket all named name apart index pending got read = by_test (ticket.0 == ticket_of pending.name) refl (named index pending got ∙ read) (all index pending got read)
  where
    by_test : (c : Bool) → (ticket.0 == ticket_of pending.name) ≡ c → is_read_name pending.name ≡ true → (r.given (ticket_of pending.name) ≡ true) × SoughtReads (key_in pending.request) (r.waiting (ticket_of pending.name)) pending.sought
        → WaitsWith r pending c
    by_test true e its_name waits =
        let same : ticket_of pending.name ≡ ticket.0 = grind (arith, nat_tests, e) in
        absurd (apart_last requests last index pending apart got (read_name pending.name ticket its_name same ∙ sym name))
    by_test false e its_name waits = waits

same_ticket : (n : ℕ) → (n == n) ≡ true
same_ticket n = grind (arith, nat_tests)

-- ---- what an attempt ends with
-- no read is done as an update is
abbrev pub IsReadEnd : TryAnswer → Type 0
IsReadEnd (tried.Done its) = ⊥
IsReadEnd its = ⊤

-- at a call
pub record EndsAtCall (r : SessionReadings) (s : SessionState) (its : TryAnswer) : Type 0 where
  pub op : s.attempt.pending.request.op ≡ s.op
  pub name : s.attempt.pending.name ≡ name_of s
  pub named : AllNamed s.requests
  pub reads : is_read s.op ≡ true → IsReadEnd its × AnsweredReads (key_of s.op).0 r.in_hand s.attempt.pending.sought its
  pub updates : is_read s.op ≡ false → IsUpdateEnd its

-- and in a poll
pub record EndsInPoll (r : SessionReadings) (a : AttemptState) (its : TryAnswer) : Type 0 where
  pub finished : is_finished its ≡ true → FinishedSo r (finished_of a.pending.name its)
  pub waits : is_finished its ≡ false → WaitsSo r a.pending

-- where a ticket has just been given the names are apart
abbrev pub IsFreshly : SessionState → Type 0
IsFreshly s = (ticket : Ticket) → s.step ≡ Idle (told.PendingRead ticket) → AreApart (names_of s.requests)

-- what waits for it
accepted_waits : (r : SessionReadings) (s : SessionState) (ticket : Ticket) → s.attempt.pending.name ≡ Read ticket → s.attempt.pending.request.op ≡ s.op → SoughtReads (key_of s.op).0 r.in_hand s.attempt.pending.sought
    → WaitsSo (with_ticket r ticket.0) s.attempt.pending
accepted_waits r s ticket name same goes read =
    let at : ticket_of s.attempt.pending.name ≡ ticket.0 = ap ticket_of name in
    let own : (ticket.0 == ticket_of s.attempt.pending.name) ≡ true = ap (λ n. ticket.0 == n) at ∙ same_ticket ticket.0 in
    subst (WaitsWith r s.attempt.pending) (sym own) (refl, subst (λ o. SoughtReads (key_of o).0 r.in_hand s.attempt.pending.sought) (sym same) goes)

update_waits : (r : SessionReadings) (pending : PendingRequest) → is_read pending.request.op ≡ false → WaitsSo r pending
update_waits r pending update read = cc

accepts_either : (r : SessionReadings) (s : SessionState) (why : Reason) (c : Bool) → is_read s.op ≡ c → AllWait r s.requests → AllNamed s.requests → s.attempt.pending.request.op ≡ s.op
    → s.attempt.pending.name ≡ (if c then Read (record { 0 = ticket_after s.ticket }) else Update (record { 0 = s.serial + 1 })) → (is_read s.op ≡ true → SoughtReads (key_of s.op).0 r.in_hand s.attempt.pending.sought)
    → IsFreshly (if c then answers (with_request (record s { ticket = ticket_after s.ticket })) (told.PendingRead (record { 0 = ticket_after s.ticket }))
    else answers_after_turn (with_request (serial_taken (record s { wants_turn = is_no_room why }))) (told.Pending (record { 0 = s.serial + 1 }) why))
    → Comes r (if c then answers (with_request (record s { ticket = ticket_after s.ticket })) (told.PendingRead (record { 0 = ticket_after s.ticket }))
    else answers_after_turn (with_request (serial_taken (record s { wants_turn = is_no_room why }))) (told.Pending (record { 0 = s.serial + 1 }) why))
accepts_either r s why true e all named same name goes fresh =
    let given : Ticket = record { 0 = ticket_after s.ticket } in (
      all_behind (WaitsSo (with_ticket r given.0)) s.requests s.attempt.pending (kept_waits r s.requests s.attempt.pending given all named name (fresh given refl)) (accepted_waits r s given name same (goes e)),
      tt,
    )
accepts_either r s why false e all named same name goes fresh =
    let after : SessionState = with_request (serial_taken (record s { wants_turn = is_no_room why })) in
    let its : Told = told.Pending (record { 0 = s.serial + 1 }) why in
    let more : AllWait r after.requests = all_behind (WaitsSo r) s.requests s.attempt.pending all (update_waits r s.attempt.pending (ap is_read same ∙ e)) in
    either_comes r after.wants_turn (record after { own_turn = own_turn_begun after.own_turn; step = Turns its }) (answers after its) (λ t. (more, tt)) (λ t. (more, tt))

accepts_come : (r : SessionReadings) (s : SessionState) (why : Reason) → AllWait r s.requests → AllNamed s.requests → s.attempt.pending.request.op ≡ s.op → s.attempt.pending.name ≡ name_of s
    → (is_read s.op ≡ true → SoughtReads (key_of s.op).0 r.in_hand s.attempt.pending.sought) → IsFreshly (accepts s why) → Comes r (accepts s why)
unfolding accepts
accepts_come r s why all named same name goes fresh = accepts_either r s why (is_read s.op) refl all named same name goes fresh

pub called_sought : (key : ℕ) (reading : Reading) (sought : Option DiskRecord) → SoughtReads key reading sought → IsCalledFor reading key
called_sought key reading None goes = goes
called_sought key reading (Some it) goes = inr (_, goes)

shifts_come : (r : SessionReadings) (s : SessionState) (has_shifted : Bool) → AllWait r s.requests → AllNamed s.requests → s.attempt.pending.request.op ≡ s.op → s.attempt.pending.name ≡ name_of s
    → (is_read s.op ≡ true → SoughtReads (key_of s.op).0 r.in_hand s.attempt.pending.sought) → IsFreshly (shifts s has_shifted) → Comes r (shifts s has_shifted)
unfolding shifts
shifts_come r s false all named same name goes fresh = (all, λ read. called_sought (key_of s.op).0 r.in_hand s.attempt.pending.sought (goes read))
shifts_come r s true all named same name goes fresh = accepts_come r s reason.Contended all named same name goes fresh

-- a value, or none, is told of a read
of_read : {X : Type 0} (op : Op) (its : TryAnswer) → (is_read op ≡ true → X) → (is_read op ≡ false → IsUpdateEnd its) → (IsUpdateEnd its → ⊥) → X
of_read {X} op its reads updates none = by_test (is_read op) refl
  where
    by_test : (c : Bool) → is_read op ≡ c → X
    by_test true e = reads e
    by_test false e = absurd (none (updates e))

done_comes : (r : SessionReadings) (s : SessionState) (reply : Reply) → AllWait r s.requests → (is_read s.op ≡ true → ⊥) → Comes r (if is_read s.op then answers s told.Absent else update_done s reply)
done_comes r s reply all none = either_comes r (is_read s.op) (answers s told.Absent) (update_done s reply) (λ e. absurd (none e)) (λ e. (all, tt))

attempted_come : (r : SessionReadings) (s : SessionState) (has_shifted : Bool) (its : TryAnswer) → AllWait r s.requests → EndsAtCall r s its → IsFreshly (attempted s has_shifted its) → Comes r (attempted s has_shifted its)
attempted_come r s has_shifted (tried.Done reply) all ends fresh = done_comes r s reply all (λ read. (ends.reads read).0)
attempted_come r s has_shifted (tried.Found value) all ends fresh = (all, of_read s.op (tried.Found value) (λ read. ((key_of s.op).0, (ends.reads read).1)) ends.updates (λ none. none))
attempted_come r s has_shifted tried.Absent all ends fresh = (all, of_read s.op tried.Absent (λ read. ((key_of s.op).0, (ends.reads read).1)) ends.updates (λ none. none))
attempted_come r s has_shifted (tried.Wait why) all ends fresh = accepts_come r s why all ends.named ends.op ends.name (λ read. (ends.reads read).1) fresh
attempted_come r s has_shifted (tried.AwaitsDisk sought) all ends fresh = accepts_come r s reason.Disk all ends.named ends.op ends.name (λ read. (ends.reads read).1) fresh
attempted_come r s has_shifted tried.Shift all ends fresh = shifts_come r s has_shifted all ends.named ends.op ends.name (λ read. (ends.reads read).1) fresh
attempted_come r s has_shifted tried.IndexFull all ends fresh = (all, tt)
attempted_come r s has_shifted tried.LogFull all ends fresh = (all, tt)

attempt_comes : (r : SessionReadings) (s : SessionState) (has_shifted : Bool) (ask : Ask TryAnswer) → s.step ≡ Attempts has_shifted → AllWait r s.requests → TriedSo r s.attempt → ((its : TryAnswer) → ask ≡ Done its → EndsAtCall r s its)
    → IsFreshly (attempt_ledto s has_shifted ask) → Comes r (attempt_ledto s has_shifted ask)
unfolding attempt_ledto
attempt_comes r s has_shifted (Done its) at all goes ends fresh =
    let end = ends its refl in
    attempted_come r (attempt_left s) has_shifted its all (record { op = end.op; name = end.name; named = end.named; reads = end.reads; updates = end.updates }) fresh
attempt_comes r s has_shifted ask at all goes ends fresh = still r s (Attempts has_shifted) at (all, goes)

-- ---- what a session that catches up comes to
caught_up_comes : (r : SessionReadings) (k : Seat) (s : SessionState) (cause : CatchCause) → AllWait r s.requests → CatchReads r s.op cause → Comes r (caught_up k s cause)
caught_up_comes r k s Refreshes all reads = (all, tt)
caught_up_comes r k s Wakes all reads = (all, tt)
caught_up_comes r k s Shifts all reads = attempts_come r k s true all reads

catch_comes : (r : SessionReadings) (k : Seat) (s : SessionState) (cause : CatchCause) (ask : Ask (Unit {0})) → s.step ≡ CatchesUp cause → AllWait r s.requests → CatchReads r s.op cause → Comes r (catch_ledto k s cause ask)
unfolding catch_ledto
catch_comes r k s cause (Done through) at all reads = caught_up_comes r k (record s { seen = s.catching.seen }) cause all reads
catch_comes r k s cause ask at all reads = still r s (CatchesUp cause) at (all, reads)

-- a latch that is taken
latch_waits : (r : SessionReadings) (pending : PendingRequest) → WaitsSo r pending → WaitsSo r (with_latch pending true)
unfolding with_latch
latch_waits r pending waits = waits

latched_wait : (r : SessionReadings) (requests : List PendingRequest) (i : ℕ) (found : Option PendingRequest) → slice_get requests i ≡ found → AllWait r requests → AllWait r (latched requests i found)
latched_wait r requests i None got all = all
latched_wait r requests i (Some its) got all = all_set (WaitsSo r) requests i (with_latch its true) (but_one (WaitsSo r) requests i all) (latch_waits r its (all i its got))

marked_wait : (r : SessionReadings) (requests : List PendingRequest) (i : ℕ) (ask : Ask LatchAnswer) → AllWait r requests → AllWait r (latch_marked requests i ask)
unfolding latch_marked
marked_wait r requests i (Done LatchTaken) all = latched_wait r requests i (slice_get requests i) refl all
marked_wait r requests i ask all = all

caught_wait : (r : SessionReadings) (c : CatchState) (requests : List PendingRequest) (step : Catching) (reply : ℕ) → AllWait r requests → AllWait r (catching_requests c requests step reply)
unfolding catching_requests
caught_wait r c requests (Latches i) reply all = marked_wait r requests i (latch_next_ask c.latching reply) all
caught_wait r c requests step reply all = all

-- ---- what a poll comes to
clear_comes : (r : SessionReadings) (k : Seat) (s : SessionState) (ask : Ask MailAnswer) → s.step ≡ ClearsMail → AllWait r s.requests → AllFinished r s.finished → Comes r (clear_ledto k s ask)
unfolding clear_ledto
clear_comes r k s (Done Cleared) at all its = polls_come r k (record s { is_orphaned = false }) 0 all its
clear_comes r k s (Done told) at all its = polls_come r k s 0 all its
clear_comes r k s ask at all its = still r s ClearsMail at (all, its)

all_more : (r : SessionReadings) (its : List Finished) (it : Finished) → AllFinished r its → FinishedSo r it → AllFinished r (its ++ it ∷ [])
all_more r [] it all so = (so, tt)
all_more r (o ∷ rest) it all so = (all.0, all_more r rest it all.1 so)

finishes_come : (r : SessionReadings) (k : Seat) (s : SessionState) (i : ℕ) (its : TryAnswer) → AllWaitBut r s.requests i → AllFinished r s.finished → FinishedSo r (finished_of s.attempt.pending.name its) → Comes r (finishes_request k s i its)
unfolding finishes_request
finishes_come r k s i its but all so =
    let left : AllWait r (remove s.requests i) = all_left (WaitsSo r) s.requests i but in
    let more : AllFinished r (s.finished ++ finished_of s.attempt.pending.name its ∷ []) = all_more r s.finished (finished_of s.attempt.pending.name its) all so in
    either_comes r (is_owed s) (request_finished s i its) (polls_at k (request_finished s i its) i) (λ e. (left, more)) (λ e. polls_come r k (request_finished s i its) i left more)

keeps_come : (r : SessionReadings) (k : Seat) (s : SessionState) (i : ℕ) (its : TryAnswer) → AllWaitBut r s.requests i → AllFinished r s.finished → WaitsSo r s.attempt.pending → Comes r (keeps_request k s i its)
unfolding keeps_request
keeps_come r k s i its but all waits = polls_come r k (record s { requests = slice_set s.requests i s.attempt.pending; wants_turn = s.wants_turn || lacks_room its }) (i + 1) (all_set (WaitsSo r) s.requests i s.attempt.pending but waits) all

poll_comes : (r : SessionReadings) (k : Seat) (s : SessionState) (i : ℕ) (ask : Ask TryAnswer) → s.step ≡ Polls i → AllWaitBut r s.requests i → TriedSo r s.attempt → AllFinished r s.finished → ((its : TryAnswer) → ask ≡ Done its → EndsInPoll r s.attempt its)
    → Comes r (poll_ledto k s i ask)
unfolding poll_ledto
poll_comes r k s i (Done its) at but goes all ends =
    let end = ends its refl in
    either_comes r (is_finished its) (finishes_request k (poll_left s) i its) (keeps_request k (poll_left s) i its) (λ e. finishes_come r k (poll_left s) i its but all (end.finished e)) (λ e. keeps_come r k (poll_left s) i its but all (end.waits e))
poll_comes r k s i ask at but goes all ends = still r s (Polls i) at (but, goes, all)

-- ---- each other state
turned_tells : (r : SessionReadings) (s : SessionState) (its : Told) → AllWait r s.requests → TurnReads r s.finished its → ComesTo r s (Idle its)
turned_tells r s (told.Polled left) all reads = (all, reads)
turned_tells r s (told.Found value) all reads = absurd reads
turned_tells r s told.Absent all reads = absurd reads
turned_tells r s (told.PendingRead ticket) all reads = absurd reads
turned_tells r s its all reads = (all, tt)

turned_comes : (r : SessionReadings) (s : SessionState) (its : Told) (ask : Ask (Unit {0})) → s.step ≡ Turns its → AllWait r s.requests → TurnReads r s.finished its → Comes r (turn_ledto s its ask)
unfolding turn_ledto
turned_comes r s its (Done through) at all reads = turned_tells r s its all reads
turned_comes r s its ask at all reads = still r s (Turns its) at (all, reads)

left_comes : (r : SessionReadings) (s : SessionState) (ask : Ask (Unit {0})) → s.step ≡ Leaves → AllWait r s.requests → Comes r (leave_ledto s ask)
unfolding leave_ledto
left_comes r s (Done its) at all = (all, tt)
left_comes r s ask at all = still r s Leaves at all

-- ---- each reply
-- what stands as the reply has moved the attempt, with the readings as they are then
abbrev pub MovedSo : SessionReadings → Seat → SessionState → Sitting → ℕ → Type 0
MovedSo r k s (Idle its) reply = ⊥
MovedSo r k s (Attempts has_shifted) reply = AllWait r s.requests × TriedSo r (attempt_after k s reply) × ((its : TryAnswer) → attempt_comes_to k s reply ≡ Done its → EndsAtCall r (attempt_moved k s reply) its)
MovedSo r k s (Polls i) reply = AllWaitBut r s.requests i × TriedSo r (attempt_after k s reply) × AllFinished r s.finished × ((its : TryAnswer) → attempt_comes_to k s reply ≡ Done its → EndsInPoll r (attempt_after k s reply) its)
MovedSo r k s step reply = SitsReads r s step

sitting_comes : (r : SessionReadings) (k : Seat) (s : SessionState) (asks : ℕ) (step : Sitting) (reply : ℕ) → s.step ≡ step → MovedSo r k s step reply → IsFreshly (sitting_next k (record s { asks = asks; effect = None }) step reply)
    → Comes r (sitting_next k (record s { asks = asks; effect = None }) step reply)
unfolding sitting_next
sitting_comes r k s asks (Idle its) reply at so fresh = absurd so
sitting_comes r k s asks (Attempts has_shifted) reply at so fresh =
    attempt_comes r (attempt_moved k (record s { asks = asks; effect = None }) reply) has_shifted (attempt_comes_to k s reply) at so.0 so.1
    (λ its e. let end = so.2 its e in record { op = end.op; name = end.name; named = end.named; reads = end.reads; updates = end.updates }) fresh
sitting_comes r k s asks (CatchesUp cause) reply at so fresh =
    let after : SessionState = caught k (record s { asks = asks; effect = None }) reply in
    catch_comes r k after cause (catch_ask k.places k.number after.catching after.requests) at (caught_wait r s.catching s.requests s.catching.step reply so.0) so.1
sitting_comes r k s asks ClearsMail reply at so fresh = clear_comes r k (record s { asks = asks; effect = None; mailing = mail_next s.mailing reply }) (mail_ask k.number (mail_next s.mailing reply)) at so.0 so.1
sitting_comes r k s asks (Polls i) reply at so fresh = poll_comes r k (attempt_moved k (record s { asks = asks; effect = None }) reply) i (attempt_comes_to k s reply) at so.0 so.1 so.2 so.3
sitting_comes r k s asks (StoresOwing i) reply at so fresh = polls_come r k (record s { asks = asks; effect = None }) i so.0 so.1
sitting_comes r k s asks (Turns its) reply at so fresh =
    let after : SessionState = own_turn_moved k (record s { asks = asks; effect = None }) reply in
    turned_comes r after its (own_turn_ask k.shape after.own_turn) at so.0 so.1
sitting_comes r k s asks StoresCut reply at so fresh = so
sitting_comes r k s asks Leaves reply at so fresh = left_comes r (record s { asks = asks; effect = None; leaving = leave_next s.leaving }) (leave_ask k.number (leave_next s.leaving)) at so
sitting_comes r k s asks LoadsDurable reply at so fresh = (so, tt)

pub next_comes : (r : SessionReadings) (k : Seat) (s : SessionState) (reply : ℕ) → MovedSo r k s s.step reply → IsFreshly (session_next k s reply) → Comes r (session_next k s reply)
next_comes r k s reply so fresh = sitting_comes r k s (asks_after s.asks (is_word_ask (session_ask k s))) s.step reply refl so fresh

-- ---- an action that it gets
action_comes : (r : SessionReadings) (k : Seat) (s : SessionState) (step : Sitting) (action : Action) → s.step ≡ step → ComesTo r s step → Comes r (sitting_given k s step action)
unfolding sitting_given
action_comes r k s (Turns its) action at so =
    let after : SessionState = record s { own_turn = own_turn_given s.own_turn action } in
    turned_comes r after its (own_turn_ask k.shape after.own_turn) at so.0 so.1
action_comes r k s step action at so = still r s step at so

pub given_comes : (r : SessionReadings) (k : Seat) (s : SessionState) (action : Action) → Comes r s → Comes r (session_given k s action)
given_comes r k s action so = action_comes r k s s.step action refl so

-- ---- a call that begins
-- an operation's read is in hand
abbrev pub IsInHandAs : SessionReadings → Call → Type 0
IsInHandAs r (call.Op op) = is_read op ≡ true → IsCalledFor r.in_hand (key_of op).0
IsInHandAs r its = ⊤

op_comes : (r : SessionReadings) (k : Seat) (s : SessionState) (op : Op) (why : Option Fault) → AllWait r s.requests → (is_read op ≡ true → IsCalledFor r.in_hand (key_of op).0) → Comes r (op_begun k s op why)
unfolding op_begun
op_comes r k s op (Some why) all called = (all, tt)
op_comes r k s op None all called = attempts_come r k (record s { op = op }) false all called

clears_come : (r : SessionReadings) (k : Seat) (s : SessionState) → AllWait r s.requests → AllFinished r s.finished → Comes r (poll_begun k s)
clears_come r k s all its = either_comes r s.is_orphaned (record s { mailing = LoadsState Clear; step = ClearsMail }) (polls_at k s 0) (λ e. (all, its)) (λ e. polls_come r k s 0 all its)

call_comes : (r : SessionReadings) (k : Seat) (s : SessionState) (its : Call) → AllWait r s.requests → IsInHandAs r its → Comes r (call_begun k s its)
unfolding refresh_call poll_call sleep_call wake_call
call_comes r k s (call.Op op) all called = op_comes r k s op (refusal_of s op) all called
call_comes r k s call.Refresh all called =
    either_comes r s.is_awake (record s { catching = refresh_begun s.catching s.seen s.serial; step = CatchesUp Refreshes }) (refuses s fault.Asleep) (λ e. (all, tt)) (λ e. (all, tt))
call_comes r k s call.Poll all called = either_comes r s.is_awake (poll_begun k (record s { finished = [] })) (refuses s fault.Asleep) (λ e. clears_come r k (record s { finished = [] }) all tt) (λ e. (all, tt))
call_comes r k s call.Sleep all called =
    either_comes r (not s.is_awake) (refuses s fault.Asleep) (if length s.requests == 0 then record s { step = StoresCut } else refuses s fault.PendingLeft) (λ e. (all, tt))
    (λ e. either_comes r (length s.requests == 0) (record s { step = StoresCut }) (refuses s fault.PendingLeft) (λ o. all) (λ o. (all, tt)))
call_comes r k s call.Wake all called = either_comes r s.is_awake (refuses s fault.Awake) (record s { catching = wake_begun s.catching s.seen s.serial; step = CatchesUp Wakes }) (λ e. (all, tt)) (λ e. (all, tt))
call_comes r k s call.Durable all called = all

pub begun_comes : (r : SessionReadings) (k : Seat) (s : SessionState) (its : Call) → AllWait r s.requests → IsInHandAs r its → Comes r (session_begun k s its)
begun_comes r k s its all called = call_comes r k (record s { asks = 0; effect = None; wants_turn = false }) its all called
