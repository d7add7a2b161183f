-- What a trace's lines say of one session's calls, and how what is told changes that.
use Rattle.std.proofs.Common.{◌≡◌, ℕ, ◌+◌, ◌∙◌, List, [], ◌∷◌, ◌++◌, length, refl, arith, ap, subst, true, false}
use Rattle.std.specs.Prelude.{Option, Some, None, if◌then◌else◌, ◌==◌, nat_eq, ⊤}
use Rattle.std.proofs.Math.Path.{fun_ext}
use Rattle.std.proofs.lemmas.Bool.Decides.{nat_tests}
use Rattle.fkv_base.specs.declared.faults.Fault.{Fault}
use Rattle.fkv_map.specs.declared.operations.Call.{Call}
use Rattle.fkv_map.specs.declared.operations.Call.TheVariants as call
use Rattle.fkv_map.specs.declared.operations.Op.{Op}
use Rattle.fkv_map.specs.declared.operations.Op.TheVariants as op
use Rattle.law_log.specs.Trace.{TraceLine, CallsUpdate, RefusesUpdate, GivesResult, CallsRead, AnswersRead, called_as}
use Rattle.law_world.specs.Below.fkv_pending.PendingRequest.{PendingRequest}
use Rattle.law_world.specs.Below.fkv_pending.RequestName.{RequestName}
use Rattle.law_world.specs.Below.fkv_pending.RequestName.TheVariants as name
use Rattle.law_world.specs.Below.fkv_session.Finished.{Finished}
use Rattle.law_world.specs.Below.fkv_session.Finished.TheVariants as finished
use Rattle.law_world.specs.Below.fkv_session.Told.{Told}
use Rattle.law_world.specs.Below.fkv_session.Told.TheVariants as told
use Rattle.law_world.specs.Below.fkv_session.Sitting.TheVariants.{Idle}
use Rattle.law_world.specs.Below.fkv_world.Past.{Traced, TraceEvent, Called, Answered}
use Rattle.law_refine.specs.Events.Lines.{CallMade, call_made, last_call, gives_ticket, next_serial, refused_call, refused_lines, finished_line, finished_lines, answer_lines, call_lines, event_lines, lines_of}
use Rattle.law_refine.proofs.OfCalls.Named.{AreEach, each_on}
use Rattle.law_refine.proofs.OfCalls.Standing.{Ledger, update_called, op_of, reads_with, IsCalled, AtAnswer, NoneLater, IsCalm, IsBegun, Stands}

-- ---- the ledger of a session in a trace
abbrev pub call_of : Option CallMade → Option Call
call_of None = None
call_of (Some made) = Some made.call

-- the read that waits for a ticket
abbrev pub op_waiting : ℕ → ℕ → List Traced → Option Op
op_waiting session ticket [] = None
op_waiting session ticket (it ∷ before) = if gives_ticket session ticket it.its then op_of (call_of (last_call session before)) else op_waiting session ticket before

abbrev pub ledger_of : (ℕ → ℕ) → ℕ → List Traced → Ledger
ledger_of first number trace = record { updates = λ n. called_as (lines_of first trace) number n; reads = λ ticket. op_waiting number ticket trace; made = call_of (last_call number trace) }

-- ---- lines that name no update of the session
abbrev leaves : ℕ → TraceLine → Type 0
leaves number (CallsUpdate session serial o) = nat_eq session number ≡ false
leaves number (RefusesUpdate session serial) = nat_eq session number ≡ false
leaves number line = ⊤

abbrev AllLeave : ℕ → List TraceLine → Type 0
AllLeave number [] = ⊤
AllLeave number (line ∷ rest) = leaves number line × AllLeave number rest

all_leave : (number n : ℕ) (lines before : List TraceLine) → AllLeave number lines → called_as (lines ++ before) number n ≡ called_as before number n
all_leave number n [] before all = refl
all_leave number n (CallsUpdate session serial o ∷ rest) before all = rw all.0 (all_leave number n rest before all.1)
all_leave number n (RefusesUpdate session serial ∷ rest) before all = rw all.0 (all_leave number n rest before all.1)
all_leave number n (GivesResult session serial reply ∷ rest) before all = all_leave number n rest before all.1
all_leave number n (CallsRead reader key ∷ rest) before all = all_leave number n rest before all.1
all_leave number n (AnswersRead reader reply ∷ rest) before all = all_leave number n rest before all.1

both_leave : (number : ℕ) (later before : List TraceLine) → AllLeave number later → AllLeave number before → AllLeave number (later ++ before)
both_leave number [] before ones others = others
both_leave number (line ∷ later) before ones others = (ones.0, both_leave number later before ones.1 others)

finished_leaves : (number session : ℕ) (trace : List Traced) (its : Finished) → leaves number (finished_line session trace its)
finished_leaves number session trace (finished.Update serial reply) = tt
finished_leaves number session trace (finished.Read ticket value) = tt

finished_leave : (number session : ℕ) (trace : List Traced) (its : List Finished) → AllLeave number (finished_lines session trace its)
finished_leave number session trace [] = tt
finished_leave number session trace (it ∷ rest) = both_leave number (finished_lines session trace rest) (finished_line session trace it ∷ []) (finished_leave number session trace rest) (finished_leaves number session trace it, tt)

-- of another session
abbrev pub is_other : ℕ → TraceEvent → Type 0
is_other number (Called session its) = (session == number) ≡ false
is_other number (Answered session its) = (session == number) ≡ false
is_other number it = ⊤

call_leaves : (number session : ℕ) (first : ℕ → ℕ) (trace : List Traced) (its : Call) → (session == number) ≡ false → AllLeave number (call_lines first trace session its)
call_leaves number session first trace (call.Op (op.Read key)) other = (tt, tt)
call_leaves number session first trace (call.Op o) other = (other, tt)
call_leaves number session first trace its other = tt

refused_leave : (number session serial : ℕ) (made : Option CallMade) → (session == number) ≡ false → AllLeave number (refused_lines session serial made)
refused_leave number session serial None other = tt
refused_leave number session serial (Some made) other = by_call made.call
  where
    by_call : (its : Call) → AllLeave number (refused_call session serial its)
    by_call (call.Op (op.Read key)) = tt
    by_call (call.Op o) = (other, tt)
    by_call its = tt

-- an answer that refuses nothing leaves the updates
abbrev pub IsRefusal : Told → Type 0
IsRefusal (told.Refused why) = ⊤
IsRefusal its = ⊥

abbrev pub IsNoRefusal : Told → Type 0
IsNoRefusal (told.Refused why) = ⊥
IsNoRefusal its = ⊤

answer_leaves : (number session : ℕ) (first : ℕ → ℕ) (trace : List Traced) (its : Told) (list : List Finished) → IsNoRefusal its → AllLeave number (answer_lines first trace session its list)
answer_leaves number session first trace (told.Refused why) list none = absurd none
answer_leaves number session first trace (told.Done serial reply) list none = (tt, tt)
answer_leaves number session first trace (told.Found value) list none = (tt, tt)
answer_leaves number session first trace told.Absent list none = (tt, tt)
answer_leaves number session first trace (told.Polled left) list none = finished_leave number session trace list
answer_leaves number session first trace its list none = tt

other_answer : (number session : ℕ) (first : ℕ → ℕ) (trace : List Traced) (its : Told) (list : List Finished) → (session == number) ≡ false → AllLeave number (answer_lines first trace session its list)
other_answer number session first trace (told.Refused why) list other = refused_leave number session (next_serial first session trace) (last_call session trace) other
other_answer number session first trace its list other = answer_leaves number session first trace its list tt

other_lines : (number : ℕ) (first : ℕ → ℕ) (trace : List Traced) (it : TraceEvent) → is_other number it → AllLeave number (event_lines first trace it)
other_lines number first trace (Called session its) other = call_leaves number session first trace its other
other_lines number first trace (Answered session its) other = other_answer number session first trace its.its its.finished other
other_lines number first trace it other = tt

ledger_with : (ℕ → Option Op) → (ℕ → Option Op) → Option Call → Ledger
ledger_with updates reads made = record { updates = updates; reads = reads; made = made }

same_ledger : (l m : Ledger) → ((n : ℕ) → l.updates n ≡ m.updates n) → ((ticket : ℕ) → l.reads ticket ≡ m.reads ticket) → l.made ≡ m.made → l ≡ m
unfolding ledger_with
same_ledger l m updates reads made =
    ap (λ (x : ℕ → Option Op). ledger_with x l.reads l.made) (fun_ext updates)
    ∙ (ap (λ (x : ℕ → Option Op). ledger_with m.updates x l.made) (fun_ext reads) ∙ ap (λ (x : Option Call). ledger_with m.updates m.reads x) made)

other_tickets : (number ticket : ℕ) (it : Traced) (trace : List Traced) → is_other number it.its → op_waiting number ticket (it ∷ trace) ≡ op_waiting number ticket trace
other_tickets number ticket it trace other = by_event it.its other
  where
    by_event : (event : TraceEvent) → is_other number event → (if gives_ticket number ticket event then op_of (call_of (last_call number trace)) else op_waiting number ticket trace) ≡ op_waiting number ticket trace
    by_event (Answered session its) e = rw e refl
    by_event event e = refl

other_made : (number : ℕ) (it : Traced) (trace : List Traced) → is_other number it.its → call_of (last_call number (it ∷ trace)) ≡ call_of (last_call number trace)
other_made number it trace other = by_event it.its other
  where
    by_event : (event : TraceEvent) → is_other number event → call_of (call_made number (length trace) event (last_call number trace)) ≡ call_of (last_call number trace)
    by_event (Called session its) e = rw e refl
    by_event event e = refl

pub other_told : (first : ℕ → ℕ) (number : ℕ) (it : Traced) (trace : List Traced) → is_other number it.its → ledger_of first number (it ∷ trace) ≡ ledger_of first number trace
unfolding lines_of
other_told first number it trace other = same_ledger (ledger_of first number (it ∷ trace)) (ledger_of first number trace)
    (λ n. all_leave number n (event_lines first trace it.its) (lines_of first trace) (other_lines number first trace it.its other))
    (λ ticket. other_tickets number ticket it trace other)
    (other_made number it trace other)

-- ---- the session's own calls
pub same_number : (n : ℕ) → (n == n) ≡ true
same_number n = grind (arith, nat_tests)

call_else : (number n : ℕ) (first : ℕ → ℕ) (trace : List Traced) (its : Call) (lines : List TraceLine) → (next_serial first number trace == n) ≡ false
    → called_as (call_lines first trace number its ++ lines) number n ≡ called_as lines number n
call_else number n first trace (call.Op (op.Read key)) lines other = refl
call_else number n first trace (call.Op o) lines other = rw (same_number number) (rw other refl)
call_else number n first trace its lines other = refl

call_next : (number : ℕ) (first : ℕ → ℕ) (trace : List Traced) (its : Call) (lines : List TraceLine) → called_as lines number (next_serial first number trace) ≡ None
    → called_as (call_lines first trace number its ++ lines) number (next_serial first number trace) ≡ update_called (Some its)
call_next number first trace (call.Op (op.Read key)) lines none = none
call_next number first trace (call.Op o) lines none = rw (same_number number) (rw (same_number (next_serial first number trace)) refl)
call_next number first trace its lines none = none

abbrev pub with_called : ℕ → ℕ → Call → List Traced → List Traced
with_called effects number its trace = record { its = Called number its; effects = effects } ∷ trace

pub own_begun : (Fresh : Type 0) (first : ℕ → ℕ) (number effects serial ticket : ℕ) (requests : List PendingRequest) (trace : List Traced) (its : Call) → next_serial first number trace ≡ serial + 1
    → IsCalm Fresh (ledger_of first number trace) serial ticket requests → IsBegun Fresh (ledger_of first number (with_called effects number its trace)) serial ticket requests its
unfolding lines_of
own_begun Fresh first number effects serial ticket requests trace its next calm = record {
  waiting = each_on _ _ requests on calm.waiting;
  made = rw (same_number number) refl;
  next = subst (λ (n : ℕ). called_as (call_lines first trace number its ++ lines_of first trace) number n ≡ update_called (Some its)) next
      (call_next number first trace its (lines_of first trace) (ap (called_as (lines_of first trace) number) next ∙ calm.none));
  later = λ n above.
      let other : (next_serial first number trace == n) ≡ false = grind (arith, nat_tests, next, above) in
      call_else number n first trace its (lines_of first trace) other ∙ calm.later n above;
}
  where
    on : (its_name : RequestName) (o : Op) → IsCalled Fresh (ledger_of first number trace).updates (ledger_of first number trace).reads serial ticket its_name o
        → IsCalled Fresh (ledger_of first number (with_called effects number its trace)).updates (ledger_of first number (with_called effects number its trace)).reads serial ticket its_name o
    on (name.Update n) o called =
        let low = called.0 in
        let other : (next_serial first number trace == n.0) ≡ false = grind (arith, nat_tests, next, low) in
        (low, call_else number n.0 first trace its (lines_of first trace) other ∙ called.1)
    on (name.Read n) o called = called

-- ---- and its answers
abbrev pub with_answered : ℕ → ℕ → Told → List Finished → List Traced → List Traced
with_answered effects number its list trace = record { its = Answered number (record { its = its; finished = list }); effects = effects } ∷ trace

own_tickets : (first : ℕ → ℕ) (number ticket effects : ℕ) (its : Told) (list : List Finished) (trace : List Traced)
    → op_waiting number ticket (with_answered effects number its list trace) ≡ reads_with (ledger_of first number trace) its ticket
own_tickets first number ticket effects (told.PendingRead given) list trace = rw (same_number number) refl
own_tickets first number ticket effects its list trace = rw (same_number number) refl

refused_else : (number n next : ℕ) (made : Option CallMade) (lines : List TraceLine) → (next == n) ≡ false → called_as (refused_lines number next made ++ lines) number n ≡ called_as lines number n
refused_else number n next None lines other = refl
refused_else number n next (Some made) lines other = by_call made.call
  where
    by_call : (its : Call) → called_as (refused_call number next its ++ lines) number n ≡ called_as lines number n
    by_call (call.Op (op.Read key)) = refl
    by_call (call.Op o) = rw (same_number number) (rw other refl)
    by_call its = refl

refused_next : (number next : ℕ) (made : Option CallMade) (lines : List TraceLine) → called_as lines number next ≡ update_called (call_of made) → called_as (refused_lines number next made ++ lines) number next ≡ None
refused_next number next None lines its = its
refused_next number next (Some made) lines its = by_call made.call its
  where
    by_call : (o : Call) → called_as lines number next ≡ update_called (Some o) → called_as (refused_call number next o ++ lines) number next ≡ None
    by_call (call.Op (op.Read key)) e = e
    by_call (call.Op o) e = rw (same_number number) (rw (same_number next) refl)
    by_call o e = e

none_refused : (l : Ledger) (serial : ℕ) (its : Told) → IsNoRefusal its → AtAnswer l serial its → l.updates (serial + 1) ≡ None
none_refused l serial (told.Refused why) none at = absurd none
none_refused l serial its none at = at.0

answered_plainly : (Fresh : Type 0) (first : ℕ → ℕ) (number effects serial ticket : ℕ) (requests : List PendingRequest) (trace : List Traced) (its : Told) (list : List Finished) → IsNoRefusal its
    → AreEach (IsCalled Fresh (ledger_of first number trace).updates (reads_with (ledger_of first number trace) its) serial ticket) requests → AtAnswer (ledger_of first number trace) serial its → NoneLater (ledger_of first number trace) serial
    → IsCalm Fresh (ledger_of first number (with_answered effects number its list trace)) serial ticket requests
unfolding lines_of
answered_plainly Fresh first number effects serial ticket requests trace its list plain waiting at later = record {
  waiting = each_on _ _ requests on waiting;
  none = same (serial + 1) ∙ none_refused (ledger_of first number trace) serial its plain at;
  later = λ n above. same n ∙ later n above;
}
  where
    same : (n : ℕ) → called_as (answer_lines first trace number its list ++ lines_of first trace) number n ≡ called_as (lines_of first trace) number n
    same n = all_leave number n (answer_lines first trace number its list) (lines_of first trace) (answer_leaves number number first trace its list plain)

    on : (its_name : RequestName) (o : Op) → IsCalled Fresh (ledger_of first number trace).updates (reads_with (ledger_of first number trace) its) serial ticket its_name o
        → IsCalled Fresh (ledger_of first number (with_answered effects number its list trace)).updates (ledger_of first number (with_answered effects number its list trace)).reads serial ticket its_name o
    on (name.Update n) o called = (called.0, same n.0 ∙ called.1)
    on (name.Read n) o called = λ fresh. ((called fresh).0, own_tickets first number n.0 effects its list trace ∙ (called fresh).1)

answered_refused : (Fresh : Type 0) (first : ℕ → ℕ) (number effects serial ticket : ℕ) (requests : List PendingRequest) (trace : List Traced) (why : Fault) (list : List Finished) → next_serial first number trace ≡ serial + 1
    → AreEach (IsCalled Fresh (ledger_of first number trace).updates (ledger_of first number trace).reads serial ticket) requests → (ledger_of first number trace).updates (serial + 1) ≡ update_called (ledger_of first number trace).made
    → NoneLater (ledger_of first number trace) serial → IsCalm Fresh (ledger_of first number (with_answered effects number (told.Refused why) list trace)) serial ticket requests
unfolding lines_of
answered_refused Fresh first number effects serial ticket requests trace why list next waiting at later = record {
  waiting = each_on _ _ requests on waiting;
  none = subst (λ (n : ℕ). called_as (refused_lines number (next_serial first number trace) (last_call number trace) ++ lines_of first trace) number n ≡ None) next
      (refused_next number (next_serial first number trace) (last_call number trace) (lines_of first trace) (ap (called_as (lines_of first trace) number) next ∙ at));
  later = λ n above.
      let other : (next_serial first number trace == n) ≡ false = grind (arith, nat_tests, next, above) in
      refused_else number n (next_serial first number trace) (last_call number trace) (lines_of first trace) other ∙ later n above;
}
  where
    on : (its_name : RequestName) (o : Op) → IsCalled Fresh (ledger_of first number trace).updates (ledger_of first number trace).reads serial ticket its_name o
        → IsCalled Fresh (ledger_of first number (with_answered effects number (told.Refused why) list trace)).updates (ledger_of first number (with_answered effects number (told.Refused why) list trace)).reads serial ticket its_name o
    on (name.Update n) o called =
        let low = called.0 in
        let other : (next_serial first number trace == n.0) ≡ false = grind (arith, nat_tests, next, low) in
        (low, refused_else number n.0 (next_serial first number trace) (last_call number trace) (lines_of first trace) other ∙ called.1)
    on (name.Read n) o called = λ fresh. ((called fresh).0, own_tickets first number n.0 effects (told.Refused why) list trace ∙ (called fresh).1)

-- a session that has come to its answer, once that is told
pub own_answered : (Fresh : Type 0) (first : ℕ → ℕ) (number effects serial ticket : ℕ) (o : Op) (requests : List PendingRequest) (trace : List Traced) (its : Told) (list : List Finished)
    → (IsRefusal its → next_serial first number trace ≡ serial + 1) → Stands Fresh (ledger_of first number trace) serial ticket o requests (Idle its)
    → IsCalm Fresh (ledger_of first number (with_answered effects number its list trace)) serial ticket requests
own_answered Fresh first number effects serial ticket o requests trace (told.Refused why) list next stands = answered_refused Fresh first number effects serial ticket requests trace why list (next tt) stands.waiting stands.next stands.later
own_answered Fresh first number effects serial ticket o requests trace its list next stands = answered_plainly Fresh first number effects serial ticket requests trace its list tt stands.waiting stands.next stands.later
