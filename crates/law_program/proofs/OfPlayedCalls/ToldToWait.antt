-- A read that was called alone, and was told that it has to wait: nothing has taken effect in its call, and its session has it.
use Rattle.std.proofs.Common.{◌≡◌, ◌∙◌, ℕ, zero, suc, ◌+◌, ◌≤◌, List, [], ◌∷◌, Bool, true, false, ap, arith, inl, inr, refl, subst}
use Rattle.std.specs.Prelude.{◌==◌, if◌then◌else◌, Some, slice_get}
use Rattle.std.proofs.lemmas.Bool.Decides.{nat_tests}
use Rattle.fkv_base.specs.declared.numbers.Key.{Key}
use Rattle.law_order.specs.Below.fkv_core.Openings.{beginning}
use Rattle.fkv_map.specs.declared.operations.Call.{Call}
use Rattle.fkv_map.specs.declared.operations.Call.TheVariants as call
use Rattle.fkv_map.specs.declared.operations.Op.TheVariants as op
use Rattle.law_order.specs.Below.fkv_pending.PendingRequest.{PendingRequest}
use Rattle.law_order.specs.Below.fkv_pending.RequestName.{RequestName}
use Rattle.law_order.specs.Below.fkv_pending.RequestName.TheVariants.{Read, Update}
use Rattle.law_order.specs.Below.fkv_pending.Ticket.{Ticket}
use Rattle.law_order.specs.Below.fkv_session.Accounts.{AreAccountedFor, names_of, number_of}
use Rattle.law_order.specs.Below.fkv_session.SessionRun.{Telling, in_hand, telling}
use Rattle.law_order.specs.Below.fkv_session.Sessions.{is_busy}
use Rattle.law_order.specs.Below.fkv_session.Finished.{Finished}
use Rattle.law_order.specs.Below.fkv_session.Told.{Told}
use Rattle.law_order.specs.Below.fkv_session.Told.TheVariants as told
use Rattle.law_order.specs.Below.fkv_session.Sitting.{Sitting}
use Rattle.law_order.specs.Below.fkv_session.Sitting.TheVariants.{Idle}
use Rattle.law_order.specs.Below.fkv_world.Opened.{answers_of}
use Rattle.law_order.specs.Below.fkv_world.Past.{Traced}
use Rattle.law_order.specs.Below.fkv_world.Runs.{run}
use Rattle.law_order.specs.Below.fkv_world.World.{Calls, Event, Now}
use Rattle.law_order.specs.Rules.Ordered.{effects_so_far}
use Rattle.law_order.specs.Rules.Waiting.{HasWaiting}
use Rattle.law_order.proofs.OfTickets.Tickets.{is_ticket}
use Rattle.law_order.proofs.Below.law_refine.OfResults.InCall.{result_told}
use Rattle.law_order.specs.Below.law_refine.Calls.Calls.{effects_in_log}
use Rattle.law_order.proofs.Below.law_world.OfRuns.Added.{history_so}
use Rattle.law_program.specs.PlayedCalls.PlayedCalls.{called_alone}
use Rattle.law_program.proofs.OfPlayedCalls.Polled.{IsTraced, trace_of_call}
use Rattle.law_program.proofs.OfPlayedCalls.Tickets.{accounted}

-- ---- its effects
pub none_taken : (bytes : List ℕ) (first : Now) (life : List Event) (number count : ℕ) (asked : Call) (ticket : Ticket) (list : List Finished) → IsTraced bytes first life number count asked (told.PendingRead ticket) list
    → (key : Key) → asked ≡ call.Op (op.Read key) → effects_so_far first bytes (called_alone number count (call.Op (op.Read key)) life) ≡ effects_so_far first bytes life
none_taken bytes first life number count asked ticket list at key is =
    ap effects_in_log (result_told (beginning first bytes) life number count (op.Read key) at.was at.s (told.PendingRead ticket) at.opened at.alive at.was_found at.idle
    (subst (λ (x : Call). slice_get (run (beginning first bytes) (called_alone number count x life)).now.sessions number ≡ Some at.s) is at.found) at.at_rest).0

-- ---- its request
abbrev HasTicket : ℕ → List PendingRequest → Type 0
HasTicket n requests = (index : ℕ) × (pending : PendingRequest) × (slice_get requests index ≡ Some pending) × (pending.name ≡ Read (record { 0 = n }))

name_so : (n : ℕ) (name : RequestName) → is_ticket n name ≡ true → name ≡ Read (record { 0 = n })
name_so n (Update serial) is = cc
name_so n (Read ticket) is = let same : ticket.0 ≡ n = grind (arith, nat_tests, is) in ap (λ (x : ℕ). Read (record { 0 = x })) same

has_ticket_in : (n : ℕ) (requests : List PendingRequest) → 1 ≤ number_of (is_ticket n) (names_of requests) → HasTicket n requests
has_ticket_in n [] some = absurd (omega (arith, some))
has_ticket_in n (it ∷ rest) some = by_test (has_ticket_in n rest) (is_ticket n it.name) refl (omega (arith, some))
  where
    by_test : (1 ≤ number_of (is_ticket n) (names_of rest) → HasTicket n rest) → (c : Bool) → is_ticket n it.name ≡ c → 1 ≤ number_of (λ (b : Bool). b) (c ∷ []) + number_of (is_ticket n) (names_of rest) → HasTicket n (it ∷ rest)
    by_test behind true e some = (zero, it, refl, name_so n it.name e)
    by_test behind false e some = let others = behind (omega (arith, some)) in (suc others.0, others.1, others.2, others.3)

idle_so : (step : Sitting) → is_busy step ≡ false → (its : Told) × (step ≡ Idle its)
idle_so (Idle its) idle = (its, refl)
idle_so step idle = cc

own_ticket : (n : ℕ) → (n == n) ≡ true
own_ticket n = grind (arith, nat_tests)

answers_now : (number e later : ℕ) (ticket : Ticket) (asked : Call) (trace : List Traced) (list : List Finished)
    → answers_of number (trace_of_call number asked e later trace (told.PendingRead ticket) list) ≡ telling (told.PendingRead ticket) list ∷ answers_of number trace
answers_now number e later ticket asked trace list =
    ap (λ (c : Bool). if c then telling (told.PendingRead ticket) list ∷ answers_of number trace else answers_of number trace) (own_ticket number)

-- one more was left pending, and none was told as finished
counts_one : (ticket : Ticket) (list : List Finished) (answers : List Telling) (waiting before : List RequestName) → AreAccountedFor (telling (told.PendingRead ticket) list ∷ answers) waiting [] → AreAccountedFor answers before []
    → 1 ≤ number_of (is_ticket ticket.0) waiting
counts_one ticket list answers waiting before now was =
    let such : RequestName → Bool = is_ticket ticket.0 in
    let behind = now such in
    let earlier = was such in
    let one : number_of (λ (b : Bool). b) (such (Read ticket) ∷ []) ≡ 1 = ap (λ (c : Bool). number_of (λ (b : Bool). b) (c ∷ [])) (own_ticket ticket.0) in
    omega (arith, behind, earlier, one)

pub has_waiting : (bytes : List ℕ) (first : Now) (life : List Event) (number count : ℕ) (asked : Call) (ticket : Ticket) (list : List Finished) → IsTraced bytes first life number count asked (told.PendingRead ticket) list
    → HasWaiting (run (beginning first bytes) (called_alone number count asked life)).now number ticket
has_waiting bytes first life number count asked ticket list at = record {
  s = at.s;
  found = at.found;
  idle = ap is_busy at.at_rest;
  index = has.0;
  pending = has.1;
  got = has.2;
  its_name = has.3;
}
  where
    trace : List Traced
    trace = (run (beginning first bytes) life).past.trace

    rested : (its : Told) × (at.was.step ≡ Idle its)
    rested = idle_so at.was.step at.idle

    now : AreAccountedFor (telling (told.PendingRead ticket) list ∷ answers_of number trace) (names_of at.s.requests) []
    now =
        subst (λ (x : List Telling). AreAccountedFor x (names_of at.s.requests) []) (ap (answers_of number) at.so ∙ answers_now number at.e at.later ticket asked trace list)
        (subst (λ (x : Sitting). AreAccountedFor (answers_of number (run (beginning first bytes) (called_alone number count asked life)).past.trace) (names_of at.s.requests) (in_hand x at.s.finished)) at.at_rest
        (accounted (beginning first bytes) (called_alone number count asked life) number at.s (told.PendingRead ticket) at.opened at.found at.at_rest))

    before : AreAccountedFor (answers_of number trace) (names_of at.was.requests) []
    before =
        subst (λ (x : Sitting). AreAccountedFor (answers_of number trace) (names_of at.was.requests) (in_hand x at.was.finished)) rested.1
        (accounted (beginning first bytes) life number at.was rested.0 at.opened at.was_found rested.1)

    has : HasTicket ticket.0 at.s.requests
    has = has_ticket_in ticket.0 at.s.requests (counts_one ticket list (answers_of number trace) (names_of at.s.requests) (names_of at.was.requests) now before)

-- ---- its call takes no effect of its own
pub call_adds_none : (bytes : List ℕ) (first : Now) (life : List Event) (number : ℕ) (asked : Call) → effects_so_far first bytes (Calls number asked ∷ life) ≡ effects_so_far first bytes life
unfolding run
call_adds_none bytes first life number asked = elim (history_so (run (beginning first bytes) life) (Calls number asked)) [
  | inl same ↦ ap effects_in_log same
  | inr its ↦ let clash = its.2.moves in cc
]
