-- The read that waits for a ticket, in a trace in which no ticket comes again.
use Rattle.std.proofs.Common.{◌≡◌, ℕ, ◌+◌, ◌≤◌, ◌∙◌, refl, sym, ap, subst, arith, Bool, true, false, List, [], ◌∷◌, ◌++◌}
use Rattle.std.specs.Prelude.{◌==◌, ◌&&◌, if◌then◌else◌, slice_get, Some}
use Rattle.law_order.specs.Below.fkv_pending.Ticket.{Ticket}
use Rattle.law_order.specs.Below.fkv_session.Told.{Told}
use Rattle.law_order.specs.Below.fkv_session.Told.TheVariants as told
use Rattle.law_order.specs.Below.fkv_session.Accounts.{left_pending, number_of, with_pending}
use Rattle.law_order.specs.Below.fkv_session.SessionRun.{Telling}
use Rattle.law_order.specs.Below.fkv_session.Sessions.{SessionState, is_busy}
use Rattle.law_order.specs.Below.fkv_session.Tickets.{AreTicketsInTurn}
use Rattle.law_order.specs.Below.fkv_world.Opened.{HasBecome, IsOpenedWorld, answer_to, answers_of, life_told}
use Rattle.law_order.specs.Below.fkv_world.OwnEvents.{session_events}
use Rattle.law_order.specs.Below.fkv_world.Past.{Traced, TraceEvent, Called, Answered}
use Rattle.law_order.specs.Below.fkv_world.Runs.{World, run}
use Rattle.law_order.specs.Below.fkv_world.World.{Event, seat_at}
use Rattle.law_order.specs.Below.law_refine.Events.Lines.{gives_ticket, read_in_hand, read_waiting}
use Rattle.law_order.specs.Below.law_refine.Events.Lines as lines
use Rattle.law_order.proofs.Below.law_refine.OfCalls.InHand.{WasOpened, was_opened}
use Rattle.law_order.proofs.Below.law_refine.OfCalls.Life.{told_so}
use Rattle.law_order.specs.Tickets.Few.{HasFewCalls}
use Rattle.law_order.proofs.OfReads.Numbers.{other_waiting}
use Rattle.law_order.proofs.OfTickets.Begun.{told_few}
use Rattle.law_order.proofs.OfTickets.Events.{begun_few}
use Rattle.law_order.proofs.OfTickets.Tickets.{is_ticket, left_once, tickets_few}
use Rattle.law_threads.proofs.Course.{OfOthers}
use Rattle.law_threads.proofs.OfRuns.{same_number}

-- tickets are given in turn
abbrev pub GivesTicketsInTurn : Type 0
GivesTicketsInTurn = (opening : World) (events : List Event) (session : ℕ) (first its : SessionState) → HasBecome opening events session first its → AreTicketsInTurn its.ticket (life_told opening events session first)

-- how often a ticket was given
abbrev pub times_given : ℕ → ℕ → List Traced → ℕ
times_given number ticket trace = number_of (is_ticket ticket) (left_pending (answers_of number trace))

one_more : (ticket : ℕ) (its : Told) (rest : List _) → number_of (is_ticket ticket) rest ≤ number_of (is_ticket ticket) (with_pending its rest)
one_more ticket (told.Pending serial why) rest = omega arith
one_more ticket (told.PendingRead given) rest = omega arith
one_more ticket its rest = omega arith

if_more : (ticket : ℕ) (c : Bool) (its : Telling) (rest : List Telling) → number_of (is_ticket ticket) (left_pending rest) ≤ number_of (is_ticket ticket) (left_pending (if c then its ∷ rest else rest))
if_more ticket true its rest = one_more ticket its.its (left_pending rest)
if_more ticket false its rest = omega arith

more_given : (number ticket : ℕ) (it : Traced) (trace : List Traced) → times_given number ticket trace ≤ times_given number ticket (it ∷ trace)
more_given number ticket it trace = by_event it.its
  where
    by_event : (event : TraceEvent) → number_of (is_ticket ticket) (left_pending (answers_of number trace)) ≤ number_of (is_ticket ticket) (left_pending (answer_to number event (answers_of number trace)))
    by_event (Answered session its) = if_more ticket (session == number) its (answers_of number trace)
    by_event event = omega arith

both_true : (a b : Bool) → (a && b) ≡ true → (a ≡ true) × (b ≡ true)
both_true true true e = (refl, refl)
both_true true false e = cc
both_true false b e = cc

gives_one : (ticket : ℕ) (its : Told) (rest : List _) → lines.is_ticket ticket its ≡ true → number_of (is_ticket ticket) (with_pending its rest) ≡ 1 + number_of (is_ticket ticket) rest
gives_one ticket (told.PendingRead given) rest e = rw e refl
gives_one ticket its rest e = cc

-- one more where it is given
given_more : (number ticket : ℕ) (event : TraceEvent) (trace : List Traced) (effects : ℕ) → gives_ticket number ticket event ≡ true → 1 + times_given number ticket trace ≤ times_given number ticket (record { its = event; effects = effects } ∷ trace)
given_more number ticket (Answered session its) trace effects e =
    let both = both_true (session == number) (lines.is_ticket ticket its.its) e in
    subst (λ (c : Bool). 1 + times_given number ticket trace ≤ number_of (is_ticket ticket) (left_pending (if c then its ∷ answers_of number trace else answers_of number trace))) (sym both.0)
    (let one = gives_one ticket its.its (left_pending (answers_of number trace)) both.1 in omega (arith, one))
given_more number ticket (Called session its) trace effects e = cc
given_more number ticket event trace effects e = cc

some_given : (number ticket : ℕ) (more trace : List Traced) → 1 ≤ times_given number ticket trace → 1 ≤ times_given number ticket (more ++ trace)
some_given number ticket [] trace one = one
some_given number ticket (it ∷ more) trace one =
    let rest = some_given number ticket more trace one in
    let step = more_given number ticket it (more ++ trace) in
    omega (arith, rest, step)

-- where it doesn't come again, what waits for it stays
pub waits_on : (number ticket : ℕ) (more trace : List Traced) → 1 ≤ times_given number ticket trace → times_given number ticket (more ++ trace) ≤ 1 → read_waiting number ticket (more ++ trace) ≡ read_waiting number ticket trace
waits_on number ticket [] trace one once = refl
waits_on number ticket (it ∷ more) trace one once = by_test (gives_ticket number ticket it.its) refl (waits_on number ticket more trace one (let step = more_given number ticket it (more ++ trace) in omega (arith, once, step)))
  where
    by_test : (c : Bool) → gives_ticket number ticket it.its ≡ c → read_waiting number ticket (more ++ trace) ≡ read_waiting number ticket trace
        → (if c then read_in_hand number (more ++ trace) else read_waiting number ticket (more ++ trace)) ≡ read_waiting number ticket trace
    by_test true e rest =
        let two = given_more number ticket it.its (more ++ trace) it.effects e in
        let some = some_given number ticket more trace one in
        absurd (omega (arith, two, some, once))
    by_test false e rest = rest

-- as it is given
pub own_gives : (number : ℕ) (ticket : Ticket) (its : Telling) → its.its ≡ told.PendingRead ticket → gives_ticket number ticket.0 (Answered number its) ≡ true
own_gives number ticket its is =
    ap (λ (c : Bool). c && lines.is_ticket ticket.0 its.its) (same_number number) ∙ (ap (λ (x : Told). true && lines.is_ticket ticket.0 x) is ∙ ap (λ (c : Bool). true && c) (same_number ticket.0))

pub given_now : (number : ℕ) (ticket : Ticket) (its : Telling) (effects : ℕ) (trace : List Traced) → its.its ≡ told.PendingRead ticket → 1 ≤ times_given number ticket.0 (record { its = Answered number its; effects = effects } ∷ trace)
given_now number ticket its effects trace is = let one = given_more number ticket.0 (Answered number its) trace effects (own_gives number ticket its is) in omega (arith, one)

pub waits_now : (number : ℕ) (ticket : Ticket) (its : Telling) (effects : ℕ) (trace : List Traced) → its.its ≡ told.PendingRead ticket → read_waiting number ticket.0 (record { its = Answered number its; effects = effects } ∷ trace) ≡ read_in_hand number trace
waits_now number ticket its effects trace is = ap (λ (c : Bool). if c then read_in_hand number trace else read_waiting number ticket.0 trace) (own_gives number ticket its is)

pub others_wait : (number ticket : ℕ) (since trace : List Traced) → OfOthers number since → read_waiting number ticket (since ++ trace) ≡ read_waiting number ticket trace
others_wait number ticket [] trace others = refl
others_wait number ticket (it ∷ since) trace others = other_waiting number ticket it (since ++ trace) others.0 ∙ others_wait number ticket since trace others.1

-- in a life of few calls none is given twice
pub once_given : GivesTicketsInTurn → (opening : World) (events : List Event) (number ticket : ℕ) (s : SessionState) → IsOpenedWorld opening → HasFewCalls events → slice_get (run opening events).now.sessions number ≡ Some s → is_busy s.step ≡ false
    → times_given number ticket (run opening events).past.trace ≤ 1
once_given in_turn opening events number ticket s opened few found idle =
    let was : WasOpened opening events number s = was_opened opening events number s opened found in
    let told : List Telling = life_told opening events number was.first in
    let turn : AreTicketsInTurn s.ticket told = in_turn opening events number was.first s was.became in
    let starts : is_busy was.first.step ≡ false = (opened.sessions number was.first was.became.was).none_in_hand in
    let given = tickets_few told in
    let answers = told_few (seat_at opening.now number) was.first (session_events opening number events) starts in
    let begun = begun_few opening number events in
    subst (λ (x : List Telling). number_of (is_ticket ticket) (left_pending x) ≤ 1) (told_so opening events number was.first s was.became idle)
    (left_once told ticket turn.in_turn (omega (arith, given, answers, begun, few)))
