-- The numbers of a session's reads: that of the call in hand, and those of the reads that wait, are numbers of its own calls, and all different.
use Rattle.std.proofs.Common.{◌≡◌, ℕ, ◌<◌, ◌∙◌, List, [], ◌∷◌, length, refl, arith, ap, sym, subst, inl, inr, Bool, true, false}
use Rattle.std.specs.Prelude.{Option, if◌then◌else◌, ◌==◌, ◌⊎◌}
use Rattle.std.proofs.lemmas.Bool.Decides.{nat_tests}
use Rattle.fkv_map.specs.declared.operations.Call.{Call}
use Rattle.law_commit.specs.Below.fkv_session.Told.{Told}
use Rattle.law_commit.specs.Below.fkv_session.Told.TheVariants as told
use Rattle.law_commit.specs.Below.fkv_session.SessionRun.{Telling}
use Rattle.law_commit.specs.Below.fkv_world.Past.{Traced, TraceEvent, Called, Answered}
use Rattle.law_commit.specs.Below.law_refine.Events.Lines.{CallMade, call_made, last_call, number_of_call, read_in_hand, is_ticket, gives_ticket, read_waiting}
use Rattle.law_order.specs.Reads.Reads.{is_given}
use Rattle.law_commit.proofs.Below.law_refine.OfCalls.Called.{is_other, with_called}

-- ---- the number of a call
abbrev pub is_call_of : ℕ → TraceEvent → Type 0
is_call_of number (Called session its) = session ≡ number
is_call_of number event = ⊥

-- a call of the session has this number
abbrev pub IsOwn : ℕ → ℕ → List Traced → Type 0
IsOwn number reader [] = ⊥
IsOwn number reader (it ∷ before) = (is_call_of number it.its × (reader ≡ length before)) ⊎ IsOwn number reader before

pub own_below : (number reader : ℕ) (trace : List Traced) → IsOwn number reader trace → reader < length trace
own_below number reader [] own = absurd own
own_below number reader (it ∷ before) (inl own) = let at = own.1 in omega (arith, at)
own_below number reader (it ∷ before) (inr own) = let low = own_below number reader before own in omega (arith, low)

same_caller : (number other : ℕ) (event : TraceEvent) → is_call_of number event → is_call_of other event → number ≡ other
same_caller number other (Called session its) one two = sym one ∙ two
same_caller number other event one two = absurd one

-- no call is of two sessions
pub own_same : (number other reader : ℕ) (trace : List Traced) → IsOwn number reader trace → IsOwn other reader trace → number ≡ other
own_same number other reader [] one two = absurd one
own_same number other reader (it ∷ before) (inl one) (inl two) = same_caller number other it.its one.0 two.0
own_same number other reader (it ∷ before) (inl one) (inr two) = let low = own_below other reader before two in let at = one.1 in absurd (clash at low)
  where
    clash : reader ≡ length before → reader < length before → ⊥
    clash at low = omega (arith, at, low)
own_same number other reader (it ∷ before) (inr one) (inl two) = let low = own_below number reader before one in let at = two.1 in absurd (clash at low)
  where
    clash : reader ≡ length before → reader < length before → ⊥
    clash at low = omega (arith, at, low)
own_same number other reader (it ∷ before) (inr one) (inr two) = own_same number other reader before one two

-- ---- what a session's numbers have to be
pub record Numbered (number : ℕ) (trace : List Traced) (busy : Bool) : Type 0 where
  -- each ticket stands for a call of its own
  pub waits : (ticket : ℕ) → is_given number ticket trace ≡ true → IsOwn number (read_waiting number ticket trace) trace
  pub apart : (ticket other : ℕ) → is_given number ticket trace ≡ true → is_given number other trace ≡ true → read_waiting number ticket trace ≡ read_waiting number other trace → ticket ≡ other
  -- the call in hand is later than those
  pub in_hand : busy ≡ true → IsOwn number (read_in_hand number trace) trace
  pub later : busy ≡ true → (ticket : ℕ) → is_given number ticket trace ≡ true → read_waiting number ticket trace < read_in_hand number trace

pub none_numbered : (number : ℕ) → Numbered number [] false
none_numbered number = record {
  waits = λ ticket e. never e;
  apart = λ ticket other e o same. never e;
  in_hand = λ e. never e;
  later = λ e ticket o. never e;
}
  where
    never : {X : Type 0} → false ≡ true → X
    never e = cc

-- ---- what another session tells, or the keeper
other_gives : (number ticket : ℕ) (event : TraceEvent) → is_other number event → gives_ticket number ticket event ≡ false
other_gives number ticket (Answered session its) other = rw other refl
other_gives number ticket event other = refl

other_makes : (number so_far : ℕ) (event : TraceEvent) (before : Option CallMade) → is_other number event → call_made number so_far event before ≡ before
other_makes number so_far (Called session its) before other = rw other refl
other_makes number so_far event before other = refl

pub other_given : (number ticket : ℕ) (it : Traced) (trace : List Traced) → is_other number it.its → is_given number ticket (it ∷ trace) ≡ is_given number ticket trace
other_given number ticket it trace other = rw (other_gives number ticket it.its other) refl

pub other_waiting : (number ticket : ℕ) (it : Traced) (trace : List Traced) → is_other number it.its → read_waiting number ticket (it ∷ trace) ≡ read_waiting number ticket trace
other_waiting number ticket it trace other = rw (other_gives number ticket it.its other) refl

pub other_hand : (number : ℕ) (it : Traced) (trace : List Traced) → is_other number it.its → read_in_hand number (it ∷ trace) ≡ read_in_hand number trace
other_hand number it trace other = ap number_of_call (other_makes number (length trace) it.its (last_call number trace) other)

-- where the numbers stay
same_numbered : (number : ℕ) (trace after : List Traced) (busy : Bool) → ((ticket : ℕ) → is_given number ticket after ≡ is_given number ticket trace) → ((ticket : ℕ) → read_waiting number ticket after ≡ read_waiting number ticket trace)
    → read_in_hand number after ≡ read_in_hand number trace → ((reader : ℕ) → IsOwn number reader trace → IsOwn number reader after) → Numbered number trace busy → Numbered number after busy
same_numbered number trace after busy given waiting hand stays its = record {
  waits = λ ticket e. subst (λ reader. IsOwn number reader after) (sym (waiting ticket)) (stays (read_waiting number ticket trace) (its.waits ticket (sym (given ticket) ∙ e)));
  apart = λ ticket other e o same. its.apart ticket other (sym (given ticket) ∙ e) (sym (given other) ∙ o) (sym (waiting ticket) ∙ (same ∙ waiting other));
  in_hand = λ e. subst (λ reader. IsOwn number reader after) (sym hand) (stays (read_in_hand number trace) (its.in_hand e));
  later = λ e ticket o.
      let low = its.later e ticket (sym (given ticket) ∙ o) in
      let one = waiting ticket in
      omega (arith, low, one, hand);
}

pub other_numbered : (number : ℕ) (it : Traced) (trace : List Traced) (busy : Bool) → is_other number it.its → Numbered number trace busy → Numbered number (it ∷ trace) busy
other_numbered number it trace busy other its =
    same_numbered number trace (it ∷ trace) busy (λ ticket. other_given number ticket it trace other) (λ ticket. other_waiting number ticket it trace other) (other_hand number it trace other) (λ reader own. inr own) its

-- ---- the session's own calls and answers
pub same_number : (n : ℕ) → (n == n) ≡ true
same_number n = grind (arith, nat_tests)

abbrev pub with_answered : ℕ → ℕ → Telling → List Traced → List Traced
with_answered effects number its trace = record { its = Answered number its; effects = effects } ∷ trace

pub called_hand : (effects number : ℕ) (its : Call) (trace : List Traced) → read_in_hand number (with_called effects number its trace) ≡ length trace
called_hand effects number its trace = rw (same_number number) refl

pub called_numbered : (effects number : ℕ) (its : Call) (trace : List Traced) → Numbered number trace false → Numbered number (with_called effects number its trace) true
called_numbered effects number its trace was = record {
  waits = λ ticket e. inr (was.waits ticket e);
  apart = λ ticket other e o same. was.apart ticket other e o same;
  in_hand = λ e. inl (refl, called_hand effects number its trace);
  later = λ e ticket o.
      let low = own_below number (read_waiting number ticket trace) trace (was.waits ticket o) in
      let at = called_hand effects number its trace in
      omega (arith, low, at);
}

pub answered_gives : (number ticket : ℕ) (its : Telling) → gives_ticket number ticket (Answered number its) ≡ is_ticket ticket its.its
answered_gives number ticket its = rw (same_number number) refl

abbrev GivenBy : ℕ → ℕ → List Traced → Bool → Type 0
GivenBy number ticket trace c = (if c then true else is_given number ticket trace) ≡ true

abbrev number_by : ℕ → ℕ → List Traced → Bool → ℕ
number_by number ticket trace c = if c then read_in_hand number trace else read_waiting number ticket trace

one_ticket : (ticket other : ℕ) (its : Told) → is_ticket ticket its ≡ true → is_ticket other its ≡ true → ticket ≡ other
one_ticket ticket other (told.PendingRead given) one two = grind (arith, nat_tests, one, two)
one_ticket ticket other its one two = cc

answer_waits : (number ticket : ℕ) (trace : List Traced) (c : Bool) → Numbered number trace true → GivenBy number ticket trace c → IsOwn number (number_by number ticket trace c) trace
answer_waits number ticket trace true was e = was.in_hand refl
answer_waits number ticket trace false was e = was.waits ticket e

answer_apart : (number ticket other : ℕ) (trace : List Traced) (its : Told) (c d : Bool) → Numbered number trace true → is_ticket ticket its ≡ c → is_ticket other its ≡ d → GivenBy number ticket trace c → GivenBy number other trace d
    → number_by number ticket trace c ≡ number_by number other trace d → ticket ≡ other
answer_apart number ticket other trace its true true was one two e o same = one_ticket ticket other its one two
answer_apart number ticket other trace its true false was one two e o same = let low = was.later refl other o in absurd (clash same low)
  where
    clash : read_in_hand number trace ≡ read_waiting number other trace → read_waiting number other trace < read_in_hand number trace → ⊥
    clash same low = omega (arith, same, low)
answer_apart number ticket other trace its false true was one two e o same = let low = was.later refl ticket e in absurd (clash same low)
  where
    clash : read_waiting number ticket trace ≡ read_in_hand number trace → read_waiting number ticket trace < read_in_hand number trace → ⊥
    clash same low = omega (arith, same, low)
answer_apart number ticket other trace its false false was one two e o same = was.apart ticket other e o same

pub answered_numbered : (effects number : ℕ) (its : Telling) (trace : List Traced) → Numbered number trace true → Numbered number (with_answered effects number its trace) false
answered_numbered effects number its trace was = record {
  waits = λ ticket e. inr (subst (λ c. GivenBy number ticket trace c → IsOwn number (number_by number ticket trace c) trace) (sym (answered_gives number ticket its)) (answer_waits number ticket trace (is_ticket ticket its.its) was) e);
  apart = λ ticket other e o same.
      subst (λ c. GivenBy number ticket trace c → GivenBy number other trace (gives_ticket number other (Answered number its)) → number_by number ticket trace c ≡ number_by number other trace (gives_ticket number other (Answered number its)) → ticket ≡ other)
      (sym (answered_gives number ticket its))
      (subst (λ d. GivenBy number ticket trace (is_ticket ticket its.its) → GivenBy number other trace d → number_by number ticket trace (is_ticket ticket its.its) ≡ number_by number other trace d → ticket ≡ other) (sym (answered_gives number other its))
      (answer_apart number ticket other trace its.its (is_ticket ticket its.its) (is_ticket other its.its) was refl refl)) e o same;
  in_hand = λ e. never e;
  later = λ e ticket o. never e;
}
  where
    never : {X : Type 0} → false ≡ true → X
    never e = cc
