-- Counting the numbers that pass a test.
use Rattle.std.proofs.Common.{◌≡◌, ◌⊎◌, inl, inr, ⊎_elim, ℕ, zero, suc, ◌+◌, ◌<◌, ◌≤◌, Bool, true, false, refl, sym, ◌∙◌, arith, true≢false}
use Rattle.std.specs.Prelude.{◌&&◌}

abbrev pub mark : Bool → ℕ
mark true = 1
mark false = 0

-- how many below a number do
abbrev pub many : (ℕ → Bool) → ℕ → ℕ
many p zero = 0
many p (suc n) = many p n + mark (p n)

pub bool_is : (b : Bool) → (b ≡ true) ⊎ (b ≡ false)
bool_is true = inl refl
bool_is false = inr refl

pub both : (a b : Bool) → a && b ≡ true → (a ≡ true) × (b ≡ true)
both true true is = (refl, refl)
both true false is = absurd (cc)
both false b is = absurd (cc)

pub and_is : (a b : Bool) → a ≡ true → b ≡ true → a && b ≡ true
and_is true true one other = refl
and_is true false one other = absurd (cc)
and_is false b one other = absurd (cc)

mark_most : (a : Bool) → mark a ≤ 1
mark_most true = omega arith
mark_most false = omega arith

mark_none : (a : Bool) → (a ≡ true → ⊥) → mark a ≡ 0
mark_none true never = absurd (never refl)
mark_none false never = refl

mark_split : (a b c : Bool) → (a ≡ true → (b ≡ true) ⊎ (c ≡ true)) → mark a ≤ mark b + mark c
mark_split false b c one = omega arith
mark_split true true c one = omega arith
mark_split true false true one = omega arith
mark_split true false false one = absurd (elim (one refl) [ inl is ↦ true≢false (sym is) | inr is ↦ true≢false (sym is) ])

mark_join : (a b c : Bool) → (b ≡ true → a ≡ true) → (c ≡ true → a ≡ true) → (b ≡ true → c ≡ true → ⊥) → mark b + mark c ≤ mark a
mark_join true true true one other apart = absurd (apart refl refl)
mark_join true true false one other apart = omega arith
mark_join true false true one other apart = omega arith
mark_join true false false one other apart = omega arith
mark_join false true c one other apart = absurd (true≢false (sym (one refl)))
mark_join false false true one other apart = absurd (true≢false (sym (other refl)))
mark_join false false false one other apart = omega arith

pub most_are : (p : ℕ → Bool) (n : ℕ) → many p n ≤ n
most_are p zero = omega arith
most_are p (suc n) = omega (arith, most_are p n, mark_most (p n))

pub none_are : (p : ℕ → Bool) (n : ℕ) → ((k : ℕ) → k < n → p k ≡ true → ⊥) → many p n ≡ 0
none_are p zero never = refl
none_are p (suc n) never = omega (arith, none_are p n (λ k low. never k (omega (arith, low))), mark_none (p n) (never n (omega arith)))

-- where no two do, one at most does
pub one_is : (p : ℕ → Bool) (n : ℕ) → ((j k : ℕ) → p j ≡ true → p k ≡ true → j ≡ k) → many p n ≤ 1
one_is p zero same = omega arith
one_is p (suc n) same = ⊎_elim
    (λ is. let none = none_are p n (λ k low its. let at = same k n its is in omega (arith, at, low)) in omega (arith, none, mark_most (p n)))
    (λ is. let rest = one_is p n same in let nothing : mark (p n) ≡ 0 = mark_none (p n) (λ here. true≢false (sym here ∙ is)) in omega (arith, rest, nothing))
    (bool_is (p n))

pub many_split : (p q r : ℕ → Bool) (n : ℕ) → ((k : ℕ) → p k ≡ true → (q k ≡ true) ⊎ (r k ≡ true)) → many p n ≤ many q n + many r n
many_split p q r zero one = omega arith
many_split p q r (suc n) one = omega (arith, many_split p q r n one, mark_split (p n) (q n) (r n) (one n))

pub many_join : (p q r : ℕ → Bool) (n : ℕ) → ((k : ℕ) → q k ≡ true → p k ≡ true) → ((k : ℕ) → r k ≡ true → p k ≡ true) → ((k : ℕ) → q k ≡ true → r k ≡ true → ⊥)
    → many q n + many r n ≤ many p n
many_join p q r zero one other apart = omega arith
many_join p q r (suc n) one other apart = omega (arith, many_join p q r n one other apart, mark_join (p n) (q n) (r n) (one n) (other n) (apart n))

pub many_more : (p q : ℕ → Bool) (n : ℕ) → ((k : ℕ) → p k ≡ true → q k ≡ true) → many p n ≤ many q n
many_more p q zero one = omega arith
many_more p q (suc n) one = omega (arith, many_more p q n one, mark_split (p n) (q n) false (λ is. inl (one n is)))
