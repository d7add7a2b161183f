-- Chains as lists: where they begin, the first record of a key, and how both stay as a chain grows.
use Rattle.std.proofs.Common.{◌≡◌, ◌≢◌, ◌⊎◌, inl, inr, ℕ, ◌∙◌, Bool, true, false, cond, List, [], ◌∷◌, refl, ap, arith}
use Rattle.std.specs.Prelude.{nat_eq}
use Rattle.std.proofs.lemmas.Bool.Decides.{nat_tests}
use Rattle.law_log.specs.Trace.{IsIn}
use Rattle.law_log.specs.Chains.{Logged, head_of, chain_from, first_such, IsWithin}
use Rattle.law_log.specs.Ghosts.{set_at}

pub own_number : (n : ℕ) → nat_eq n n ≡ true
own_number n = grind (arith, nat_tests)

pub other_number : (n k : ℕ) → n ≢ k → nat_eq n k ≡ false
other_number n k other = grind (arith, nat_tests)

pub same_number : (n k : ℕ) → nat_eq n k ≡ true → n ≡ k
same_number n k is = grind (arith, nat_tests)

pub differs : (n k : ℕ) → nat_eq n k ≡ false → n ≢ k
differs n k is = grind (arith, nat_tests)

-- two numbers are one, or they aren't
pub same_or_other : (n k : ℕ) → (n ≡ k) ⊎ (n ≢ k)
same_or_other n k = elim (nat_eq n k) as (λ b. nat_eq n k ≡ b → (n ≡ k) ⊎ (n ≢ k)) [
  | true ↦ λ is. inl (same_number n k is)
  | false ↦ λ is. inr (differs n k is)
] refl

-- ---- a function changed at one place
pub set_there : {X : Type 0} → (f : ℕ → X) (i : ℕ) (x : X) → set_at f i x i ≡ x
unfolding set_at
set_there f i x = rw (own_number i) refl

pub set_else : {X : Type 0} → (f : ℕ → X) (i : ℕ) (x : X) (j : ℕ) → j ≢ i → set_at f i x j ≡ f j
unfolding set_at
set_else f i x j other = rw (other_number j i other) refl

-- ---- chains
pub from_head : (chain : List ℕ) → chain_from (head_of chain) chain ≡ chain
from_head [] = refl
from_head (a ∷ older) = rw (own_number a) refl

pub from_else : (a b : ℕ) (chain : List ℕ) → b ≢ a → chain_from a (b ∷ chain) ≡ chain_from a chain
from_else a b chain other = rw (other_number b a other) refl

pub in_from : (a b : ℕ) (chain : List ℕ) → IsIn b (chain_from a chain) → IsIn b chain
in_from a b [] is_in = is_in
in_from a b (c ∷ older) is_in = by_test (nat_eq c a) (in_from a b older) is_in
  where
    by_test : (t : Bool) → (IsIn b (chain_from a older) → IsIn b older) → IsIn b (cond t (c ∷ older) (chain_from a older)) → IsIn b (c ∷ older)
    by_test true rest it = it
    by_test false rest it = inr (rest it)

pub head_within : (chain : List ℕ) → IsWithin (head_of chain) chain
head_within [] = inl refl
head_within (a ∷ older) = inr (inl refl)

-- ---- the first record that passes a test
-- it is none, or one of the chain that passes
abbrev pub IsFirst : (Logged → Bool) → (ℕ → Logged) → List ℕ → ℕ → Type 0
IsFirst test cells chain a = (a ≡ 0) ⊎ (IsIn a chain × (test (cells a) ≡ true))

pub first_is : (test : Logged → Bool) (cells : ℕ → Logged) (chain : List ℕ) → IsFirst test cells chain (first_such test cells chain)
first_is test cells [] = inl refl
first_is test cells (a ∷ older) = by_test (test (cells a)) refl (first_is test cells older)
  where
    by_test : (t : Bool) → test (cells a) ≡ t → IsFirst test cells older (first_such test cells older) → IsFirst test cells (a ∷ older) (cond t a (first_such test cells older))
    by_test true is rest = inr (inl refl, is)
    by_test false is (inl none) = inl none
    by_test false is (inr some) = inr (inr some.0, some.1)

-- where the records of a chain pass as they did
pub first_same : (test : Logged → Bool) (cells cells' : ℕ → Logged) (chain : List ℕ) → ((a : ℕ) → IsIn a chain → test (cells' a) ≡ test (cells a)) → first_such test cells' chain ≡ first_such test cells chain
first_same test cells cells' [] same = refl
first_same test cells cells' (a ∷ older) same = rw (same a (inl refl), first_same test cells cells' older (λ b is_in. same b (inr is_in))) refl

-- a record that doesn't pass stands in the way of none
pub first_else : (test : Logged → Bool) (cells : ℕ → Logged) (a : ℕ) (chain : List ℕ) → test (cells a) ≡ false → first_such test cells (a ∷ chain) ≡ first_such test cells chain
first_else test cells a chain other = rw other refl

pub first_there : (test : Logged → Bool) (cells : ℕ → Logged) (a : ℕ) (chain : List ℕ) → test (cells a) ≡ true → first_such test cells (a ∷ chain) ≡ a
first_there test cells a chain own = rw own refl

-- at each place it is the new one there, or the old one
pub at_one : {X : Type 0} → (f : ℕ → X) (i : ℕ) (x : X) (j : ℕ) → ((j ≡ i) × (set_at f i x j ≡ x)) ⊎ ((j ≢ i) × (set_at f i x j ≡ f j))
at_one f i x j = elim (same_or_other j i) [
  | inl same ↦ inl (same, ap (set_at f i x) same ∙ set_there f i x)
  | inr other ↦ inr (other, set_else f i x j other)
]
