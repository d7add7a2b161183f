-- Down a chain of the log.
use Rattle.std.proofs.Common.{◌≡◌, ◌⊎◌, inl, inr, ℕ, ◌<◌, ◌≤◌, Bool, true, false, cond, Some, List, [], ◌∷◌, refl, sym, ap, subst, ◌∙◌, arith}
use Rattle.law_log.proofs.Shown.{head_within}
use Rattle.law_log.specs.Chains.{Cell, Logged, Published, head_of, first_such, version_at, VersionsFall, IsWithin}
use Rattle.law_log.specs.Enabled.{IsLinked, previous_of}
use Rattle.law_log.specs.Trace.{IsIn}

-- what a record leads to
pub leads_to : (logged : Logged) (cell : Cell) (p : ℕ) → logged ≡ Published cell → previous_of logged ≡ Some p → cell.previous ≡ p
leads_to logged cell p is leads = let same : Some cell.previous ≡ Some p = sym (ap previous_of is) ∙ leads in cc

pub in_below : (cells : ℕ → Logged) (a : ℕ) (older : List ℕ) → head_of older < a → IsLinked cells older → (b : ℕ) → IsIn b older → b < a
in_below cells a [] low linked b has = absurd has
in_below cells a (c ∷ older) low linked b (inl same) = omega (arith, low, same)
in_below cells a (c ∷ older) low linked b (inr rest) = in_below cells a older (let lower = linked.1 in omega (arith, lower, low)) linked.2 b rest

pub in_low : (cells : ℕ → Logged) (chain : List ℕ) → IsLinked cells chain → (b : ℕ) → IsIn b chain → b ≤ head_of chain
in_low cells [] linked b has = absurd has
in_low cells (c ∷ older) linked b (inl same) = omega (arith, same)
in_low cells (c ∷ older) linked b (inr rest) = let low = in_below cells c older linked.1 linked.2 b rest in omega (arith, low)

pub head_in : (chain : List ℕ) (b : ℕ) → IsIn b chain → IsIn (head_of chain) chain
head_in [] b has = absurd has
head_in (c ∷ older) b has = inl refl

-- a record of a chain leads to the next one, which lies below it, or to none
pub next_within : (cells : ℕ → Logged) (chain : List ℕ) → IsLinked cells chain → (a : ℕ) (cell : Cell) → IsIn a chain → cells a ≡ Published cell → IsWithin cell.previous chain × (cell.previous < a)
next_within cells [] linked a cell has is = absurd has
next_within cells (c ∷ older) linked a cell (inl same) is =
    let next : cell.previous ≡ head_of older = leads_to (cells c) cell (head_of older) (ap cells same ∙ is) linked.0 in
    let low = linked.1 in (
      elim (head_within older) [ inl none ↦ inl (next ∙ none) | inr some ↦ inr (inr (subst (λ (n : ℕ). IsIn n older) (sym next) some)) ],
      omega (arith, next, low, same),
    )
next_within cells (c ∷ older) linked a cell (inr rest) is =
    let next = next_within cells older linked.2 a cell rest is in
    (elim next.0 [ inl none ↦ inl none | inr some ↦ inr (inr some) ], next.1)

-- and whatever lies below it in the chain is no higher than that
pub below_next : (cells : ℕ → Logged) (chain : List ℕ) → IsLinked cells chain → (a b : ℕ) (cell : Cell) → IsIn a chain → IsIn b chain → b < a → cells a ≡ Published cell → b ≤ cell.previous
below_next cells [] linked a b cell has other low is = absurd has
below_next cells (c ∷ older) linked a b cell (inl same) (inl here) low is = omega (arith, same, here, low)
below_next cells (c ∷ older) linked a b cell (inl same) (inr rest) low is =
    let next : cell.previous ≡ head_of older = leads_to (cells c) cell (head_of older) (ap cells same ∙ is) linked.0 in
    let most = in_low cells older linked.2 b rest in
    omega (arith, next, most)
below_next cells (c ∷ older) linked a b cell (inr rest) (inl here) low is =
    let high = in_below cells c older linked.1 linked.2 a rest in omega (arith, high, here, low)
below_next cells (c ∷ older) linked a b cell (inr rest) (inr other) low is = below_next cells older linked.2 a b cell rest other low is

-- versions never rise
pub versions_fall : (cells : ℕ → Logged) (chain : List ℕ) → IsLinked cells chain → VersionsFall cells chain → (a b : ℕ) → IsIn a chain → IsIn b chain → b < a → version_at (cells b) ≤ version_at (cells a)
versions_fall cells [] linked falls a b has other low = absurd has
versions_fall cells (c ∷ older) linked falls a b (inl same) (inl here) low = omega (arith, same, here, low)
versions_fall cells (c ∷ older) linked falls a b (inl same) (inr rest) low = subst (λ (n : ℕ). version_at (cells b) ≤ version_at (cells n)) same (falls.0 b rest)
versions_fall cells (c ∷ older) linked falls a b (inr rest) (inl here) low =
    let high = in_below cells c older linked.1 linked.2 a rest in omega (arith, high, here, low)
versions_fall cells (c ∷ older) linked falls a b (inr rest) (inr other) low = versions_fall cells older linked.2 falls.1 a b rest other low

-- the first record that passes a test is the newest
pub first_newest : (test : Logged → Bool) (cells : ℕ → Logged) (chain : List ℕ) → IsLinked cells chain → (b : ℕ) → IsIn b chain → test (cells b) ≡ true
    → IsIn (first_such test cells chain) chain × (b ≤ first_such test cells chain)
first_newest test cells [] linked b has is = absurd has
first_newest test cells (a ∷ older) linked b has is = by_test (test (cells a)) refl (first_newest test cells older linked.2 b) has
  where
    by_test : (t : Bool) → test (cells a) ≡ t → (IsIn b older → test (cells b) ≡ true → IsIn (first_such test cells older) older × (b ≤ first_such test cells older))
        → (a ≡ b) ⊎ IsIn b older → IsIn (cond t a (first_such test cells older)) (a ∷ older) × (b ≤ cond t a (first_such test cells older))
    by_test true own rest (inl same) = (inl refl, omega (arith, same))
    by_test true own rest (inr later) = (inl refl, (let low = in_below cells a older linked.1 linked.2 b later in omega (arith, low)))
    by_test false other rest (inl same) = let off : true ≡ false = sym is ∙ ap (λ (n : ℕ). test (cells n)) (sym same) ∙ other in absurd (cc)
    by_test false other rest (inr later) = (let found = rest later is in (inr found.0, found.1))
