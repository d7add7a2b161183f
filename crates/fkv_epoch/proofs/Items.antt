-- Reading a list after one write.
use Rattle.std.proofs.Common.{◌≡◌, ◌≢◌, ℕ, zero, suc, ◌<◌, ◌⊎◌, List, [], ◌∷◌, length, refl, arith, ap, inl, inr}
use Rattle.std.specs.Prelude.{◌==◌, if◌then◌else◌, Option, Some, None, slice_get, slice_set}
use Rattle.std.proofs.lemmas.Bool.Decides.{nat_tests}
use Rattle.std.proofs.lemmas.List.{get_or-set_same, get_or-set_other}
use Rattle.std.proofs.lemmas.Grind.{common_steps}
use Rattle.std.proofs.lemmas.Option.{gets}
use Rattle.fkv_plane.specs.Asked.{word_at}

pub word_written : (words : List ℕ) (place word : ℕ) → place < length words → word_at (slice_set words place word) place ≡ word
word_written words place word h = get_or-set_same words place word 0 h

pub word_spared : (words : List ℕ) (place word other : ℕ) → other ≢ place → word_at (slice_set words place word) other ≡ word_at words other
word_spared words place word other h = get_or-set_other words place other word 0 h

pub item_written : {X : Type 0} (xs : List X) (i : ℕ) (x y : X) → slice_get xs i ≡ Some x → slice_get (slice_set xs i y) i ≡ Some y
item_written [] i x y h = cc
item_written (z ∷ zs) zero x y h = refl
item_written (z ∷ zs) (suc i) x y h = item_written zs i x y h

pub item_within : {X : Type 0} (xs : List X) (i : ℕ) (x : X) → slice_get xs i ≡ Some x → i < length xs
item_within xs i x h = grind (arith, common_steps, gets)

pub item_spared : {X : Type 0} (xs : List X) (i j : ℕ) (y : X) → j ≢ i → slice_get (slice_set xs i y) j ≡ slice_get xs j
item_spared [] i j y h = refl
item_spared (z ∷ zs) zero zero y h = absurd (h refl)
item_spared (z ∷ zs) zero (suc j) y h = refl
item_spared (z ∷ zs) (suc i) zero y h = refl
item_spared (z ∷ zs) (suc i) (suc j) y h = item_spared zs i j y (λ e. h (ap suc e))

suc_same : (i j : ℕ) → suc i ≡ suc j → i ≡ j
suc_same i j e = cc

-- two numbers are the same or not
pub same_or : (i j : ℕ) → (i ≡ j) ⊎ (i ≢ j)
same_or zero zero = inl refl
same_or zero (suc j) = inr (λ e. cc)
same_or (suc i) zero = inr (λ e. cc)
same_or (suc i) (suc j) = elim (same_or i j) [ inl e ↦ inl (ap suc e) | inr n ↦ inr (λ e. n (suc_same i j e)) ]

-- a function with another value at one number
abbrev pub set_at : {X : Type 0} → (ℕ → X) → ℕ → X → ℕ → X
set_at f i x j = if j == i then x else f j

pub set_here : {X : Type 0} (f : ℕ → X) (i : ℕ) (x : X) (j : ℕ) → j ≡ i → set_at f i x j ≡ x
set_here f i x j e = grind (arith, nat_tests)

pub set_there : {X : Type 0} (f : ℕ → X) (i : ℕ) (x : X) (j : ℕ) → j ≢ i → set_at f i x j ≡ f j
set_there f i x j n = grind (arith, nat_tests)

pub some_same : {X : Type 0} (x y : X) → Some x ≡ Some y → x ≡ y
some_same x y e = cc

pub none_some : {X Y : Type 0} (x : X) → ◌≡◌ {A = Option X} None (Some x) → Y
none_some x e = cc

-- what was just written at an index that there is
pub within_item : {X : Type 0} (actions : List X) (i : ℕ) (x : X) → i < length actions → slice_get (slice_set actions i x) i ≡ Some x
within_item [] i x h = absurd (omega arith)
within_item (y ∷ ys) zero x h = refl
within_item (y ∷ ys) (suc i) x h = within_item ys i x (grind (arith, h))
