-- A list in which one item was set: the item there, the others, and a place that is one of the list's.
use Rattle.std.proofs.Common.{◌≡◌, ◌≢◌, ℕ, zero, suc, ◌<◌, refl, ap, arith, List, [], ◌∷◌, length}
use Rattle.std.specs.Prelude.{Some, slice_get, slice_set}

-- what stands at a place of a list whose item at another was set
pub data SetAt {X : Type 0} (xs : List X) (i j : ℕ) (y z : X) : Type 0 where
  Here : j ≡ i → z ≡ y → SetAt xs i j y z
  There : i ≢ j → slice_get xs j ≡ Some z → SetAt xs i j y z

pub set_at : {X : Type 0} (xs : List X) (i j : ℕ) (y z : X) → slice_get (slice_set xs i y) j ≡ Some z → SetAt xs i j y z
set_at [] i j y z got = cc
set_at (x ∷ xs) zero zero y z got = Here refl cc
set_at (x ∷ xs) zero (suc j) y z got = There (λ e. cc) got
set_at (x ∷ xs) (suc i) zero y z got = There (λ e. cc) got
set_at (x ∷ xs) (suc i) (suc j) y z got = elim (set_at xs i j y z got) [
  | Here same its ↦ Here (ap suc same) its
  | There other its ↦ There (λ e. other (omega (arith, e))) its
]

pub get_set : {X : Type 0} (xs : List X) (i : ℕ) (x y : X) → slice_get xs i ≡ Some x → slice_get (slice_set xs i y) i ≡ Some y
get_set [] i x y got = cc
get_set (z ∷ xs) zero x y got = refl
get_set (z ∷ xs) (suc i) x y got = get_set xs i x y got

pub get_other : {X : Type 0} (xs : List X) (i j : ℕ) (y : X) → i ≢ j → slice_get (slice_set xs i y) j ≡ slice_get xs j
get_other [] i j y other = refl
get_other (x ∷ xs) zero zero y other = absurd (other refl)
get_other (x ∷ xs) zero (suc j) y other = refl
get_other (x ∷ xs) (suc i) zero y other = refl
get_other (x ∷ xs) (suc i) (suc j) y other = get_other xs i j y (λ e. other (ap suc e))

pub set_twice : {X : Type 0} (xs : List X) (i : ℕ) (x y : X) → slice_set (slice_set xs i x) i y ≡ slice_set xs i y
set_twice [] i x y = refl
set_twice (z ∷ xs) zero x y = refl
set_twice (z ∷ xs) (suc i) x y = ap (λ ys. z ∷ ys) (set_twice xs i x y)

pub there_low : {X : Type 0} (xs : List X) (i : ℕ) (x : X) → slice_get xs i ≡ Some x → i < length xs
there_low [] i x got = cc
there_low (y ∷ xs) zero x got = omega arith
there_low (y ∷ xs) (suc i) x got = let low = there_low xs i x got in omega (arith, low)
