-- What was taken from a list's end.
use Rattle.std.proofs.Common.{◌≡◌, ℕ, zero, suc, sym, ap, ◌∙◌, arith, refl, List, [], ◌∷◌, ◌++◌, length, length-append}
use Rattle.std.specs.Prelude.{Option, Some, option_to_list, slice_get}

-- what stands last in a list, and before it
pub last_there : {X : Type 0} (xs : List X) (x : X) → slice_get (xs ++ x ∷ []) (length xs) ≡ Some x
last_there [] x = refl
last_there (y ∷ ys) x = last_there ys x

pub before_there : {X : Type 0} (xs ys : List X) (i : ℕ) (x : X) → slice_get xs i ≡ Some x → slice_get (xs ++ ys) i ≡ Some x
before_there [] ys i x got = cc
before_there (y ∷ more) ys zero x got = got
before_there (y ∷ more) ys (suc i) x got = before_there more ys i x got

-- the two last of a list, and that they stand at different places
pub two_last : {X : Type 0} (all rest less : List X) (x y : X) → all ≡ rest ++ x ∷ [] → rest ≡ less ++ y ∷ [] → (slice_get all (length rest) ≡ Some x) × (slice_get all (length less) ≡ Some y) × ¬ (length less ≡ length rest)
two_last {X = X} all rest less x y first second = (
  ap (λ (l : List X). slice_get l (length rest)) first ∙ last_there rest x,
  ap (λ (l : List X). slice_get l (length less)) first
      ∙ (before_there rest (x ∷ []) (length less) y (ap (λ (l : List X). slice_get l (length less)) second ∙ last_there less y)),
  λ same. absurd (omega (arith, same, ap length second, length-append less (y ∷ []))),
)

-- what was taken from a list's end was last
pub popped : {X : Type 0} (old new : List X) (r : Option X) (x : X) → old ≡ new ++ option_to_list r → r ≡ Some x → old ≡ new ++ x ∷ []
popped old new r x left is = left ∙ ap (λ o. new ++ option_to_list o) is
