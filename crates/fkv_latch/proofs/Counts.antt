-- Places in a list, and sums over actors.
use Rattle.std.proofs.Common.{◌≡◌, ◌≢◌, ℕ, zero, suc, ◌+◌, ◌<◌, ◌≤◌, List, [], ◌∷◌, length, refl, arith, sym, Bool, true, false, eqb-true}
use Rattle.std.specs.Prelude.{Some, ◌==◌, if◌then◌else◌, slice_get, slice_set, sum_by}
use Rattle.std.proofs.lemmas.Bool.Decides.{nat_tests}
use Rattle.std.proofs.lemmas.List.Sums.{sum_by-cons}
use Rattle.fkv_words.specs.Fields.{bit_of}
use Rattle.fkv_latch.specs.LatchWorld.{times, without}

-- whether two places are one
pub data Meets (p q : ℕ) : Type 0 where
  Here : p ≡ q → bit_of (q == p) ≡ 1 → Meets p q
  There : p ≢ q → bit_of (q == p) ≡ 0 → Meets p q

pub meets : (p q : ℕ) → Meets p q
meets p q = cases (q == p) refl
  where
    cases : (b : Bool) → (q == p) ≡ b → Meets p q
    cases true e = let same : q ≡ p = eqb-true q p e in Here (sym same) (rw e refl)
    cases false e = There (grind (arith, nat_tests, e)) (rw e refl)

pub times_all : (p : ℕ) (xs : List ℕ) → times p xs ≤ length xs
times_all p [] = omega arith
times_all p (x ∷ xs) = elim (meets p x) [
  | Here same one ↦ omega (arith, one, times_all p xs)
  | There other none ↦ omega (arith, none, times_all p xs)
]

-- what is left without one of them
pub without_times : (p q : ℕ) (xs : List ℕ) → 0 < times q xs → times p (without q xs) + bit_of (q == p) ≡ times p xs
without_times p q [] some = absurd (omega (arith, some))
without_times p q (x ∷ xs) some = cases (x == q) refl (λ fewer. without_times p q xs fewer)
  where
    cases : (b : Bool) → (x == q) ≡ b → (0 < times q xs → times p (without q xs) + bit_of (q == p) ≡ times p xs)
        → times p (if b then xs else x ∷ without q xs) + bit_of (q == p) ≡ bit_of (x == p) + times p xs
    cases true e further = let same : x ≡ q = eqb-true x q e in rw same (omega arith)
    cases false e further = let rest = further (omega (arith, rw e at some)) in omega (arith, rest)

pub without_length : (q : ℕ) (xs : List ℕ) → 0 < times q xs → length (without q xs) + 1 ≡ length xs
without_length q [] some = absurd (omega (arith, some))
without_length q (x ∷ xs) some = cases (x == q) refl (λ fewer. without_length q xs fewer)
  where
    cases : (b : Bool) → (x == q) ≡ b → (0 < times q xs → length (without q xs) + 1 ≡ length xs)
        → length (if b then xs else x ∷ without q xs) + 1 ≡ length (x ∷ xs)
    cases true e further = omega arith
    cases false e further = let rest = further (omega (arith, rw e at some)) in omega (arith, rest)

-- a sum, parted into one term and the rest, before and after that one changes
pub record Parted {X : Type 0} (f : X → ℕ) (xs ys : List X) (a b : X) : Type 0 where
  pub rest : ℕ
  pub before : sum_by f xs ≡ f a + rest
  pub after : sum_by f ys ≡ f b + rest

pub parted : {X : Type 0} (f : X → ℕ) (xs : List X) (i : ℕ) (a b : X) → slice_get xs i ≡ Some a → Parted f xs (slice_set xs i b) a b
parted f [] i a b got = cc
parted f (x ∷ xs) zero a b got =
    let same : x ≡ a = cc in
    record { rest = sum_by f xs; before = rw same (sum_by-cons f a xs); after = sum_by-cons f b xs }
parted f (x ∷ xs) (suc i) a b got =
    let it = parted f xs i a b got in
    record {
      rest = f x + it.rest;
      before = omega (arith, sum_by-cons f x xs, it.before);
      after = omega (arith, sum_by-cons f x (slice_set xs i b), it.after);
    }
