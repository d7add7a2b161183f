-- The words of a bucket's entries by tag: each list of words can be put in order.
use Rattle.std.proofs.Common.{inl, inr, ℕ, zero, suc, ◌≤◌, List, [], ◌∷◌, arith}
use Rattle.std.specs.Prelude.{All, slice_index_or}
use Rattle.std.specs.List.Sorted.{IsNonDecreasing, IsPermutation}
use Rattle.std.proofs.lemmas.Bool.{cases_lt}
use Rattle.std.proofs.lemmas.List.Sorted.{All-permutation, IsPermutation-cons, IsPermutation-insert, IsPermutation-refl, IsPermutation-trans}
use Rattle.fkv_filling.specs.Filled.{AreByTag}

-- a least number goes in front
in_front : (x : ℕ) (ys : List ℕ) → All (λ y. x ≤ y) ys → IsNonDecreasing ys → IsNonDecreasing (x ∷ ys)
in_front x ys least rising zero zero d up below = omega arith
in_front x ys least rising zero (suc j) d up below = least j d (omega (arith, below))
in_front x ys least rising (suc i) zero d up below = absurd (omega (arith, up))
in_front x ys least rising (suc i) (suc j) d up below = rising i j d (omega (arith, up)) (omega (arith, below))

rest_rises : (y : ℕ) (ys : List ℕ) → IsNonDecreasing (y ∷ ys) → IsNonDecreasing ys
rest_rises y ys rising i j d up below = rising (suc i) (suc j) d (omega (arith, up)) (omega (arith, below))

first_least : (x y : ℕ) (ys : List ℕ) → x ≤ y → IsNonDecreasing (y ∷ ys) → All (λ z. x ≤ z) (y ∷ ys)
first_least x y ys least rising k d below =
    let from : y ≤ slice_index_or (y ∷ ys) k d = rising zero k d (omega arith) below in
    omega (arith, least, from)

rest_least : (y x : ℕ) (ys : List ℕ) → y ≤ x → IsNonDecreasing (y ∷ ys) → All (λ z. y ≤ z) (x ∷ ys)
rest_least y x ys least rising zero d below = least
rest_least y x ys least rising (suc k) d below = rising zero (suc k) d (omega arith) (omega (arith, below))

-- two that change places
flipped : (x y : ℕ) (ys : List ℕ) → IsPermutation (x ∷ y ∷ ys) (y ∷ x ∷ ys)
flipped x y ys = IsPermutation-insert (y ∷ ys) 1 x

-- a number goes to its place
pub record IsPut (x : ℕ) (ys : List ℕ) : Type 0 where
  pub list : List ℕ
  pub by_tag : AreByTag (x ∷ ys) list

behind : (x y : ℕ) (ys : List ℕ) → y ≤ x → IsNonDecreasing (y ∷ ys) → IsPut x ys → IsPut x (y ∷ ys)
behind x y ys least rising its = record {
  list = y ∷ its.list;
  by_tag = record {
    same = IsPermutation-trans (x ∷ y ∷ ys) (y ∷ x ∷ ys) (y ∷ its.list) (flipped x y ys) (IsPermutation-cons y (x ∷ ys) its.list its.by_tag.same);
    ascending = in_front y its.list (All-permutation (λ z. y ≤ z) (x ∷ ys) its.list its.by_tag.same (rest_least y x ys least rising)) its.by_tag.ascending;
  };
}

before : (x y : ℕ) (ys : List ℕ) → x ≤ y → IsNonDecreasing (y ∷ ys) → IsPut x (y ∷ ys)
before x y ys least rising = record {
  list = x ∷ y ∷ ys;
  by_tag = record { same = IsPermutation-refl (x ∷ y ∷ ys); ascending = in_front x (y ∷ ys) (first_least x y ys least rising) rising };
}

put : (x : ℕ) (ys : List ℕ) → IsNonDecreasing ys → IsPut x ys
put x [] rising = record { list = x ∷ []; by_tag = record { same = IsPermutation-refl (x ∷ []); ascending = in_front x [] (λ k d below. absurd (omega (arith, below))) rising } }
put x (y ∷ ys) rising = elim (cases_lt y x) [
  | inl below ↦ behind x y ys (omega (arith, below)) rising (put x ys (rest_rises y ys rising))
  | inr above ↦ before x y ys (omega (arith, above)) rising
]

-- so each list of words is put in order
pub record IsSorted (words : List ℕ) : Type 0 where
  pub list : List ℕ
  pub by_tag : AreByTag words list

pub sorted : (words : List ℕ) → IsSorted words
sorted [] = record { list = []; by_tag = record { same = IsPermutation-refl []; ascending = λ i j d up below. absurd (omega (arith, below)) } }
sorted (x ∷ words) = with_first x words (sorted words)
  where
    with_first : (x : ℕ) (words : List ℕ) → IsSorted words → IsSorted (x ∷ words)
    with_first x words its =
        let all : IsPut x its.list = put x its.list its.by_tag.ascending in
        record {
          list = all.list;
          by_tag = record {
            same = IsPermutation-trans (x ∷ words) (x ∷ its.list) all.list (IsPermutation-cons x words its.list its.by_tag.same) all.by_tag.same;
            ascending = all.by_tag.ascending;
          };
        }
