-- Counting items by a number that each has.
use Rattle.std.proofs.Common.{◌≡◌, ◌≢◌, ⊎_elim, ℕ, zero, suc, ◌+◌, ◌<◌, ◌≤◌, max, true, false, List, [], ◌∷◌, length, get_or, set, take, sym, ap, subst, ◌∙◌, arith, get_or-set_same, get_or-set_other, length-take}
use Rattle.std.specs.Prelude.{nat_eq}
use Rattle.std.specs.List.{fold}
use Rattle.std.proofs.Math.ListN.{length-set}
use Rattle.std.proofs.lemmas.Bool.{cases_eq}
use Rattle.std.proofs.lemmas.Bool.Decides.{nat_tests}
use Rattle.std.proofs.lemmas.List.{get_or_read, take_all}
use Rattle.std.proofs.lemmas.List.Sums.{count_by_more_no, count_by_more_yes, count_by-le-length}
use Rattle.fkv_looking.specs.Buckets.{IsTally, greatest}

same_true : (a b : ℕ) → a ≡ b → nat_eq a b ≡ true
same_true a b same = grind (arith, nat_tests)

off_false : (a b : ℕ) → (a ≢ b) → nat_eq a b ≡ false
off_false a b off = grind (arith, nat_tests, off)

module _ {X : Type 0} (number_of : X → ℕ) (limit : ℕ) (items : List X) where
  -- no item counted yet
  pub tally_none : (counts : List ℕ) → length counts ≡ limit → ((n : ℕ) → n < limit → get_or counts n 0 ≡ 0) → IsTally number_of limit (take 0 items) counts
  tally_none counts many zeros = record { many = many; each = zeros }

  -- all are
  pub tally_all : (i : ℕ) (counts : List ℕ) → length items ≤ i → IsTally number_of limit (take i items) counts → IsTally number_of limit items counts
  tally_all i counts through so_far = subst (λ xs. IsTally number_of limit xs counts) (take_all i items through) so_far

  module _ (i : ℕ) (x : X) (counts : List ℕ) (was : ℕ) (here : i < length items) (next : x ≡ get_or items i x) (low : number_of x < limit)
      (read : was ≡ get_or counts (number_of x) was) (so_far : IsTally number_of limit (take i items) counts) where
    inside : number_of x < length counts
    inside = let many = so_far.many in omega (arith, low, many)

    is : was ≡ get_or counts (number_of x) 0
    is = get_or_read counts (number_of x) was inside read 0

    -- what is counted so far of the next item's number is no more than the items so far
    pub tally_few : was ≤ i
    tally_few =
        let before = so_far.each (number_of x) low in
        let few = count_by-le-length (λ y. nat_eq (number_of y) (number_of x)) (take i items) in
        let short = length-take i items in omega (arith, is, before, few, short)

    -- one item more
    pub tally_more : IsTally number_of limit (take (i + 1) items) (set counts (number_of x) (was + 1))
    tally_more = record {
      many = length-set counts (number_of x) (was + 1) ∙ so_far.many;
      each = λ n below. ⊎_elim
          (λ same. let test = subst (λ y. nat_eq (number_of y) n ≡ true) next (same_true (number_of x) n same) in
          let more = count_by_more_yes (λ y. nat_eq (number_of y) n) items i x here test in
          let up = subst (λ (m : ℕ). get_or (set counts (number_of x) (was + 1)) m 0 ≡ get_or counts m 0 + 1) same (get_or-set_same counts (number_of x) (was + 1) 0 inside ∙ ap (λ m. m + 1) is) in
          let before = so_far.each n below in omega (arith, more, up, before))
          (λ off. let test = subst (λ y. nat_eq (number_of y) n ≡ false) next (off_false (number_of x) n off) in
          let none = count_by_more_no (λ y. nat_eq (number_of y) n) items i x here test in
          let still = get_or-set_other counts (number_of x) n (was + 1) 0 (λ at. off (sym at)) in
          let before = so_far.each n below in omega (arith, none, still, before))
          (cases_eq (number_of x) n);
    }

-- the greatest of numbers that begin behind one is no less than it
greatest_from : (a : ℕ) (xs : List ℕ) → a ≤ fold max a xs
greatest_from a [] = omega arith
greatest_from a (x ∷ xs) = let rest = greatest_from (max a x) xs in omega (arith, rest)

up_to_greatest : (a : ℕ) (xs : List ℕ) (i : ℕ) → i < length xs → get_or xs i 0 ≤ fold max a xs
up_to_greatest a [] i low = absurd (omega (arith, low))
up_to_greatest a (x ∷ xs) zero low = let rest = greatest_from (max a x) xs in omega (arith, rest)
up_to_greatest a (x ∷ xs) (suc i) low = up_to_greatest (max a x) xs i (omega (arith, low))

-- no number is above the greatest
pub none_above : (xs : List ℕ) (i : ℕ) → i < length xs → get_or xs i 0 ≤ greatest xs
none_above xs i low = up_to_greatest 0 xs i low

greatest_below : (a : ℕ) (xs : List ℕ) (most : ℕ) → a ≤ most → ((i : ℕ) → i < length xs → get_or xs i 0 ≤ most) → fold max a xs ≤ most
greatest_below a [] most low each = low
greatest_below a (x ∷ xs) most low each = greatest_below (max a x) xs most (let first = each 0 (omega arith) in omega (arith, low, first)) (λ i inside. each (suc i) (omega (arith, inside)))

-- the greatest count is no more than there are items
pub greatest_few : {X : Type 0} (number_of : X → ℕ) (limit : ℕ) (items : List X) (counts : List ℕ) → IsTally number_of limit items counts → greatest counts ≤ length items
greatest_few number_of limit items counts tally =
    greatest_below 0 counts (length items) (omega arith) (λ i low. let is = tally.each i (omega (arith, low, tally.many)) in
    let few = count_by-le-length (λ x. nat_eq (number_of x) i) items in omega (arith, is, few))
