-- Places in a list.
use Rattle.std.proofs.Common.{◌≡◌, ⊎_elim, ℕ, zero, suc, ◌+◌, ◌<◌, ◌≤◌, List, [], ◌∷◌, length, Some, refl, sym, ap, subst, ◌∙◌, arith, map, get_or}
use Rattle.std.specs.Prelude.{slice_get, slice_index, Contains}
use Rattle.std.specs.Option.{option_map}
use Rattle.std.specs.List.Sorted.{IsStrictlyIncreasing}
use Rattle.std.proofs.lemmas.Bool.{cases_lt}
use Rattle.std.proofs.lemmas.List.{length-map}
use Rattle.std.proofs.lemmas.List.Kept.{AllPairs-from_increasing}
use Rattle.std.proofs.lemmas.Option.{slice_get_cases, slice_get_within, slice_get-get_or, slice_get-map, slice_get_read, get_or_from_slice_get}
use Rattle.fkv_room.proofs.Shown.{in_rest, in_head, in_tail}

-- what stands at a place below the end
pub held : {X : Type 0} (xs : List X) (i : ℕ) → i < length xs → (x : X) × (slice_get xs i ≡ Some x)
held xs i below = ⊎_elim (λ is. (is.0, is.2)) (λ past. absurd (omega (arith, past.0, below))) (slice_get_cases xs i).1

-- what is read at a place stands there
pub stands_at : {X : Type 0} (xs : List X) (i : ℕ) (x : X) → i < length xs → x ≡ get_or xs i x → slice_get xs i ≡ Some x
stands_at xs i x below read = slice_get_read xs (length xs) i x refl below read

pub at_index : {X : Type 0} (xs : List X) (i : ℕ) (d : X) → i < length xs → slice_get xs i ≡ Some (get_or xs i d)
at_index xs i d below = slice_get-get_or xs i d below

-- one thing stands there
pub one_held : {X : Type 0} (xs : List X) (i : ℕ) (x y : X) → slice_get xs i ≡ Some x → slice_get xs i ≡ Some y → x ≡ y
one_held xs i x y first second = let same : Some x ≡ Some y = sym first ∙ second in cc

pub contained : {X : Type 0} (xs : List X) (x : X) → Contains xs x → (i : ℕ) × (slice_get xs i ≡ Some x)
contained [] x has = absurd (omega (arith, has.1))
contained (y ∷ ys) x has = ⊎_elim
    (λ same. (0, ap Some same))
    (λ rest. (let at = contained ys x rest in (suc at.0, at.1)))
    (in_rest y x ys has)

pub contains : {X : Type 0} (xs : List X) (i : ℕ) (x : X) → slice_get xs i ≡ Some x → Contains xs x
contains [] i x is = absurd (cc)
contains (y ∷ ys) zero x is = in_head y x ys (let same : y ≡ x = cc in same)
contains (y ∷ ys) (suc i) x is = in_tail y x ys (contains ys i x is)

-- where numbers ascend, two places that hold the same are one
pub one_place : {X : Type 0} (f : X → ℕ) (xs : List X) (i j : ℕ) (x y : X) → IsStrictlyIncreasing (map f xs) → slice_get xs i ≡ Some x → slice_get xs j ≡ Some y → f x ≡ f y → i ≡ j
one_place {X = X} f xs i j x y ascending first second same = ⊎_elim
    (λ low. absurd (rises i j x y first second low same))
    (λ up. ⊎_elim (λ low. absurd (rises j i y x second first low (sym same))) (λ down. omega (arith, up, down)) (cases_lt j i))
    (cases_lt i j)
  where
    at : (k : ℕ) (z : X) → slice_get xs k ≡ Some z → slice_get (map f xs) k ≡ Some (f z)
    at k z is = slice_get-map f xs k ∙ ap (option_map f) is

    rises : (k l : ℕ) (z w : X) → slice_get xs k ≡ Some z → slice_get xs l ≡ Some w → k < l → f z ≡ f w → ⊥
    rises k l z w here there low equal =
        let inside : l < length (map f xs) = omega (arith, length-map xs f, slice_get_within xs l w there) in
        let less = AllPairs-from_increasing (map f xs) ascending k l 0 low inside in
        omega (arith, less, get_or_from_slice_get (map f xs) k (f z) 0 (at k z here), get_or_from_slice_get (map f xs) l (f w) 0 (at l w there), equal)

-- ---- lists in ascending order
ascending_tail : {X : Type 0} (f : X → ℕ) (x : X) (xs : List X) → IsStrictlyIncreasing (map f (x ∷ xs)) → IsStrictlyIncreasing (map f xs)
ascending_tail f x xs ascending k low =
    let up : suc k + 1 ≡ suc (k + 1) = omega arith in
    let rises = ascending (suc k) (omega (arith, low)) in
    subst (λ (n : ℕ). slice_index (map f xs) k < slice_index (map f (x ∷ xs)) n) up rises

-- the first is the least
first_least : {X : Type 0} (f : X → ℕ) (x z : X) (xs : List X) → IsStrictlyIncreasing (map f (x ∷ xs)) → Contains (x ∷ xs) z → f x ≤ f z
first_least f x z xs ascending has = ⊎_elim
    (λ same. (let equal : f x ≡ f z = ap f same in omega (arith, equal)))
    (λ rest.
    let place = contained xs z rest in
    let there : slice_get (map f (x ∷ xs)) (suc place.0) ≡ Some (f z) = slice_get-map f (x ∷ xs) (suc place.0) ∙ ap (option_map f) place.1 in
    let inside : suc place.0 < length (map f (x ∷ xs)) = slice_get_within (map f (x ∷ xs)) (suc place.0) (f z) there in
    let less = AllPairs-from_increasing (map f (x ∷ xs)) ascending 0 (suc place.0) 0 (omega arith) inside in
    omega (arith, less, get_or_from_slice_get (map f (x ∷ xs)) (suc place.0) (f z) 0 there))
    (in_rest x z xs has)

-- what comes after the first isn't it
not_first : {X : Type 0} (f : X → ℕ) (x z : X) (xs : List X) → IsStrictlyIncreasing (map f (x ∷ xs)) → Contains xs z → f x ≡ f z → ⊥
not_first f x z xs ascending rest same =
    let place = contained xs z rest in
    let never : 0 ≡ suc place.0 = one_place f (x ∷ xs) 0 (suc place.0) x z ascending refl place.1 same in
    omega (arith, never)

none_in : {X : Type 0} (z : X) → Contains [] z → ⊥
none_in z has = omega (arith, has.1)

-- two such lists that have the same elements are one
pub same_ascending : {X : Type 0} (f : X → ℕ) (xs ys : List X) → IsStrictlyIncreasing (map f xs) → IsStrictlyIncreasing (map f ys) → ((z : X) → Contains xs z → Contains ys z) → ((z : X) → Contains ys z → Contains xs z) → xs ≡ ys
same_ascending f [] [] up over there back = refl
same_ascending f [] (y ∷ ys) up over there back = absurd (none_in y (back y (in_head y y ys refl)))
same_ascending f (x ∷ xs) [] up over there back = absurd (none_in x (there x (in_head x x xs refl)))
same_ascending f (x ∷ xs) (y ∷ ys) up over there back =
    let x_in : Contains (y ∷ ys) x = there x (in_head x x xs refl) in
    let low : f y ≤ f x = first_least f y x ys over x_in in
    let high : f x ≤ f y = first_least f x y xs up (back y (in_head y y ys refl)) in
    let keys : f y ≡ f x = omega (arith, low, high) in
    let first : x ≡ y = ⊎_elim (λ same. sym same) (λ rest. absurd (not_first f y x ys over rest keys)) (in_rest y x ys x_in) in
    let rest : xs ≡ ys = same_ascending f xs ys (ascending_tail f x xs up) (ascending_tail f y ys over)
    (λ z has. ⊎_elim (λ same. absurd (not_first f x z xs up has (sym keys ∙ ap f same))) (λ later. later) (in_rest y z ys (there z (in_tail x z xs has))))
    (λ z has. ⊎_elim (λ same. absurd (not_first f y z ys over has (keys ∙ ap f same))) (λ later. later) (in_rest x z xs (back z (in_tail y z ys has)))) in
    cc
