-- Numbers of which no two are the same, in any order.
use Rattle.std.proofs.Common.{◌≡◌, ◌≢◌, ◌⊎◌, inl, inr, ℕ, ◌+◌, ◌<◌, List, length, map, get_or, swap, refl, sym, ap, ◌∙◌, ⊎_elim, arith}
use Rattle.std.specs.List.Sorted.{IsNonDecreasingBy, IsPermutation, IsStrictlyIncreasing}
use Rattle.std.proofs.lemmas.Bool.{cases_eq, cases_lt}
use Rattle.std.proofs.lemmas.List.{get_or-map, length-map}
use Rattle.std.proofs.lemmas.List.Edits.{Swapped, length-swap, swapped_from_swap}
use Rattle.std.proofs.lemmas.List.Kept.{AllPairs-from_increasing}
use Rattle.std.proofs.lemmas.List.Sorted.{IsPermutation-keeps}

-- two places that hold one number are one place
abbrev pub AreApart : List ℕ → Type 0
AreApart ns = (i j : ℕ) → i < length ns → j < length ns → get_or ns i 0 ≡ get_or ns j 0 → i ≡ j

-- where a swap of a and b took the number at m from
abbrev From : ℕ → ℕ → ℕ → ℕ → Type 0
From a b m k = ((m ≡ a) × (k ≡ b)) ⊎ (((m ≡ b) × (k ≡ a)) ⊎ ((m ≢ a) × (m ≢ b) × (k ≡ m)))

origin : (f g : ℕ → ℕ) (a b m : ℕ) → Swapped f g a b → (m ≡ a) ⊎ (m ≢ a) → (m ≡ b) ⊎ (m ≢ b) → (k : ℕ) × From a b m k × (g m ≡ f k)
origin f g a b m s (inl e) y = (b, inl (e, refl), ap g e ∙ s.0)
origin f g a b m s (inr n) (inl e) = (a, inr (inl (e, refl)), ap g e ∙ s.1)
origin f g a b m s (inr n) (inr o) = (m, inr (inr (n, o, refl)), s.2 m n o)

apart_swapped : (ns : List ℕ) (a b : ℕ) → a < length ns → b < length ns → AreApart ns → AreApart (swap ns a b)
apart_swapped ns a b p q apart i j here there e =
    let len = length-swap ns a b in
    let s = swapped_from_swap ns (swap ns a b) a b 0 p q refl in
    let x = origin _ _ a b i s (cases_eq i a) (cases_eq i b) in
    let y = origin _ _ a b j s (cases_eq j a) (cases_eq j b) in
    let same = apart x.0 y.0 (omega (arith, x.1)) (omega (arith, y.1)) (sym x.2 ∙ e ∙ y.2) in
    omega (arith, x.1, y.1)

-- in another order
pub apart_moved : (old new : List ℕ) → IsPermutation old new → AreApart old → AreApart new
apart_moved old new moved apart = IsPermutation-keeps old AreApart apart apart_swapped new moved

-- numbers that ascend
pub apart_ascending : (ns : List ℕ) → IsStrictlyIncreasing ns → AreApart ns
apart_ascending ns ascending i j here there e = ⊎_elim
    (λ low. (let less = AllPairs-from_increasing ns ascending i j 0 low there in absurd (omega (arith, less, e))))
    (λ up. ⊎_elim (λ low. (let less = AllPairs-from_increasing ns ascending j i 0 low here in absurd (omega (arith, less, e)))) (λ down. omega (arith, up, down)) (cases_lt j i))
    (cases_lt i j)

-- what a function makes of them that can be undone on each
pub apart_mapped : (f back : ℕ → ℕ) (ns : List ℕ) → ((i : ℕ) → i < length ns → back (f (get_or ns i 0)) ≡ get_or ns i 0) → AreApart ns → AreApart (map f ns)
apart_mapped f back ns undone apart i j here there e =
    let len = length-map ns f in
    let i_in : i < length ns = omega (arith, len, here) in
    let j_in : j < length ns = omega (arith, len, there) in
    let same : f (get_or ns i 0) ≡ f (get_or ns j 0) = sym (get_or-map f ns i 0 0 i_in) ∙ e ∙ get_or-map f ns j 0 0 j_in in
    apart i j i_in j_in (sym (undone i i_in) ∙ ap back same ∙ undone j j_in)

-- of things in order by a number, where no two have the same
pub ascending_apart : {X : Type 0} (f : X → ℕ) (d : X) (xs : List X) → IsNonDecreasingBy f xs → AreApart (map f xs) → IsStrictlyIncreasing (map f xs)
ascending_apart f d xs up apart k inside =
    let len = length-map xs f in
    let next : k + 1 < length xs = omega (arith, len, inside) in
    let here : k < length xs = omega (arith, next) in
    let at = get_or-map f xs k d 0 here in
    let after = get_or-map f xs (k + 1) d 0 next in
    let rises = up k (k + 1) d (omega arith) next in
    let differ : get_or (map f xs) k 0 ≢ get_or (map f xs) (k + 1) 0 = λ e. let same : k ≡ k + 1 = apart k (k + 1) (omega (arith, inside)) inside e in omega (arith, same) in
    omega (arith, at, after, rises, differ)
