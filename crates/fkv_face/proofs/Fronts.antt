-- A room whose front is filled item by item.
use Rattle.std.proofs.Common.{◌≡◌, ℕ, zero, suc, ◌+◌, ◌<◌, List, [], ◌∷◌, ◌++◌, length, map, take, drop, slice_index_or, slice_set, refl, sym, ap, ◌∙◌, add-one, arith}

filled : {X : Type 0} {Y : Type 0} (f : Y → X) (d : Y) (xs : List Y) (ys : List X) (i : ℕ) → i < length xs → i < length ys
    → slice_set (map f (take i xs) ++ drop i ys) i (f (slice_index_or xs i d)) ≡ map f (take (suc i) xs) ++ drop (suc i) ys
filled f d [] ys i below room = absurd (omega arith)
filled f d (x ∷ xs) [] i below room = absurd (omega arith)
filled f d (x ∷ xs) (y ∷ ys) zero below room = refl
filled f d (x ∷ xs) (y ∷ ys) (suc i) below room = ap (λ rest. f x ∷ rest) (filled f d xs ys i (omega arith) (omega arith))

-- one item more
pub one_more : {X : Type 0} {Y : Type 0} (f : Y → X) (d : Y) (xs : List Y) (ys room : List X) (i : ℕ) (v : X) → v ≡ f (slice_index_or xs i d) → i < length xs → i < length ys → room ≡ map f (take i xs) ++ drop i ys
    → slice_set room i v ≡ map f (take (i + 1) xs) ++ drop (i + 1) ys
one_more f d xs ys room i v is below has so =
    ap (λ r. slice_set r i v) so ∙ ap (slice_set (map f (take i xs) ++ drop i ys) i) is ∙ filled f d xs ys i below has ∙ ap (λ n. map f (take n xs) ++ drop n ys) (sym (add-one i))
