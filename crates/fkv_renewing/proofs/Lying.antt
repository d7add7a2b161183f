-- Pairs as they come to lie.
use Rattle.std.proofs.Common.{◌≡◌, ◌≢◌, ℕ, zero, suc, ◌+◌, ◌<◌, List, [], ◌∷◌, ◌++◌, length, map, take, drop, get_or, slice_set, refl, sym, ap, subst, ◌∙◌, add-one, arith, below_more}
use Rattle.std.specs.Prelude.{All}
use Rattle.std.specs.List.Sorted.{IsNonDecreasingBy, IsPermutation}
use Rattle.std.proofs.lemmas.List.{get_or_default}
use Rattle.std.proofs.lemmas.List.Elements.{All-map}
use Rattle.std.proofs.lemmas.List.Folds.{map_fixed}
use Rattle.std.proofs.lemmas.List.Sorted.{All-permutation, Contains-permutation, IsPermutation-map, IsPermutation-refl, IsPermutation-sym}
use Rattle.std.proofs.lemmas.Simd.{map-map}
use Rattle.fkv_base.specs.declared.numbers.Key.{Key}
use Rattle.fkv_base.specs.declared.numbers.Value.{Value}
use Rattle.fkv_pairs.specs.Pairs.{absent_word}
use Rattle.fkv_spread.specs.Spreading.{key_told, lies_under}
use Rattle.fkv_spread.specs.declared.keys.Keys.{Keys}
use Rattle.fkv_spread.specs.declared.keys.Keys.TheVariants.{AsTheyAre}
use Rattle.fkv_renewing.specs.Laid.{AreLaid, laid_pair, told_pair}
use Rattle.fkv_renewing.specs.Renewed.{AreSomePairs}
use Rattle.fkv_renewing.proofs.Apart.{AreApart, apart_ascending, apart_mapped, apart_moved, ascending_apart}
use Rattle.fkv_renewing.proofs.Listed.{same_ascending}

-- ---- a list whose front is laid item by item

-- what comes next is as it was
pub read_next : {X : Type 0} (f : X → X) (d : X) (xs : List X) (i : ℕ) → i < length xs → get_or (map f (take i xs) ++ drop i xs) i d ≡ get_or xs i d
read_next f d [] i below = absurd (omega arith)
read_next f d (x ∷ xs) zero below = refl
read_next f d (x ∷ xs) (suc i) below = read_next f d xs i (omega arith)

next_set : {X : Type 0} (f : X → X) (d : X) (xs : List X) (i : ℕ) → i < length xs → slice_set (map f (take i xs) ++ drop i xs) i (f (get_or xs i d)) ≡ map f (take (suc i) xs) ++ drop (suc i) xs
next_set f d [] i below = absurd (omega arith)
next_set f d (x ∷ xs) zero below = refl
next_set f d (x ∷ xs) (suc i) below = ap (λ rest. f x ∷ rest) (next_set f d xs i (omega arith))

-- one item more
pub one_more : {X : Type 0} (f : X → X) (d : X) (xs now : List X) (i : ℕ) (v : X) → v ≡ f (get_or now i d) → i < length xs → now ≡ map f (take i xs) ++ drop i xs → slice_set now i v ≡ map f (take (i + 1) xs) ++ drop (i + 1) xs
one_more f d xs now i v is below has =
    let read : v ≡ f (get_or xs i d) = is ∙ ap (λ l. f (get_or l i d)) has ∙ ap f (read_next f d xs i below) in
    ap (λ l. slice_set l i v) has ∙ ap (slice_set (map f (take i xs) ++ drop i xs) i) read ∙ next_set f d xs i below ∙ ap (λ n. map f (take n xs) ++ drop n xs) (sym (add-one i))

-- what holds of the front holds of one item more
pub one_kept : {X : Type 0} (P : X → Type 0) (f : X → X) (d : X) (xs now : List X) (i : ℕ) → P (get_or now i d) → i < length xs → now ≡ map f (take i xs) ++ drop i xs → ((k : ℕ) (e : X) → k < i → P (get_or xs k e))
    → (k : ℕ) (e : X) → k < i + 1 → P (get_or xs k e)
one_kept P f d xs now i here below has before =
    let all = below_more (λ k. (e : _) → P (get_or xs k e)) i (λ k low e. before k e low) (λ e. subst P (ap (λ l. get_or l i d) has ∙ read_next f d xs i below ∙ get_or_default xs i d e below) here) in
    λ k e low. all k low e

-- what is put in the place of a whole list is the whole
pub whole : {X : Type 0} (n : ℕ) (xs rest : List X) → length xs ≡ n → take n (xs ++ rest) ≡ xs
whole n xs rest many = ap (λ k. take k (xs ++ rest)) (sym many) ∙ front xs rest
  where
    front : {X : Type 0} (xs rest : List X) → take (length xs) (xs ++ rest) ≡ xs
    front [] rest = refl
    front (x ∷ xs) rest = ap (λ l. x ∷ l) (front xs rest)

-- ---- all pairs

abbrev number : Key × Value → ℕ
number pair = pair.0.0

none : Key × Value
none = (record { 0 = 0 }, record { 0 = 0 })

-- the key is told by the number that it lies under
abbrev pub IsToldBack : Keys → Key × Value → Type 0
IsToldBack keys pair = key_told keys (lies_under keys pair.0.0) ≡ pair.0.0

abbrev under : Key × Value → ℕ → Key × Value
under pair n = (record { 0 = n }, pair.1)

-- so the pair is
same_pair : (keys : Keys) (pair : Key × Value) → IsToldBack keys pair → told_pair keys (laid_pair keys pair) ≡ pair
same_pair keys pair back = ap (under pair) back

module _ (keys : Keys) (pairs mid laid : List (Key × Value)) (back : All (IsToldBack keys) pairs) (each : mid ≡ map (laid_pair keys) pairs) (ordered : IsPermutation mid laid) (up : IsNonDecreasingBy (λ pair. pair.0.0) laid) where
  moved : IsPermutation (map (laid_pair keys) pairs) laid
  moved = subst (λ (xs : List (Key × Value)). IsPermutation xs laid) each ordered

  -- each pair is told back
  all_back : map (told_pair keys) (map (laid_pair keys) pairs) ≡ pairs
  all_back = map-map (told_pair keys) (laid_pair keys) pairs ∙ map_fixed (λ pair. told_pair keys (laid_pair keys pair)) pairs (λ i d inside. same_pair keys (get_or pairs i d) (back i d inside))

  told : IsPermutation (map (told_pair keys) laid) pairs
  told =
      let turned = IsPermutation-map (told_pair keys) _ laid moved in
      IsPermutation-sym pairs (map (told_pair keys) laid) (subst (λ (xs : List (Key × Value)). IsPermutation xs (map (told_pair keys) laid)) all_back turned)

  -- their numbers, before and after
  numbers : map number (map (laid_pair keys) pairs) ≡ map (lies_under keys) (map number pairs)
  numbers = map-map number (laid_pair keys) pairs ∙ sym (map-map (lies_under keys) number pairs)

  undone : (i : ℕ) → i < length (map number pairs) → key_told keys (lies_under keys (get_or (map number pairs) i 0)) ≡ get_or (map number pairs) i 0
  undone i inside = All-map (λ (n : ℕ). key_told keys (lies_under keys n) ≡ n) number pairs back i 0 inside

  pub laid_so : AreLaid keys pairs laid
  laid_so = record {
    moved = moved;
    told = told;
    some = λ were.
        let apart : AreApart (map (lies_under keys) (map number pairs)) = apart_mapped (lies_under keys) (key_told keys) (map number pairs) undone (apart_ascending (map number pairs) were.ascending) in
        let laid_apart = apart_moved _ (map number laid) (IsPermutation-map number _ laid moved) (subst AreApart (sym numbers) apart) in
        record {
          ascending = ascending_apart number none laid up laid_apart;
          present = All-permutation (λ pair. pair.1.0 ≢ absent_word) _ laid moved (All-map (λ pair. pair.1.0 ≢ absent_word) (laid_pair keys) pairs were.present);
        };
  }

-- ---- keys that lie as they are

fixed : (pairs : List (Key × Value)) → map (laid_pair AsTheyAre) pairs ≡ pairs
fixed pairs = map_fixed (laid_pair AsTheyAre) pairs (λ k d inside. refl)

told_fixed : (pairs : List (Key × Value)) → map (told_pair AsTheyAre) pairs ≡ pairs
told_fixed pairs = map_fixed (told_pair AsTheyAre) pairs (λ k d inside. refl)

pub as_they_were : (pairs : List (Key × Value)) → AreLaid AsTheyAre pairs pairs
as_they_were pairs = record {
  moved = subst (λ (xs : List (Key × Value)). IsPermutation xs pairs) (sym (fixed pairs)) (IsPermutation-refl pairs);
  told = subst (λ (xs : List (Key × Value)). IsPermutation xs pairs) (sym (told_fixed pairs)) (IsPermutation-refl pairs);
  some = λ were. were;
}

pub one_order : (pairs laid : List (Key × Value)) → AreSomePairs pairs → AreLaid AsTheyAre pairs laid → laid ≡ pairs
one_order pairs laid were are =
    let moved = subst (λ (xs : List (Key × Value)). IsPermutation xs laid) (fixed pairs) are.moved in
    same_ascending number laid pairs (are.some were).ascending were.ascending (λ pair has. Contains-permutation laid pairs pair (IsPermutation-sym pairs laid moved) has) (λ pair has. Contains-permutation pairs laid pair moved has)
