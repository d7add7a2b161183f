-- Lost ranges in any number of places.
use Rattle.std.proofs.Common.{◌≡◌, ℕ, ◌-◌, ◌*◌, ◌^◌, ◌<◌, ◌≤◌, List, [], ◌∷◌, ◌++◌, length, take, drop, replicate, Some, None, refl, sym, ap, ◌∙◌, arith}
use Rattle.std.proofs.lemmas.List.{take_at, drop_at, take-append-drop}
use Rattle.std.proofs.Math.Bridge.{le_prop}
use Rattle.fkv_words.specs.Fields.{Reads, SpellsApart}
use Rattle.fkv_words.proofs.Shown.{same_made, reads_made}
use Rattle.fkv_record.specs.declared.lost_ranges.LostRange.{LostRange}
use Rattle.fkv_record.specs.declared.lost_ranges.LostRanges.{LostRanges}
use Rattle.fkv_record.specs.Lost.{max_lost}
use Rattle.fkv_record.specs.Manifest.{range_numbers}
use Rattle.fkv_record.specs.Sections.{ranges_in}
use Rattle.fkv_record.proofs.Spelling.{AreWords}

range_same : (x y : LostRange) → x.to.0 ≡ y.to.0 → x.version.0 ≡ y.version.0 → x ≡ y
range_same x y t v =
    let parts : ◌≡◌ {A = ℕ × ℕ} (x.to.0, x.version.0) (y.to.0, y.version.0) = cc in
    same_made {A = ℕ × ℕ} {P = λ p. (p.0 < 2 ^ 64) × (p.1 < 2 ^ 64)}
    (λ p h. record { to = record { 0 = p.0 }; version = record { 0 = p.1 }; to_fits = h.0; version_fits = h.1 })
    (λ p. hlevel le_prop) (x.to.0, x.version.0) (y.to.0, y.version.0) (x.to_fits, x.version_fits) (y.to_fits, y.version_fits) parts

ranges_apart : (xs ys : List LostRange) → range_numbers xs ≡ range_numbers ys → xs ≡ ys
ranges_apart [] [] e = refl
ranges_apart [] (y ∷ ys) e = let never : ⊥ = cc in absurd never
ranges_apart (x ∷ xs) [] e = let never : ⊥ = cc in absurd never
ranges_apart (x ∷ xs) (y ∷ ys) e =
    let to : x.to.0 ≡ y.to.0 = cc in
    let version : x.version.0 ≡ y.version.0 = cc in
    let tails : range_numbers xs ≡ range_numbers ys = cc in
    let first = range_same x y to version in
    let others = ranges_apart xs ys tails in
    cc

lost_same : (x y : LostRanges) → x.ranges.items ≡ y.ranges.items → x ≡ y
lost_same x y e =
    same_made {A = List LostRange} {P = λ p. length p ≤ max_lost}
    (λ p h. record { ranges = record { items = p }; few_ranges = h })
    (λ p. hlevel le_prop) x.ranges.items y.ranges.items x.few_ranges y.few_ranges e

-- two numbers for each
pub length-range_numbers : (xs : List LostRange) → length (range_numbers xs) ≡ 2 * length xs
length-range_numbers [] = refl
length-range_numbers (x ∷ xs) = omega (arith, length-range_numbers xs)

pub range_words : (xs : List LostRange) → AreWords (range_numbers xs)
range_words [] = tt
range_words (x ∷ xs) = (x.to_fits, (x.version_fits, range_words xs))

-- the places that these ranges fill
pub record IsFilled (n : ℕ) (x : LostRanges) (many : ℕ) (places : List ℕ) : Type 0 where
  pub count : length x.ranges.items ≡ many
  pub used : take (2 * many) places ≡ range_numbers x.ranges.items
  pub unused : drop (2 * many) places ≡ replicate (n - 2 * many) 0

pub filled : (n : ℕ) (x : LostRanges) (count : ℕ) (places : List ℕ) → ranges_in n x ≡ count ∷ places → IsFilled n x count places
filled n x count places e =
    let many : length x.ranges.items ≡ count = cc in
    let is : places ≡ range_numbers x.ranges.items ++ replicate (n - length (range_numbers x.ranges.items)) 0 = cc in
    let here : length (range_numbers x.ranges.items) ≡ 2 * count = length-range_numbers x.ranges.items ∙ ap (λ (k : ℕ). 2 * k) many in
    record {
      count = many;
      used = rw is (take_at (range_numbers x.ranges.items) (replicate (n - length (range_numbers x.ranges.items)) 0) (2 * count) here);
      unused = rw is (drop_at (range_numbers x.ranges.items) (replicate (n - length (range_numbers x.ranges.items)) 0) (2 * count) here ∙ ap (λ (k : ℕ). replicate (n - k) 0) here);
    }

filling : (n : ℕ) (x : LostRanges) (count : ℕ) (places : List ℕ) → IsFilled n x count places → ranges_in n x ≡ count ∷ places
filling n x count places f =
    let many = f.count in
    let whole : range_numbers x.ranges.items ++ replicate (n - length (range_numbers x.ranges.items)) 0 ≡ places = rw (length-range_numbers x.ranges.items, many, ← f.used, ← f.unused) (take-append-drop (2 * count) places) in
    cc

pub ranges_in_apart : (n : ℕ) → SpellsApart (ranges_in n)
ranges_in_apart n x y e =
    let mine = filled n x _ _ e in
    let theirs = filled n y (length y.ranges.items) _ (λ i. ranges_in n y) in
    lost_same x y (ranges_apart x.ranges.items y.ranges.items (sym mine.used ∙ theirs.used))

pub lost_read_in : (n : ℕ) (x : LostRanges) (count : ℕ) (places : List ℕ) → IsFilled n x count places → Reads (ranges_in n) (count ∷ places) (Some x)
lost_read_in n x count places f = reads_made (ranges_in n) (ranges_in_apart n) x (count ∷ places) (filling n x count places f)

pub lost_none_in : (n count : ℕ) (places : List ℕ) → ((x : LostRanges) → IsFilled n x count places → ⊥) → Reads (ranges_in n) (count ∷ places) None
lost_none_in n count places none x =
    (λ s. let never : ⊥ = cc in absurd never, λ e. absurd (none x (filled n x count places e)))
