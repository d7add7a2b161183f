-- The bytes that spell a slot are those of an open one that names its commit.
use Rattle.std.proofs.Common.{◌≡◌, ℕ, ◌-◌, ◌*◌, ◌<◌, ◌≤◌, ◌^◌, List, [], ◌∷◌, ◌++◌, length, replicate, take, drop, refl, ◌∙◌, ap, arith}
use Rattle.std.specs.Int.{w64, to_le_bytes, from_le_bytes}
use Rattle.std.proofs.lemmas.List.{take_at, drop_at, get_or_append_left, length-append, length-map, length-replicate}
use Rattle.std.proofs.lemmas.List.Concat.{flat_map-cons}
use Rattle.std.proofs.lemmas.Nat.{from_le_bytes-to_le_bytes_8}
use Rattle.fkv_base.specs.declared.numbers.Serial.{Serial}
use Rattle.fkv_record.specs.Layout.{first_layout, slot_bytes, point_numbers}
use Rattle.fkv_record.specs.Manifest.{SlotSaid, begin_said, format_said, front_said, lost_said, range_numbers, newest_numbers, newest_bytes}
use Rattle.fkv_record.specs.Numbers.{spelled, padded}
use Rattle.fkv_record.specs.Places.{number_at}
use Rattle.fkv_record.specs.declared.lost_ranges.LostRange.{LostRange}
use Rattle.fkv_record.specs.declared.slots.Slot.{Slot}
use Rattle.fkv_record.proofs.Shown.{slot_numbered, length-spelled}
use Rattle.fkv_disk.specs.Bytes.{byte_at}
use Rattle.fkv_manifest.specs.Kept.{IsSlotOf}

-- the numbers behind the first two
rest_of : Slot → List ℕ
rest_of x = x.first.0 ∷ x.end.0 ∷ x.triples ∷ x.area ∷ point_numbers x.points

two_first : (x : Slot) → first_layout x ≡ 165 ∷ x.number ∷ rest_of x
unfolding first_layout rest_of
two_first x = refl

parted : (x : Slot) → slot_bytes x ≡ to_le_bytes w64 165 ++ (to_le_bytes w64 x.number ++ spelled (rest_of x))
parted x =
    slot_numbered.same x ∙ ap spelled (two_first x) ∙ flat_map-cons (to_le_bytes w64) 165 (x.number ∷ rest_of x)
    ∙ ap (λ (s : List ℕ). to_le_bytes w64 165 ++ s) (flat_map-cons (to_le_bytes w64) x.number (rest_of x))

pub slot_spelled : (x : Slot) → IsSlotOf x.number (slot_bytes x)
slot_spelled x = record {
  whole = ap length (slot_numbered.same x) ∙ length-spelled (first_layout x) ∙ ap (λ (n : ℕ). 8 * n) (slot_numbered.len x);
  is_open = ap (λ (s : List ℕ). byte_at s 0) (parted x) ∙ get_or_append_left (to_le_bytes w64 165) (to_le_bytes w64 x.number ++ spelled (rest_of x)) 0 0 (omega arith) ∙ refl;
  names =
      ap (λ (s : List ℕ). number_at s 8) (parted x)
      ∙ ap (λ (s : List ℕ). from_le_bytes w64 (take 8 s)) (drop_at (to_le_bytes w64 165) (to_le_bytes w64 x.number ++ spelled (rest_of x)) 8 refl)
      ∙ ap (λ (s : List ℕ). from_le_bytes w64 s) (take_at (to_le_bytes w64 x.number) (spelled (rest_of x)) 8 refl)
      ∙ from_le_bytes-to_le_bytes_8 x.number x.number_fits;
}

-- numbers that spell a whole slot, the first of them the byte of an open gate and the second the commit's number
whole_spelled : (number : ℕ) (rest : List ℕ) → number < 2 ^ 64 → length rest ≡ 62 → IsSlotOf number (spelled (165 ∷ number ∷ rest))
whole_spelled number rest fits size = record {
  whole = length-spelled (165 ∷ number ∷ rest) ∙ (let count : 8 * length (165 ∷ number ∷ rest) ≡ 512 = omega (arith, size) in count);
  is_open = ap (λ (s : List ℕ). byte_at s 0) split ∙ get_or_append_left (to_le_bytes w64 165) (to_le_bytes w64 number ++ spelled rest) 0 0 (omega arith) ∙ refl;
  names =
      ap (λ (s : List ℕ). number_at s 8) split
      ∙ ap (λ (s : List ℕ). from_le_bytes w64 (take 8 s)) (drop_at (to_le_bytes w64 165) (to_le_bytes w64 number ++ spelled rest) 8 refl)
      ∙ ap (λ (s : List ℕ). from_le_bytes w64 s) (take_at (to_le_bytes w64 number) (spelled rest) 8 refl)
      ∙ from_le_bytes-to_le_bytes_8 number fits;
}
  where
    split : spelled (165 ∷ number ∷ rest) ≡ to_le_bytes w64 165 ++ (to_le_bytes w64 number ++ spelled rest)
    split = flat_map-cons (to_le_bytes w64) 165 (number ∷ rest) ∙ ap (λ (s : List ℕ). to_le_bytes w64 165 ++ s) (flat_map-cons (to_le_bytes w64) number rest)

-- the numbers of a slot as it is written, behind the first two
newest_rest : SlotSaid → List ℕ
newest_rest s = drop 2 (newest_numbers s)

length-padded : (n : ℕ) (xs : List ℕ) → length xs ≤ n → length (padded n xs) ≡ n
length-padded n xs le = omega (arith, length-append xs (replicate (n - length xs) 0), length-replicate {A = ℕ} (n - length xs) 0)

length-ranges : (ranges : List LostRange) → length (range_numbers ranges) ≡ 2 * length ranges
length-ranges [] = refl
length-ranges (range ∷ ranges) = let rest = length-ranges ranges in omega (arith, rest)

length-newest : (s : SlotSaid) → length s.points ≤ 32 → length s.lost ≤ 8 → length (newest_numbers s) ≡ 64
length-newest s points lost =
    let points_len = length-map {A = Serial} {B = ℕ} s.points (λ p. p.0) in
    let front : length (padded 39 (front_said s)) ≡ 39 = length-padded 39 (front_said s) (omega (arith, points, points_len)) in
    let behind : length (lost_said s) ≤ 18 = omega (arith, length-ranges s.lost, lost) in
    let inner : List ℕ = padded 39 (front_said s) ++ lost_said s in
    let both : length inner ≤ 57 = omega (arith, length-append (padded 39 (front_said s)) (lost_said s), front, behind) in
    let outer : List ℕ = padded 57 inner ++ begin_said s ∷ [] in
    let begun : length outer ≤ 63 = omega (arith, length-append (padded 57 inner) (begin_said s ∷ []), length-padded 57 inner both) in
    omega (arith, length-append (padded 63 outer) (format_said s ∷ []), length-padded 63 outer begun)

-- and so are those of a slot as it is written
pub newest_spelled : (s : SlotSaid) → s.number < 2 ^ 64 → length s.points ≤ 32 → length s.lost ≤ 8 → IsSlotOf s.number (newest_bytes s)
unfolding newest_bytes newest_rest
newest_spelled s fits points lost = whole_spelled s.number (newest_rest s) fits (omega (arith, length-newest s points lost))
