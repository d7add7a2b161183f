-- The words of a record in the bytes that a sweep reads.
use Rattle.std.proofs.Common.{◌≡◌, ℕ, ◌+◌, ◌*◌, ◌-◌, ◌<◌, ◌≤◌, ◌^◌, ◌∙◌, refl, sym, ap, arith, true, false, List, [], ◌∷◌, length, take, drop, length-drop, length-take-le}
use Rattle.std.specs.Prelude.{◌==◌, nat_le, nat_lt}
use Rattle.std.specs.Int.{w64, from_le_bytes, to_le_bytes}
use Rattle.std.proofs.Math.Seq.{drop-append-add}
use Rattle.std.proofs.lemmas.Bool.Decides.{nat_tests}
use Rattle.std.proofs.lemmas.List.{get_or-drop, get_or-take, take_at}
use Rattle.std.proofs.lemmas.List.Concat.{flat_map-cons}
use Rattle.std.proofs.lemmas.Nat.{from_le_bytes-to_le_bytes_8}
use Rattle.fkv_base.specs.declared.numbers.Key.{Key}
use Rattle.fkv_base.specs.declared.shapes.Shape.{Shape}
use Rattle.fkv_disk.specs.Bytes.{byte_at, bytes_at}
use Rattle.fkv_disk.proofs.Shown.{byte_at-bytes_at, is_listed, length-bytes_at}
use Rattle.fkv_record.specs.Numbers.{spelled}
use Rattle.fkv_record.specs.Places.{area_place, number_at, record_place}
use Rattle.fkv_sweep.specs.Sweeping as sweep
use Rattle.fkv_sweep.specs.Sweeping.{is_counted, words_at}

-- ---- a part of what was read
module _ (seen : List ℕ) (base many at n : ℕ) (within : at + n ≤ many) where
  length_part : length (take n (drop at (bytes_at seen base many))) ≡ n
  length_part = length-take-le n (drop at (bytes_at seen base many)) (omega (arith, within, length-drop at (bytes_at seen base many), length-bytes_at seen base many))

  byte_in_part : (k : ℕ) → k < n → byte_at (take n (drop at (bytes_at seen base many))) k ≡ byte_at seen (base + at + k)
  byte_in_part k below =
      let place : base + (at + k) ≡ base + at + k = omega arith in
      get_or-take n (drop at (bytes_at seen base many)) k 0 below ∙ get_or-drop at (bytes_at seen base many) k 0 ∙ byte_at-bytes_at seen base many (at + k) (omega (arith, below, within)) ∙ ap (byte_at seen) place

  pub part_is : take n (drop at (bytes_at seen base many)) ≡ bytes_at seen (base + at) n
  part_is = is_listed (take n (drop at (bytes_at seen base many))) n (λ k. byte_at seen (base + at + k)) length_part byte_in_part

number_part : (seen : List ℕ) (base many at : ℕ) → at + 8 ≤ many → number_at (bytes_at seen base many) at ≡ from_le_bytes w64 (bytes_at seen (base + at) 8)
number_part seen base many at within = ap (from_le_bytes w64) (part_is seen base many at 8 within)

-- the number there is the same in whatever was read
same_number : (seen : List ℕ) (base many at other more from : ℕ) → at + 8 ≤ many → from + 8 ≤ more → base + at ≡ other + from → number_at (bytes_at seen base many) at ≡ number_at (bytes_at seen other more) from
same_number seen base many at other more from one two same =
    number_part seen base many at one ∙ ap (λ (place : ℕ). from_le_bytes w64 (bytes_at seen place 8)) same ∙ sym (number_part seen other more from two)

-- and so are the words of a record
pub words_part : (seen : List ℕ) (base many at place : ℕ) → at + 24 ≤ many → base + at ≡ place → words_at (bytes_at seen base many) at ≡ words_at (bytes_at seen place 24) 0
words_part seen base many at place within same =
    let header : number_at (bytes_at seen base many) at ≡ number_at (bytes_at seen place 24) 0 = same_number seen base many at place 24 0 (omega (arith, within)) (omega arith) (omega (arith, same)) in
    let key : number_at (bytes_at seen base many) (at + 8) ≡ number_at (bytes_at seen place 24) 8 = same_number seen base many (at + 8) place 24 8 (omega (arith, within)) (omega arith) (omega (arith, same)) in
    let value : number_at (bytes_at seen base many) (at + 16) ≡ number_at (bytes_at seen place 24) 16 = same_number seen base many (at + 16) place 24 16 (omega (arith, within)) (omega arith) (omega (arith, same)) in
    rw (header, key, value) refl

-- so it is in a piece, of each of its records
pub words_in_piece : (seen : List ℕ) (shape : Shape) (first a : ℕ) → first ≤ a → a < first + 32 → words_at (bytes_at seen (record_place shape first) 768) (24 * (a - first)) ≡ words_at (bytes_at seen (record_place shape a) 24) 0
words_in_piece seen shape first a on low =
    words_part seen (record_place shape first) 768 (24 * (a - first)) (record_place shape a) (omega (arith, on, low)) (place (area_place shape 2))
  where
    place : (base : ℕ) → base + 24 * first + 24 * (a - first) ≡ base + 24 * a
    place base = omega (arith, on)

pub words_at_first : (seen : List ℕ) (place : ℕ) → words_at (bytes_at seen place 768) 0 ≡ words_at (bytes_at seen place 24) 0
words_at_first seen place = words_part seen place 768 0 place (omega arith) (omega arith)

-- ---- three words that are spelled
first_number : (n : ℕ) (rest : List ℕ) → n < 2 ^ 64 → number_at (spelled (n ∷ rest)) 0 ≡ n
first_number n rest fits =
    ap (λ (bytes : List ℕ). from_le_bytes w64 (take 8 bytes)) (flat_map-cons (to_le_bytes w64) n rest)
    ∙ ap (from_le_bytes w64) (take_at (to_le_bytes w64 n) (spelled rest) 8 refl)
    ∙ from_le_bytes-to_le_bytes_8 n fits

later_number : (n : ℕ) (rest : List ℕ) (at : ℕ) → number_at (spelled (n ∷ rest)) (8 + at) ≡ number_at (spelled rest) at
later_number n rest at =
    ap (λ (bytes : List ℕ). number_at bytes (8 + at)) (flat_map-cons (to_le_bytes w64) n rest)
    ∙ ap (λ (bytes : List ℕ). from_le_bytes w64 (take 8 bytes)) (drop-append-add (to_le_bytes w64 n) (spelled rest) at)

pub header_read : (header key value : ℕ) → header < 2 ^ 64 → number_at (spelled (header ∷ key ∷ value ∷ [])) 0 ≡ header
header_read header key value fits = first_number header (key ∷ value ∷ []) fits

pub words_read : (header key value : ℕ) → header < 2 ^ 64 → key < 2 ^ 64 → value < 2 ^ 64 → words_at (spelled (header ∷ key ∷ value ∷ [])) 0 ≡ record { header = header; key = record { 0 = key }; value = value }
words_read header key value one two three =
    let first : number_at (spelled (header ∷ key ∷ value ∷ [])) 0 ≡ header = first_number header (key ∷ value ∷ []) one in
    let second : number_at (spelled (header ∷ key ∷ value ∷ [])) 8 ≡ key = later_number header (key ∷ value ∷ []) 0 ∙ first_number key (value ∷ []) two in
    let third : number_at (spelled (header ∷ key ∷ value ∷ [])) 16 ≡ value = later_number header (key ∷ value ∷ []) 8 ∙ later_number key (value ∷ []) 0 ∙ first_number value [] three in
    rw (first, second, third) refl

-- ---- words that count
pub counts_so : (header value : ℕ) (key : Key) → 2 ^ 48 ≤ header → header < 2 ^ 61 → (value == sweep.absent_word) ≡ false → is_counted (record { header = header; key = key; value = value }) ≡ true
counts_so header value key some low present =
    let one : nat_le (2 ^ 48) header ≡ true = grind (arith, nat_tests, some) in
    let two : nat_lt header (2 ^ 61) ≡ true = grind (arith, nat_tests, low) in
    rw (one, two, present) refl
