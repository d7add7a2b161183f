-- The newest slot of a store names the commit's number, and its gates are as recovery tells them.
use Rattle.std.proofs.Common.{◌≡◌, ◌∙◌, ap, sym, refl, arith, ℕ, ◌+◌, ◌^◌, ◌<◌, ◌≤◌, List, ◌∷◌, ◌++◌, length, take, drop, get_or, Bool, true, false, Some, None}
use Rattle.std.specs.Prelude.{◌==◌, if◌then◌else◌}
use Rattle.std.specs.Int.{w64, to_le_bytes, from_le_bytes}
use Rattle.std.specs.Option.{is_some}
use Rattle.std.proofs.lemmas.List.{take_at, drop_at}
use Rattle.std.proofs.lemmas.List.Concat.{flat_map-cons}
use Rattle.std.proofs.lemmas.Nat.{from_le_bytes-to_le_bytes_8}
use Rattle.fkv_disk.specs.Bytes.{byte_at}
use Rattle.fkv_disk.proofs.Shown.{byte_at-bytes_at}
use Rattle.law_refine.specs.Below.fkv_manifest.Gating.{open_gate}
use Rattle.law_refine.specs.Below.fkv_manifest.Newest.{slot_in}
use Rattle.fkv_record.specs.Manifest.{is_held, layout, manifest_bytes}
use Rattle.fkv_record.specs.Numbers.{spelled}
use Rattle.fkv_record.specs.Places.{number_at, open_number}
use Rattle.fkv_record.specs.declared.formats.Format.{Format}
use Rattle.fkv_record.specs.declared.manifest_slots.ManifestSlot.{ManifestSlot}
use Rattle.fkv_record.proofs.Shown.{length-layout, telling}

-- the number at byte 8 is the second that is spelled
second_spelled : (first number : ℕ) (rest : List ℕ) → number < 2 ^ 64 → number_at (spelled (first ∷ number ∷ rest)) 8 ≡ number
second_spelled first number rest fits =
    ap (λ (s : List ℕ). number_at s 8) (flat_map-cons (to_le_bytes w64) first (number ∷ rest) ∙ ap (λ (s : List ℕ). to_le_bytes w64 first ++ s) (flat_map-cons (to_le_bytes w64) number rest))
    ∙ ap (λ (s : List ℕ). from_le_bytes w64 (take 8 s)) (drop_at (to_le_bytes w64 first) (to_le_bytes w64 number ++ spelled rest) 8 refl)
    ∙ ap (λ (s : List ℕ). from_le_bytes w64 s) (take_at (to_le_bytes w64 number) (spelled rest) 8 refl)
    ∙ from_le_bytes-to_le_bytes_8 number fits

two_first : (numbers : List ℕ) → 2 ≤ length numbers → numbers ≡ get_or numbers 0 0 ∷ get_or numbers 1 0 ∷ drop 2 numbers
two_first (a ∷ b ∷ rest) many = refl
two_first numbers many = absurd (omega (arith, many))

there : (b : Bool) (l bytes : List ℕ) → (if b then Some l else None) ≡ Some bytes → (b ≡ true) × (l ≡ bytes)
there true l bytes e = (refl, cc)
there false l bytes e = let never : ⊥ = cc in absurd never

-- the bytes of a slot name its commit, in each format
pub slot_named : (format : Format) (slot : ManifestSlot) (bytes : List ℕ) → manifest_bytes (format, slot) ≡ Some bytes → number_at bytes 8 ≡ slot.number
unfolding manifest_bytes
slot_named format slot bytes stands =
    let held : (is_held format slot ≡ true) × (spelled (layout format slot) ≡ bytes) = there (is_held format slot) (spelled (layout format slot)) bytes stands in
    let numbers : List ℕ = layout format slot in
    let many : length numbers ≡ 64 = length-layout format slot held.0 in
    let told = telling format slot numbers many held.0 refl in
    let its : slot.number ≡ get_or numbers 1 0 = told.number in
    let fits = slot.number_fits in
    let front : numbers ≡ get_or numbers 0 0 ∷ get_or numbers 1 0 ∷ drop 2 numbers = two_first numbers (omega (arith, many)) in
    ap (λ (s : List ℕ). number_at s 8) (sym held.1 ∙ ap spelled front)
    ∙ second_spelled (get_or numbers 0 0) (get_or numbers 1 0) (drop 2 numbers) (omega (arith, its, fits))
    ∙ sym its

some_where : (b : Bool) (m : ℕ) → is_some (if b then Some m else None) ≡ b
some_where true m = refl
some_where false m = refl

told_open : (bytes : List ℕ) → is_some (open_number bytes) ≡ (byte_at bytes 0 == open_gate)
told_open bytes = some_where (byte_at bytes 0 == open_gate) (number_at bytes 8)

-- a slot is open where its gate is
pub gate_told : (image : List ℕ) (place : ℕ) → is_some (open_number (slot_in image place)) ≡ (byte_at image place == open_gate)
gate_told image place =
    told_open (slot_in image place)
    ∙ ap (λ (b : ℕ). b == open_gate) (byte_at-bytes_at image place 512 0 (omega arith) ∙ ap (λ (i : ℕ). byte_at image i) (let none : place + 0 ≡ place = omega arith in none))
