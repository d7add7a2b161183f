-- What stands where after the four writes of a new store.
use Rattle.std.proofs.Common.{◌≡◌, ◌⊎◌, inl, inr, ℕ, zero, suc, ◌+◌, ◌-◌, ◌<◌, ◌≤◌, max, List, [], ◌∷◌, length, drop, refl, sym, ◌∙◌, ap, arith}
use Rattle.std.specs.Prelude.{replicate}
use Rattle.std.proofs.lemmas.List.{get_or-drop, length-drop, length-replicate}
use Rattle.fkv_disk.specs.Bytes.{byte_at, bytes_at, written, range_end}
use Rattle.fkv_disk.proofs.Shown.{length-written, is_listed, in_range, before_range, after_range, range_end_is, byte_at-written_in, byte_at-written_out, byte_at-bytes_at}
use Rattle.fkv_creating.specs.Created.{laid, SparesRest}

pub zeros_at : (n i : ℕ) → byte_at (replicate n 0) i ≡ 0
zeros_at zero i = refl
zeros_at (suc n) zero = refl
zeros_at (suc n) (suc i) = zeros_at n i

bytes_are : (image : List ℕ) (at n : ℕ) (bytes : List ℕ) → length bytes ≡ n → ((k : ℕ) → k < n → byte_at image (at + k) ≡ byte_at bytes k) → bytes_at image at n ≡ bytes
bytes_are image at n bytes size each = sym (is_listed bytes n (λ k. byte_at image (at + k)) size (λ k below. sym (each k below)))

-- the byte of a slot at each place of it: the gate, seven zeros, and the body
pub record IsSlot (slot : List ℕ) : Type 0 where
  pub whole : length slot ≡ 512
  pub gate : byte_at slot 0 ≡ 165
  pub gap : (i : ℕ) → 1 ≤ i → i < 8 → byte_at slot i ≡ 0

module _ (old block slot : List ℕ) (its_block : length block ≡ 64) (its_slot : IsSlot slot) where
  body : List ℕ
  body = drop 8 slot

  zeros : List ℕ
  zeros = replicate 1536 0

  first : List ℕ
  first = written old 0 zeros

  second : List ℕ
  second = written first 0 block

  third : List ℕ
  third = written second 520 body

  fourth : List ℕ
  fourth = written third 512 (165 ∷ [])

  laid_is : laid old block slot ≡ fourth
  unfolding laid fourth third second first zeros body
  laid_is = refl

  many_zeros : length zeros ≡ 1536
  unfolding zeros
  many_zeros = length-replicate {A = ℕ} 1536 0

  many_body : length body ≡ 504
  unfolding body
  many_body = omega (arith, length-drop 8 slot, its_slot.whole)

  first_in : (i : ℕ) → i < 1536 → byte_at first i ≡ 0
  unfolding first zeros
  first_in i below = byte_at-written_in old 0 zeros i (in_range 0 (length zeros) i (omega arith) (omega (arith, many_zeros, below))) ∙ zeros_at 1536 (i - 0)

  first_out : (i : ℕ) → 1536 ≤ i → byte_at first i ≡ byte_at old i
  unfolding first
  first_out i above = byte_at-written_out old 0 zeros i (after_range 0 (length zeros) i (omega (arith, many_zeros, above)))

  second_in : (i : ℕ) → i < 64 → byte_at second i ≡ byte_at block i
  unfolding second
  second_in i below = byte_at-written_in first 0 block i (in_range 0 (length block) i (omega arith) (omega (arith, its_block, below))) ∙ ap (λ (n : ℕ). byte_at block n) (let e : i - 0 ≡ i = omega arith in e)

  second_out : (i : ℕ) → 64 ≤ i → byte_at second i ≡ byte_at first i
  unfolding second
  second_out i above = byte_at-written_out first 0 block i (after_range 0 (length block) i (omega (arith, its_block, above)))

  third_before : (i : ℕ) → i < 520 → byte_at third i ≡ byte_at second i
  unfolding third
  third_before i below = byte_at-written_out second 520 body i (before_range 520 (length body) i below)

  third_after : (i : ℕ) → 1024 ≤ i → byte_at third i ≡ byte_at second i
  unfolding third
  third_after i above = byte_at-written_out second 520 body i (after_range 520 (length body) i (omega (arith, many_body, above)))

  third_in : (k : ℕ) → 8 ≤ k → k < 512 → byte_at third (512 + k) ≡ byte_at slot k
  unfolding third body
  third_in k above below =
      byte_at-written_in second 520 body (512 + k) (in_range 520 (length body) (512 + k) (omega arith) (omega (arith, many_body, below)))
      ∙ get_or-drop 8 slot ((512 + k) - 520) 0 ∙ ap (λ (n : ℕ). byte_at slot n) (let e : 8 + ((512 + k) - 520) ≡ k = omega arith in e)

  fourth_gate : byte_at fourth 512 ≡ 165
  unfolding fourth
  fourth_gate = byte_at-written_in third 512 (165 ∷ []) 512 (in_range 512 1 512 (omega arith) (omega arith))

  fourth_out : (i : ℕ) → (i < 512) ⊎ (513 ≤ i) → byte_at fourth i ≡ byte_at third i
  unfolding fourth
  fourth_out i (inl below) = byte_at-written_out third 512 (165 ∷ []) i (before_range 512 1 i below)
  fourth_out i (inr above) = byte_at-written_out third 512 (165 ∷ []) i (after_range 512 1 i above)

  block_byte : (i : ℕ) → i < 64 → byte_at fourth i ≡ byte_at block i
  block_byte i below = fourth_out i (inl (omega arith)) ∙ third_before i (omega arith) ∙ second_in i below

  slot_byte : (k : ℕ) → k < 512 → (k ≡ 0) ⊎ ((1 ≤ k) × (k < 8)) ⊎ (8 ≤ k) → byte_at fourth (512 + k) ≡ byte_at slot k
  slot_byte k below (inl none) = ap (λ (n : ℕ). byte_at fourth (512 + n)) none ∙ fourth_gate ∙ sym its_slot.gate ∙ ap (λ (n : ℕ). byte_at slot n) (sym none)
  slot_byte k below (inr (inl few)) =
      fourth_out (512 + k) (inr (omega (arith, few.0))) ∙ third_before (512 + k) (omega (arith, few.1)) ∙ second_out (512 + k) (omega arith) ∙ first_in (512 + k) (omega (arith, few.1)) ∙ sym (its_slot.gap k few.0 few.1)
  slot_byte k below (inr (inr many)) = fourth_out (512 + k) (inr (omega arith)) ∙ third_in k many below

  place_in : (k : ℕ) → (k ≡ 0) ⊎ ((1 ≤ k) × (k < 8)) ⊎ (8 ≤ k)
  place_in zero = inl refl
  place_in (suc k) = by_eight (let e : (suc k < 8) ⊎ (8 ≤ suc k) = grind arith in e)
    where
      by_eight : (suc k < 8) ⊎ (8 ≤ suc k) → (suc k ≡ 0) ⊎ ((1 ≤ suc k) × (suc k < 8)) ⊎ (8 ≤ suc k)
      by_eight (inl few) = inr (inl (omega arith, few))
      by_eight (inr many) = inr (inr many)

  fourth_behind : (i : ℕ) → 1024 ≤ i → byte_at fourth i ≡ byte_at first i
  fourth_behind i above = fourth_out i (inr (omega arith)) ∙ third_after i above ∙ second_out i (omega arith)

  length_fourth : length fourth ≡ max (length old) 1536
  unfolding fourth third second first
  length_fourth =
      omega (
        arith,
        length-written third 512 (165 ∷ []),
        length-written second 520 body,
        length-written first 0 block,
        length-written old 0 zeros,
        range_end_is 512 1 (omega arith),
        (let e : range_end 520 (length body) ≡ 1024 = ap (range_end 520) many_body ∙ range_end_is 520 504 (omega arith) in e),
        (let e : range_end 0 (length block) ≡ 64 = ap (range_end 0) its_block ∙ range_end_is 0 64 (omega arith) in e),
        (let e : range_end 0 (length zeros) ≡ 1536 = ap (range_end 0) many_zeros ∙ range_end_is 0 1536 (omega arith) in e),
      )

  pub laid_block : bytes_at (laid old block slot) 0 64 ≡ block
  laid_block =
      ap (λ (s : List ℕ). bytes_at s 0 64) laid_is
      ∙ bytes_are fourth 0 64 block its_block (λ k below. ap (λ (i : ℕ). byte_at fourth i) (let e : 0 + k ≡ k = omega arith in e) ∙ block_byte k below)

  pub laid_slot : bytes_at (laid old block slot) 512 512 ≡ slot
  laid_slot =
      ap (λ (s : List ℕ). bytes_at s 512 512) laid_is
      ∙ bytes_are fourth 512 512 slot its_slot.whole (λ k below. slot_byte k below (place_in k))

  -- the gate of slot 1 is closed
  pub laid_closed : byte_at (bytes_at (laid old block slot) 1024 512) 0 ≡ 0
  laid_closed =
      ap (λ (s : List ℕ). byte_at (bytes_at s 1024 512) 0) laid_is ∙ byte_at-bytes_at fourth 1024 512 0 (omega arith)
      ∙ fourth_behind 1024 (omega arith) ∙ first_in 1024 (omega arith)

  pub laid_spares : SparesRest old (laid old block slot)
  laid_spares = record {
    end = ap length laid_is ∙ length_fourth;
    same = λ i above. ap (λ (s : List ℕ). byte_at s i) laid_is ∙ fourth_behind i (omega (arith, above)) ∙ first_out i above;
  }
