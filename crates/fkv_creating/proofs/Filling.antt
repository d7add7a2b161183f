-- What a crash leaves while a cleared front is filled.
use Rattle.std.proofs.Common.{◌≡◌, ◌≢◌, ◌⊎◌, inl, inr, ℕ, Bool, true, false, ◌-◌, ◌<◌, max, List, [], ◌∷◌, length, drop, refl, sym, ◌∙◌, ap, subst, arith}
use Rattle.std.specs.Prelude.{replicate, if◌then◌else◌}
use Rattle.std.proofs.lemmas.Bool.{cases_eq}
use Rattle.std.proofs.lemmas.Bool.Decides.{nat_tests}
use Rattle.std.proofs.lemmas.List.{length-drop, length-replicate}
use Rattle.fkv_disk.specs.Bytes.{byte_at, covers, written, range_end}
use Rattle.fkv_disk.specs.Device.{Torn}
use Rattle.fkv_disk.proofs.Shown.{length-written, is_listed, in_range, before_range, after_range, range_end_is, byte_at-written_in, byte_at-written_out}
use Rattle.fkv_manifest.specs.Tearing.{IsTornInOrder}
use Rattle.fkv_creating.specs.Filled.{cleared, IsCleared, IsShut, filled, IsShutOrFilled}
use Rattle.fkv_creating.specs.Created.{laid}
use Rattle.fkv_creating.proofs.Laying.{zeros_at}

truth : (b : Bool) → (b ≡ true) ⊎ (b ≡ false)
truth true = inl refl
truth false = inr refl

zeros : List ℕ
zeros = replicate 1536 0

many_zeros : length zeros ≡ 1536
unfolding zeros
many_zeros = length-replicate {A = ℕ} 1536 0

zero_in : (k : ℕ) → byte_at zeros k ≡ 0
unfolding zeros
zero_in k = zeros_at 1536 k

cleared_is : (old : List ℕ) → cleared old ≡ written old 0 zeros
unfolding cleared zeros
cleared_is old = refl

pub cleared_by : (old : List ℕ) → cleared old ≡ written old 0 (replicate 1536 0)
unfolding cleared
cleared_by old = refl

-- zeros over the front clear it
pub cleared_by_zeros : (old : List ℕ) → IsCleared (cleared old)
cleared_by_zeros old = subst IsCleared (sym (cleared_is old)) (record {
  long = omega (arith, length-written old 0 zeros, (let e : range_end 0 (length zeros) ≡ 1536 = ap (range_end 0) many_zeros ∙ range_end_is 0 1536 (omega arith) in e));
  gate_0 = zero 512 (omega arith);
  gate_1 = zero 1024 (omega arith);
})
  where
    zero : (i : ℕ) → i < 1536 → byte_at (written old 0 zeros) i ≡ 0
    zero i below = byte_at-written_in old 0 zeros i (in_range 0 (length zeros) i (omega arith) (omega (arith, many_zeros, below))) ∙ zero_in (i - 0)

-- what is filled over a cleared front is what the four writes lay
pub laid_is_filled : (old block slot : List ℕ) → filled (cleared old) block slot ≡ laid old block slot
unfolding filled cleared laid
laid_is_filled old block slot = refl

-- the range has no gate
pub record IsGateless (at n : ℕ) : Type 0 where
  pub first : covers at n 512 ≡ false
  pub second : covers at n 1024 ≡ false

pub block_gateless : (n : ℕ) → n ≡ 64 → IsGateless 0 n
block_gateless n is = record { first = after_range 0 n 512 (omega (arith, is)); second = after_range 0 n 1024 (omega (arith, is)) }

pub body_gateless : (n : ℕ) → n ≡ 504 → IsGateless 520 n
body_gateless n is = record { first = before_range 520 n 512 (omega arith); second = after_range 520 n 1024 (omega (arith, is)) }

-- a write there leaves it cleared
pub still_cleared : (old : List ℕ) (at : ℕ) (bytes : List ℕ) → IsGateless at (length bytes) → IsCleared old → IsCleared (written old at bytes)
still_cleared old at bytes gateless cleared = record {
  long = omega (arith, length-written old at bytes, cleared.long);
  gate_0 = byte_at-written_out old at bytes 512 gateless.first ∙ cleared.gate_0;
  gate_1 = byte_at-written_out old at bytes 1024 gateless.second ∙ cleared.gate_1;
}

not_open : (b : ℕ) → b ≡ 0 → b ≢ 165
not_open b is opens = omega (arith, is, opens)

-- and so does one that is torn
pub torn_shut : (old image : List ℕ) (at n : ℕ) → IsGateless at n → IsCleared old → Torn at n old image → IsShut image
torn_shut old image at n gateless cleared torn = record {
  gate_0 = not_open (byte_at image 512) (torn.outside 512 (omega (arith, cleared.long)) gateless.first ∙ cleared.gate_0);
  gate_1 = not_open (byte_at image 1024) (torn.outside 1024 (omega (arith, cleared.long)) gateless.second ∙ cleared.gate_1);
}

picked : (b : Bool) (x y z : ℕ) → (b ≡ true → z ≡ x) → (b ≡ false → z ≡ y) → z ≡ (if b then x else y)
picked true x y z one other = one refl
picked false x y z one other = other refl

at_gate : (i : ℕ) → covers 512 1 i ≡ true → i ≡ 512
at_gate i is = grind (arith, nat_tests)

-- a torn gate is closed, or it is written
pub torn_gate : (old image : List ℕ) → IsCleared old → Torn 512 1 old image → IsShut image ⊎ (image ≡ written old 512 (165 ∷ []))
torn_gate old image cleared torn = elim (cases_eq (byte_at image 512) 165) [
  | inl opened ↦ inr (is_listed image (max (length old) (range_end 512 1)) _ many (λ i below.
      picked (covers 512 1 i) (byte_at (165 ∷ []) (i - 512)) (byte_at old i) (byte_at image i)
      (λ within. let here = at_gate i within in ap (byte_at image) here ∙ opened ∙ sym (ap (λ k. byte_at (165 ∷ []) (k - 512)) here))
      (λ out. torn.outside i (omega (arith, below, cleared.long, range_end_is 512 1 (omega arith))) out)))
  | inr closed ↦ inl (record {
    gate_0 = closed;
    gate_1 = not_open (byte_at image 1024) (torn.outside 1024 (omega (arith, cleared.long)) (after_range 512 1 1024 (omega arith)) ∙ cleared.gate_1);
  })
]
  where
    many : length image ≡ max (length old) (range_end 512 1)
    many = omega (arith, torn.no_shorter, torn.no_longer, cleared.long, range_end_is 512 1 (omega arith))

-- the block and the slot, as a crash leaves them
module _ (old block slot : List ℕ) (its_block : length block ≡ 64) (its_slot : length slot ≡ 512) (clear : IsCleared old) where
  abbrev body : List ℕ
  body = drop 8 slot

  many_body : length body ≡ 504
  many_body = omega (arith, length-drop 8 slot, its_slot)

  clear_2 : IsCleared (written old 0 block)
  clear_2 = still_cleared old 0 block (block_gateless (length block) its_block) clear

  clear_3 : IsCleared (written (written old 0 block) 520 body)
  clear_3 = still_cleared (written old 0 block) 520 body (body_gateless (length body) many_body) clear_2

  pub in_block : (image : List ℕ) → Torn 0 (length block) old image → IsShutOrFilled old block slot image
  in_block image torn = inl (torn_shut old image 0 (length block) (block_gateless (length block) its_block) clear torn)

  in_body : (image : List ℕ) → Torn 520 (length body) (written old 0 block) image → IsShutOrFilled old block slot image
  in_body image torn = inl (torn_shut (written old 0 block) image 520 (length body) (body_gateless (length body) many_body) clear_2 torn)

  in_gate : (image : List ℕ) → Torn 512 1 (written (written old 0 block) 520 body) image → IsShutOrFilled old block slot image
  unfolding filled
  in_gate image torn = torn_gate (written (written old 0 block) 520 body) image clear_3 torn

  pub in_slot : (image : List ℕ) → IsTornInOrder 512 8 slot false (written old 0 block) image → IsShutOrFilled old block slot image
  in_slot image (inl torn) = in_body image torn
  in_slot image (inr torn) = in_gate image torn
