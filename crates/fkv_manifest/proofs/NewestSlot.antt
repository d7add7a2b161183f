-- Which slot is the newest, by its gate and by the bytes of both.
use Rattle.std.proofs.Common.{◌≡◌, ◌≢◌, ◌⊎◌, inl, inr, ℕ, ◌+◌, ◌<◌, List, length, Bool, true, false, refl, sym, ◌∙◌, ap, arith}
use Rattle.std.specs.Prelude.{◌==◌, nat_le, if◌then◌else◌, Option, Some, None}
use Rattle.std.proofs.lemmas.Bool.Decides.{nat_tests}
use Rattle.fkv_record.specs.Places.{open_number, number_at}
use Rattle.fkv_disk.specs.Bytes.{byte_at}
use Rattle.fkv_disk.proofs.Shown.{is_listed, byte_at-bytes_at}
use Rattle.fkv_manifest.specs.Kept.{AreTheSlots}
use Rattle.fkv_manifest.specs.Newest.{slot_in, newer, newest}

-- a slot that has these bytes
pub slot_is : (image : List ℕ) (place : ℕ) (bytes : List ℕ) → length bytes ≡ 512 → ((k : ℕ) → k < 512 → byte_at image (place + k) ≡ byte_at bytes k) → slot_in image place ≡ bytes
slot_is image place bytes size each = sym (is_listed bytes 512 (λ k. byte_at image (place + k)) size (λ k below. sym (each k below)))

-- the first byte of a slot is its gate
pub gate_in : (image : List ℕ) (place : ℕ) → byte_at (slot_in image place) 0 ≡ byte_at image place
gate_in image place = byte_at-bytes_at image place 512 0 (omega arith) ∙ ap (λ (i : ℕ). byte_at image i) (let none : place + 0 ≡ place = omega arith in none)

open_is : (gate n : ℕ) → gate ≡ 165 → (if gate == 165 then Some n else None) ≡ Some n
open_is gate n is = ap (λ (b : Bool). if b then Some n else None) (let same : (gate == 165) ≡ true = grind (arith, nat_tests) in same)

closed_is : (gate n : ℕ) → gate ≢ 165 → (if gate == 165 then Some n else None) ≡ None
closed_is gate n isnt = ap (λ (b : Bool). if b then Some n else None) (let same : (gate == 165) ≡ false = grind (arith, nat_tests) in same)

-- an open slot tells its number, and a closed one none
pub number_told : (bytes : List ℕ) → byte_at bytes 0 ≡ 165 → open_number bytes ≡ Some (number_at bytes 8)
number_told bytes is = open_is (byte_at bytes 0) (number_at bytes 8) is

pub none_told : (bytes : List ℕ) → byte_at bytes 0 ≢ 165 → open_number bytes ≡ None
none_told bytes isnt = closed_is (byte_at bytes 0) (number_at bytes 8) isnt

-- which place is chosen, by what the two slots tell
pub chosen : (place other : ℕ) → AreTheSlots place other → Option ℕ → Option ℕ → Option ℕ
chosen place other (inl first) mine its = newer mine its
chosen place other (inr second) mine its = newer its mine

module _ (place other : ℕ) (image : List ℕ) where
  pub newest_by : (slots : AreTheSlots place other) (mine its : Option ℕ) → open_number (slot_in image place) ≡ mine → open_number (slot_in image other) ≡ its → newest image ≡ chosen place other slots mine its
  unfolding chosen
  newest_by (inl first) mine its is_mine is_its =
      ap (λ (p : ℕ). newer (open_number (slot_in image p)) (open_number (slot_in image 1024))) (sym first.0)
      ∙ ap (λ (p : ℕ). newer (open_number (slot_in image place)) (open_number (slot_in image p))) (sym first.1)
      ∙ ap (λ (x : Option ℕ). newer x (open_number (slot_in image other))) is_mine ∙ ap (λ (y : Option ℕ). newer mine y) is_its
  newest_by (inr second) mine its is_mine is_its =
      ap (λ (p : ℕ). newer (open_number (slot_in image p)) (open_number (slot_in image 1024))) (sym second.1)
      ∙ ap (λ (p : ℕ). newer (open_number (slot_in image other)) (open_number (slot_in image p))) (sym second.0)
      ∙ ap (λ (x : Option ℕ). newer x (open_number (slot_in image place))) is_its ∙ ap (λ (y : Option ℕ). newer its y) is_mine

module _ (place other : ℕ) where
  -- an open slot beside a closed one
  pub chosen_alone : (slots : AreTheSlots place other) (m : ℕ) → chosen place other slots None (Some m) ≡ Some other
  unfolding chosen
  chosen_alone (inl first) m = ap (λ (p : ℕ). Some p) (sym first.1)
  chosen_alone (inr second) m = ap (λ (p : ℕ). Some p) (sym second.1)

  -- two open ones
  pub chosen_greater : (slots : AreTheSlots place other) (n m : ℕ) → m < n → chosen place other slots (Some n) (Some m) ≡ Some place
  unfolding chosen
  chosen_greater (inl first) n m greater = ap (λ (b : Bool). Some (if b then 512 else 1024)) (let less : nat_le m n ≡ true = grind (arith, nat_tests) in less) ∙ ap (λ (p : ℕ). Some p) (sym first.0)
  chosen_greater (inr second) n m greater = ap (λ (b : Bool). Some (if b then 512 else 1024)) (let more : nat_le n m ≡ false = grind (arith, nat_tests) in more) ∙ ap (λ (p : ℕ). Some p) (sym second.0)

  -- a closed one is never chosen
  pub never_closed : (slots : AreTheSlots place other) (mine : Option ℕ) → chosen place other slots mine None ≡ Some other → ⊥
  unfolding chosen
  never_closed (inl first) None is = cc
  never_closed (inl first) (Some n) is = let same : 512 ≡ other = cc in absurd (omega (arith, same, first.1))
  never_closed (inr second) None is = cc
  never_closed (inr second) (Some n) is = let same : 1024 ≡ other = cc in absurd (omega (arith, same, second.1))

is_or_isnt : (a b : ℕ) → (a ≡ b) ⊎ (a ≢ b)
is_or_isnt a b = by_test (a == b) refl
  where
    by_test : (t : Bool) → (a == b) ≡ t → (a ≡ b) ⊎ (a ≢ b)
    by_test true e = inl (let same : a ≡ b = grind (arith, nat_tests, e) in same)
    by_test false e = inr (let other : a ≢ b = grind (arith, nat_tests, e) in other)

-- a gate is open, or it isn't
pub gate_is : (image : List ℕ) (place : ℕ) → (byte_at image place ≡ 165) ⊎ (byte_at image place ≢ 165)
gate_is image place = is_or_isnt (byte_at image place) 165

-- the slot that is the newest is open
pub newest_open : (image : List ℕ) (place other : ℕ) → AreTheSlots place other → newest image ≡ Some other → byte_at (slot_in image other) 0 ≡ 165
newest_open image place other slots in_force = by_gate (is_or_isnt (byte_at (slot_in image other) 0) 165)
  where
    by_gate : (byte_at (slot_in image other) 0 ≡ 165) ⊎ (byte_at (slot_in image other) 0 ≢ 165) → byte_at (slot_in image other) 0 ≡ 165
    by_gate (inl is) = is
    by_gate (inr isnt) = absurd (never_closed place other slots (open_number (slot_in image place)) (sym (newest_by place other image slots (open_number (slot_in image place)) None refl (none_told (slot_in image other) isnt)) ∙ in_force))
