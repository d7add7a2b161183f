-- The bytes of a new store are such as a life of a wrong slot begins with.
use Rattle.std.proofs.Common.{◌≡◌, ◌∙◌, ℕ, List, Bool, true, false, sym, ap, arith}
use Rattle.std.specs.Prelude.{◌==◌, ◌≢◌, Option, Some, None, if◌then◌else◌}
use Rattle.fkv_base.specs.declared.shapes.Shape.{Shape}
use Rattle.fkv_creating.specs.Created.{IsCreated}
use Rattle.fkv_disk.proofs.Shown.{byte_at-bytes_at}
use Rattle.fkv_disk.specs.Bytes.{byte_at}
use Rattle.fkv_manifest.specs.Newest.{slot_in}
use Rattle.fkv_newest.specs.Newest.{slot_place}
use Rattle.fkv_record.specs.Layout.{shape_bytes}
use Rattle.fkv_record.specs.Places.{number_at, open_number}
use Rattle.law_wrong_runs.specs.WrongImages.{BeginAtFirst}

none_some : (number : ℕ) → ◌≡◌ {A = Option ℕ} None (Some number) → ⊥
none_some number is = cc

opened : (bytes : List ℕ) → byte_at bytes 0 ≡ 165 → open_number bytes ≡ Some (number_at bytes 8)
opened bytes gate = ap (λ (b : ℕ). if b == 165 then Some (number_at bytes 8) else None) gate

-- a slot that tells no number has a closed gate
closed : (image : List ℕ) → open_number (slot_in image 1024) ≡ None → byte_at image 1024 ≢ 165
closed image none gate = none_some (number_at (slot_in image 1024) 8) (sym none ∙ opened (slot_in image 1024) (byte_at-bytes_at image 1024 512 0 (omega arith) ∙ gate))

told_by : (b : Bool) (number : ℕ) → ◌≡◌ {A = Option ℕ} (if b then Some number else None) (Some 0) → number ≡ 0
told_by true number is = let told : ◌≡◌ {A = Option ℕ} (Some number) (Some 0) = is in cc
told_by false number is = absurd (none_some 0 is)

-- one that tells number 0 has it
number_told : (bytes : List ℕ) → open_number bytes ≡ Some 0 → number_at bytes 8 ≡ 0
number_told bytes is = told_by (byte_at bytes 0 == 165) (number_at bytes 8) is

pub begins_at_first : (shape : Shape) (image : List ℕ) → IsCreated shape image → BeginAtFirst shape image
begins_at_first shape image new = record {
  block = ap shape_bytes (sym new.is_new.its_shape) ∙ new.told.block;
  in_force = new.told.in_force ∙ ap (λ (index : ℕ). Some (slot_place index)) new.is_new.index;
  number = number_told (slot_in image 512) (sym new.told.open_0 ∙ new.is_new.open_0);
  closed = closed image (sym new.told.open_1 ∙ new.is_new.open_1);
  long = new.long.slots;
}
