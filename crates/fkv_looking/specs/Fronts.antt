-- What the front of an image says: the block of the shape, and both slots.
use Rattle.std.specs.Prelude.{◌≡◌, ℕ, List, Option, Some, None, nat_le, if◌then◌else◌}
use Rattle.fkv_disk.specs.Bytes.{bytes_at}
use Rattle.fkv_words.specs.Fields.{Reads}
use Rattle.fkv_manifest.specs.Newest.{slot_in}
use Rattle.fkv_record.specs.Layout.{shape_bytes}
use Rattle.fkv_record.specs.Places.{open_number}
use Rattle.fkv_looking.specs.declared.fronts.Front.{Front}
use Rattle.fkv_looking.specs.Slots.{IsSlotLook}

-- the slot of the greater number, and slot 0 where they are equal
abbrev pub in_force_by : Option ℕ → Option ℕ → Option ℕ
in_force_by None None = None
in_force_by (Some first) None = Some 0
in_force_by None (Some second) = Some 1
in_force_by (Some first) (Some second) = Some (if nat_le second first then 0 else 1)

-- which slot of an image is in force: of those whose gate is open the one whose commit's number is greater
abbrev pub in_force : List ℕ → Option ℕ
in_force image = in_force_by (open_number (slot_in image 512)) (open_number (slot_in image 1024))

-- the shape that the block spells, what both slots say, and which is in force
pub record IsFront (image : List ℕ) (front : Front) : Type 0 where
  pub block : Reads shape_bytes (bytes_at image 0 64) front.shape
  pub slot_0 : IsSlotLook (slot_in image 512) front.slots.0
  pub slot_1 : IsSlotLook (slot_in image 1024) front.slots.1
  pub newest : front.in_force ≡ in_force image
