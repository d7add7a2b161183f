-- The newest slot of an image: that of the opened bytes, or one of a commit of the life.
use Rattle.std.specs.Prelude.{◌≡◌, List, ℕ}
use Rattle.fkv_base.specs.declared.shapes.Shape.{Shape}
use Rattle.law_commit.specs.Below.fkv_manifest.Newest.{slot_in}
use Rattle.law_opening.specs.Below.fkv_newest.Manifest.{Suits}
use Rattle.law_opening.specs.Below.fkv_newest.Newest.{IsNewest, slot_place}
use Rattle.law_opening.specs.Below.fkv_newest.TheNewest.{Newest}
use Rattle.fkv_record.specs.declared.manifest_slots.ManifestSlot.{ManifestSlot}
use Rattle.fkv_record.specs.Manifest.{newest_bytes, newest_format, said_in}
use Rattle.fkv_record.specs.Places.{open_number}
use Rattle.law_commit.specs.Below.law_paper.Paper.Opened.{with_numbers}

-- the newest slot of the opened bytes, as it stands in an image: beside what the image's open slots name
abbrev pub newest_in : List ℕ → Newest → Newest
newest_in image n = with_numbers n (open_number (slot_in image 512), open_number (slot_in image 1024))

-- the newest slot of an image that stands at this index, and says this as a slot is written
abbrev pub named_in : List ℕ → (shape : Shape) (index : ℕ) (slot : ManifestSlot) → Suits shape index (newest_format slot) slot → Newest
named_in image its_shape its_index its_slot suits = record {
  shape = its_shape;
  index = its_index;
  format = newest_format its_slot;
  slot = its_slot;
  open_numbers = (open_number (slot_in image 512), open_number (slot_in image 1024));
  fits = suits;
}

-- the newest slot of an image stands at this index, and has the bytes of this one as a slot is written
pub record HasSlot (image : List ℕ) (index : ℕ) (slot : ManifestSlot) : Type 0 where
  pub in_force : IsNewest image index
  pub bytes : slot_in image (slot_place index) ≡ newest_bytes (said_in slot)
