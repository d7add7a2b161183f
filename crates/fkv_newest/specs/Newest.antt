-- The first two stages of recovery: whether an image is a store's, and what its newest manifest slot says.
use Rattle.std.specs.Prelude.{◌≡◌, ℕ, ◌+◌, ◌*◌, List, Some}
use Rattle.fkv_base.specs.declared.faults.Fault.{Fault}
use Rattle.fkv_base.specs.declared.faults.Fault.TheVariants.{NotAStore, Damaged}
use Rattle.fkv_base.specs.declared.faults.Damage.TheVariants.{Manifest}
use Rattle.fkv_base.specs.declared.shapes.Shape.{Shape}
use Rattle.fkv_disk.specs.Bytes.{bytes_at}
use Rattle.fkv_manifest.specs.Newest.{slot_in, newest}
use Rattle.fkv_record.specs.declared.formats.Format.{Format}
use Rattle.fkv_record.specs.declared.manifest_slots.ManifestSlot.{ManifestSlot}
use Rattle.fkv_record.specs.Layout.{shape_bytes}
use Rattle.fkv_record.specs.Manifest.{manifest_bytes}
use Rattle.fkv_record.specs.Places.{open_number}
use Rattle.fkv_newest.specs.declared.newest_slots.Newest.{Newest}
use Rattle.fkv_newest.specs.Manifest.{Suits}

-- the image begins with the block of this shape
abbrev pub HasShape : List ℕ → Shape → Type 0
HasShape image its_shape = shape_bytes its_shape ≡ bytes_at image 0 64

-- where the manifest slot with an index lies, 0 or 1
abbrev pub slot_place : ℕ → ℕ
slot_place index = 512 + 512 * index

-- The slot with this index is the newest: of those whose gate is open the one whose commit's number is greater, and slot 0 where they are equal.
abbrev pub IsNewest : List ℕ → ℕ → Type 0
IsNewest image index = newest image ≡ Some (slot_place index)

-- The image is a store's: it begins with the block of a shape, and a gate is open.
pub record IsStore (image : List ℕ) : Type 0 where
  pub shape : Shape
  pub block : HasShape image shape
  pub index : ℕ
  pub in_force : IsNewest image index

-- the bytes at the place with this index spell this slot in this format, and it is one of a store of this shape
pub record IsManifest (image : List ℕ) (shape : Shape) (index : ℕ) (format : Format) (slot : ManifestSlot) : Type 0 where
  pub stands : manifest_bytes (format, slot) ≡ Some (slot_in image (slot_place index))
  pub suits : Suits shape index format slot

-- the newest slot of a store isn't such a one, in any format
pub record IsManifestFault (image : List ℕ) (index : ℕ) : Type 0 where
  pub shape : Shape
  pub block : HasShape image shape
  pub in_force : IsNewest image index
  pub here : (format : Format) (slot : ManifestSlot) → IsManifest image shape index format slot → ⊥

-- a fault that the two stages find
abbrev pub IsNewestFault : List ℕ → Fault → Type 0
IsNewestFault image NotAStore = IsStore image → ⊥
IsNewestFault image (Damaged Manifest index) = IsManifestFault image index
IsNewestFault image other = ⊥

-- what an image tells: its shape, its newest slot, and what the open slots name
pub record IsNewestOf (image : List ℕ) (n : Newest) : Type 0 where
  pub block : HasShape image n.shape
  pub in_force : IsNewest image n.index
  pub manifest : IsManifest image n.shape n.index n.format n.slot
  pub open_0 : n.open_numbers.0 ≡ open_number (slot_in image 512)
  pub open_1 : n.open_numbers.1 ≡ open_number (slot_in image 1024)

-- Two images that show the same to these stages: the block of the shape, what the open slots name, and the bytes of the newest.
pub record ShowSame (image other : List ℕ) : Type 0 where
  pub block : bytes_at image 0 64 ≡ bytes_at other 0 64
  pub open_0 : open_number (slot_in image 512) ≡ open_number (slot_in other 512)
  pub open_1 : open_number (slot_in image 1024) ≡ open_number (slot_in other 1024)
  pub slot : (index : ℕ) → IsNewest image index → slot_in image (slot_place index) ≡ slot_in other (slot_place index)
