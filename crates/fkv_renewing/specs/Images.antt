-- The image of a renewed store.
use Rattle.std.specs.Prelude.{◌≡◌, ◌≢◌, ◌⊎◌, ℕ, ◌+◌, ◌<◌, ◌≤◌, List, [], ◌∷◌, length, drop, Some, None, slice_get}
use Rattle.fkv_base.specs.declared.numbers.Key.{Key}
use Rattle.fkv_base.specs.declared.numbers.Serial.{Serial}
use Rattle.fkv_base.specs.declared.numbers.Value.{Value}
use Rattle.fkv_base.specs.declared.shapes.Shape.{Shape}
use Rattle.fkv_disk.specs.Bytes.{byte_at, bytes_at, written}
use Rattle.fkv_newest.specs.declared.newest_slots.Newest.{Newest}
use Rattle.fkv_record.specs.declared.formats.Format.TheVariants.{Third}
use Rattle.fkv_record.specs.declared.manifest_slots.ManifestSlot.{ManifestSlot}
use Rattle.fkv_record.specs.declared.records.Record.{Record}
use Rattle.fkv_record.specs.Layout.{record_bytes}
use Rattle.fkv_record.specs.Places.{record_place}
use Rattle.fkv_renewing.specs.Room.{point_at}

-- A slot of commit 1: the log begins at address 1 and has a record for each pair, the checkpoint is its own and has no triples, each session has its point,
-- and no record is lost.
pub record IsRenewedSlot (shape : Shape) (its_points : List Serial) (pairs : List (Key × Value)) (slot : ManifestSlot) : Type 0 where
  pub number : slot.number ≡ 1
  pub first : slot.first.0 ≡ 1
  pub end : slot.end.0 ≡ length pairs + 1
  pub triples : slot.triples ≡ 0
  pub area : slot.area ≡ 1
  pub many : length slot.points.serials.items ≡ shape.sessions
  pub points : (session : ℕ) → point_at slot.points.serials.items session ≡ point_at its_points session
  pub checkpoint : slot.checkpoint ≡ 1
  pub lost : slot.lost.ranges.items ≡ []
  pub begin : slot.begin.0 ≡ 1

-- A store of this shape is renewed: such a slot, in the third format, stands at index 1 as the newest, and it alone is open.
pub record IsRenewed (shape : Shape) (points : List Serial) (pairs : List (Key × Value)) (n : Newest) : Type 0 where
  pub its_shape : n.shape ≡ shape
  pub index : n.index ≡ 1
  pub format : n.format ≡ Third
  pub slot : IsRenewedSlot shape points pairs n.slot
  pub open_0 : n.open_numbers.0 ≡ None
  pub open_1 : n.open_numbers.1 ≡ Some 1

-- the records stand in the image, from address 1 on
abbrev pub AreStored : List ℕ → Shape → List Record → Type 0
AreStored image shape records = (i : ℕ) (x : Record) → slice_get records i ≡ Some x → record_bytes x ≡ bytes_at image (record_place shape (i + 1)) 24

-- zeros stand over the block and both slots
pub record IsCleared (image : List ℕ) : Type 0 where
  pub long : 1536 ≤ length image
  pub zeros : (i : ℕ) → i < 1536 → byte_at image i ≡ 0

-- the bytes after four writes: the block, the log at its place, slot 1 from its ninth byte on, and its gate
unfoldable pub filled : List ℕ → List ℕ → ℕ → List ℕ → List ℕ → List ℕ
filled old block place log slot = written (written (written (written old 0 block) place log) 1032 (drop 8 slot)) 1024 (165 ∷ [])

-- no gate is open, or all is written
abbrev pub IsShutOrFilled : List ℕ → List ℕ → ℕ → List ℕ → List ℕ → List ℕ → Type 0
IsShutOrFilled old block place log slot image = ((byte_at image 512 ≢ 165) × (byte_at image 1024 ≢ 165)) ⊎ (image ≡ filled old block place log slot)
