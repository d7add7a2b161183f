-- Images that reach as far as what their newest slot names.
use Rattle.std.specs.Prelude.{ℕ, ◌+◌, ◌-◌, ◌*◌, ◌<◌, ◌≤◌, List, length}
use Rattle.fkv_base.specs.declared.shapes.Shape.{Shape}
use Rattle.fkv_record.specs.declared.manifest_slots.ManifestSlot.{ManifestSlot}
use Rattle.fkv_record.specs.Places.{area_place, record_place}

-- An image is long, where a store of this shape has this newest slot: it ends at or above the end of the two slots, of the last record of the commit's log,
-- where that has one, and of the checkpoint's triples, where it has some. Bytes past the end read as 0, so a shorter image may open too.
pub record IsLong (image : List ℕ) (shape : Shape) (slot : ManifestSlot) : Type 0 where
  pub slots : 1536 ≤ length image
  pub records : 1 < slot.end.0 → record_place shape (slot.end.0 - 1) + 24 ≤ length image
  pub triples : 0 < slot.triples → area_place shape slot.area + 16 * slot.triples ≤ length image
