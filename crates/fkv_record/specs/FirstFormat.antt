-- What the two types of slots have in common, as long as there are two.
use Rattle.std.specs.Prelude.{◌≡◌}
use Rattle.fkv_record.specs.declared.manifest_slots.ManifestSlot.{ManifestSlot}
use Rattle.fkv_record.specs.declared.slots.Slot.{Slot}

-- a slot of every format says what one of the first layout does
pub record SaysSame (x : ManifestSlot) (y : Slot) : Type 0 where
  pub number : x.number ≡ y.number
  pub first : x.first ≡ y.first
  pub end : x.end ≡ y.end
  pub triples : x.triples ≡ y.triples
  pub area : x.area ≡ y.area
  pub points : x.points ≡ y.points
