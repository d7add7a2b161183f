-- The bytes of a damaged part of an image.
use Rattle.std.specs.Prelude.{◌≡◌, ℕ, ◌+◌, ◌*◌, ◌^◌, ◌<◌, List, [], Option, Some, None, Bool, false, ◌==◌, if◌then◌else◌}
use Rattle.fkv_base.specs.declared.faults.Damage.{Damage}
use Rattle.fkv_base.specs.declared.faults.Damage.TheVariants as damage
use Rattle.fkv_base.specs.declared.shapes.Shape.{Shape}
use Rattle.fkv_disk.specs.Bytes.{bytes_at}
use Rattle.fkv_manifest.specs.Newest.{slot_in}
use Rattle.fkv_newest.specs.Newest.{slot_place}
use Rattle.fkv_record.specs.Places.{area_place, most_triples, record_place}
use Rattle.fkv_looking.specs.declared.slot_looks.SlotLook.{SlotLook}
use Rattle.fkv_looking.specs.declared.slot_looks.SlotLook.TheVariants as slot_look

-- the area of triples that a slot names
abbrev pub area_of : SlotLook → ℕ
area_of slot_look.Closed = 0
area_of (slot_look.Unspelled number) = 0
area_of (slot_look.Commit look) = (let slot = look.slot in slot.area)

-- whether slot 0 is the one
abbrev pub is_first : Option ℕ → Bool
is_first None = false
is_first (Some index) = index == 0

-- the area that the slot in force names
abbrev pub area_in_force : Option ℕ → SlotLook → SlotLook → ℕ
area_in_force index first second = if is_first index then area_of first else area_of second

-- The bytes that stand where a damaged part lies, by the shape and the area of triples. A number that no part can have has no place.
abbrev pub ArePartBytes : List ℕ → Option Shape → ℕ → Damage → ℕ → List ℕ → Type 0
ArePartBytes image its_shape area damage.Manifest i bytes = i < 2 → bytes ≡ slot_in image (slot_place i)
ArePartBytes image its_shape area damage.Triple i bytes = (shape : Shape) → its_shape ≡ Some shape → area < 2 → i < most_triples shape → bytes ≡ bytes_at image (area_place shape area + 16 * i) 16
ArePartBytes image its_shape area damage.Record a bytes = (shape : Shape) → its_shape ≡ Some shape → a < 2 ^ 48 → bytes ≡ bytes_at image (record_place shape a) 24
ArePartBytes image its_shape area damage.Link a bytes = (shape : Shape) → its_shape ≡ Some shape → a < 2 ^ 48 → bytes ≡ bytes_at image (record_place shape a) 24
ArePartBytes image its_shape area damage.Full bucket bytes = bytes ≡ []
