-- Which bytes spell each thing on the device.
use Rattle.std.specs.Prelude.{ℕ, List, [], ◌∷◌, ◌++◌, length, codes}
use Rattle.std.specs.Int.{w16, w32, w64, to_le_bytes}
use Rattle.fkv_base.specs.declared.shapes.Shape.{Shape}
use Rattle.fkv_base.specs.declared.classes.StoreClass.{StoreClass}
use Rattle.fkv_base.specs.declared.classes.StoreClass.TheVariants.{Specified, Living}
use Rattle.fkv_words.specs.Layout.{header_word}
use Rattle.fkv_record.specs.declared.records.Record.{Record}
use Rattle.fkv_record.specs.declared.triples.Triple.{Triple}
use Rattle.fkv_record.specs.declared.points.Points.{Points}
use Rattle.fkv_record.specs.declared.slots.Slot.{Slot}
use Rattle.fkv_record.specs.Numbers.{spelled, padded}
use Rattle.fkv_record.specs.Points.{serial_numbers}

-- the three words of a record: header, key and value
abbrev pub record_numbers : Record → List ℕ
record_numbers x = header_word x.header ∷ x.key.0 ∷ x.value ∷ []

unfoldable pub record_bytes : Record → List ℕ
record_bytes x = spelled (record_numbers x)

-- the bucket in four bytes, the tag in two, two that are zero, and the address in eight
unfoldable pub triple_bytes : Triple → List ℕ
triple_bytes x = to_le_bytes w32 x.bucket ++ to_le_bytes w16 x.tag ++ 0 ∷ 0 ∷ [] ++ to_le_bytes w64 x.addr.0

-- the text that begins an image, by the class of its store
abbrev pub image_text : StoreClass → List ℕ
image_text Specified = codes "FKVSTOR1"
image_text Living = codes "FKVSTOR2"

abbrev pub shape_text : Shape → List ℕ
shape_text x = image_text x.class

-- the text, and the seven sizes
abbrev pub size_numbers : Shape → List ℕ
size_numbers x = x.bucket_bits ∷ x.page ∷ x.frames ∷ x.mutable ∷ x.sessions ∷ x.overflow ∷ x.disk_pages ∷ []

unfoldable pub shape_bytes : Shape → List ℕ
shape_bytes x = shape_text x ++ spelled (size_numbers x)

-- how many points there are, and the points, in 58 numbers
unfoldable pub point_numbers : Points → List ℕ
point_numbers x = padded 58 (length x.serials.items ∷ serial_numbers x.serials.items)

-- The layout of the first format, in 64 numbers: at byte 0 the gate, whose byte 165 says that the slot is open, and seven
-- zero bytes; at 8 the number, at 16 the first address, at 24 the end, at 32 how many triples, at 40 their area, at 48 how
-- many points, and from 56 on the points.
unfoldable pub first_layout : Slot → List ℕ
first_layout x = 165 ∷ x.number ∷ x.first.0 ∷ x.end.0 ∷ x.triples ∷ x.area ∷ point_numbers x.points

unfoldable pub slot_bytes : Slot → List ℕ
slot_bytes x = spelled (first_layout x)
