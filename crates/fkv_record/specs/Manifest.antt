-- Which bytes spell a manifest slot in each format.
use Rattle.std.specs.Prelude.{ℕ, List, [], ◌∷◌, ◌++◌, length, Bool, true, ◌&&◌, nat_le, ◌==◌, Option, Some, None, if◌then◌else◌, ◌≡◌, IsSome}
use Rattle.std.specs.List.{flat_map}
use Rattle.fkv_base.specs.declared.numbers.Addr.{Addr}
use Rattle.fkv_base.specs.declared.numbers.Serial.{Serial}
use Rattle.fkv_record.specs.declared.formats.Format.{Format}
use Rattle.fkv_record.specs.declared.formats.Format.TheVariants.{First, Second, Third, Fourth}
use Rattle.fkv_record.specs.declared.lost_ranges.LostRange.{LostRange}
use Rattle.fkv_record.specs.declared.manifest_slots.ManifestSlot.{ManifestSlot}
use Rattle.fkv_record.specs.Numbers.{spelled, padded}
use Rattle.fkv_record.specs.Points.{serial_numbers}

-- two numbers for each lost range: where it ends, and its version
abbrev pub range_numbers : List LostRange → List ℕ
range_numbers ranges = flat_map (λ range. range.to.0 ∷ range.version.0 ∷ []) ranges

-- What a slot says, as plain numbers: its commit's number, where recovery's scan begins and the commit's log ends, how many triples in which area, the
-- points, whose checkpoint it is, the lost ranges, and where the log begins.
pub record SlotSaid : Type 0 where
  pub number : ℕ
  pub first : Addr
  pub end : Addr
  pub triples : ℕ
  pub area : ℕ
  pub points : List Serial
  pub checkpoint : ℕ
  pub lost : List LostRange
  pub begin : Addr

abbrev pub said_in : ManifestSlot → SlotSaid
said_in x = record { number = x.number; first = x.first; end = x.end; triples = x.triples; area = x.area; points = x.points.serials.items; checkpoint = x.checkpoint; lost = x.lost.ranges.items; begin = x.begin }

-- What every format begins with. At byte 0 the gate, whose byte 165 says that the slot is open, and seven zero bytes; at 8 the
-- number, at 16 the first address, at 24 the end, at 32 how many triples, at 40 their area, at 48 how many points, and from 56
-- on the points.
abbrev pub front_said : SlotSaid → List ℕ
front_said s = 165 ∷ s.number ∷ s.first.0 ∷ s.end.0 ∷ s.triples ∷ s.area ∷ length s.points ∷ serial_numbers s.points

abbrev pub front_numbers : ManifestSlot → List ℕ
front_numbers x = front_said (said_in x)

-- what the later formats have behind the places of the points: whose checkpoint it is, how many lost ranges, and the ranges
abbrev pub lost_said : SlotSaid → List ℕ
lost_said s = s.checkpoint ∷ length s.lost ∷ range_numbers s.lost

abbrev pub lost_numbers : ManifestSlot → List ℕ
lost_numbers x = lost_said (said_in x)

-- Each layout has 64 numbers. The first format: zeros behind the points.
unfoldable pub first_numbers : ManifestSlot → List ℕ
first_numbers x = padded 64 (front_numbers x)

-- the second: places for eight points, at byte 120 (the 15th number) the checkpoint and the lost ranges, and at 504 the format
unfoldable pub second_numbers : ManifestSlot → List ℕ
second_numbers x = padded 63 (padded 15 (front_numbers x) ++ lost_numbers x) ++ 2 ∷ []

-- the third: places for 32 points, at byte 312 (the 39th number) the checkpoint and the lost ranges, and at 504 the format
unfoldable pub third_numbers : ManifestSlot → List ℕ
third_numbers x = padded 63 (padded 39 (front_numbers x) ++ lost_numbers x) ++ 3 ∷ []

-- the fourth: as the third, and at byte 456 (the 57th number), behind the places of the lost ranges, where the log begins
unfoldable pub fourth_numbers : ManifestSlot → List ℕ
fourth_numbers x = padded 63 (padded 57 (padded 39 (front_numbers x) ++ lost_numbers x) ++ x.begin.0 ∷ []) ++ 4 ∷ []

-- Slots are written in the third format as long as the log begins at its first record, and then in the fourth. So a store whose begin was never moved
-- has the bytes that it always had. What stands in the place of the begin, and in that of the format:
abbrev pub begin_said : SlotSaid → ℕ
begin_said s = if s.begin.0 == 1 then 0 else s.begin.0

abbrev pub format_said : SlotSaid → ℕ
format_said s = if s.begin.0 == 1 then 3 else 4

-- the numbers of a slot that says this, as it is written
abbrev pub newest_numbers : SlotSaid → List ℕ
newest_numbers s = padded 63 (padded 57 (padded 39 (front_said s) ++ lost_said s) ++ begin_said s ∷ []) ++ format_said s ∷ []

-- and the bytes
unfoldable pub newest_bytes : SlotSaid → List ℕ
newest_bytes s = spelled (newest_numbers s)

-- the format in which a slot is written
abbrev pub newest_format : ManifestSlot → Format
newest_format x = if x.begin.0 == 1 then Third else Fourth

-- Which slots a format can hold: the first two have places for eight points, and a slot of the first names no lost range and
-- no checkpoint but its own commit's. In the first three the log begins at its first record.
abbrev pub is_held : Format → ManifestSlot → Bool
is_held First x = nat_le (length x.points.serials.items) 8 && x.checkpoint == x.number && length x.lost.ranges.items == 0 && x.begin.0 == 1
is_held Second x = nat_le (length x.points.serials.items) 8 && x.begin.0 == 1
is_held Third x = x.begin.0 == 1
is_held Fourth x = true

-- what stands in the place of the checkpoint's number: nothing in the first format, which has no such place
abbrev pub named_checkpoint : Format → ManifestSlot → ℕ
named_checkpoint First x = 0
named_checkpoint Second x = x.checkpoint
named_checkpoint Third x = x.checkpoint
named_checkpoint Fourth x = x.checkpoint

-- what stands in the place of the begin: nothing in the first three formats
abbrev pub named_begin : Format → ManifestSlot → ℕ
named_begin First x = 0
named_begin Second x = 0
named_begin Third x = 0
named_begin Fourth x = x.begin.0

-- the layout of a format
abbrev pub layout : Format → ManifestSlot → List ℕ
layout First x = first_numbers x
layout Second x = second_numbers x
layout Third x = third_numbers x
layout Fourth x = fourth_numbers x

-- the numbers of a slot in a format, if that format can hold it
unfoldable pub manifest_numbers : Format × ManifestSlot → Option (List ℕ)
manifest_numbers x = if is_held x.0 x.1 then Some (layout x.0 x.1) else None

-- the bytes of a slot in a format, if that format can hold it
unfoldable pub manifest_bytes : Format × ManifestSlot → Option (List ℕ)
manifest_bytes x = if is_held x.0 x.1 then Some (spelled (layout x.0 x.1)) else None

-- no bytes are a slot of two formats, nor two slots of one
abbrev pub SpelledOnce : {A B : Type 0} → (A → Option B) → Type 0
SpelledOnce {A} spelling = (x y : A) → IsSome (spelling x) → spelling x ≡ spelling y → x ≡ y
