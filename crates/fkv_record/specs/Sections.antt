-- The parts of a manifest slot.
use Rattle.std.specs.Prelude.{ℕ, List, ◌∷◌, length}
use Rattle.fkv_record.specs.declared.formats.Format.{Format}
use Rattle.fkv_record.specs.declared.formats.Format.TheVariants.{First, Second, Third, Fourth}
use Rattle.fkv_record.specs.declared.lost_ranges.LostRanges.{LostRanges}
use Rattle.fkv_record.specs.declared.points.Points.{Points}
use Rattle.fkv_record.specs.Manifest.{range_numbers}
use Rattle.fkv_record.specs.Numbers.{padded}
use Rattle.fkv_record.specs.Points.{serial_numbers}

-- how many points there are, and the points, in so many places
abbrev pub points_in : ℕ → Points → List ℕ
points_in places x = length x.serials.items ∷ padded places (serial_numbers x.serials.items)

-- how many lost ranges there are, and the ranges, in so many places
abbrev pub ranges_in : ℕ → LostRanges → List ℕ
ranges_in places x = length x.ranges.items ∷ padded places (range_numbers x.ranges.items)

-- which commit made the checkpoint: in the first format the slot's own, and else the one that is named
abbrev pub checkpoint_of : Format → ℕ → ℕ → ℕ
checkpoint_of First own named = own
checkpoint_of Second own named = named
checkpoint_of Third own named = named
checkpoint_of Fourth own named = named

-- where the log begins: in the first three formats at the first record, and else at the address that is named
abbrev pub begin_of : Format → ℕ → ℕ
begin_of First named = 1
begin_of Second named = 1
begin_of Third named = 1
begin_of Fourth named = named
