-- What tells the formats of a manifest slot apart.
use Rattle.std.specs.Prelude.{ℕ}
use Rattle.fkv_record.specs.declared.formats.Format.{Format}
use Rattle.fkv_record.specs.declared.formats.Format.TheVariants.{First, Second, Third, Fourth}

-- the number at byte 504, where the first format has a zero
abbrev pub format_number : Format → ℕ
format_number First = 0
format_number Second = 2
format_number Third = 3
format_number Fourth = 4

-- how many places for points there are
abbrev pub point_places : Format → ℕ
point_places First = 8
point_places Second = 8
point_places Third = 32
point_places Fourth = 32
