-- Records whose bytes say that they weren't given up.
use Rattle.std.specs.Prelude.{ℕ, ◌^◌, ◌<◌, List}
use Rattle.fkv_base.specs.declared.shapes.Shape.{Shape}
use Rattle.fkv_disk.specs.Bytes.{bytes_at}
use Rattle.fkv_record.specs.Places.{number_at, record_place}

-- In these bytes the header at the place of a record has no bit above its version. One of those bits says that a record was given up.
abbrev pub IsValidThere : Shape → List ℕ → ℕ → Type 0
IsValidThere shape bytes a = number_at (bytes_at bytes (record_place shape a) 24) 0 < 2 ^ 61
