-- The home of a key: its bucket and its tag.
use Rattle.std.specs.Prelude.{ℕ, ◌/◌, ◌%◌, ◌^◌}
use Rattle.fkv_base.specs.declared.numbers.Key.{Key}

-- the low bits of the key
abbrev pub bucket_of : Key → ℕ → ℕ
bucket_of key bits = key.0 % 2 ^ bits

-- the fifteen bits above them
abbrev pub tag_of : Key → ℕ → ℕ
tag_of key bits = key.0 / 2 ^ bits % 2 ^ 15
