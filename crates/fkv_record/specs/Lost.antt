-- How many lost ranges a slot can name.
use Rattle.std.specs.Prelude.{ℕ}

abbrev pub max_lost : ℕ
max_lost = 8
