-- How the buckets of an index are laid out as squares.
use Rattle.std.specs.Prelude.{ℕ, ◌+◌, ◌/◌, min}

-- there are two to so many squares: as many as buckets, but at most 1024
abbrev pub square_bits : ℕ → ℕ
square_bits bucket_bits = min bucket_bits 10

-- of so many squares two to so many stand side by side
abbrev pub columns_bits : ℕ → ℕ
columns_bits bits = min bits ((bits + 3) / 2)

-- how large a square is where so many stand side by side, so that all fit into 640 by 160
abbrev pub size_of : ℕ → ℕ
size_of columns = min (640 / columns) 160
