-- How the numbers of an image are spelled.
use Rattle.std.specs.Prelude.{ℕ, ◌-◌, List, ◌++◌, length, replicate}
use Rattle.std.specs.List.{flat_map}
use Rattle.std.specs.Int.{w64, to_le_bytes}

-- eight bytes for each number, the lowest first
abbrev pub spelled : List ℕ → List ℕ
spelled numbers = flat_map (to_le_bytes w64) numbers

-- the numbers, and zeros up to so many places
abbrev pub padded : ℕ → List ℕ → List ℕ
padded places numbers = numbers ++ replicate (places - length numbers) 0
