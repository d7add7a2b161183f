-- The index as squares, each as dark as its buckets are full.
use Rattle.std.specs.Prelude.{ℕ, ◌+◌, ◌-◌, ◌*◌, ◌/◌, ◌%◌, ◌==◌, min, nat_lt, nat_le, if◌then◌else◌, List, [], ◌∷◌, ◌++◌, codes, length}
use Rattle.std.specs.Fmt.{decimal}
use Rattle.std.specs.List.{slice_range}
use Rattle.fkv_picture.specs.Bars.{bar_text}
use Rattle.fkv_picture.specs.Each.{each_below}
use Rattle.fkv_picture.specs.Shares.{total}

-- the ink of buckets with so many entries, by the quarters of their slots
abbrev pub ink_of : ℕ → ℕ → List ℕ
ink_of entries slots = if entries == 0 then codes "b0" else if nat_lt slots entries then codes "b5" else if nat_le (4 * entries) slots then codes "b1" else if nat_le (2 * entries) slots then codes "b2" else if nat_le (4 * entries) (3 * slots) then codes "b3" else codes "b4"

-- the numbers from one place on and below another, as far as there are any
abbrev pub numbers_between : ℕ → ℕ → List ℕ → List ℕ
numbers_between first end numbers = slice_range numbers (min (length numbers) first) (min (length numbers) end)

-- buckets with so many entries, in words and as a square
unfoldable pub square_text : ℕ → ℕ → ℕ → ℕ → ℕ → ℕ → ℕ → List ℕ
square_text first end entries slots x y size =
    codes "<g><title>buckets from " ++ decimal first ++ codes " to " ++ decimal end ++ codes ": entries " ++ decimal entries ++ codes "</title>" ++ bar_text (ink_of entries slots) x y size size ++ codes "</g>" ++ 10 ∷ []

-- the square of a number, of an index whose buckets have these entries
abbrev pub square_text_at : ℕ → ℕ → ℕ → List ℕ → ℕ → List ℕ
square_text_at a_square columns size entries number = let first = number * a_square in let end = first + a_square in
    square_text first end (total (numbers_between first end entries)) (7 * a_square) (40 + number % columns * size) (446 + number / columns * size) (size - 1)

-- all squares, in their order
unfoldable pub squares_text : ℕ → ℕ → ℕ → ℕ → List ℕ → List ℕ
squares_text squares a_square columns size entries = each_below (square_text_at a_square columns size entries) squares
