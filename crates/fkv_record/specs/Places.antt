-- Where things lie in an image.
use Rattle.std.specs.Prelude.{ℕ, ◌+◌, ◌*◌, ◌^◌, List, Option, Some, None, take, drop, slice_index, ◌==◌, if◌then◌else◌}
use Rattle.std.specs.Int.{w64, from_le_bytes}
use Rattle.fkv_base.specs.declared.shapes.Shape.{Shape}

-- the number whose eight bytes begin at a place
abbrev pub number_at : List ℕ → ℕ → ℕ
number_at bytes at = from_le_bytes w64 (take 8 (drop at bytes))

-- the number of the commit that an open slot names, whatever else stands in the slot
abbrev pub open_number : List ℕ → Option ℕ
open_number bytes = if slice_index bytes 0 == 165 then Some (number_at bytes 8) else None

-- seven entries in each bucket, so at most so many triples in a checkpoint
abbrev pub most_triples : Shape → ℕ
most_triples shape = 7 * (2 ^ shape.bucket_bits + shape.overflow)

-- the two areas of triples follow the slots
abbrev pub area_place : Shape → ℕ → ℕ
area_place shape area = 1536 + 16 * most_triples shape * area

-- the log follows the areas; the place of its address 0 stays unused
abbrev pub record_place : Shape → ℕ → ℕ
record_place shape address = area_place shape 2 + 24 * address
