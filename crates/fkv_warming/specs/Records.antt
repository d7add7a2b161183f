-- The words that memory is to have of records.
use Rattle.std.specs.Prelude.{ℕ, zero, suc, ◌+◌, ◌*◌, ◌%◌, ◌^◌, List, [], ◌∷◌, ◌++◌}
use Rattle.fkv_base.specs.declared.shapes.Shape.{Shape}
use Rattle.fkv_disk.specs.Bytes.{bytes_at}
use Rattle.fkv_record.specs.Begin.{from_or_none}
use Rattle.fkv_record.specs.Places.{number_at, record_place}

-- of the bytes of one: its header leads to where it leads in the image, or nowhere where that lies below the begin, and is of this version; its key and its value
-- are those of the image
abbrev pub record_words : List ℕ → ℕ → ℕ → List ℕ
record_words bytes begin number = (from_or_none begin (number_at bytes 0 % 2 ^ 48) + number * 2 ^ 48) ∷ number_at bytes 8 ∷ number_at bytes 16 ∷ []

-- of so many records of an image, from an address up
unfoldable pub records_from : List ℕ → Shape → ℕ → ℕ → ℕ → ℕ → List ℕ
records_from image shape begin number first zero = []
records_from image shape begin number first (suc n) = records_from image shape begin number first n ++ record_words (bytes_at image (record_place shape (first + n)) 24) begin number
