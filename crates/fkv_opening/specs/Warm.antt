-- What memory has of the records of an image, as a store opens.
use Rattle.std.specs.Prelude.{◌≡◌, ℕ, ◌+◌, ◌-◌, ◌*◌, ◌%◌, ◌^◌, ◌<◌, ◌≤◌, List, slice_index}
use Rattle.fkv_base.specs.declared.shapes.Shape.{Shape}
use Rattle.fkv_disk.specs.Bytes.{bytes_at}
use Rattle.fkv_marks.specs.Marks.{mark}
use Rattle.fkv_record.specs.Begin.{from_or_none}
use Rattle.fkv_record.specs.Places.{number_at, record_place}
use Rattle.fkv_opening.specs.declared.opened_store.Opened.{Opened}

-- a record of the image as its three words: header, key and value
abbrev pub record_word : List ℕ → Shape → ℕ → ℕ → ℕ
record_word image its_shape a word = number_at (bytes_at image (record_place its_shape a) 24) (8 * word)

-- a word of a record that memory has
abbrev pub warm_word : Opened → ℕ → ℕ → ℕ
warm_word o a word = slice_index o.frames.items (3 * (a - o.warm.0) + word)

-- Memory has the key and the value as they are in the image. The header leads to where it leads there, or nowhere where that lies below the log's begin. It has
-- the mark of the commit's version: all that an opened store has counts as of that.
pub record IsWarm (image : List ℕ) (o : Opened) : Type 0 where
  pub header : (a : ℕ) → o.warm.0 ≤ a → a < o.tail.0 → warm_word o a 0 ≡ from_or_none o.begin.0 (record_word image o.shape a 0 % 2 ^ 48) + mark o.number.0 * 2 ^ 48
  pub key : (a : ℕ) → o.warm.0 ≤ a → a < o.tail.0 → warm_word o a 1 ≡ record_word image o.shape a 1
  pub value : (a : ℕ) → o.warm.0 ≤ a → a < o.tail.0 → warm_word o a 2 ≡ record_word image o.shape a 2
