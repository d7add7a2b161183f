-- What the word of a record's header says once the record is decided: where the record leads, the mark of its version, and whether it was given up.
use Rattle.std.specs.Prelude.{◌≡◌, ℕ, ◌<◌, ◌≤◌, Bool, true, false}
use Rattle.fkv_marks.specs.Marks.{mark}
use Rattle.fkv_words.specs.declared.headers.Header.{Header}
use Rattle.fkv_words.specs.Layout.{header_word}
use Rattle.fkv_plane.specs.declared.places.RecordWord.{RecordWord}
use Rattle.fkv_plane.specs.declared.places.RecordWord.TheVariants as rec
use Rattle.law_log.specs.Chains.{Cell, Published, Dropped}
use Rattle.law_log.specs.Ghosts.{Log}

-- the word of a header that says where this record leads and the mark of its version, and is invalid or not
pub record IsHeaderOf (cell : Cell) (invalid : Bool) (word : ℕ) : Type 0 where
  pub header : Header
  pub spells : (let it = header in word ≡ header_word it)
  pub leads : (let it = header in it.previous.0 ≡ cell.previous)
  pub its_mark : (let it = header in it.version.0 ≡ mark cell.version)
  pub bit : (let it = header in it.invalid ≡ invalid)

-- a record that was given up says so, and leads below itself
pub record IsGivenUp (a : ℕ) (cell : Cell) (word : ℕ) : Type 0 where
  pub header : IsHeaderOf cell true word
  pub falls : cell.previous < a

-- From this address on, what stands for the header of a published record is that of a valid one, and of one that was given up that of an invalid one.
pub record HeadersShowLog (start : ℕ) (stands : ℕ → RecordWord → ℕ) (log : Log) : Type 0 where
  pub published : (a : ℕ) (cell : Cell) → start ≤ a → log.cells a ≡ Published cell → IsHeaderOf cell false (stands a rec.Header)
  pub dropped : (a : ℕ) (cell : Cell) → start ≤ a → log.cells a ≡ Dropped cell → IsGivenUp a cell (stands a rec.Header)
