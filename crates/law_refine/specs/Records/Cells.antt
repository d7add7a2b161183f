-- What three words show of a record, and when the words that stand for records show the log's.
use Rattle.std.specs.Prelude.{◌≡◌, ℕ, ◌≤◌}
use Rattle.fkv_marks.specs.Marks.{mark}
use Rattle.law_world.specs.Below.fkv_ops.HeaderSaid.TheVariants.{Says}
use Rattle.law_world.specs.Below.fkv_ops.HeaderWords.{header_said}
use Rattle.law_world.specs.Below.fkv_ops.Values.{value_of}
use Rattle.law_log.specs.Chains.{Cell, Published}
use Rattle.law_log.specs.Ghosts.{Log}
use Rattle.fkv_plane.specs.declared.places.RecordWord.{RecordWord}
use Rattle.fkv_plane.specs.declared.places.RecordWord.TheVariants as rec

-- they are the words of this record: the header says the record before it and the mark of its version, and the others its key and its value
pub record ShowsCell (words : RecordWord → ℕ) (cell : Cell) : Type 0 where
  pub header : header_said (words rec.Header) ≡ Says (record { 0 = cell.previous }) (record { 0 = mark cell.version })
  pub key : words rec.Key ≡ cell.key
  pub value : value_of (words rec.Value) ≡ cell.value

-- from this address on, what stands for each published record shows it
abbrev pub StandsShowLog : ℕ → (ℕ → RecordWord → ℕ) → Log → Type 0
StandsShowLog start stands log = (a : ℕ) (cell : Cell) → start ≤ a → log.cells a ≡ Published cell → ShowsCell (stands a) cell
