-- What an image says if its records that count are those of a log up to the commit's version.
use Rattle.std.specs.Prelude.{◌≡◌, ◌↔◌, ℕ, ◌≤◌, Some}
use Rattle.fkv_base.specs.declared.numbers.Key.{Key}
use Rattle.fkv_base.specs.declared.numbers.Value.{Value}
use Rattle.fkv_chains.specs.Entries.{Counts}
use Rattle.fkv_ops.specs.Values.{value_of}
use Rattle.law_log.specs.Begins.{LiveUpto}
use Rattle.law_log.specs.Chains.{Cell, Logged, Published, version_at}
use Rattle.law_log.specs.Ghosts.{Log, shown_upto}
use Rattle.law_log.specs.Trace.{IsIn}
use Rattle.fkv_pairs.specs.Pairs.{HasValue}
use Rattle.fkv_record.specs.declared.records.Record.{Record}
use Rattle.fkv_scan.specs.Log as scan
use Rattle.fkv_scan.specs.Log.{record_home}
use Rattle.fkv_scan.specs.Scan.{Has}
use Rattle.law_paper.specs.Paper.Images.{IsOrderly}

-- a record of the image has the key and the value of the published one
pub record TellsCell (logged : Logged) (x : Record) : Type 0 where
  pub cell : Cell
  pub its : logged ≡ Published cell
  pub its_key : (let c = cell in x.key.0 ≡ c.key)
  pub its_value : (let c = cell in value_of x.value ≡ c.value)

-- What counts for a home is what its chain has from the begin on of versions up to the commit's, with the same keys and values. The log does without the rest.
pub record CountsAsLog (home : ℕ → ℕ) (image : scan.Log) (g : Log) : Type 0 where
  pub orderly : IsOrderly home g
  pub homes : (x : Record) → record_home image.shape.bucket_bits x ≡ home x.key.0
  pub counts : (h a : ℕ) → IsIn a (g.chains h) → version_at (g.cells a) ≤ image.version → image.begin ≤ a → Has (Counts image h) a
  pub stands : (h a : ℕ) (x : Record) → Counts image h a x → IsIn a (g.chains h) × (version_at (g.cells a) ≤ image.version) × (image.begin ≤ a)
  pub tells : (h a : ℕ) (x : Record) → Counts image h a x → TellsCell (g.cells a) x
  pub live : LiveUpto image.version image.begin home g

-- each key has in the image the value that the log shows of versions up to the commit's
abbrev pub ShowsUpto : (ℕ → ℕ) → scan.Log → Log → Type 0
ShowsUpto home image g = (key : Key) (value : Value) → (shown_upto home g image.version key.0 ≡ Some value.0) ↔ HasValue image key value
