-- What an image shows of the records of a log.
use Rattle.std.specs.Prelude.{◌≡◌, ◌⊎◌, ℕ, ◌+◌, ◌<◌, ◌≤◌, true, false}
use Rattle.fkv_marks.specs.Marks.{mark}
use Rattle.fkv_ops.specs.Values.{value_of}
use Rattle.law_log.specs.Chains.{Cell, Logged, Unborn, Published, Dropped, VersionsFall}
use Rattle.law_log.specs.Ghosts.{Log}
use Rattle.law_log.specs.Enabled.{AreChains}
use Rattle.fkv_record.specs.Begin.{from_or_none}
use Rattle.fkv_record.specs.declared.records.Record.{Record}
use Rattle.fkv_scan.specs.Log as scan
use Rattle.fkv_scan.specs.Log.{record_home}
use Rattle.fkv_scan.specs.Records.{Stands, next_of, losses_of}

-- The image has a published record at its address: valid, with its key, its value and what it leads to. It leads nowhere if that lies below the image's begin.
-- From an address on its header says the mark of the record's version. Below that it says no later one, since all that a store was opened with counts as of the opening's
-- version.
pub record ShowsCell (from : ℕ) (image : scan.Log) (a : ℕ) (cell : Cell) : Type 0 where
  pub held : Record
  pub stands : Stands image a held
  pub valid : (let x = held in x.header.invalid ≡ false)
  pub its_key : (let x = held in x.key.0 ≡ cell.key)
  pub its_value : (let x = held in value_of x.value ≡ cell.value)
  pub leads : next_of image held ≡ from_or_none image.begin cell.previous
  pub low : (let x = held in x.header.version.0 ≤ cell.version)
  pub same : from ≤ a → (let x = held in x.header.version.0 ≡ mark cell.version)

-- It has one that was given up: with the invalid bit, leading below itself, and with the mark of its version. That is the version after the commit's at most.
pub record ShowsDropped (image : scan.Log) (a : ℕ) (cell : Cell) : Type 0 where
  pub held : Record
  pub stands : Stands image a held
  pub invalid : (let x = held in x.header.invalid ≡ true)
  pub falls : next_of image held < a
  pub same : (let x = held in x.header.version.0 ≡ mark cell.version)
  pub young : cell.version ≤ image.version + 1

-- the record of an address is published, or was given up
abbrev pub IsDecided : Logged → Type 0
IsDecided logged = ((cell : Cell) × (logged ≡ Published cell)) ⊎ ((cell : Cell) × (logged ≡ Dropped cell))

-- The log is in order: its chains have just the published records of their homes, versions never rise down a chain, and nothing stands at address 0.
pub record IsOrderly (home : ℕ → ℕ) (g : Log) : Type 0 where
  pub chains : AreChains home g
  pub falls : (h : ℕ) → VersionsFall g.cells (g.chains h)
  pub none : g.cells 0 ≡ Unborn

-- The image shows the log, and its index has the log's homes. It shows each published record from its begin to its end. From an address on all is decided up to
-- that end, it shows what was given up, and no range loses a record.
pub record ShowsLog (home : ℕ → ℕ) (from : ℕ) (image : scan.Log) (g : Log) : Type 0 where
  pub homes : (x : Record) → record_home image.shape.bucket_bits x ≡ home x.key.0
  pub published : (a : ℕ) (cell : Cell) → g.cells a ≡ Published cell → image.begin ≤ a → a < image.tail → ShowsCell from image a cell
  pub decided : (a : ℕ) → from ≤ a → a < image.tail → IsDecided (g.cells a)
  pub dropped : (a : ℕ) (cell : Cell) → g.cells a ≡ Dropped cell → from ≤ a → a < image.tail → ShowsDropped image a cell
  pub none_lost : (a : ℕ) (x : Record) → from ≤ a → Stands image a x → losses_of image a x ≡ 0

-- From an address on the log has no record that is older than the oldest one that the image's scan takes. Of the versions that it takes no two have one mark.
pub record IsRecent (from : ℕ) (image : scan.Log) (g : Log) : Type 0 where
  pub some : 0 < image.oldest
  pub in_window : image.version ≤ image.oldest + 8189
  pub published : (a : ℕ) (cell : Cell) → g.cells a ≡ Published cell → from ≤ a → image.oldest ≤ cell.version
  pub dropped : (a : ℕ) (cell : Cell) → g.cells a ≡ Dropped cell → from ≤ a → image.oldest ≤ cell.version

-- The commit cuts the log at its version: what is published of versions up to it lies below its end, and below that nothing is of a version past the next one.
pub record IsCut (image : scan.Log) (g : Log) : Type 0 where
  pub covered : (a : ℕ) (cell : Cell) → g.cells a ≡ Published cell → cell.version ≤ image.version → a < image.tail
  pub young : (a : ℕ) (cell : Cell) → g.cells a ≡ Published cell → a < image.tail → cell.version ≤ image.version + 1
