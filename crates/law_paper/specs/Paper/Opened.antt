-- What stands of a log while the commit with which the store was opened is in force.
use Rattle.std.specs.Prelude.{◌≡◌, ℕ, ◌<◌, ◌≤◌, Option}
use Rattle.fkv_chains.specs.Entries.{Counts}
use Rattle.fkv_newest.specs.declared.newest_slots.Newest.{Newest}
use Rattle.law_log.specs.Chains.{Cell, Published}
use Rattle.law_log.specs.Ghosts.{Log}
use Rattle.fkv_record.specs.declared.records.Record.{Record}
use Rattle.fkv_scan.specs.Log as scan
use Rattle.fkv_scan.specs.Log.{record_home}
use Rattle.law_paper.specs.Paper.Images.{IsOrderly}
use Rattle.law_paper.specs.Paper.Old.{HasWhatCounted}
use Rattle.law_paper.specs.Paper.Values.{TellsCell}

-- The log is in order, of the homes of the opening's index. Below the opening's end it has what counted there, with the same keys and values. What is published
-- from there on is of later versions.
pub record StandsAsOpened (home : ℕ → ℕ) (was : scan.Log) (g : Log) : Type 0 where
  pub orderly : IsOrderly home g
  pub homes : (x : Record) → record_home was.shape.bucket_bits x ≡ home x.key.0
  pub before : HasWhatCounted was g
  pub tells : (h a : ℕ) (x : Record) → Counts was h a x → TellsCell (g.cells a) x
  pub later : (a : ℕ) (cell : Cell) → g.cells a ≡ Published cell → was.tail ≤ a → was.version < cell.version

-- a newest slot, beside which the open slots name these numbers
abbrev pub with_numbers : Newest → Option ℕ × Option ℕ → Newest
with_numbers n numbers = record n { open_numbers = numbers }
