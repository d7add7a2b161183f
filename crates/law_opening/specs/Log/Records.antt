-- Which records of an image stand in the log, in the words of recovery.
use Rattle.std.specs.Prelude.{◌≡◌, ◌↔◌, ℕ, List}
use Rattle.fkv_base.specs.declared.numbers.Key.{Key}
use Rattle.fkv_base.specs.declared.numbers.Value.{Value}
use Rattle.law_paper.specs.Below.fkv_chains.Entries.{Counts}
use Rattle.fkv_map.specs.Map.{Map, as_numbers}
use Rattle.law_refine.specs.Below.fkv_ops.Values.{value_of}
use Rattle.law_log.specs.Chains.{Cell, Published}
use Rattle.law_log.specs.Ghosts.{Log}
use Rattle.law_log.specs.Trace.{IsIn}
use Rattle.law_paper.specs.Below.fkv_pairs.Pairs.{CountsAtHome}
use Rattle.fkv_record.specs.declared.records.Record.{Record}
use Rattle.law_paper.specs.Below.fkv_scan.Log as scan
use Rattle.law_paper.specs.Below.fkv_scan.Records.{next_of}
use Rattle.law_paper.specs.Below.fkv_scan.Scan.{Has}
use Rattle.std.specs.FinMap.{from_entries}

-- the record as one of the log, of the commit's version
abbrev pub cell_of : scan.Log → Record → Cell
cell_of log x = record { key = x.key.0; value = value_of x.value; version = log.version; previous = next_of log x }

-- a record that counts stands at this address, and the log has it
pub record IsCellOf (log : scan.Log) (a : ℕ) (cell : Cell) : Type 0 where
  pub held : Record
  pub counts : CountsAtHome log a held
  pub its : cell ≡ cell_of log held

-- The log has the records of an image that count, and no others: each in the chain of its home.
pub record HasWhatCounts (log : scan.Log) (ghosts : Log) : Type 0 where
  pub chains : (its_home a : ℕ) → IsIn a (ghosts.chains its_home) ↔ Has (Counts log its_home) a
  pub counted : (a : ℕ) (x : Record) → CountsAtHome log a x → ghosts.cells a ≡ Published (cell_of log x)
  pub published : (a : ℕ) (cell : Cell) → ghosts.cells a ≡ Published cell → IsCellOf log a cell

-- the map that has these pairs
abbrev pub map_of : List (Key × Value) → Map
map_of pairs = from_entries (as_numbers pairs)
