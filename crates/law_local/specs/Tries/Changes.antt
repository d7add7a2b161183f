-- That a change in place is enabled where a try makes it.
use Rattle.std.specs.Prelude.{◌≡◌, ℕ, ◌≤◌}
use Rattle.fkv_map.specs.declared.history.HistoryEntry.{HistoryEntry}
use Rattle.law_log.specs.Chains.{Cell, Published}
use Rattle.law_log.specs.Ghosts.{Log, changed_by}
use Rattle.law_log.specs.Enabled.{IsChange, NoneAbove, NoneCopies}
use Rattle.fkv_ops.specs.declared.requests.Request.{Request}
use Rattle.fkv_ops.specs.declared.requests.Seen.{Seen}
use Rattle.fkv_ops.specs.Values.{value_of}
use Rattle.law_local.specs.Tries.TryRows.{key_in}

-- No copy overlaps the change: what the session has seen as mutable isn't fixed, no record of the home is of a later version than the request,
-- and nobody makes a record of a later version of this one.
pub record IsAlone (home : ℕ → ℕ) (log : Log) (request : Request) (seen : Seen) (at : ℕ) : Type 0 where
  pub not_fixed : log.fixed ≤ seen.offsets.read_only.0
  pub newest : NoneAbove log (home (key_in request)) request.version.0
  pub no_copies : NoneCopies home log at request.version.0

-- The record there is published, the change is one that may be made, and the word that is written stands for the value that it leaves.
pub record IsEnabledChange (home : ℕ → ℕ) (log : Log) (at word : ℕ) (entry : HistoryEntry) : Type 0 where
  pub cell : Cell
  pub its : log.cells at ≡ Published cell
  pub change : IsChange home log at entry cell
  pub value : value_of word ≡ (changed_by entry cell).value
