-- The world of a store that was opened from bytes.
use Rattle.std.specs.Prelude.{ℕ, List, length}
use Rattle.fkv_core.specs.Openings.{IsOpeningWorld, newest_commit}
use Rattle.law_paper.specs.Below.fkv_opening.Opened.{IsStoreOf}
use Rattle.law_paper.specs.Below.fkv_opening.TheOpened.{Opened}
use Rattle.law_refine.specs.Below.law_world.Standing.Opening.{IsBehind}
use Rattle.law_refine.specs.Below.fkv_world.World.{Now}

-- These bytes hold the store, and this is its world. They end behind the two slots and behind the triples of the checkpoint that the newest commit uses:
-- what is past their end reads as 0, so shorter ones may open too. Bytes that reach far end so.
pub record IsOpenedFrom (bytes : List ℕ) (o : Opened) (n : Now) : Type 0 where
  pub store : IsStoreOf bytes o
  pub world : IsOpeningWorld o n
  pub long : IsBehind o.shape (newest_commit o).checkpoint (length bytes)
