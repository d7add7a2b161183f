-- Bytes that have the records of a log.
use Rattle.std.specs.Prelude.{◌≡◌, ℕ, ◌<◌, List}
use Rattle.fkv_base.specs.declared.shapes.Shape.{Shape}
use Rattle.law_log.specs.Chains.{Cell, Published}
use Rattle.law_log.specs.Ghosts.{Log}
use Rattle.law_opening.specs.Changes.Fits.{CellsFit}
use Rattle.law_opening.specs.Changes.Images.{IsInImage}
use Rattle.law_order.specs.Swept.Valid.{IsValidThere}

-- These bytes have each published record of a log below an address, and say of none that it was given up. The log has numbers that fit in words.
pub record ShowLog (begin : ℕ) (shape : Shape) (seen : List ℕ) (log : Log) (flushed : ℕ) : Type 0 where
  pub image : (a : ℕ) (cell : Cell) → log.cells a ≡ Published cell → a < flushed → IsInImage begin shape seen a cell
  pub valid : (a : ℕ) (cell : Cell) → log.cells a ≡ Published cell → a < flushed → IsValidThere shape seen a
  pub fits : CellsFit log
