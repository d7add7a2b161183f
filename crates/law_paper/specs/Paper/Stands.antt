-- What stands of a log where a commit is in force that uses a checkpoint of the same life.
use Rattle.std.specs.Prelude.{◌≡◌, ℕ, ◌<◌, ◌≤◌}
use Rattle.law_log.specs.Begins.{LiveUpto}
use Rattle.law_log.specs.Chains.{Cell, Published}
use Rattle.law_log.specs.Ghosts.{Log}
use Rattle.law_log.specs.Trace.{IsIn}
use Rattle.fkv_scan.specs.Log as scan
use Rattle.fkv_scan.specs.Log.{AreApart, HasTriple}
use Rattle.law_paper.specs.Paper.Images.{IsCut, IsOrderly, IsRecent, ShowsLog}

-- The checkpoint covers the chains. Each triple from the begin on leads to a record of its home's chain below the commit's end, and no two triples are of one
-- home. Each record from the begin to below the first address has a triple of its home at or above it.
pub record CoversChains (image : scan.Log) (g : Log) : Type 0 where
  pub in_chain : (h t : ℕ) → HasTriple image h t → IsIn t (g.chains h)
  pub below : (h t : ℕ) → HasTriple image h t → t < image.tail
  pub apart : AreApart image.triples
  pub covers : (h a : ℕ) → IsIn a (g.chains h) → image.begin ≤ a → a < image.start → (t : ℕ) × HasTriple image h t × (a ≤ t)

-- The log is in order, the image shows it from the checkpoint's first address on, its records from there on are recent, and the commit cuts it. What is published
-- below the first address is of no later version, and the checkpoint covers the chains. Up to the commit's version the log does without its records below the
-- image's begin.
pub record StandsOnPaper (home : ℕ → ℕ) (image : scan.Log) (g : Log) : Type 0 where
  pub orderly : IsOrderly home g
  pub shows : ShowsLog home image.start image g
  pub recent : IsRecent image.start image g
  pub cut : IsCut image g
  pub some_start : 0 < image.start
  pub begins : image.begin ≤ image.start
  pub live : LiveUpto image.version image.begin home g
  pub old_below : (a : ℕ) (cell : Cell) → g.cells a ≡ Published cell → a < image.start → cell.version ≤ image.version
  pub triples : CoversChains image g
