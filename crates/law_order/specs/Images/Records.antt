-- What an image shows of the log beside a life.
use Rattle.std.specs.Prelude.{◌≡◌, ℕ, ◌+◌, ◌<◌, ◌≤◌, true, List}
use Rattle.fkv_marks.specs.Marks.{mark}
use Rattle.law_opening.specs.Below.fkv_opening.TheOpened.{Opened}
use Rattle.fkv_record.specs.declared.records.Record.{Record}
use Rattle.law_opening.specs.Below.fkv_scan.Log as scan
use Rattle.law_opening.specs.Below.fkv_scan.Records.{Stands}
use Rattle.law_commit.specs.Below.fkv_world.World.{Event, Now}
use Rattle.law_order.specs.Images.Left.{flushed_so_far}
use Rattle.law_log.specs.Chains.{Cell, Published, Dropped}
use Rattle.law_opening.specs.Log.Lives.{ghosts_beside}
use Rattle.law_commit.specs.Below.law_paper.Paper.Images.{ShowsCell, ShowsDropped}

-- The image has a record that was given up as the log has it: with the invalid bit, the mark of its version, and with what it leads to, which is below itself.
pub record ShowsGivenUp (image : scan.Log) (a : ℕ) (cell : Cell) : Type 0 where
  pub held : Record
  pub stands : Stands image a held
  pub invalid : (let x = held in x.header.invalid ≡ true)
  pub same : (let x = held in x.header.version.0 ≡ mark cell.version)
  pub leads : (let x = held in x.header.previous.0 ≡ cell.previous)
  pub falls : cell.previous < a

-- From its begin to below the flushed offset it shows each published record, those that the store was opened with too, and each that was given up in the life. So recovery passes over
-- that, if its version is at most the one after the commit's.
pub record ShowsFlushed (o : Opened) (n : Now) (bytes : List ℕ) (events : List Event) (image : scan.Log) : Type 0 where
  pub published : (a : ℕ) (cell : Cell) → (let beside = ghosts_beside o n bytes events in beside.log.cells a ≡ Published cell) → image.begin ≤ a → a < flushed_so_far n bytes events → ShowsCell o.tail.0 image a cell
  pub given_up : (a : ℕ) (cell : Cell) → (let beside = ghosts_beside o n bytes events in beside.log.cells a ≡ Dropped cell) → o.tail.0 ≤ a → a < flushed_so_far n bytes events → ShowsGivenUp image a cell
  pub dropped : (a : ℕ) (cell : Cell) → (let beside = ghosts_beside o n bytes events in beside.log.cells a ≡ Dropped cell) → o.tail.0 ≤ a → a < flushed_so_far n bytes events → cell.version ≤ image.version + 1 → ShowsDropped image a cell
