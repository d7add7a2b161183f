-- The premises of `law_paper` on an image that names a commit of its life, each as a part that is shown by itself.
use Rattle.std.specs.Prelude.{◌≡◌, ◌⊎◌, ◌<◌, ◌≤◌, ℕ, List}
use Rattle.law_opening.specs.Below.fkv_opening.Faults.{HasCheckpoint}
use Rattle.law_opening.specs.Below.fkv_opening.TheOpened.{Opened}
use Rattle.fkv_record.specs.declared.triples.Triple.{Triple}
use Rattle.law_commit.specs.Below.fkv_world.World.{Event, Now}
use Rattle.law_order.specs.Images.Read.{ReadsBack}
use Rattle.law_log.specs.Chains.{Cell, Published}
use Rattle.law_order.specs.Decided.Cut.{log_beside}
use Rattle.law_commit.specs.Below.law_paper.Paper.Images.{IsOrderly, IsRecent, ShowsLog}
use Rattle.law_commit.specs.Below.law_paper.Paper.Old.{GoesOnFrom, HasWhatCounted, LosesTheRest, WasSound}
use Rattle.law_commit.specs.Below.law_paper.Paper.Stands.{CoversChains}
use Rattle.law_order.specs.Recovered.Leaves.{Leaves, NamesNew, SaidOfLeft, SaidOfNamed, homes_of, log_named, log_then}

-- ---- the log's part
-- the log beside the life is in order
abbrev pub HasOrderlyLog : SaidOfLeft
HasOrderlyLog o n bytes events image leaves = IsOrderly (homes_of n) (log_beside o n bytes events)

-- The image shows the log from the opened tail on, whatever triples are read from it.
abbrev pub ShowsItsLog : SaidOfNamed
ShowsItsLog o n bytes events image leaves names = (triples : List Triple) → ShowsLog (homes_of n) o.tail.0 (log_named names triples) (log_beside o n bytes events)

-- If its checkpoint is newer than the opening's commit, the scan begins at or above the opened tail.
abbrev pub StartsAbove : SaidOfNamed
StartsAbove o n bytes events image leaves names = (let c = names.commit in o.number.0 < c.parts.checkpoint.number.0) → (triples : List Triple) → (let log = log_named names triples in o.tail.0 ≤ log.start)

-- ---- the checkpoint's part
-- The commit uses a checkpoint that this life has made. Its triples are read back, and cover the chains. From its first address on no record is older.
pub record UsesNew (o : Opened) (n : Now) (bytes : List ℕ) (events : List Event) (image : List ℕ) (names : NamesNew o n bytes events image) : Type 0 where
  pub newer : (let c = names.commit in o.number.0 < c.parts.checkpoint.number.0)
  pub triples : List Triple
  pub checkpoint : HasCheckpoint image names.newest triples
  pub covers : CoversChains (log_named names triples) (log_beside o n bytes events)
  pub recent : (let log = log_named names triples in IsRecent log.start log (log_beside o n bytes events))
  pub old_below : (a : ℕ) (cell : Cell) → (let log = log_beside o n bytes events in log.cells a ≡ Published cell) → (let log = log_named names triples in a < log.start) → (let log = log_named names triples in cell.version ≤ log.version)

-- The commit uses the checkpoint with which the store was opened. Its triples are those of then, and recovery meets again what the opening's met. What it meets
-- besides is no older than that.
pub record UsesOld (o : Opened) (n : Now) (bytes : List ℕ) (events : List Event) (image : List ℕ) (leaves : Leaves o n bytes events image) (names : NamesNew o n bytes events image) : Type 0 where
  pub checkpoint : (let store = leaves.store in HasCheckpoint image names.newest store.triples)
  pub goes_on : (let store = leaves.store in GoesOnFrom (log_then leaves) (log_named names store.triples))
  pub recent : (let store = leaves.store in let was = log_then leaves in IsRecent was.tail (log_named names store.triples) (log_beside o n bytes events))
  pub opened : WasSound (log_then leaves)
  pub before : HasWhatCounted (log_then leaves) (log_beside o n bytes events)
  pub loses : (let store = leaves.store in let log = log_named names store.triples in LosesTheRest log.lost (log_then leaves) (log_beside o n bytes events))

-- It uses the one or the other.
abbrev pub UsesItsCheckpoint : SaidOfNamed
UsesItsCheckpoint o n bytes events image leaves names = UsesNew o n bytes events image names ⊎ UsesOld o n bytes events image leaves names

-- ---- what was opened
-- If the image names a commit that uses the checkpoint with which the store was opened, its triples are those of then.
abbrev pub KeepsCheckpoint : SaidOfLeft
KeepsCheckpoint o n bytes events image leaves =
    (read : ReadsBack o n bytes events leaves.store image) → (let names = read.names in let named = names.named in let c = named.commit in c.parts.checkpoint ≡ n.keeper.last.checkpoint)
    → (let store = leaves.store in HasCheckpoint image read.newest store.triples)
