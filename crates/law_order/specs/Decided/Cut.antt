-- What `law_paper` wants of a commit that a life has begun, where an image names it: how it cuts the log, and what its triples are to the chains.
use Rattle.std.specs.List.{flat_map}
use Rattle.std.specs.Prelude.{◌≡◌, ◌⊎◌, ◌<◌, ◌≤◌, ◌+◌, ◌^◌, ℕ, List, Some, slice_get}
use Rattle.fkv_base.specs.declared.commits.CommitKind.TheVariants.{Full}
use Rattle.law_opening.specs.Below.fkv_core.Openings.{IsOpeningWorld, beginning}
use Rattle.law_opening.specs.Below.fkv_opening.Opened.{IsStoreOf}
use Rattle.law_opening.specs.Below.fkv_opening.TheOpened.{Opened}
use Rattle.fkv_record.specs.Layout.{triple_bytes}
use Rattle.fkv_record.specs.declared.triples.Triple.{Triple}
use Rattle.law_opening.specs.Below.fkv_scan.Log as scan
use Rattle.law_commit.specs.Below.fkv_world.World.{Event, Now}
use Rattle.law_log.specs.Chains.{Cell, Published}
use Rattle.law_log.specs.Ghosts.{Log}
use Rattle.law_log.specs.Trace.{IsIn}
use Rattle.law_opening.specs.Log.Lives.{ghosts_beside}
use Rattle.law_commit.specs.Below.law_paper.Paper.Images.{IsCut, IsDecided}
use Rattle.law_commit.specs.Below.law_paper.Paper.Stands.{CoversChains}
use Rattle.law_commit.specs.BegunCommits.{BegunCommit, life_begun}
use Rattle.law_commit.specs.Decided.Below.{CellsBelow}
use Rattle.law_commit.specs.Decided.Ended.{HasEnded, span_of, span_opened}
use Rattle.law_commit.specs.Versions.Cells.{CellsFrom}

-- the log beside a life
abbrev pub log_beside : Opened → Now → List ℕ → List Event → Log
log_beside o n bytes events = (let beside = ghosts_beside o n bytes events in beside.log)

-- so it is of each commit that has begun in a life of an opened store
abbrev pub OfEachBegun : (Opened → Now → List ℕ → List Event → BegunCommit → Type 0) → Type 0
OfEachBegun P =
    (bytes : List ℕ) (o : Opened) (n : Now) (events : List Event) (c : BegunCommit) → IsStoreOf bytes o → IsOpeningWorld o n → IsIn c (life_begun (beginning n bytes) events) → P o n bytes events c

-- the commit is the opening's
abbrev pub IsOpenings : Now → List ℕ → BegunCommit → Type 0
IsOpenings n bytes c = span_of c ≡ span_opened (beginning n bytes)

-- the commit has come through its three moments: the tail was its first address, then its end, and then it was written
abbrev pub HasComeToItsEnd : Opened → Now → List ℕ → List Event → BegunCommit → Type 0
HasComeToItsEnd o n bytes events c = HasEnded (beginning n bytes) events (span_of c) ⊎ IsOpenings n bytes c

-- from its end on each record is of a later version, one that was given up too
abbrev pub IsLaterFromEnd : Opened → Now → List ℕ → List Event → BegunCommit → Type 0
IsLaterFromEnd o n bytes events c = CellsFrom c.parts.end.0 (c.number.0 + 1) (log_beside o n bytes events)

-- below its end none is of a version past the next one
abbrev pub IsYoungBelowEnd : Opened → Now → List ℕ → List Event → BegunCommit → Type 0
IsYoungBelowEnd o n bytes events c = CellsBelow c.parts.end.0 (c.number.0 + 1) (log_beside o n bytes events)

-- The image names the number and the end of a commit.
pub record NamesEnd (image : scan.Log) (c : BegunCommit) : Type 0 where
  pub version : image.version ≡ c.number.0
  pub tail : image.tail ≡ c.parts.end.0

-- then the commit cuts the log, and from the opened tail on all is decided below its end
abbrev pub CutsItsLog : Opened → Now → List ℕ → List Event → BegunCommit → Type 0
CutsItsLog o n bytes events c = (image : scan.Log) → NamesEnd image c → IsCut image (log_beside o n bytes events)

abbrev pub DecidesItsLog : Opened → Now → List ℕ → List Event → BegunCommit → Type 0
DecidesItsLog o n bytes events c = (image : scan.Log) → NamesEnd image c → (a : ℕ) → o.tail.0 ≤ a → a < image.tail → IsDecided ((let log = log_beside o n bytes events in log.cells) a)

-- a newer commit ends no lower
abbrev pub EndsRise : Type 0
EndsRise =
    (bytes : List ℕ) (o : Opened) (n : Now) (events : List Event) (older newer : BegunCommit) → IsStoreOf bytes o → IsOpeningWorld o n → IsIn older (life_begun (beginning n bytes) events) → IsIn newer (life_begun (beginning n bytes) events)
    → older.number.0 < newer.number.0 → older.parts.end.0 ≤ newer.parts.end.0

-- ---- a checkpoint of this life
-- The scan starts at the commit's first address, and the image is of its version or a later one.
pub record StartsAt (image : scan.Log) (c : BegunCommit) : Type 0 where
  pub start : image.start ≡ c.parts.first.0
  pub version : c.number.0 ≤ image.version
  pub tail : c.parts.end.0 ≤ image.tail

-- what is published below that address is of no later version
abbrev pub IsOldBelow : Opened → Now → List ℕ → List Event → BegunCommit → Type 0
IsOldBelow o n bytes events c =
    ((image : scan.Log) (a : ℕ) (cell : Cell) → StartsAt image c → (let log = log_beside o n bytes events in log.cells) a ≡ Published cell → a < image.start → cell.version ≤ image.version) ⊎ IsOpenings n bytes c

-- from that address on none is of an earlier version than its own, one that was given up neither
abbrev pub IsRecentFromFirst : Opened → Now → List ℕ → List Event → BegunCommit → Type 0
IsRecentFromFirst o n bytes events c = CellsFrom c.parts.first.0 c.number.0 (log_beside o n bytes events) ⊎ IsOpenings n bytes c

-- A full commit writes these triples. Each is of a bucket of the index and leads below the commit's end, and no two are of one home. In an image that has them
-- they cover the chains.
pub record WritesCover (o : Opened) (n : Now) (bytes : List ℕ) (events : List Event) (c : BegunCommit) : Type 0 where
  pub triples : List Triple
  pub spelled : flat_map triple_bytes triples ≡ c.parts.triples
  pub in_index : (i : ℕ) (x : Triple) → slice_get triples i ≡ Some x → x.bucket < 2 ^ n.shape.bucket_bits
  pub below : scan.AreBelow c.parts.end.0 triples
  pub apart : scan.AreApart triples
  pub covers : (image : scan.Log) → image.triples ≡ triples → StartsAt image c → CoversChains image (log_beside o n bytes events)

abbrev pub CoversItsChains : Opened → Now → List ℕ → List Event → BegunCommit → Type 0
CoversItsChains o n bytes events c = c.parts.kind ≡ Full → WritesCover o n bytes events c ⊎ IsOpenings n bytes c
