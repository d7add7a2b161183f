-- What was written for the newest commit that has begun.
use Rattle.std.specs.Prelude.{◌≡◌, List, [], ◌∷◌, Option, Some}
use Rattle.fkv_base.specs.declared.shapes.Shape.{Shape}
use Rattle.fkv_base.specs.declared.commits.CommitKind.{CommitKind}
use Rattle.fkv_base.specs.declared.commits.CommitKind.TheVariants.{Full, Log}
use Rattle.law_refine.specs.Below.fkv_keeper.CheckpointLaws.{BegunWith, begun_with}
use Rattle.law_refine.specs.Below.fkv_keeper.Keeping.{Finality}
use Rattle.law_refine.specs.Below.fkv_keeper.KeeperRun.{Writing}
use Rattle.law_refine.specs.Below.fkv_keeper.LastCommits.{slot_written}
use Rattle.law_refine.specs.Below.fkv_world.OwnEvents.{keeper_events}
use Rattle.law_refine.specs.Below.fkv_world.Runs.{World}
use Rattle.law_refine.specs.Below.fkv_world.World.{Event}
use Rattle.law_commit.specs.BegunCommits.{BegunCommit}

-- A full commit uses the checkpoint that it has made, which has its own number and first address. A log commit uses that of the newest finished
-- commit, and writes no triples.
abbrev pub UsesAsKind : CommitKind → BegunCommit → Finality → Type 0
UsesAsKind Full c last = (c.parts.checkpoint.number ≡ c.number) × (c.parts.checkpoint.first ≡ c.parts.first)
UsesAsKind Log c last = (c.parts.checkpoint ≡ last.checkpoint) × (c.parts.triples ≡ [])

-- The newest that has begun is of the kind that was asked for, with the number and the first address that its start has told. Its triples are those that
-- are written. The slot that is written names its number, its begin, its end and its points, the checkpoint that it uses, and its lost ranges.
pub record NewestIsWritten (shape : Shape) (told : Option BegunWith) (w : Writing) (last : Finality) (begun : List BegunCommit) : Type 0 where
  pub newest : BegunCommit
  pub older : List BegunCommit
  pub its : begun ≡ newest ∷ older
  pub started : told ≡ Some (record { kind = newest.parts.kind; number = newest.number; first = newest.parts.first })
  pub triples : w.first.triples ≡ newest.parts.triples
  pub slot : w.first.gate.slot
      ≡ slot_written shape.sessions newest.number newest.parts.begin newest.parts.end newest.parts.checkpoint newest.points newest.parts.lost
  pub checkpoint : UsesAsKind newest.parts.kind newest last

-- in a life: what the start of the newest commit has told
abbrev pub life_told : World → List Event → Option BegunWith
life_told opening events = begun_with opening.now.shape opening.now.places opening.now.keeper (keeper_events opening events)
