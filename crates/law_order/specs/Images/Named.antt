-- Which commit an image names: one whose gate this life has opened, or may have opened, or the one with which it began.
use Rattle.std.specs.Prelude.{◌≡◌, ◌⊎◌, ℕ, ◌≤◌, true, List, length, Some}
use Rattle.fkv_base.specs.declared.commits.CommitKind.TheVariants.{Full}
use Rattle.fkv_base.specs.declared.shapes.Shape.{Shape}
use Rattle.law_opening.specs.Below.fkv_core.Openings.{beginning}
use Rattle.law_commit.specs.Below.fkv_keeper.LastCommits.{slot_place, slot_written}
use Rattle.law_commit.specs.Below.fkv_keeper.Checkpoint.{Checkpoint}
use Rattle.law_commit.specs.Below.fkv_manifest.Newest.{newest, slot_in}
use Rattle.fkv_record.specs.Places.{most_triples}
use Rattle.law_commit.specs.Below.fkv_world.World.{Event, Now}
use Rattle.law_commit.specs.BegunCommits.{BegunCommit, commit_opened, life_begun}
use Rattle.law_log.specs.Trace.{IsIn}
use Rattle.law_commit.specs.Below.law_world.Standing.Opening.{IsBehind}
use Rattle.law_commit.specs.Below.law_world.Standing.Standing.{triples_in}

-- the commits whose gate's write this life has called, and the opening's
abbrev pub begun_so_far : Now → List ℕ → List Event → List BegunCommit
begun_so_far n bytes events = life_begun (beginning n bytes) events

-- the slot of a commit, as the keeper writes it
abbrev pub slot_of : Shape → BegunCommit → List ℕ
slot_of shape c = slot_written shape.sessions c.number c.parts.begin c.parts.end c.parts.checkpoint c.points c.parts.lost

-- these are the bytes of its slot: as they are written, or as the store was opened with them
abbrev pub AreSlotOf : Shape → List ℕ → BegunCommit → BegunCommit → List ℕ → Type 0
AreSlotOf shape opened first c bytes = (bytes ≡ slot_of shape c) ⊎ ((c ≡ first) × (bytes ≡ slot_in opened (slot_place first.number)))

-- a full commit has made this checkpoint, with its own number and first address, and these are the triples that it wrote
pub record IsMadeBy (c : BegunCommit) (its : Checkpoint) (stored : List ℕ) : Type 0 where
  pub full : c.parts.kind ≡ Full
  pub own : c.parts.checkpoint.number ≡ c.number
  pub first : c.parts.checkpoint.first ≡ c.parts.first
  pub checkpoint : c.parts.checkpoint ≡ its
  pub triples : c.parts.triples ≡ stored

-- one of these commits has made it, or the store was opened with it
abbrev pub AreTriplesOf : Shape → List ℕ → BegunCommit → List BegunCommit → Checkpoint → List ℕ → Type 0
AreTriplesOf shape opened first begun its triples = ((c : BegunCommit) × IsIn c begun × IsMadeBy c its triples) ⊎ ((its ≡ first.parts.checkpoint) × (triples ≡ triples_in shape opened its))

-- The newest slot of an image is that of a commit that has begun. No finished commit is newer, nor one whose open gate is synced. The triples of the checkpoint
-- that it uses stand, and the image reaches behind them.
pub record NamesBegun (n : Now) (bytes : List ℕ) (events : List Event) (image : List ℕ) : Type 0 where
  pub commit : BegunCommit
  pub begun : IsIn commit (begun_so_far n bytes events)
  pub current : (d : BegunCommit) → IsIn d (begun_so_far n bytes events) → d.is_finished ≡ true → (let c = commit in d.number.0 ≤ c.number.0)
  pub sealed : (d : BegunCommit) → IsIn d (begun_so_far n bytes events) → d.is_sealed ≡ true → (let c = commit in d.number.0 ≤ c.number.0)
  pub in_force : (let c = commit in newest image ≡ Some (slot_place c.number))
  pub slot : (let c = commit in AreSlotOf n.shape bytes (commit_opened n bytes) c (slot_in image (slot_place c.number)))
  pub triples : (let c = commit in AreTriplesOf n.shape bytes (commit_opened n bytes) (begun_so_far n bytes events) c.parts.checkpoint (triples_in n.shape image c.parts.checkpoint))
  pub fit : (let c = commit in c.parts.checkpoint.triples ≤ most_triples n.shape)
  pub behind : (let c = commit in IsBehind n.shape c.parts.checkpoint (length image))
