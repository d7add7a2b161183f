-- What a commit of a life names, so that a store of its shape can have its slot.
use Rattle.std.specs.Prelude.{◌≡◌, ◌⊎◌, ℕ, ◌<◌, ◌≤◌, List, [], length}
use Rattle.fkv_base.specs.Limits.{last_version}
use Rattle.fkv_base.specs.declared.classes.StoreClass.TheVariants.{Specified}
use Rattle.fkv_base.specs.declared.commits.CommitKind.TheVariants.{Full}
use Rattle.law_commit.specs.Below.fkv_keeper.LastCommits.{slot_place}
use Rattle.law_commit.specs.Below.fkv_manifest.Newest.{slot_in}
use Rattle.fkv_marks.specs.Window.{InWindow}
use Rattle.law_opening.specs.Below.fkv_opening.TheOpened.{Opened}
use Rattle.fkv_record.specs.Lost.{max_lost}
use Rattle.fkv_record.specs.Places.{most_triples}
use Rattle.law_commit.specs.Below.fkv_world.World.{Event, Now}
use Rattle.law_commit.specs.BegunCommits.{BegunCommit, commit_opened}
use Rattle.law_order.specs.Images.Left.{flushed_so_far}
use Rattle.law_order.specs.Images.Named.{NamesBegun, begun_so_far, slot_of}
use Rattle.law_log.specs.Trace.{IsIn}

-- It names the lost ranges with which the store was opened, all of them, and uses the checkpoint of then.
pub record NamesLost (n : Now) (c : BegunCommit) : Type 0 where
  pub lost : c.parts.lost ≡ n.keeper.lost
  pub checkpoint : c.parts.checkpoint ≡ n.keeper.last.checkpoint
  pub few : length c.parts.lost ≤ max_lost

-- It names no lost range, and uses a checkpoint that is newer than the opening's commit.
pub record NamesNone (o : Opened) (c : BegunCommit) : Type 0 where
  pub none : c.parts.lost ≡ []
  pub newer : o.number.0 < c.parts.checkpoint.number.0

-- It uses the checkpoint of then and names all those, or a newer one and names none.
abbrev pub NamesItsLost : Opened → Now → BegunCommit → Type 0
NamesItsLost o n c = NamesNone o c ⊎ NamesLost n c

-- A commit of a life is newer than the opening's, and not of the last version. Its checkpoint is its own or an older one, and it lies in the window of that. Its log ends at or above the opened
-- tail and the address where the scan begins, and at or below the address up to which the log is flushed. Its log begins where that of the opened store does, or
-- further on: not above the address where the scan begins, and in a specified store at the first record. A checkpoint that it has made has room. If it uses the
-- checkpoint with which the store was opened, it names the lost ranges of then, and its log begins where it did then.
pub record FitsLife (o : Opened) (n : Now) (flushed : ℕ) (c : BegunCommit) : Type 0 where
  pub few : c.number.0 < last_version
  pub newer : o.number.0 < c.number.0
  pub no_newer : c.parts.checkpoint.number.0 ≤ c.number.0
  pub in_window : InWindow n.shape.class c.parts.checkpoint.number.0 c.number.0
  pub some : 1 ≤ c.parts.checkpoint.first.0
  pub upwards : c.parts.checkpoint.first.0 ≤ c.parts.end.0
  pub later : o.tail.0 ≤ c.parts.end.0
  pub is_flushed : c.parts.end.0 ≤ flushed
  pub begins : o.begin.0 ≤ c.parts.begin.0
  pub some_begin : 1 ≤ c.parts.begin.0
  pub before_scan : c.parts.begin.0 ≤ c.parts.checkpoint.first.0
  pub whole : n.shape.class ≡ Specified → c.parts.begin.0 ≡ 1
  pub room : c.parts.kind ≡ Full → c.parts.checkpoint.triples ≤ most_triples n.shape
  pub lost : NamesItsLost o n c
  pub as_opened : c.parts.checkpoint ≡ n.keeper.last.checkpoint → c.parts.lost ≡ n.keeper.lost
  pub begins_as_opened : c.parts.checkpoint ≡ n.keeper.last.checkpoint → c.parts.begin ≡ o.begin

-- so does each that has begun, but the opening's
abbrev pub AllFit : Opened → Now → List ℕ → List Event → Type 0
AllFit o n bytes events = (c : BegunCommit) → IsIn c (begun_so_far n bytes events) → FitsLife o n (flushed_so_far n bytes events) c ⊎ (c ≡ commit_opened n bytes)

-- The newest slot of an image is that of a commit that has begun. This life has written it for a commit that fits, or it is the opened one.
pub record NamesFit (o : Opened) (n : Now) (bytes : List ℕ) (events : List Event) (image : List ℕ) : Type 0 where
  pub named : NamesBegun n bytes events image
  pub slot : (let is = named in let c = is.commit in let its = slot_in image (slot_place c.number) in
      ((its ≡ slot_of n.shape c) × FitsLife o n (flushed_so_far n bytes events) c) ⊎ ((c ≡ commit_opened n bytes) × (its ≡ slot_in bytes (slot_place n.keeper.last.number))))
