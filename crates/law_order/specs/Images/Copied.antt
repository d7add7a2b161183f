-- What a full commit of a life has written as its checkpoint.
use Rattle.std.specs.Prelude.{◌≡◌, ◌<◌, ◌^◌, ℕ, List, ◌++◌, Some, slice_get}
use Rattle.std.specs.List.{flat_map}
use Rattle.law_commit.specs.Below.fkv_checkpoint.Copied.{copied_after}
use Rattle.law_commit.specs.Below.fkv_checkpoint.Triples.{all_bytes}
use Rattle.law_commit.specs.Below.fkv_commit.Commit.{Commit}
use Rattle.law_commit.specs.Below.fkv_keeper.CheckpointLaws.{HasCopied}
use Rattle.law_commit.specs.Below.fkv_keeper.TheKeeping.TheVariants.{Waits}
use Rattle.fkv_record.specs.Layout.{triple_bytes}
use Rattle.fkv_record.specs.declared.triples.Triple.{Triple}
use Rattle.law_opening.specs.Below.fkv_scan.Log.{AreApart}
use Rattle.law_commit.specs.Below.fkv_world.OwnEvents.{keeper_events}
use Rattle.law_commit.specs.Below.fkv_world.Runs.{World}
use Rattle.law_commit.specs.Below.fkv_world.World.{Event}
use Rattle.law_commit.specs.BegunCommits.{BegunCommit}
use Rattle.law_commit.specs.Below.law_world.Keeper.Lives.{keeper_after, replies_copied}

-- This is the commit as the keeper has it in hand.
pub record IsOfCommit (hand : Commit) (c : BegunCommit) : Type 0 where
  pub number : c.number ≡ hand.number
  pub kind : c.parts.kind ≡ hand.kind
  pub first : c.parts.first ≡ hand.first
  pub end : c.parts.end ≡ hand.end

-- At a moment of the life the keeper had this commit in hand and waited, before its writes. The commit's triples are those of the copy that was finished then.
pub record WritesItsCopy (opening : World) (events : List Event) (c : BegunCommit) : Type 0 where
  pub later : List Event
  pub moment : List Event
  pub split : events ≡ later ++ moment
  pub waits : (keeper_after opening (keeper_events opening moment)).step ≡ Waits
  pub hand : Commit
  pub in_hand : (keeper_after opening (keeper_events opening moment)).commit ≡ Some hand
  pub its : IsOfCommit hand c
  pub copied : (let own = keeper_events opening moment in HasCopied opening.now.places (replies_copied opening own) (keeper_after opening own).copy)
  pub triples : (let own = keeper_events opening moment in c.parts.triples ≡ all_bytes (copied_after opening.now.places (replies_copied opening own)))

-- These triples stand one after another in what a commit has written. Each is of a bucket of the index, which has 2^bits, and no two are of one home.
pub record SpellsTriples (bits : ℕ) (c : BegunCommit) : Type 0 where
  pub triples : List Triple
  pub spelled : flat_map triple_bytes triples ≡ c.parts.triples
  pub in_index : (i : ℕ) (x : Triple) → slice_get triples i ≡ Some x → x.bucket < 2 ^ bits
  pub apart : AreApart triples
