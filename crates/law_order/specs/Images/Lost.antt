-- What the lost ranges in a commit's slot lose.
use Rattle.std.specs.Prelude.{◌≡◌, ◌⊎◌, ℕ, ◌≤◌, List}
use Rattle.law_commit.specs.Below.fkv_keeper.LastCommits.{lost_written}
use Rattle.law_opening.specs.Below.fkv_opening.Opened.{IsStoreOf}
use Rattle.law_opening.specs.Below.fkv_opening.TheOpened.{Opened}
use Rattle.law_opening.specs.Below.fkv_pairs.Pairs.{log_of_store}
use Rattle.fkv_record.specs.declared.lost_ranges.LostRange.{LostRange}
use Rattle.law_opening.specs.Below.fkv_scan.Records.{losses}
use Rattle.law_commit.specs.Below.fkv_world.World.{Now}
use Rattle.law_commit.specs.BegunCommits.{BegunCommit}
use Rattle.law_order.specs.Images.Fits.{NamesNone}
use Rattle.law_opening.specs.Log.OpeningLog.{opening_log}
use Rattle.law_commit.specs.Below.law_paper.Paper.Old.{LosesTheRest}

-- These ranges lose no record from an address on.
abbrev pub LosesNoneFrom : ℕ → List LostRange → Type 0
LosesNoneFrom from lost = (a version : ℕ) → from ≤ a → losses lost a version ≡ 0

-- A commit's slot loses none of its life's records. If the commit uses the checkpoint with which the store was opened, it loses just what the opening left out.
-- Else its checkpoint is newer than the opening's commit, and it loses nothing.
pub record LosesAsOpened (o : Opened) (n : Now) (bytes : List ℕ) (store : IsStoreOf bytes o) (c : BegunCommit) : Type 0 where
  pub none : LosesNoneFrom o.tail.0 (lost_written c.parts.lost)
  pub rest : c.parts.checkpoint ≡ n.keeper.last.checkpoint → LosesTheRest (lost_written c.parts.lost) (log_of_store bytes o store) (opening_log bytes o)
  pub uses : (c.parts.checkpoint ≡ n.keeper.last.checkpoint) ⊎ NamesNone o c
