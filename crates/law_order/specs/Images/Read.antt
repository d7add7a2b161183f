-- The newest slot of an image is read back as the commit that it is of.
use Rattle.std.specs.Prelude.{◌≡◌, ◌⊎◌, ℕ, List}
use Rattle.law_commit.specs.Below.fkv_keeper.LastCommits.{slot_said}
use Rattle.law_opening.specs.Below.fkv_newest.Newest.{IsNewestOf}
use Rattle.law_opening.specs.Below.fkv_newest.TheNewest.{Newest}
use Rattle.law_opening.specs.Below.fkv_opening.Opened.{IsStoreOf}
use Rattle.law_opening.specs.Below.fkv_opening.TheOpened.{Opened}
use Rattle.fkv_record.specs.Manifest.{said_in}
use Rattle.law_commit.specs.Below.fkv_world.World.{Event, Now}
use Rattle.law_commit.specs.BegunCommits.{BegunCommit, commit_opened}
use Rattle.law_order.specs.Images.Fits.{FitsLife, NamesFit}
use Rattle.law_order.specs.Images.Left.{flushed_so_far}
use Rattle.law_order.specs.Images.Opened.{newest_in}

-- A slot says what the keeper writes for this commit, which fits its life.
pub record SaysCommit (o : Opened) (n : Now) (flushed : ℕ) (c : BegunCommit) (newest : Newest) : Type 0 where
  pub said : said_in newest.slot ≡ slot_said n.shape.sessions c.number c.parts.begin c.parts.end c.parts.checkpoint c.points c.parts.lost
  pub fits : FitsLife o n flushed c

-- Or it is the one with which the store was opened, of the commit of then.
pub record SaysOpened (o : Opened) (n : Now) (bytes : List ℕ) (store : IsStoreOf bytes o) (image : List ℕ) (c : BegunCommit) (newest : Newest) : Type 0 where
  pub is : c ≡ commit_opened n bytes
  pub was : newest ≡ newest_in image store.newest
  pub slot : newest.slot ≡ (let was = store.newest in was.slot)

pub record ReadsBack (o : Opened) (n : Now) (bytes : List ℕ) (events : List Event) (store : IsStoreOf bytes o) (image : List ℕ) : Type 0 where
  pub names : NamesFit o n bytes events image
  pub newest : Newest
  pub its : IsNewestOf image newest
  pub shape : (let is = newest in is.shape ≡ n.shape)
  pub says : (let it = names in let is = it.named in SaysCommit o n (flushed_so_far n bytes events) is.commit newest ⊎ SaysOpened o n bytes store image is.commit newest)
