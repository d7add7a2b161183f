-- That each image which a crash may leave holds the commit that its newest slot names.
use Rattle.std.specs.Prelude.{◌≡◌, ◌≤◌, ℕ, List}
use Rattle.fkv_map.specs.History.{point_of}
use Rattle.law_opening.specs.Below.fkv_newest.Newest.{IsNewestOf}
use Rattle.law_opening.specs.Below.fkv_newest.TheNewest.{Newest}
use Rattle.law_opening.specs.Below.fkv_opening.TheOpened.{Opened}
use Rattle.law_commit.specs.Below.fkv_world.World.{Event, Now}
use Rattle.law_order.specs.Images.Named.{NamesBegun}
use Rattle.law_opening.specs.Lives.Reaching.{ReachesFar}
use Rattle.law_order.specs.Decided.Cut.{log_beside}
use Rattle.law_commit.specs.Below.law_paper.Paper.Named.{HoldsCommit}
use Rattle.law_order.specs.Recovered.Leaves.{SaidOfLeft, SaidOfNamed, homes_of}

-- the image holds the commit of its life that it names
abbrev pub HoldsItsCommit : SaidOfNamed
HoldsItsCommit o n bytes events image leaves names = HoldsCommit (homes_of n) image names.newest (log_beside o n bytes events)

-- An image names a commit that has begun, or the opening's. Its newest slot says the commit's number and its points. The image holds the commit, and ends
-- behind all that it names.
pub record HoldsBegun (o : Opened) (n : Now) (bytes : List ℕ) (events : List Event) (image : List ℕ) : Type 0 where
  pub named : NamesBegun n bytes events image
  pub newest : Newest
  pub its : IsNewestOf image newest
  pub shape : (let is = newest in is.shape ≡ n.shape)
  pub number : (let it = named in let c = it.commit in let is = newest in let s = is.slot in s.number ≡ c.number.0)
  pub points : (let it = named in let c = it.commit in let is = newest in let s = is.slot in (session : ℕ) → point_of s.points.serials.items session ≡ point_of c.points session)
  pub since : (let is = newest in let s = is.slot in o.number.0 ≤ s.number)
  pub holds : HoldsCommit (homes_of n) image newest (log_beside o n bytes events)
  pub far : ReachesFar image

abbrev pub HoldsTheNamed : SaidOfLeft
HoldsTheNamed o n bytes events image leaves = HoldsBegun o n bytes events image
