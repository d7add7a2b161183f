-- Images that reach far.
use Rattle.std.specs.Prelude.{ℕ, List}
use Rattle.fkv_creating.specs.Long.{IsLong}
use Rattle.law_paper.specs.Below.fkv_newest.Newest.{IsNewestOf}
use Rattle.law_paper.specs.Below.fkv_newest.TheNewest.{Newest}

-- An image ends at or above the end of all that its newest slot names. One that somebody cut may open too, since bytes past the end read as 0. Once a later
-- write makes it longer a crash may leave anything there. A new store reaches far, and so does each image that a crash leaves of a life which began so.
pub record ReachesFar (image : List ℕ) : Type 0 where
  pub newest : Newest
  pub its : IsNewestOf image newest
  pub long : IsLong image newest.shape newest.slot
