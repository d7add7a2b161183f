-- A sweep of the store of a life.
use Rattle.std.specs.Prelude.{◌≡◌, ◌<◌}
use Rattle.fkv_sweep.specs.Sweeping.{Sweeper}
use Rattle.law_commit.specs.Below.fkv_world.Runs.{World}

-- It has the store's places and as many buckets, and it ends above the address 0.
pub record SweepsStore (opening : World) (s : Sweeper) : Type 0 where
  pub places : s.places ≡ opening.now.places
  pub buckets : s.shape.bucket_bits ≡ opening.now.shape.bucket_bits
  pub its_end : 0 < s.to.0
