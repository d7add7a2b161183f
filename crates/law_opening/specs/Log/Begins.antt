-- What the laws of the log beside a life suppose of the log with which the life begins.
use Rattle.std.specs.Prelude.{◌≡◌, []}
use Rattle.law_log.specs.Ghosts.{Ghosts}
use Rattle.law_refine.specs.Below.fkv_world.World.{Now}
use Rattle.law_refine.specs.Events.GhostEvents.{safe_at}
use Rattle.law_refine.specs.Events.Reserved.{IsUnbornFrom, ReservesNothing, tail_at}

-- Nothing is told or has taken effect, all below the safe read-only offset is fixed, nothing is reserved, and there is no record from the tail up.
pub record Begins (n : Now) (ghosts : Ghosts) : Type 0 where
  pub no_trace : ghosts.trace ≡ []
  pub no_history : ghosts.log.history ≡ []
  pub fixed : ghosts.log.fixed ≡ safe_at n
  pub reserves_nothing : ReservesNothing ghosts
  pub unborn : IsUnbornFrom (tail_at n) ghosts
