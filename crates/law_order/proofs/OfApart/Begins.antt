-- As a life begins no session has a request.
use Rattle.std.proofs.Common.{[]}
use Rattle.law_commit.specs.Below.fkv_world.Runs.{run}
use Rattle.law_apart.specs.Apart.Rows.{AttemptApart, PendingApart}
use Rattle.law_commit.proofs.Below.law_local.OfSessions.Known.{opened_known}
use Rattle.law_order.specs.Apart.Lives.{AllApartBehind}
use Rattle.law_order.proofs.OfShifts.First.{none_first}
use Rattle.law_order.specs.Known.Begins.{BegunLife, home_of_world}
use Rattle.law_commit.specs.Below.law_refine.Events.GhostEvents.{life_ghosts}

pub begins_apart : (life : BegunLife) → AllApartBehind life.opening life.ghosts []
unfolding run
begins_apart life session s found = record {
  none = none_first life.opening;
  rows = opened_known (PendingApart (home_of_world life.opening) (life_ghosts life.opening life.ghosts []).log) (λ a. AttemptApart (home_of_world life.opening) life.opening.now.places (life_ghosts life.opening life.ghosts []).log a a.step) s
      (life.begins.world.sessions session s found);
}
