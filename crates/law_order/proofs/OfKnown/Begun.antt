-- Sessions whose store was just opened have no request and attempt none.
use Rattle.std.specs.Prelude.{[]}
use Rattle.law_commit.proofs.Below.law_local.OfSessions.Known.{opened_known}
use Rattle.law_commit.specs.Below.law_local.Tries.AttemptRows.{AttemptKnows, PendingKnows}
use Rattle.law_commit.specs.Below.fkv_world.Runs.{run}
use Rattle.law_commit.specs.Below.law_refine.Events.GhostEvents.{life_ghosts}
use Rattle.law_order.specs.Known.Begins.{BegunLife, home_of_world}
use Rattle.law_order.specs.Known.Knows.{AreKnown}

pub begun_known : (life : BegunLife) → AreKnown life.opening life.ghosts []
unfolding AreKnown run
begun_known life = λ session s there.
    opened_known (λ pending. PendingKnows (home_of_world life.opening) (life_ghosts life.opening life.ghosts []).log pending s.seen) (λ a. AttemptKnows (home_of_world life.opening) (life_ghosts life.opening life.ghosts []).log a) s
    (life.begins.world.sessions session s there)
