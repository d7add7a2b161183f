-- A life of the order law begins with numbers that fit if its log does, and what is flushed in it is fixed.
use Rattle.std.proofs.Common.{◌≡◌, ℕ, ◌<◌, ◌≤◌, subst, arith, List}
use Rattle.law_commit.specs.Below.fkv_flush.GuardLevels.{levels_of}
use Rattle.law_commit.specs.Below.fkv_world.Runs.{run}
use Rattle.law_commit.specs.Below.fkv_world.World.{Event}
use Rattle.law_opening.proofs.OfChanges.Openings.{linked_log}
use Rattle.law_opening.specs.Changes.Fits.{CellsFit}
use Rattle.law_opening.specs.Changes.Laws.{BeginsFitting, BeginsLinked}
use Rattle.law_commit.proofs.Below.law_world.OfGuarded.Worlds.{life_shows}
use Rattle.law_order.specs.Known.Begins.{BegunLife, home_of_world}
use Rattle.law_commit.proofs.Below.law_refine.OfEvents.Fixed.{ghost_fixed}
use Rattle.law_commit.specs.Below.law_refine.Events.GhostEvents.{life_ghosts, safe_at}

some_start : (fixed safe start : ℕ) → 0 < fixed → fixed ≡ safe → safe ≡ start → 0 < start
some_start fixed safe start some one other = omega (arith, some, one, other)

pub begins_linked : (life : BegunLife) → BeginsLinked life.opening life.start life.lists life.ghosts
begins_linked life = record {
  world = life.begins.world;
  now = life.begins.store.now;
  some = some_start life.ghosts.log.fixed (safe_at life.opening.now) life.start life.begins.log.some_fixed life.begins.fixed life.begins.store.now.words.safe_read_only;
  index = life.begins.index;
  unborn = life.begins.unborn;
  reserves = life.begins.reserves;
  heads = life.begins.heads;
  linked = linked_log (home_of_world life.opening) life.ghosts.log life.begins.log.chains;
  warm = life.begins.warm;
}

pub begins_fitting : (life : BegunLife) → CellsFit life.ghosts.log → BeginsFitting life.opening life.start life.lists life.ghosts
begins_fitting life fits = record {
  linked = begins_linked life;
  store = life.begins.store;
  mailboxes = life.begins.mailboxes;
  floors = life.begins.floors;
  device = life.begins.device;
  fits = fits;
  no_history = life.begins.log.no_history;
}

-- what is flushed is fixed
pub flushed_fixed : (life : BegunLife) (events : List Event) (a : ℕ)
    → a < (levels_of (run life.opening events).now.words).flushed → a < (life_ghosts life.opening life.ghosts events).log.fixed
flushed_fixed life events a to =
    let shows = life_shows life.opening life.start events life.begins.store.now in
    let below : (levels_of (run life.opening events).now.words).flushed ≤ (levels_of (run life.opening events).now.words).safe_read_only =
    subst (λ (words : List ℕ). (levels_of words).flushed ≤ (levels_of words).safe_read_only) shows.words shows.sound.guard.in_order.flushed_below in
    let fixed : (life_ghosts life.opening life.ghosts events).log.fixed ≡ safe_at (run life.opening events).now = ghost_fixed life.opening life.start life.ghosts events life.begins.store.now life.begins.fixed in
    omega (arith, to, below, fixed)
