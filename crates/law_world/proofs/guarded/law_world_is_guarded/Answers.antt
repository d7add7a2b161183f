-- The law, by what the guard's world shows of a life.
use Rattle.fkv_flush.proofs.Shown.{covered}
use Rattle.fkv_world.specs.Runs.{run}
use Rattle.law_world.specs.Guarded.Shows.{seen_by_guard}
use Rattle.law_world.proofs.OfGuarded.OfLives.{event_changes_open, event_opens_next, event_writes_open, life_in_order, life_paged, life_rises}
use Rattle.law_world.proofs.OfGuarded.Outer.{write_outer}
use Rattle.law_world.proofs.OfGuarded.Worlds.{life_shows}
use Rattle.law_world.proofs.guarded.law_world_is_guarded.Goals as goal

pub returns-clause-shows : goal.returns-clause-shows
returns-clause-shows c = λ first start events opened. life_shows first start events opened

pub returns-clause-writes : goal.returns-clause-writes
returns-clause-writes c = λ first start events event opened permitted. event_writes_open (run first events).now event (seen_by_guard first start events) (write_outer first start events opened) permitted (life_shows first start events opened)

pub returns-clause-changes : goal.returns-clause-changes
returns-clause-changes c = λ first start events event opened permitted. event_changes_open first events event (seen_by_guard first start events) (write_outer first start events opened) permitted (life_shows first start events opened)

pub returns-clause-limit : goal.returns-clause-limit
returns-clause-limit c = λ first start events event opened. event_opens_next first events event (seen_by_guard first start events) (write_outer first start events opened) (life_shows first start events opened)

pub returns-clause-order : goal.returns-clause-order
returns-clause-order c = λ first start events opened. life_in_order (run first events).now (seen_by_guard first start events) (life_shows first start events opened)

pub returns-clause-covered : goal.returns-clause-covered
returns-clause-covered c = λ first start events opened. covered (seen_by_guard first start events) (life_shows first start events opened).sound

pub returns-clause-paged : goal.returns-clause-paged
returns-clause-paged c = λ first start events opened. life_paged first start events opened

pub returns-clause-rises : goal.returns-clause-rises
returns-clause-rises c = λ first start events later opened. life_rises first start events later opened
