-- The law, by what the guard's world shows of a life.
use Rattle.fkv_world.specs.Runs.{run, read_by_keeper}
use Rattle.law_world.specs.Guarded.GuardEvents.{guard_events}
use Rattle.law_world.specs.Guarded.Shows.{seen_by_guard}
use Rattle.law_world.proofs.OfGuarded.LoadedSince.{claim_loaded, life_safe_loaded, run_loaded}
use Rattle.law_world.proofs.OfGuarded.OfLives.{life_finds}
use Rattle.law_world.proofs.OfGuarded.Worlds.{life_shows}
use Rattle.law_world.proofs.guarded.law_world_once.Goals as goal

pub returns-clause-once : goal.returns-clause-once
returns-clause-once c = λ first start events opened. (life_shows first start events opened).sound.epochs.once

pub returns-clause-slots : goal.returns-clause-slots
returns-clause-slots c = λ first start events event opened.
    life_finds (seen_by_guard first start events) (guard_events (run first events).now (read_by_keeper (run first events)) event) (life_shows first start events opened).sound

pub returns-clause-seen : goal.returns-clause-seen
returns-clause-seen c = λ first start events event claim opened among. claim_loaded first start events event claim opened among

pub returns-clause-ran : goal.returns-clause-ran
returns-clause-ran c = λ first start events event action opened among. run_loaded first start events event action opened among

pub returns-clause-safe : goal.returns-clause-safe
returns-clause-safe c = λ first start events epoch opened safe. life_safe_loaded first start events epoch opened safe
