-- By the law of the commit that stands, of its own run.
use Rattle.std.specs.Prelude.{◌≡◌, false}
use Rattle.fkv_keeper.specs.declared.keepers.Keeping.TheVariants.{Finishes}
use Rattle.fkv_keeper.specs.Keeping.{come_to}
use Rattle.fkv_record.specs.Places.{number_at}
use Rattle.law_world.specs.Standing.Standing.{IsOneInForce, TriplesStand, is_at_writes}
use Rattle.law_world.proofs.OfStanding.Runs.{run_at, run_named, run_stands, run_written}
use Rattle.law_world.specs.Keeper.Lives.{is_life_writing, life_standing, life_writing}
use Rattle.fkv_world.specs.OwnEvents.{keeper_events}
use Rattle.law_world.proofs.OfKeeper.OwnRun.{of_keeper, to_keeper}
use Rattle.law_world.proofs.OfKeeper.OwnCalls.{opened_stays, own_calls}
use Rattle.law_world.proofs.OfKeeper.OneCommit.{begins_so, image_left}
use Rattle.law_world.proofs.keeper.law_world_one_commit_stands.Goals as goal

pub returns-clause-calls : goal.returns-clause-calls
returns-clause-calls c = λ opening events opened. own_calls opening events opened

pub returns-clause-opened : goal.returns-clause-opened
returns-clause-opened c = λ opening events. opened_stays opening events

pub returns-clause-begins : goal.returns-clause-begins
returns-clause-begins c = λ opening events event before life newest waits writes. begins_so opening events event before life newest waits writes

pub returns-clause-stands : goal.returns-clause-stands
returns-clause-stands c = λ opening events image life left. of_keeper (λ s. IsOneInForce (is_life_writing opening events) s.last (life_standing opening events) (life_writing opening events).first image) opening events ((run_stands opening.now.shape opening.now.places opening.past.opened opening.now.keeper life.told (keeper_events opening events) image life.in_turn (image_left opening events image life.opened left)).0)

pub returns-clause-named : goal.returns-clause-named
returns-clause-named c = λ opening events life. of_keeper (λ s. number_at (life_standing opening events).slot 8 ≡ s.last.number.0) opening events (run_named opening.now.shape opening.now.places opening.past.opened opening.now.keeper life.told (keeper_events opening events) life.in_turn)

pub returns-clause-writes : goal.returns-clause-writes
returns-clause-writes c = λ opening events life works. of_keeper (λ s. is_life_writing opening events ≡ is_at_writes (come_to s)) opening events (run_at opening.now.shape opening.now.places opening.past.opened opening.now.keeper life.told (keeper_events opening events) life.in_turn (to_keeper (λ s. s.is_broken ≡ false) opening events works))

pub returns-clause-written : goal.returns-clause-written
returns-clause-written c = λ opening events image life left finishes. run_written opening.now.shape opening.now.places opening.past.opened opening.now.keeper life.told (keeper_events opening events) image life.in_turn (image_left opening events image life.opened left) (to_keeper (λ s. s.step ≡ Finishes) opening events finishes)

pub returns-clause-triples : goal.returns-clause-triples
returns-clause-triples c = λ opening events image life left. of_keeper (λ s. TriplesStand opening.now.shape s.last.checkpoint (life_standing opening events) image) opening events ((run_stands opening.now.shape opening.now.places opening.past.opened opening.now.keeper life.told (keeper_events opening events) image life.in_turn (image_left opening events image life.opened left)).1)
