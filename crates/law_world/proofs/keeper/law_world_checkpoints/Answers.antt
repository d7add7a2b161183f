-- By the law of checkpoints, of its own run.
use Rattle.std.specs.Prelude.{◌≡◌}
use Rattle.fkv_keeper.specs.Keeping.{come_to}
use Rattle.fkv_keeper.specs.CheckpointLaws.{AreWritesBegun, ChangesItsWords, CopiesOnce, DoesOneThing, HoldsCopy, IsBehindWait, IsBeingWritten, KeepsLists, SparesDurable}
use Rattle.fkv_keeper.specs.declared.keepers.Keeping.TheVariants.{Writes}
use Rattle.fkv_keeper.proofs.Shown.{each_move, run_holds, run_spares, run_stores, run_used, run_writes}
use Rattle.law_world.specs.Keeper.Lives.{begun_last, keeper_after, life_writing, replies_copied}
use Rattle.fkv_world.specs.OwnEvents.{keeper_events}
use Rattle.law_world.proofs.OfKeeper.OwnRun.{by_move, of_event, of_keeper, to_event, to_keeper}
use Rattle.law_world.proofs.keeper.law_world_checkpoints.Goals as goal

pub returns-clause-copied : goal.returns-clause-copied
returns-clause-copied c = λ opening events opened. of_keeper (λ s. HoldsCopy opening.now.places (replies_copied opening (keeper_events opening events)) s) opening events (run_holds opening.now.shape opening.now.places opening.now.keeper (keeper_events opening events) opened.keeper)

pub returns-clause-writes : goal.returns-clause-writes
returns-clause-writes c = λ opening events event before opened newest waits writes. of_event (λ s. AreWritesBegun opening.now.shape opening.now.places (replies_copied opening before) (begun_last opening before) (keeper_after opening before) s) opening events event before newest (run_writes opening.now.shape opening.now.places opening.now.keeper before event opened.keeper waits (to_event (λ s. s.step ≡ Writes) opening events event before newest writes))

pub returns-clause-used : goal.returns-clause-used
returns-clause-used c = λ opening events opened behind. of_keeper (λ s. IsBeingWritten opening.now.places (replies_copied opening (keeper_events opening events)) (begun_last opening (keeper_events opening events)) (life_writing opening events) s) opening events (run_used opening.now.shape opening.now.places opening.now.keeper (keeper_events opening events) opened.keeper (to_keeper (λ s. IsBehindWait (come_to s)) opening events behind))

pub returns-clause-copies : goal.returns-clause-copies
returns-clause-copies c = λ opening events event later before its. by_move (λ s. CopiesOnce opening.now.places (keeper_after opening before) event s) opening event before ((each_move opening.now.shape opening.now.places (keeper_after opening before) event).copies)

pub returns-clause-lists : goal.returns-clause-lists
returns-clause-lists c = λ opening events event later before its. by_move (λ s. KeepsLists (keeper_after opening before) s) opening event before ((each_move opening.now.shape opening.now.places (keeper_after opening before) event).lists)

pub returns-clause-parts : goal.returns-clause-parts
returns-clause-parts c = λ opening events event later before its. by_move (λ s. DoesOneThing (keeper_after opening before) event s) opening event before ((each_move opening.now.shape opening.now.places (keeper_after opening before) event).one)

pub returns-clause-stores : goal.returns-clause-stores
returns-clause-stores c = λ opening events opened. of_keeper (λ s. ChangesItsWords opening.now.shape opening.now.places s) opening events (run_stores opening.now.shape opening.now.places opening.now.keeper (keeper_events opening events) opened.keeper)

pub returns-clause-durable : goal.returns-clause-durable
returns-clause-durable c = λ opening events opened. of_keeper (λ s. SparesDurable opening.now.shape opening.now.places s) opening events (run_spares opening.now.shape opening.now.places opening.now.keeper (keeper_events opening events) opened.keeper)
