-- The law, by the calls of the guard's run.
use Rattle.law_world.proofs.OfGuarded.LifeCalls.{life_calls, life_flushed}
use Rattle.law_world.proofs.guarded.law_world_flushed_is_synced.Goals as goal

pub returns-clause-calls : goal.returns-clause-calls
returns-clause-calls c = life_calls

pub returns-clause-synced : goal.returns-clause-synced
returns-clause-synced c = life_flushed
