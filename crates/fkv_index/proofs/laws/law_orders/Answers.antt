-- The orders of slots over each run.
use Rattle.fkv_index.specs.IndexWorld.{index_run, index_opening}
use Rattle.fkv_index.proofs.Runs.{run_sound, opening_sound}
use Rattle.fkv_index.proofs.OrderSteps.{sound_filled, sound_tags, event_orders}
use Rattle.fkv_index.proofs.laws.law_orders.Goals as goal

pub returns-clause-filled : goal.returns-clause-filled
returns-clause-filled c = λ p words lists actors events index.
    sound_filled (index_run (index_opening p words lists actors) events) (run_sound (index_opening p words lists actors) events (opening_sound p words lists actors index))

pub returns-clause-tags : goal.returns-clause-tags
returns-clause-tags c = λ p words lists actors events index.
    sound_tags (index_run (index_opening p words lists actors) events) (run_sound (index_opening p words lists actors) events (opening_sound p words lists actors index))

pub returns-clause-moves : goal.returns-clause-moves
returns-clause-moves c = λ p words lists actors events index event.
    event_orders (index_run (index_opening p words lists actors) events) event (run_sound (index_opening p words lists actors) events (opening_sound p words lists actors index))
