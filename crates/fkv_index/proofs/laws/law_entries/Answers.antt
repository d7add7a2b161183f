-- What is found is the entry, and a publish moves one.
use Rattle.fkv_index.specs.IndexWorld.{index_run, index_opening}
use Rattle.fkv_index.proofs.Runs.{run_sound, opening_sound}
use Rattle.fkv_index.proofs.EntrySteps.{sound_entries, sound_publishes, event_entries}
use Rattle.fkv_index.proofs.laws.law_entries.Goals as goal

pub returns-clause-answers : goal.returns-clause-answers
returns-clause-answers c = λ p words lists actors events index.
    sound_entries (index_run (index_opening p words lists actors) events) (run_sound (index_opening p words lists actors) events (opening_sound p words lists actors index))

pub returns-clause-publishes : goal.returns-clause-publishes
returns-clause-publishes c = λ p words lists actors events index. sound_publishes (index_run (index_opening p words lists actors) events)

pub returns-clause-moves : goal.returns-clause-moves
returns-clause-moves c = λ p words lists actors events index event.
    event_entries (index_run (index_opening p words lists actors) events) event (run_sound (index_opening p words lists actors) events (opening_sound p words lists actors index))
