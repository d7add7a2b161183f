-- The index stays in order, and what is found is there.
use Rattle.fkv_index.specs.IndexWorld.{index_run, index_opening}
use Rattle.fkv_index.proofs.Runs.{run_sound, opening_sound, sound_answers, sound_spares, sound_reads, sound_slots, event_happened}
use Rattle.fkv_index.proofs.Losing.{sound_lost}
use Rattle.fkv_index.proofs.laws.law_one_entry.Goals as goal

pub returns-clause-index : goal.returns-clause-index
returns-clause-index c = λ p words lists actors events index.
    (run_sound (index_opening p words lists actors) events (opening_sound p words lists actors index)).its_index

pub returns-clause-answers : goal.returns-clause-answers
returns-clause-answers c = λ p words lists actors events index.
    sound_answers (index_run (index_opening p words lists actors) events) (run_sound (index_opening p words lists actors) events (opening_sound p words lists actors index))

pub returns-clause-contended : goal.returns-clause-contended
returns-clause-contended c = λ p words lists actors events index.
    sound_lost (index_run (index_opening p words lists actors) events) (run_sound (index_opening p words lists actors) events (opening_sound p words lists actors index))

pub returns-clause-spares : goal.returns-clause-spares
returns-clause-spares c = λ p words lists actors events index.
    sound_spares (index_run (index_opening p words lists actors) events) (run_sound (index_opening p words lists actors) events (opening_sound p words lists actors index))

pub returns-clause-reads : goal.returns-clause-reads
returns-clause-reads c = λ p words lists actors events index.
    sound_reads (index_run (index_opening p words lists actors) events) (run_sound (index_opening p words lists actors) events (opening_sound p words lists actors index))

pub returns-clause-slots : goal.returns-clause-slots
returns-clause-slots c = λ p words lists actors events index.
    sound_slots (index_run (index_opening p words lists actors) events) (run_sound (index_opening p words lists actors) events (opening_sound p words lists actors index))

pub returns-clause-grows : goal.returns-clause-grows
returns-clause-grows c = λ p words lists actors events index event.
    (event_happened (index_run (index_opening p words lists actors) events) event (run_sound (index_opening p words lists actors) events (opening_sound p words lists actors index))).grows
