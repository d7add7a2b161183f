-- What searches do, over each run.
use Rattle.fkv_index.specs.IndexWorld.{index_run, index_opening}
use Rattle.fkv_index.proofs.Runs.{run_sound, opening_sound}
use Rattle.fkv_index.proofs.Searches.{sound_writes, sound_lists, spoiled_end}
use Rattle.fkv_index.proofs.Purposes.{run_for, opening_for, sound_purposes, sound_full}
use Rattle.fkv_index.proofs.Contended.{run_contended}
use Rattle.fkv_index.proofs.laws.law_searches.Goals as goal

pub returns-clause-writes : goal.returns-clause-writes
returns-clause-writes c = λ p words lists actors events index.
    sound_writes (index_run (index_opening p words lists actors) events) (run_sound (index_opening p words lists actors) events (opening_sound p words lists actors index))

pub returns-clause-purposes : goal.returns-clause-purposes
returns-clause-purposes c = λ p words lists actors events index.
    sound_purposes (index_run (index_opening p words lists actors) events) (run_sound (index_opening p words lists actors) events (opening_sound p words lists actors index))
    (run_for (index_opening p words lists actors) events (opening_for p words lists actors))

pub returns-clause-full : goal.returns-clause-full
returns-clause-full c = λ p words lists actors events index.
    sound_full (index_run (index_opening p words lists actors) events) (run_sound (index_opening p words lists actors) events (opening_sound p words lists actors index))

pub returns-clause-contended : goal.returns-clause-contended
returns-clause-contended c = λ p words lists actors events index. run_contended p words lists actors events (opening_sound p words lists actors index)

pub returns-clause-lists : goal.returns-clause-lists
returns-clause-lists c = λ p words lists actors events index.
    sound_lists (index_run (index_opening p words lists actors) events) (run_sound (index_opening p words lists actors) events (opening_sound p words lists actors index))

pub returns-clause-spoiled : goal.returns-clause-spoiled
returns-clause-spoiled c = spoiled_end
