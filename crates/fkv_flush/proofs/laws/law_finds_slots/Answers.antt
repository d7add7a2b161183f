use Rattle.fkv_flush.specs.GuardWorld.{guard_run}
use Rattle.fkv_flush.specs.Guarded.{opening}
use Rattle.fkv_flush.proofs.GuardLaw.{run_sound, opening_sound}
use Rattle.fkv_flush.proofs.Slots.{finds_slots}
use Rattle.fkv_flush.proofs.laws.law_finds_slots.Goals as goal

pub returns : goal.returns
returns c = λ shape places actors words start events event o.
    finds_slots (guard_run (opening shape places actors words start) events) event (run_sound (opening shape places actors words start) events (opening_sound shape places actors words start o))
