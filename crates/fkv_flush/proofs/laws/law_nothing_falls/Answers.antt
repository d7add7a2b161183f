use Rattle.std.proofs.Common.{subst}
use Rattle.fkv_plane.specs.declared.places.Places.{Places}
use Rattle.fkv_flush.specs.GuardWorld.{GuardWorld, guard_run}
use Rattle.fkv_flush.specs.Guarded.{opening}
use Rattle.fkv_flush.specs.GuardCalm.{AreOther, IsCalm}
use Rattle.fkv_flush.proofs.Calm.{same_stores, events_calm}
use Rattle.fkv_flush.proofs.GuardLaw.{run_sound, opening_sound}
use Rattle.fkv_flush.proofs.laws.law_nothing_falls.Goals as goal

pub returns : goal.returns
returns c = λ shape places actors words start events later o.
    let first : GuardWorld = opening shape places actors words start in
    let w : GuardWorld = guard_run first events in
    subst (λ (p : Places). IsCalm p.sessions (AreOther later) w.now.words (guard_run w later).now.words) (same_stores first events).1
    (events_calm w later (run_sound first events (opening_sound shape places actors words start o)))
