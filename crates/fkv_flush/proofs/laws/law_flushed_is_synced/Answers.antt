use Rattle.std.proofs.Common.{subst, []}
use Rattle.fkv_base.specs.declared.shapes.Shape.{Shape}
use Rattle.fkv_flush.specs.GuardWorld.{GuardWorld, guard_run, levels}
use Rattle.fkv_flush.specs.Guarded.{opening}
use Rattle.fkv_flush.specs.GuardFlushed.{IsSynced, stands, calls_made}
use Rattle.fkv_flush.proofs.GuardLaw.{run_sound, opening_sound}
use Rattle.fkv_flush.proofs.GuardFlushed.{steady, stood_open, same_shape, run_flushed, opening_flushed, is_synced}
use Rattle.fkv_flush.proofs.Still.{stands_still}
use Rattle.fkv_flush.proofs.laws.law_flushed_is_synced.Goals as goal

pub returns-clause-synced : goal.returns-clause-synced
returns-clause-synced c = λ shape places actors words start keeper events opened o alone permitted.
    let first : GuardWorld = opening shape places actors words start in
    let sound = opening_sound shape places actors words start o in
    let was = opening_flushed keeper shape places actors words start opened (stands first []) o in
    subst (λ (s : Shape). IsSynced s opened (calls_made first events) (stands first events) start (levels (guard_run first events)).flushed) (same_shape keeper start opened first sound was events)
    (is_synced keeper start (guard_run first events).now.shape opened (calls_made first events) (stands first events) (guard_run first events) (run_flushed keeper start opened first sound was events alone permitted))

pub returns-clause-steady : goal.returns-clause-steady
unfolding stands guard_run
returns-clause-steady c = λ shape places actors words start events event addr word o permitted below.
    let first : GuardWorld = opening shape places actors words start in
    steady (guard_run first events) event (stands first events) addr word (run_sound first events (opening_sound shape places actors words start o)) permitted below (stood_open first events addr word)

pub returns-clause-still : goal.returns-clause-still
returns-clause-still c = λ shape places actors words start events event addr word o below spares.
    stands_still (opening shape places actors words start) events event addr word (opening_sound shape places actors words start o) below spares
