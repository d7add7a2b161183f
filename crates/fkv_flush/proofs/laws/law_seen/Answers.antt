use Rattle.fkv_flush.specs.GuardPhase.{phase_tails}
use Rattle.fkv_flush.specs.GuardWorld.{GuardWorld, guard_run}
use Rattle.fkv_flush.specs.Guarded.{opening}
use Rattle.fkv_flush.proofs.GuardLaw.{run_sound, opening_sound, undecided_fresh}
use Rattle.fkv_flush.proofs.GuardSeeing.{keeps_seen}
use Rattle.fkv_flush.proofs.PhaseTails.{run_tails, keeps_tails, opening_tails}
use Rattle.fkv_flush.proofs.Undecided.{run_apart, opening_apart}
use Rattle.fkv_flush.proofs.laws.law_seen.Goals as goal

pub returns-clause-safe : goal.returns-clause-safe
returns-clause-safe c = λ shape places actors words start events o.
    (run_sound (opening shape places actors words start) events (opening_sound shape places actors words start o)).guard.safe

pub returns-clause-fresh : goal.returns-clause-fresh
returns-clause-fresh c = λ shape places actors words start events o.
    undecided_fresh (guard_run (opening shape places actors words start) events) (run_sound (opening shape places actors words start) events (opening_sound shape places actors words start o))

pub returns-clause-keeps : goal.returns-clause-keeps
returns-clause-keeps c = λ shape places actors words start events event o.
    keeps_seen (guard_run (opening shape places actors words start) events) event (run_sound (opening shape places actors words start) events (opening_sound shape places actors words start o))

pub returns-clause-apart : goal.returns-clause-apart
returns-clause-apart c = λ shape places actors words start events o.
    run_apart (opening shape places actors words start) events (opening_sound shape places actors words start o) (opening_apart shape places actors words start)

pub returns-clause-tails : goal.returns-clause-tails
returns-clause-tails c = λ shape places actors words start events o.
    let first : GuardWorld = opening shape places actors words start in
    let sound = opening_sound shape places actors words start o in
    keeps_tails (guard_run first events) (phase_tails first events) (run_sound first events sound) (run_tails first events sound (opening_tails shape places actors words start o))
