use Rattle.std.proofs.Common.{subst}
use Rattle.fkv_base.specs.declared.shapes.Shape.{Shape}
use Rattle.fkv_flush.specs.GuardLimit.{EndsPages}
use Rattle.fkv_flush.specs.GuardWorld.{GuardWorld, guard_run, levels}
use Rattle.fkv_flush.specs.Guarded.{event_writes, opening}
use Rattle.fkv_flush.proofs.GuardLaw.{run_sound, opening_sound, covered}
use Rattle.fkv_flush.proofs.GuardPages.{guards_limit}
use Rattle.fkv_flush.proofs.Limit.{run_paged, opening_paged}
use Rattle.fkv_flush.proofs.Calm.{same_stores}
use Rattle.fkv_flush.proofs.GuardUnwritten.{unwritten}
use Rattle.fkv_flush.proofs.GuardWrites.{guards_writes}
use Rattle.fkv_flush.proofs.Still.{not_written}
use Rattle.fkv_flush.proofs.laws.law_guarded.Goals as goal

pub returns-clause-writes : goal.returns-clause-writes
returns-clause-writes c = λ shape places actors words start events event o permitted.
    guards_writes (guard_run (opening shape places actors words start) events) event (run_sound (opening shape places actors words start) events (opening_sound shape places actors words start o)) permitted

pub returns-clause-limit : goal.returns-clause-limit
returns-clause-limit c = λ shape places actors words start events event o.
    guards_limit (guard_run (opening shape places actors words start) events) event (run_sound (opening shape places actors words start) events (opening_sound shape places actors words start o))

pub returns-clause-order : goal.returns-clause-order
returns-clause-order c = λ shape places actors words start events o.
    (run_sound (opening shape places actors words start) events (opening_sound shape places actors words start o)).guard.in_order

pub returns-clause-covered : goal.returns-clause-covered
returns-clause-covered c = λ shape places actors words start events o.
    covered (guard_run (opening shape places actors words start) events) (run_sound (opening shape places actors words start) events (opening_sound shape places actors words start o))

pub returns-clause-paged : goal.returns-clause-paged
returns-clause-paged c = λ shape places actors words start events o.
    let first : GuardWorld = opening shape places actors words start in
    subst (λ (s : Shape). EndsPages s (levels (guard_run first events)).limit) (same_stores first events).0
    (run_paged first events (opening_sound shape places actors words start o) (opening_paged shape places actors words start o))

pub returns-clause-nothing_else : goal.returns-clause-nothing_else
returns-clause-nothing_else c = λ w event place other. unwritten w event place (not_written (event_writes w.now event) place other)
