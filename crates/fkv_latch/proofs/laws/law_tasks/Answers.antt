-- The law, by what each machine's state tells of its try.
use Rattle.fkv_latch.specs.LatchWorld.{latch_run}
use Rattle.fkv_latch.specs.Latched.{opening}
use Rattle.fkv_latch.specs.Tasks.{task_of}
use Rattle.fkv_latch.proofs.Sound.{run_sound, opening_sound}
use Rattle.fkv_latch.proofs.TaskRuns.{run_known, opening_known, known_true, known_rest, known_still}
use Rattle.fkv_latch.proofs.laws.law_tasks.Goals as goal

pub returns-clause-steps : goal.returns-clause-steps
returns-clause-steps c = λ places actors words events opened.
    let sound = opening_sound places actors words opened in
    known_true (latch_run (opening places actors words) events) (task_of (opening places actors words) events) (run_sound (opening places actors words) events sound)
    (run_known (opening places actors words) events sound (opening_known places actors words))

pub returns-clause-rest : goal.returns-clause-rest
returns-clause-rest c = λ places actors words events opened.
    known_rest (latch_run (opening places actors words) events) (task_of (opening places actors words) events)
    (run_known (opening places actors words) events (opening_sound places actors words opened) (opening_known places actors words))

pub returns-clause-still : goal.returns-clause-still
returns-clause-still c = λ places actors words events opened.
    known_still (latch_run (opening places actors words) events) (task_of (opening places actors words) events)
    (run_known (opening places actors words) events (opening_sound places actors words opened) (opening_known places actors words))
