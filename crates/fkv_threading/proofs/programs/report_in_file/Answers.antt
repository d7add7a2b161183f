-- The file of the path is made behind a mirror. It is closed behind that, and the file of the path is opened again.
use Rattle.std.proofs.Common.{Err, Ok}
use Rattle.fkv_base.specs.declared.faults.Fault.{Fault}
use Rattle.fkv_threading.proofs.Refused.{by_play, by_report}
use Rattle.fkv_threading.proofs.Written.{report_of_run}
use Rattle.fkv_threading.proofs.programs.report_in_file.Goals as goal

pub returns-in-Err-play_new-clause-err : goal.returns-in-Err-play_new-clause-err
returns-in-Err-play_new-clause-err g c = by_play _ _ _ _ c.args.lines.now c.args.sizes c.in-Ok-made.device c.in-Ok.shape c.in-Err-play_new.why c.in-Ok-made.ensures c.in-Ok.ensures.ok c.in-Err-play_new.ensures.err

pub returns-in-Ok-report_on-clause-ok : goal.returns-in-Ok-report_on-clause-ok
returns-in-Ok-report_on-clause-ok g c =
    let its = c.in-Ok-play_new.played in
    let again = c.in-Ok-opened_again.ahead in
    report_of_run {F = Fault} _ _ _ _ _ c.args.sizes (Ok c.in-Ok-report_on.report) c.in-Ok-made.device c.in-Ok.shape its.logs.items c.deref.result.now its.keeper.device its.keeper.finished again c.deref.ensures.value c.in-Ok-made.ensures c.in-Ok.ensures.ok c.in-Ok-play_new.ensures.ok
    c.in-Ok-opened_again.ensures c.in-Ok-report_on.ensures.ok

pub returns-clause-err : goal.returns-clause-err
returns-clause-err g c =
    let its = c.in-Ok-play_new.played in
    let again = c.in-Ok-opened_again.ahead in
    by_report _ _ _ _ c.args.lines.now c.args.sizes c.in-Ok-made.device c.in-Ok.shape its.logs.items c.deref.result.now its.keeper.device its.keeper.finished again (Err c.in-Err-report_on.why) c.deref.ensures.value c.in-Ok-made.ensures c.in-Ok.ensures.ok c.in-Ok-play_new.ensures.ok
    c.in-Ok-opened_again.ensures c.in-Err-report_on.ensures.err
