-- What is recovered is the store that an honest device holds. If it is refused, its image has the fault.
use Rattle.std.proofs.Common.{◌≡◌, List, subst, IfOk}
use Rattle.std.proofs.lemmas.Result.{err_from_is_err_and}
use Rattle.fkv_base.specs.declared.numbers.Key.{Key}
use Rattle.fkv_base.specs.declared.numbers.Value.{Value}
use Rattle.fkv_thread_scripts.specs.Keys.{IsKeysLine, map_of, told_map}
use Rattle.fkv_threading.proofs.Refused.{uncompared, unread, unrecovered}
use Rattle.fkv_threading.proofs.Written.{held, report_on}
use Rattle.fkv_threading.proofs.programs.report_on.Goals as goal

pub returns-clause-ok : goal.returns-clause-ok
returns-clause-ok g c =
    let same : c.deref.result.now ≡ c.in_ok-pairs.pairs.items = c.deref.ensures.value in
    report_on g.D.Device c.args.lines.now c.args.logs.now c.args.finished.now c.args.device.now c.report_of.result c.in_ok-opened.opened c.in_ok-pairs.pairs.items
    (held g.D.Device.honest g.D.Device.seen c.args.device.now c.recover.new.d c.in_ok-opened.opened c.in_ok-pairs.pairs.items c.in_ok-opened.ensures.ok c.in_ok-opened.ensures.quiet.premise c.in_ok-opened.ensures.quiet.same_bytes c.in_ok-pairs.ensures.ok)
    c.report_of.ensures.number c.report_of.ensures.points
    (subst (λ (ps : List (Key × Value)). IfOk c.report_of.result (λ report. IsKeysLine c.args.lines.now (told_map c.in_ok-opened.opened.points.items c.args.logs.now) (map_of ps) report.keys)) same c.report_of.ensures.keys)

pub returns-in_err-opened-clause-err : goal.returns-in_err-opened-clause-err
returns-in_err-opened-clause-err g c =
    let p = err_from_is_err_and c.from_residual.result c.from_residual.ensures.1 in
    rw (p.1, p.2) (unrecovered g.D.Device c.args.logs.now c.args.device.now c.recover.new.d c.in_err-opened.field-0.0 c.in_err-opened.ensures.err)

pub returns-in_err-pairs-clause-err : goal.returns-in_err-pairs-clause-err
returns-in_err-pairs-clause-err g c =
    let p = err_from_is_err_and c.from_residual-in_err-pairs.result c.from_residual-in_err-pairs.ensures.1 in
    rw (p.1, p.2) (unread g.D.Device c.args.logs.now c.args.device.now c.recover.new.d c.content.new.d c.in_err-pairs.field-0.0 c.in_ok-opened.ensures.quiet.no_fewer_failures c.in_err-pairs.ensures.err)

pub returns-clause-err : goal.returns-clause-err
returns-clause-err g c =
    uncompared g.D.Device c.args.logs.now c.args.device.now c.report_of.result c.in_ok-opened.opened c.in_ok-pairs.pairs.items c.deref.result.now
    (held g.D.Device.honest g.D.Device.seen c.args.device.now c.recover.new.d c.in_ok-opened.opened c.in_ok-pairs.pairs.items c.in_ok-opened.ensures.ok c.in_ok-opened.ensures.quiet.premise c.in_ok-opened.ensures.quiet.same_bytes c.in_ok-pairs.ensures.ok)
    c.deref.ensures.value c.report_of.ensures.cause
