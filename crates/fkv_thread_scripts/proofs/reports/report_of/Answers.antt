-- Either map isn't made, or they aren't compared.
use Rattle.std.proofs.Common.{refl}
use Rattle.std.proofs.lemmas.Result.{err_from_is_err_and}
use Rattle.fkv_thread_scripts.proofs.Unapplied.{unmatched, unstored, untold}
use Rattle.fkv_thread_scripts.proofs.reports.report_of.Goals as goal

pub returns-in_err-told-clause-cause : goal.returns-in_err-told-clause-cause
returns-in_err-told-clause-cause c =
    let p = err_from_is_err_and c.from_residual.result c.from_residual.ensures.1 in
    rw (p.1, p.2) (untold c.args.opened.now.points.items c.deref.result.now c.args.logs.now c.args.pairs.now c.in_err-told.field-0.0 c.deref.ensures.value c.in_err-told.ensures.cause)

pub returns-in_err-stored-clause-cause : goal.returns-in_err-stored-clause-cause
returns-in_err-stored-clause-cause c =
    let p = err_from_is_err_and c.from_residual-in_err-stored.result c.from_residual-in_err-stored.ensures.1 in
    rw (p.1, p.2) (unstored c.args.opened.now.points.items c.args.logs.now c.args.pairs.now c.in_err-stored.field-0.0 c.in_err-stored.ensures.cause)

pub returns-in_err-keys-clause-cause : goal.returns-in_err-keys-clause-cause
returns-in_err-keys-clause-cause c =
    let p = err_from_is_err_and c.from_residual-in_err-keys.result c.from_residual-in_err-keys.ensures.1 in
    rw (p.1, p.2) (unmatched c.args.opened.now.points.items c.args.logs.now c.args.pairs.now _ c.in_err-keys.field-0.0 refl c.in_err-keys.ensures.err)
