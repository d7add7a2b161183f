-- An operation in its turn is refused.
use Rattle.std.proofs.Common.{refl}
use Rattle.std.proofs.lemmas.Result.{err_from_is_err_and}
use Rattle.fkv_thread_scripts.proofs.Unapplied.{of_apply}
use Rattle.fkv_thread_scripts.proofs.maps.made_by.Goals as goal

pub returns-in_err-apply-clause-cause : goal.returns-in_err-apply-clause-cause
returns-in_err-apply-clause-cause c =
    let p = err_from_is_err_and c.from_residual.result c.from_residual.ensures.1 in
    rw (p.1, p.2) (of_apply c.args.ops.now c.loop-op.op-index _ c.loop-op-test.true _ c.in_err-apply.field-0.0 refl c.in_err-apply.ensures.cause c.in_err-apply.ensures.reserved)
