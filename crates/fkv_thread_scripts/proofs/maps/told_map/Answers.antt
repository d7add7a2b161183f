-- The operations that are applied are those that sessions were told.
use Rattle.std.proofs.Common.{◌≡◌, ◌∙◌, List, IfErr, IfOk, refl, subst}
use Rattle.std.proofs.lemmas.Result.{err_from_is_err_and}
use Rattle.std.specs.FinMap.{empty}
use Rattle.std.specs.List.{fold}
use Rattle.fkv_map.specs.Map.{applied}
use Rattle.fkv_map.specs.declared.operations.Op.{Op}
use Rattle.fkv_thread_scripts.specs.Keys.{IsUnapplied, told_ops}
use Rattle.fkv_thread_scripts.proofs.Unapplied.{of_memory}
use Rattle.fkv_thread_scripts.proofs.maps.told_map.Goals as goal

pub returns-in_err-ops-clause-cause : goal.returns-in_err-ops-clause-cause
returns-in_err-ops-clause-cause c =
    let p = err_from_is_err_and c.from_residual.result c.from_residual.ensures.1 in
    rw (p.1, p.2) (of_memory (told_ops c.args.points.now c.args.logs.now) _ c.in_err-ops.field-0.0 refl c.in_err-ops.ensures.err)

pub returns-clause-ok : goal.returns-clause-ok
returns-clause-ok c = subst (λ (ops : List Op). IfOk c.made_by.result (λ map. map ≡ fold applied empty ops)) (c.deref.ensures.value ∙ c.in_ok-ops.ensures.ok) c.made_by.ensures.ok

pub returns-clause-cause : goal.returns-clause-cause
returns-clause-cause c = subst (λ (ops : List Op). IfErr c.made_by.result (IsUnapplied ops)) (c.deref.ensures.value ∙ c.in_ok-ops.ensures.ok) c.made_by.ensures.cause
