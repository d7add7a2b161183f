-- The store was renewed, or it is refused.
use Rattle.std.proofs.Common.{◌≡◌, ◌∙◌, ap, length, refl, rules}
use Rattle.fkv_face.specs.Numbers.{fault_told}
use Rattle.fkv_face.specs.Renewals.{BadSizes, Refused, Renewed}
use Rattle.fkv_face.proofs.Results.{put_at, told_fault}
use Rattle.fkv_face.proofs.renewals.fkv_renew.Goals as goal

pub returns-in-Err : goal.returns-in-Err
returns-in-Err c = BadSizes c.in-Err.ensures.refused.1 (told_fault c.in-Err.why c.refused.result c.refused.ensures ∙ ap fault_told c.in-Err.ensures.refused.0) refl refl

pub returns-in-Ok-renewed_image : goal.returns-in-Ok-renewed_image
returns-in-Ok-renewed_image c =
    let long : c.len.result ≡ length c.in-Ok-renewed_image.image.items = search rules in
    Renewed c.in-Ok.wanted c.in-Ok-renewed_image.image.items c.in-Ok.ensures.wanted (rw (← c.keys_laid.ensures) c.in-Ok-renewed_image.ensures.renewed)
    (ap (λ n. record c.args.renewal.now { length = n }) long) (put_at _ _ c.put.result _ _ c.deref.ensures.value c.put.ensures)

pub returns-in-Err-renewed_image : goal.returns-in-Err-renewed_image
returns-in-Err-renewed_image c =
    Refused c.in-Ok.wanted c.in-Err-renewed_image.why c.in-Ok.ensures.wanted (rw (← c.keys_laid.ensures) c.in-Err-renewed_image.ensures.refused)
    (told_fault c.in-Err-renewed_image.why c.refused-in-Err-renewed_image.result c.refused-in-Err-renewed_image.ensures) c.damaged.ensures refl
