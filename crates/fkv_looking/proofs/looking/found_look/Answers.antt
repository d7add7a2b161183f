use Rattle.std.proofs.Common.{sym, subst}
use Rattle.fkv_base.specs.declared.faults.Fault.TheVariants.{Damaged}
use Rattle.fkv_opening.specs.Faults.{IsFaultOf}
use Rattle.fkv_looking.specs.Damages.{ArePartBytes, area_in_force}
use Rattle.fkv_looking.specs.Recovered.{IsRecovered}
use Rattle.fkv_looking.proofs.looking.found_look.Goals as goal

pub returns-in_ok-damage-in-Damaged-clause-ok : goal.returns-in_ok-damage-in-Damaged-clause-ok
returns-in_ok-damage-in-Damaged-clause-ok g c = λ claim is.
    let image = g.D.Device.seen c.args.d.now in
    let front = c.args.front.now in
    let area = area_in_force front.in_force front.slots.0 front.slots.1 in
    let look = c.in_ok-damage-in-Damaged.damage in
    let says = c.in_ok-damage-in-Damaged.ensures in
    let part = c.in-Damaged.part in
    let place = c.in-Damaged.place in
    let found : IsFaultOf image (Damaged part place) = subst (λ r. IsRecovered image r) c.in-Damaged.is is in (
      subst (λ p. IsFaultOf image (Damaged p look.place)) (sym says.part) (subst (λ n. IsFaultOf image (Damaged part n)) (sym says.place) found),
      subst (λ p. ArePartBytes image front.shape area p look.place look.bytes.items) (sym says.part)
          (subst (λ n. ArePartBytes image front.shape area part n look.bytes.items) (sym says.place) (says.ok claim)),
    )
