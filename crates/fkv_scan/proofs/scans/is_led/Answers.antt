use Rattle.std.proofs.Common.{◌≡◌, refl, subst, true, arith}
use Rattle.std.specs.Prelude.{◌↔◌}
use Rattle.fkv_scan.specs.Log.{log_in}
use Rattle.fkv_scan.specs.Records.{IsValid}
use Rattle.fkv_scan.specs.Scan.{Has}
use Rattle.fkv_scan.proofs.scans.is_led.Goals as goal

pub returns-then-triple-slot-clause-ok : goal.returns-then-triple-slot-clause-ok
returns-then-triple-slot-clause-ok g c = λ claim triples. (λ led high. (let low = c.if-triple-slot.true in absurd (omega (arith, low, high))), λ led. refl)

pub returns-clause-ok : goal.returns-clause-ok
returns-clause-ok g c = λ claim triples.
    let log = log_in (g.D.Device.seen c.args.d.now) c.args.shape c.args.slot.now triples in
    let says = subst (λ h. (c.in_ok-there.there ≡ true) ↔ Has (IsValid log h) c.args.triple.now.addr.0) c.triple_home.ensures (c.in_ok-there.ensures.ok claim c.args.slot.now triples) in
    (λ led high. says.0 led, λ led. says.1 (led c.if-triple-slot.false))
