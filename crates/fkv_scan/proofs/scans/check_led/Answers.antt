use Rattle.std.proofs.Common.{◌≡◌, length, refl, sym, ap, subst, ◌∙◌, arith, inr, true, false}
use Rattle.std.specs.Prelude.{Some, slice_get}
use Rattle.std.proofs.lemmas.Option.{slice_get-get_or}
use Rattle.fkv_disk.proofs.Shown.{more_reads, quiet_on}
use Rattle.fkv_scan.specs.Log.{log_in}
use Rattle.fkv_scan.specs.Scan.{IsLed, AreLed}
use Rattle.fkv_scan.proofs.Leading.{led_to_more}
use Rattle.fkv_scan.proofs.scans.check_led.Goals as goal

pub returns-then-not-led-clause-err : goal.returns-then-not-led-clause-err
returns-then-not-led-clause-err g c = λ premise.
    let log = log_in (g.D.Device.seen c.args.d.now) c.args.shape c.args.slot.now c.args.triples.now in
    let log_mid = log_in (g.D.Device.seen c.loop-i.d) c.args.shape c.args.slot.now c.args.triples.now in
    let quiet = c.loop-i.invariant.quiet in
    let same : log_mid ≡ log = ap (λ image. log_in image c.args.shape c.args.slot.now c.args.triples.now) (quiet.same_bytes premise.0) in
    let triple = c.index-triples-i.result in
    let stands : slice_get c.args.triples.now c.loop-i.i ≡ Some triple = slice_get-get_or c.args.triples.now c.loop-i.i triple c.loop-i-test.true ∙ ap Some (sym c.index-triples-i.is) in
    inr (record {
      records = premise.1;
      place = c.loop-i.i;
      triple = triple;
      stands = stands;
      address = refl;
      before = c.loop-i.invariant.led premise.0;
      here = λ led.
          let says = c.in_ok-led.ensures.ok (quiet.premise.0 premise.0) c.args.triples.now in
          let never : false ≡ true = sym c.if-not-led.true ∙ says.1 (subst (λ l. IsLed l triple) (sym same) led) in
          cc;
    })

pub loop-i-preserved : goal.loop-i-preserved
loop-i-preserved g c =
    let quiet = c.loop-i.invariant.quiet in
    record {
      quiet = quiet_on g.D.Device.honest g.D.Device.seen g.D.Device.may_leave g.D.Device.moment g.D.Device.left_since g.D.Device.failed c.args.d.now c.loop-i.d c.is_led.new.d quiet c.in_ok-led.ensures.quiet;
      reads = more_reads g.D.Device.refuses g.D.Device.expects c.args.d.now c.loop-i.d c.is_led.new.d c.loop-i.invariant.reads c.in_ok-led.ensures.reads;
      led = λ claim.
          let log = log_in (g.D.Device.seen c.args.d.now) c.args.shape c.args.slot.now c.args.triples.now in
          let log_mid = log_in (g.D.Device.seen c.loop-i.d) c.args.shape c.args.slot.now c.args.triples.now in
          let same : log_mid ≡ log = ap (λ image. log_in image c.args.shape c.args.slot.now c.args.triples.now) (quiet.same_bytes claim) in
          let triple = c.index-triples-i.result in
          let stands : slice_get c.args.triples.now c.loop-i.i ≡ Some triple = slice_get-get_or c.args.triples.now c.loop-i.i triple c.loop-i-test.true ∙ ap Some (sym c.index-triples-i.is) in
          let says = c.in_ok-led.ensures.ok (quiet.premise.0 claim) c.args.triples.now in
          led_to_more log c.loop-i.i triple (c.loop-i.invariant.led claim) stands (subst (λ l. IsLed l triple) same (says.0 c.if-not-led.false));
    }

pub returns-clause-ok : goal.returns-clause-ok
returns-clause-ok g c = λ claim.
    let log = log_in (g.D.Device.seen c.args.d.now) c.args.shape c.args.slot.now c.args.triples.now in
    let last = c.loop-i-test.false in
    let most = c.loop-i.auto.i-end in
    let at_end : c.loop-i.i ≡ length c.args.triples.now = omega (arith, last, most) in
    subst (λ n. AreLed log n) at_end (c.loop-i.invariant.led claim)

pub returns-in_err-led-clause-reads : goal.returns-in_err-led-clause-reads
returns-in_err-led-clause-reads g c =
    more_reads g.D.Device.refuses g.D.Device.expects c.args.d.now c.loop-i.d c.is_led.new.d c.loop-i.invariant.reads c.is_led.ensures.reads

pub returns-then-not-led-clause-reads : goal.returns-then-not-led-clause-reads
returns-then-not-led-clause-reads g c =
    more_reads g.D.Device.refuses g.D.Device.expects c.args.d.now c.loop-i.d c.is_led.new.d c.loop-i.invariant.reads c.in_ok-led.ensures.reads
