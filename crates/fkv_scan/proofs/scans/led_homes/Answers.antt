use Rattle.std.proofs.Common.{◌≡◌, length, sym, ap, subst, ◌∙◌, arith}
use Rattle.std.specs.Prelude.{Some, slice_get}
use Rattle.std.specs.Ordering.{nat_cmp}
use Rattle.std.specs.BTreeMap.{get}
use Rattle.std.proofs.lemmas.Option.{slice_get-get_or}
use Rattle.fkv_scan.specs.Log.{log_in}
use Rattle.fkv_scan.proofs.Leading.{AreLedHomes, led_next, led_past, knows_first}
use Rattle.fkv_scan.proofs.scans.led_homes.Goals as goal

pub loop-i-preserved-then-triple-slot : goal.loop-i-preserved-then-triple-slot
loop-i-preserved-then-triple-slot c =
    let stands : slice_get c.args.triples.now c.loop-i.i ≡ Some c.index-triples-i.result = slice_get-get_or c.args.triples.now c.loop-i.i c.index-triples-i.result c.loop-i-test.true ∙ ap Some (sym c.index-triples-i.is) in
    led_past c.args.triples.now c.args.slot.now.begin.0 c.args.slot.now.first.0 c.loop-i.i (get nat_cmp c.loop-i.homes) c.index-triples-i.result c.loop-i.invariant stands c.if-triple-slot.true

pub loop-i-preserved : goal.loop-i-preserved
loop-i-preserved c =
    let stands : slice_get c.args.triples.now c.loop-i.i ≡ Some c.index-triples-i.result = slice_get-get_or c.args.triples.now c.loop-i.i c.index-triples-i.result c.loop-i-test.true ∙ ap Some (sym c.index-triples-i.is) in
    led_next c.args.triples.now c.args.slot.now.begin.0 c.args.slot.now.first.0 c.loop-i.i (get nat_cmp c.loop-i.homes) (get nat_cmp c.insert.new.self) c.index-triples-i.result c.triple_home.result c.led.result
    c.loop-i.invariant stands c.if-triple-slot.false c.triple_home.ensures c.led.ensures c.in_ok-insert.ensures.updates.0

pub returns-clause-ok : goal.returns-clause-ok
returns-clause-ok c = λ image shape.
    let last = c.loop-i-test.false in
    let most = c.loop-i.auto.i-end in
    let at_end : c.loop-i.i ≡ length c.args.triples.now = omega (arith, last, most) in
    knows_first (log_in image shape c.args.slot.now c.args.triples.now) c.requires (get nat_cmp c.loop-i.homes)
    (subst (λ n. AreLedHomes c.args.triples.now c.args.slot.now.begin.0 c.args.slot.now.first.0 n (get nat_cmp c.loop-i.homes)) at_end c.loop-i.invariant)
