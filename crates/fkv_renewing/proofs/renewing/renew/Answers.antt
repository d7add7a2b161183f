use Rattle.std.proofs.Common.{inl, inr, List, ℕ, refl, sym, subst}
use Rattle.fkv_opening.proofs.Shown.{Apart}
use Rattle.fkv_renewing.specs.Renewed.{IsRenewal}
use Rattle.fkv_renewing.proofs.Calls.{passed_on}
use Rattle.fkv_renewing.proofs.Moving.{untouched}
use Rattle.fkv_renewing.proofs.Outcome.{clears_first, failed_too, renewal}
use Rattle.fkv_renewing.proofs.renewing.renew.Goals as goal

pub returns-clause-renewed : goal.returns-clause-renewed
returns-clause-renewed g c = λ claim some.
    let d = g.D.Device in
    let spelled = c.law_spellings_apart.ensures in
    let apart : Apart = record { records = spelled.records; triples = spelled.triples; shapes = spelled.shapes; slots = c.law_formats_apart.ensures } in
    subst (λ (image : List ℕ). IsRenewal c.args.shape c.args.opened.now.points.items c.args.pairs.now image) (sym (c.in_ok-fill.ensures.seen (c.in_ok-clear.ensures.honest.0 claim)))
    (renewal apart c.args.shape c.args.opened.now.points.items c.deref.result.now c.args.pairs.now c.in_ok-prepared.prepared.newest (d.seen c.args.d.now) (d.seen c.clear.new.d) c.write_shape.result c.deref-2.result.now c.in_ok-prepared.prepared.log.items c.write_newest_slot.result c.record_place-place.result
    c.deref.ensures.value c.in_ok-prepared.ensures.newest c.deref-2.ensures.value c.in_ok-prepared.ensures.log c.in_ok-prepared.ensures.room.slots (c.in_ok-clear.ensures.seen claim) c.write_shape.ensures c.record_place-place.ensures c.write_newest_slot.ensures.said some)

pub returns-clause-counted : goal.returns-clause-counted
returns-clause-counted g c =
    let r = g.D.Device.refuses in
    passed_on 2 8 (r c.args.d.now) (r c.clear.new.d) (r c.fill.new.d) c.in_ok-clear.field-0 c.in_ok-fill.field-0 c.in_ok-fill.field-0 c.in_ok-clear.ensures.counted c.in_ok-fill.ensures.counted

pub returns-clause-moments : goal.returns-clause-moments
returns-clause-moments g c = λ claim some.
    let d = g.D.Device in
    let spelled = c.law_spellings_apart.ensures in
    let apart : Apart = record { records = spelled.records; triples = spelled.triples; shapes = spelled.shapes; slots = c.law_formats_apart.ensures } in
    inl (clears_first apart c.args.shape c.args.opened.now.points.items c.deref.result.now c.args.pairs.now c.in_ok-prepared.prepared.newest (d.seen c.args.d.now) (d.seen c.clear.new.d) c.write_shape.result c.deref-2.result.now c.in_ok-prepared.prepared.log.items c.write_newest_slot.result c.record_place-place.result
    c.deref.ensures.value c.in_ok-prepared.ensures.newest c.deref-2.ensures.value c.in_ok-prepared.ensures.log c.in_ok-prepared.ensures.room.slots (c.in_ok-clear.ensures.seen claim) c.write_shape.ensures c.record_place-place.ensures c.write_newest_slot.ensures.said some
    d.seen d.may_leave d.moment d.left_since d.refuses c.args.d.now c.clear.new.d c.fill.new.d c.in_ok-clear.ensures.counted.counted
    (record { zeros = c.in_ok-clear.ensures.seen claim; synced = c.in_ok-clear.ensures.synced claim }) (c.in_ok-clear.ensures.moments claim)
    (λ behind clear. c.in_ok-fill.ensures.moments (c.in_ok-clear.ensures.honest.0 claim) behind (c.in_ok-clear.ensures.synced claim) clear))

pub returns-in_err-fill-clause-moments : goal.returns-in_err-fill-clause-moments
returns-in_err-fill-clause-moments g c = λ claim some.
    let d = g.D.Device in
    let spelled = c.law_spellings_apart.ensures in
    let apart : Apart = record { records = spelled.records; triples = spelled.triples; shapes = spelled.shapes; slots = c.law_formats_apart.ensures } in
    inl (clears_first apart c.args.shape c.args.opened.now.points.items c.deref.result.now c.args.pairs.now c.in_ok-prepared.prepared.newest (d.seen c.args.d.now) (d.seen c.clear.new.d) c.write_shape.result c.deref-2.result.now c.in_ok-prepared.prepared.log.items c.write_newest_slot.result c.record_place-place.result
    c.deref.ensures.value c.in_ok-prepared.ensures.newest c.deref-2.ensures.value c.in_ok-prepared.ensures.log c.in_ok-prepared.ensures.room.slots (c.in_ok-clear.ensures.seen claim) c.write_shape.ensures c.record_place-place.ensures c.write_newest_slot.ensures.said some
    d.seen d.may_leave d.moment d.left_since d.refuses c.args.d.now c.clear.new.d c.fill.new.d c.in_ok-clear.ensures.counted.counted
    (record { zeros = c.in_ok-clear.ensures.seen claim; synced = c.in_ok-clear.ensures.synced claim }) (c.in_ok-clear.ensures.moments claim)
    (λ behind clear. c.in_err-fill.ensures.moments (c.in_ok-clear.ensures.honest.0 claim) behind (c.in_ok-clear.ensures.synced claim) clear))

pub returns-in_err-prepared-clause-moments : goal.returns-in_err-prepared-clause-moments
returns-in_err-prepared-clause-moments g c = λ claim some. inr (record {
  refused = failed_too c.from_residual.result _ c.from_residual.ensures.1;
  stopped = inl refl;
  so_far = untouched g.D.Device.may_leave g.D.Device.moment g.D.Device.left_since c.args.d.now 0 1536 (λ image left. g.met.D.Device.only_now c.args.d.now image claim left);
})

pub returns-in_err-clear-clause-moments : goal.returns-in_err-clear-clause-moments
returns-in_err-clear-clause-moments g c = λ claim some. inr (record {
  refused = failed_too c.from_residual-in_err-clear.result _ c.from_residual-in_err-clear.ensures.1;
  stopped = inr (c.in_err-clear.ensures.stopped claim);
  so_far = c.in_err-clear.ensures.moments claim;
})
