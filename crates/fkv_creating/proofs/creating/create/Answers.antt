use Rattle.std.proofs.Common.{◌≡◌, inl, inr, List, ℕ, sym, ◌∙◌, ap, subst}
use Rattle.std.specs.Prelude.{◌++◌, Some, replicate}
use Rattle.fkv_disk.specs.Kinds.{Kind}
use Rattle.fkv_newest.specs.Newest.{IsNewestOf}
use Rattle.fkv_record.specs.Layout.{shape_bytes}
use Rattle.fkv_record.specs.Manifest.{SlotSaid, newest_bytes, said_in}
use Rattle.fkv_record.proofs.Shown.{third_spelled}
use Rattle.fkv_creating.specs.Created.{laid, laid_kinds, SparesRest}
use Rattle.fkv_creating.specs.Filled.{filled, filled_kinds, IsCleared, IsShutOrFilled}
use Rattle.fkv_creating.specs.Moments.{IsNoneOrNew}
use Rattle.fkv_creating.proofs.Moving.{weaker}
use Rattle.fkv_creating.proofs.Outcome.{none_or_new, failed_too}
use Rattle.fkv_creating.proofs.Filling.{laid_is_filled, cleared_by, cleared_by_zeros}
use Rattle.fkv_creating.specs.Long.{IsLong}
use Rattle.fkv_creating.proofs.Counting.{passed_on}
use Rattle.fkv_creating.proofs.Newly.{newest_told, spared, is_long}
use Rattle.fkv_creating.proofs.NewStores.{said_new}
use Rattle.fkv_creating.proofs.Noting.{first_two, laid_told}
use Rattle.fkv_creating.proofs.creating.create.Goals as goal

pub returns-clause-ok : goal.returns-clause-ok
returns-clause-ok g c = λ claim.
    let n = c.new_store-newest.result in
    let old = g.D.Device.seen c.args.d.now in
    let image_is : g.D.Device.seen c.fill.new.d ≡ laid old (shape_bytes c.args.shape) (newest_bytes (said_in n.slot)) =
    c.in_ok-fill.ensures.seen (c.in_ok-clear.ensures.honest.0 claim) ∙ ap (λ s. filled s c.write_shape.result c.write_newest_slot.result) (c.in_ok-clear.ensures.seen claim) ∙ laid_is_filled old c.write_shape.result c.write_newest_slot.result
    ∙ ap (λ b. laid old b c.write_newest_slot.result) c.write_shape.ensures ∙ ap (λ s. laid old (shape_bytes c.args.shape) s) c.write_newest_slot.ensures.said in
    subst (λ image. IsNewestOf image n) (sym image_is)
    (newest_told old n c.args.shape c.new_store-newest.ensures (third_spelled n.slot c.new_store-newest.ensures.slot.begin))

pub returns-clause-long : goal.returns-clause-long
returns-clause-long g c = λ claim.
    let n = c.new_store-newest.result in
    let old = g.D.Device.seen c.args.d.now in
    let image_is : g.D.Device.seen c.fill.new.d ≡ laid old (shape_bytes c.args.shape) (newest_bytes (said_in n.slot)) =
    c.in_ok-fill.ensures.seen (c.in_ok-clear.ensures.honest.0 claim) ∙ ap (λ s. filled s c.write_shape.result c.write_newest_slot.result) (c.in_ok-clear.ensures.seen claim) ∙ laid_is_filled old c.write_shape.result c.write_newest_slot.result
    ∙ ap (λ b. laid old b c.write_newest_slot.result) c.write_shape.ensures ∙ ap (λ s. laid old (shape_bytes c.args.shape) s) c.write_newest_slot.ensures.said in
    subst (λ image. IsLong image n.shape n.slot) (sym image_is) (is_long old n c.args.shape c.new_store-newest.ensures)

pub returns-clause-bytes : goal.returns-clause-bytes
returns-clause-bytes g c = λ claim.
    let n = c.new_store-newest.result in
    let old = g.D.Device.seen c.args.d.now in
    let image_is : g.D.Device.seen c.fill.new.d ≡ laid old (shape_bytes c.args.shape) (newest_bytes (said_in n.slot)) =
    c.in_ok-fill.ensures.seen (c.in_ok-clear.ensures.honest.0 claim) ∙ ap (λ s. filled s c.write_shape.result c.write_newest_slot.result) (c.in_ok-clear.ensures.seen claim) ∙ laid_is_filled old c.write_shape.result c.write_newest_slot.result
    ∙ ap (λ b. laid old b c.write_newest_slot.result) c.write_shape.ensures ∙ ap (λ s. laid old (shape_bytes c.args.shape) s) c.write_newest_slot.ensures.said in
    image_is ∙ ap (λ (said : SlotSaid). laid old (shape_bytes c.args.shape) (newest_bytes said)) (said_new c.args.shape.sessions n.slot c.new_store-newest.ensures.slot)

pub returns-clause-spared : goal.returns-clause-spared
returns-clause-spared g c = λ claim.
    let n = c.new_store-newest.result in
    let old = g.D.Device.seen c.args.d.now in
    let image_is : g.D.Device.seen c.fill.new.d ≡ laid old (shape_bytes c.args.shape) (newest_bytes (said_in n.slot)) =
    c.in_ok-fill.ensures.seen (c.in_ok-clear.ensures.honest.0 claim) ∙ ap (λ s. filled s c.write_shape.result c.write_newest_slot.result) (c.in_ok-clear.ensures.seen claim) ∙ laid_is_filled old c.write_shape.result c.write_newest_slot.result
    ∙ ap (λ b. laid old b c.write_newest_slot.result) c.write_shape.ensures ∙ ap (λ s. laid old (shape_bytes c.args.shape) s) c.write_newest_slot.ensures.said in
    subst (λ image. SparesRest old image) (sym image_is) (spared old n c.args.shape c.new_store-newest.ensures)

pub returns-clause-counted : goal.returns-clause-counted
returns-clause-counted g c =
    passed_on 2 6 (g.D.Device.refuses c.args.d.now) (g.D.Device.refuses c.clear.new.d) (g.D.Device.refuses c.fill.new.d) c.in_ok-clear.field-0 c.in_ok-fill.field-0 c.new_store-newest.result c.in_ok-clear.ensures.counted c.in_ok-fill.ensures.counted

pub returns-clause-kinds : goal.returns-clause-kinds
returns-clause-kinds g c = λ later.
    let e = g.D.Device.expects in
    let n = c.new_store-newest.result in
    let block = c.write_shape.result in
    let slot = c.write_newest_slot.result in
    first_two 0 (replicate 1536 0) (e c.args.d.now) (e c.clear.new.d) (e c.fill.new.d) (filled_kinds block slot) (λ rest. laid_kinds block slot ++ rest) (laid_told block slot) c.in_ok-clear.ensures.kinds c.in_ok-fill.ensures.kinds later
    ∙ ap (λ (b : List ℕ). e c.args.d.now (laid_kinds b slot ++ later)) c.write_shape.ensures
    ∙ ap (λ (s : List ℕ). e c.args.d.now (laid_kinds (shape_bytes c.args.shape) s ++ later)) c.write_newest_slot.ensures.said
    ∙ ap (λ (said : SlotSaid). e c.args.d.now (laid_kinds (shape_bytes c.args.shape) (newest_bytes said) ++ later)) (said_new c.args.shape.sessions n.slot c.new_store-newest.ensures.slot)

pub returns-clause-moments : goal.returns-clause-moments
returns-clause-moments g c = λ claim.
    let d = g.D.Device in
    let n = c.new_store-newest.result in
    let old = d.seen c.args.d.now in
    let block = c.write_shape.result in
    let slot = c.write_newest_slot.result in
    let claim1 = c.in_ok-clear.ensures.honest.0 claim in
    let seen1 = c.in_ok-clear.ensures.seen claim in
    let is_laid : filled (d.seen c.clear.new.d) block slot ≡ laid old (shape_bytes c.args.shape) (newest_bytes (said_in n.slot)) =
    ap (λ s. filled s block slot) seen1 ∙ laid_is_filled old block slot ∙ ap (λ b. laid old b slot) c.write_shape.ensures ∙ ap (λ s. laid old (shape_bytes c.args.shape) s) c.write_newest_slot.ensures.said in
    let told : IsNewestOf (filled (d.seen c.clear.new.d) block slot) n = subst (λ image. IsNewestOf image n) (sym is_laid)
    (newest_told old n c.args.shape c.new_store-newest.ensures (third_spelled n.slot c.new_store-newest.ensures.slot.begin)) in
    let long : IsLong (filled (d.seen c.clear.new.d) block slot) n.shape n.slot = subst (λ image. IsLong image n.shape n.slot) (sym is_laid) (is_long old n c.args.shape c.new_store-newest.ensures) in
    let clear : IsCleared (d.seen c.clear.new.d) = subst IsCleared (sym seen1) (cleared_by_zeros old) in
    inl (record {
      cleared = c.clear.new.d;
      calls = c.in_ok-clear.ensures.counted.counted;
      front = record { zeros = seen1 ∙ cleared_by old; synced = c.in_ok-clear.ensures.synced claim };
      until_then = c.in_ok-clear.ensures.moments claim;
      from_then = weaker d.may_leave d.moment d.left_since c.clear.new.d c.fill.new.d (IsShutOrFilled (d.seen c.clear.new.d) block slot) (IsNoneOrNew c.args.shape)
          (none_or_new (d.seen c.clear.new.d) block slot c.args.shape n c.new_store-newest.ensures told long) (c.in_ok-fill.ensures.moments claim1 (c.in_ok-clear.ensures.synced claim) clear);
    })

pub returns-in_err-fill-clause-moments : goal.returns-in_err-fill-clause-moments
returns-in_err-fill-clause-moments g c = λ claim.
    let d = g.D.Device in
    let n = c.new_store-newest.result in
    let old = d.seen c.args.d.now in
    let block = c.write_shape.result in
    let slot = c.write_newest_slot.result in
    let claim1 = c.in_ok-clear.ensures.honest.0 claim in
    let seen1 = c.in_ok-clear.ensures.seen claim in
    let is_laid : filled (d.seen c.clear.new.d) block slot ≡ laid old (shape_bytes c.args.shape) (newest_bytes (said_in n.slot)) =
    ap (λ s. filled s block slot) seen1 ∙ laid_is_filled old block slot ∙ ap (λ b. laid old b slot) c.write_shape.ensures ∙ ap (λ s. laid old (shape_bytes c.args.shape) s) c.write_newest_slot.ensures.said in
    let told : IsNewestOf (filled (d.seen c.clear.new.d) block slot) n = subst (λ image. IsNewestOf image n) (sym is_laid)
    (newest_told old n c.args.shape c.new_store-newest.ensures (third_spelled n.slot c.new_store-newest.ensures.slot.begin)) in
    let long : IsLong (filled (d.seen c.clear.new.d) block slot) n.shape n.slot = subst (λ image. IsLong image n.shape n.slot) (sym is_laid) (is_long old n c.args.shape c.new_store-newest.ensures) in
    let clear : IsCleared (d.seen c.clear.new.d) = subst IsCleared (sym seen1) (cleared_by_zeros old) in
    inl (record {
      cleared = c.clear.new.d;
      calls = c.in_ok-clear.ensures.counted.counted;
      front = record { zeros = seen1 ∙ cleared_by old; synced = c.in_ok-clear.ensures.synced claim };
      until_then = c.in_ok-clear.ensures.moments claim;
      from_then = weaker d.may_leave d.moment d.left_since c.clear.new.d c.fill.new.d (IsShutOrFilled (d.seen c.clear.new.d) block slot) (IsNoneOrNew c.args.shape)
          (none_or_new (d.seen c.clear.new.d) block slot c.args.shape n c.new_store-newest.ensures told long) (c.in_err-fill.ensures.moments claim1 (c.in_ok-clear.ensures.synced claim) clear);
    })

pub returns-in_err-clear-clause-moments : goal.returns-in_err-clear-clause-moments
returns-in_err-clear-clause-moments g c = λ claim. inr (record {
  refused = failed_too c.from_residual.result _ c.from_residual.ensures.1;
  stopped = c.in_err-clear.ensures.stopped claim;
  so_far = c.in_err-clear.ensures.moments claim;
})
