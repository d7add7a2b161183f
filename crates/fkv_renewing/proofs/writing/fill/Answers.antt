use Rattle.std.proofs.Common.{◌≡◌, ℕ, List, false, length, subst, ◌∙◌, ap}
use Rattle.std.specs.Prelude.{OnOk}
use Rattle.fkv_disk.specs.Bytes.{written}
use Rattle.fkv_disk.specs.Device.{LeavesOnly}
use Rattle.fkv_disk.proofs.Shown.{goes_on_to}
use Rattle.fkv_manifest.specs.Gating.{gate_start, gate_leads}
use Rattle.fkv_manifest.specs.Tearing.{IsTornInOrder}
use Rattle.fkv_renewing.specs.Images.{filled, IsShutOrFilled}
use Rattle.fkv_renewing.proofs.Calls.{passed_on, passed_at_last}
use Rattle.fkv_renewing.proofs.Laying.{in_block, in_log, in_slot}
use Rattle.fkv_renewing.proofs.Moving.{over_bytes, weaker}
use Rattle.fkv_renewing.proofs.writing.fill.Goals as goal

pub returns-clause-seen : goal.returns-clause-seen
unfolding filled gate_leads
returns-clause-seen g c = λ claim.
    let d = g.D.Device in
    let claim1 = c.in_ok-write_synced.ensures.honest.0 claim in
    let claim2 = c.in_ok-write_synced-2.ensures.honest.0 claim1 in
    let seen1 = c.in_ok-write_synced.ensures.seen claim in
    let seen2 = c.in_ok-write_synced-2.ensures.seen claim1 ∙ ap (λ (s : List ℕ). written s c.args.place c.args.log.now) seen1 in
    subst (λ s. OnOk c.put_slot.result (d.seen c.put_slot.new.d ≡ gate_leads 1024 8 c.args.slot.now (gate_start false) s)) seen2 (c.put_slot.ensures.seen claim2)

pub returns-clause-counted : goal.returns-clause-counted
returns-clause-counted g c =
    let r = g.D.Device.refuses in
    passed_at_last 4 4 (r c.args.d.now) (r c.write_synced-2.new.d) (r c.put_slot.new.d) c.in_ok-write_synced-2.field-0 c.put_slot.result
    (passed_on 2 2 (r c.args.d.now) (r c.write_synced.new.d) (r c.write_synced-2.new.d) c.in_ok-write_synced.field-0 c.in_ok-write_synced-2.field-0 c.in_ok-write_synced-2.field-0 c.in_ok-write_synced.ensures.counted c.in_ok-write_synced-2.ensures.counted)
    c.put_slot.ensures.counted

pub returns-in_err-write_synced-2-clause-moments : goal.returns-in_err-write_synced-2-clause-moments
returns-in_err-write_synced-2-clause-moments g c = λ claim behind only clear.
    let d = g.D.Device in
    let old = d.seen c.args.d.now in
    let block = c.args.block.now in
    let log = c.args.log.now in
    let slot = c.args.slot.now in
    let left = IsShutOrFilled old block c.args.place log slot in
    let claim1 = c.in_ok-write_synced.ensures.honest.0 claim in
    let first = over_bytes d.may_leave d.moment d.left_since c.args.d.now 0 (length block) c.write_synced.new.d left old only (in_block old block c.args.place log slot c.told-block behind clear) (c.in_ok-write_synced.ensures.moments claim) in
    let only1 = subst (λ (b : List ℕ). LeavesOnly b (d.may_leave c.write_synced.new.d)) (c.in_ok-write_synced.ensures.seen claim) (c.in_ok-write_synced.ensures.synced claim) in
    let second = over_bytes d.may_leave d.moment d.left_since c.write_synced.new.d c.args.place (length log) c.write_synced-2.new.d left (written old 0 block) only1 (in_log old block c.args.place log slot c.told-block behind clear) (c.write_synced-2.ensures.moments claim1) in
    goes_on_to d.moment d.left_since c.args.d.now c.write_synced.new.d c.write_synced-2.new.d left first second

pub returns-clause-moments : goal.returns-clause-moments
returns-clause-moments g c = λ claim behind only clear.
    let d = g.D.Device in
    let old = d.seen c.args.d.now in
    let block = c.args.block.now in
    let log = c.args.log.now in
    let slot = c.args.slot.now in
    let left = IsShutOrFilled old block c.args.place log slot in
    let claim1 = c.in_ok-write_synced.ensures.honest.0 claim in
    let claim2 = c.in_ok-write_synced-2.ensures.honest.0 claim1 in
    let seen2 = c.in_ok-write_synced-2.ensures.seen claim1 ∙ ap (λ (s : List ℕ). written s c.args.place log) (c.in_ok-write_synced.ensures.seen claim) in
    let first = over_bytes d.may_leave d.moment d.left_since c.args.d.now 0 (length block) c.write_synced.new.d left old only (in_block old block c.args.place log slot c.told-block behind clear) (c.in_ok-write_synced.ensures.moments claim) in
    let only1 = subst (λ (b : List ℕ). LeavesOnly b (d.may_leave c.write_synced.new.d)) (c.in_ok-write_synced.ensures.seen claim) (c.in_ok-write_synced.ensures.synced claim) in
    let second = over_bytes d.may_leave d.moment d.left_since c.write_synced.new.d c.args.place (length log) c.write_synced-2.new.d left (written old 0 block) only1 (in_log old block c.args.place log slot c.told-block behind clear) (c.in_ok-write_synced-2.ensures.moments claim1) in
    let so_far = goes_on_to d.moment d.left_since c.args.d.now c.write_synced.new.d c.write_synced-2.new.d left first second in
    let third = weaker (λ image torn. in_slot old block c.args.place log slot c.told-block behind clear image (subst (λ (b : List ℕ). IsTornInOrder 1024 8 slot false b image) seen2 torn))
    (c.put_slot.ensures.moments claim2 (c.in_ok-write_synced-2.ensures.synced claim1)) in
    goes_on_to d.moment d.left_since c.args.d.now c.write_synced-2.new.d c.put_slot.new.d left so_far third
