use Rattle.std.proofs.Common.{◌≡◌, ℕ, List, false, length, subst}
use Rattle.std.specs.Prelude.{◌++◌, OnOk}
use Rattle.std.proofs.lemmas.Result.{on_ok_weaker}
use Rattle.fkv_disk.proofs.Shown.{goes_on_to}
use Rattle.fkv_manifest.specs.Gating.{gate_kinds, gate_leads, gate_start}
use Rattle.fkv_manifest.specs.Tearing.{IsTornInOrder}
use Rattle.fkv_creating.specs.Filled.{filled, filled_kinds, IsShutOrFilled}
use Rattle.fkv_creating.proofs.Counting.{passed_at_last}
use Rattle.fkv_creating.proofs.Filling.{in_block, in_slot}
use Rattle.fkv_creating.proofs.Moving.{over_bytes, weaker}
use Rattle.fkv_creating.proofs.Noting.{filled_told, first_two}
use Rattle.fkv_creating.proofs.creating.fill.Goals as goal

pub returns-clause-seen : goal.returns-clause-seen
unfolding filled gate_leads
returns-clause-seen g c = λ claim.
    let claim1 = c.in_ok-write_synced.ensures.honest.0 claim in
    subst (λ s. OnOk c.put_slot.result (g.D.Device.seen c.put_slot.new.d ≡ gate_leads 512 8 c.args.slot.now (gate_start false) s)) (c.in_ok-write_synced.ensures.seen claim) (c.put_slot.ensures.seen claim1)

pub returns-clause-moments : goal.returns-clause-moments
returns-clause-moments g c = λ claim only clear.
    let d = g.D.Device in
    let old = d.seen c.args.d.now in
    let block = c.args.block.now in
    let slot = c.args.slot.now in
    let claim1 = c.in_ok-write_synced.ensures.honest.0 claim in
    let first = over_bytes d.may_leave d.moment d.left_since c.args.d.now c.write_synced.new.d (IsShutOrFilled old block slot) 0 (length block) old only (in_block old block slot c.told-block c.told-slot clear) (c.in_ok-write_synced.ensures.moments claim) in
    let second = weaker d.may_leave d.moment d.left_since c.write_synced.new.d c.put_slot.new.d (IsTornInOrder 512 8 slot false (d.seen c.write_synced.new.d)) (IsShutOrFilled old block slot)
    (λ image torn. in_slot old block slot c.told-block c.told-slot clear image (subst (λ (b : List ℕ). IsTornInOrder 512 8 slot false b image) (c.in_ok-write_synced.ensures.seen claim) torn))
    (c.put_slot.ensures.moments claim1 (c.in_ok-write_synced.ensures.synced claim)) in
    goes_on_to d.moment d.left_since c.args.d.now c.write_synced.new.d c.put_slot.new.d (IsShutOrFilled old block slot) first second

pub returns-clause-counted : goal.returns-clause-counted
returns-clause-counted g c =
    let r = g.D.Device.refuses in
    passed_at_last 2 4 (r c.args.d.now) (r c.write_synced.new.d) (r c.put_slot.new.d) c.in_ok-write_synced.field-0 c.put_slot.result c.in_ok-write_synced.ensures.counted c.put_slot.ensures.counted

pub returns-clause-kinds : goal.returns-clause-kinds
returns-clause-kinds g c =
    let e = g.D.Device.expects in
    let block = c.args.block.now in
    let slot = c.args.slot.now in
    on_ok_weaker c.put_slot.result
    (first_two 0 block (e c.args.d.now) (e c.write_synced.new.d) (e c.put_slot.new.d) (gate_kinds 512 8 slot (gate_start false)) (λ later. filled_kinds block slot ++ later) (filled_told block slot) c.in_ok-write_synced.ensures.kinds)
    c.put_slot.ensures.kinds
