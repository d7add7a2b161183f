use Rattle.std.proofs.Common.{◌≡◌, false, true, ◌∙◌, sym, ap, arith}
use Rattle.fkv_disk.proofs.Shown.{goes_on}
use Rattle.fkv_manifest.specs.declared.answers.WriteAnswer.TheVariants.{Device}
use Rattle.fkv_manifest.specs.Gating.{GateWriter, gate_answer, gate_calls_left, gate_kinds, gate_start}
use Rattle.fkv_manifest.specs.Tearing.{IsTornInOrder}
use Rattle.fkv_manifest.proofs.Noting.{all_noted, noted_on}
use Rattle.fkv_manifest.proofs.Putting.{put_on, all_put, one_fewer, is_written}
use Rattle.fkv_manifest.proofs.Tearing.{kept_on, kept_after}
use Rattle.fkv_manifest.proofs.slots.put_slot.Goals as goal

pub loop-writes-smaller : goal.loop-writes-smaller
loop-writes-smaller g c =
    let calls : gate_answer c.loop-writes.writes.step ≡ Device = sym c.answer.ensures ∙ c.in-Device.is in
    let fewer = one_fewer c.loop-writes.writes.step calls in
    let next = ap (λ (w : GateWriter). gate_calls_left w.step) c.in_ok-device_step.ensures.next in
    omega (arith, fewer, next)

pub loop-writes-preserved : goal.loop-writes-preserved
loop-writes-preserved g c =
    let calls : gate_answer c.loop-writes.writes.step ≡ Device = sym c.answer.ensures ∙ c.in-Device.is in
    let d = g.D.Device in
    let kind = IsTornInOrder c.args.place c.args.start c.args.slot c.args.is_open (d.seen c.args.d.now) in (
      put_on c.args.place c.args.start c.args.slot (gate_start c.args.is_open) _ _ _ _ _ _ _ _ _ _ _ _ _ _ c.loop-writes.writes c.device_step.new.self c.loop-writes.invariant.0
          calls c.in_ok-device_step.ensures.next c.in_ok-device_step.ensures.honest c.in_ok-device_step.ensures.does c.in_ok-device_step.ensures.cause.later c.in_ok-device_step.ensures.counted,
      λ claim only.
          let was = c.loop-writes.invariant.1 claim only in
          let claim1 = c.loop-writes.invariant.0.claims.0 claim in
          let does = c.in_ok-device_step.ensures.does claim1 in (
            kept_on kind _ _ _ _ c.loop-writes.writes c.device_step.new.self was.0 c.in_ok-device_step.ensures.next does,
            goes_on d.moment d.left_since c.args.d.now c.loop-writes.d c.device_step.new.d kind (d.may_leave c.device_step.new.d) was.1 (c.in_ok-device_step.ensures.time claim1)
                (kept_after kind _ _ _ _ c.loop-writes.writes true was.0 does),
          ),
      noted_on (gate_kinds c.args.place c.args.start c.args.slot (gate_start c.args.is_open)) (d.expects c.args.d.now) (d.expects c.loop-writes.d) (d.expects c.device_step.new.d) c.loop-writes.writes c.device_step.new.self c.loop-writes.invariant.2
          calls c.in_ok-device_step.ensures.next c.in_ok-device_step.ensures.kind,
    )

pub returns : goal.returns
returns g c =
    let w = c.loop-writes.writes in
    let end = is_written w.step (λ is. c.in_default.not-Device (c.answer.ensures ∙ is)) c.loop-writes.invariant.0.unbroken in
    let all = all_put c.args.place c.args.start c.args.slot (gate_start c.args.is_open) _ _ _ _ _ _ _ _ _ w.place w.start w.slot w.step c.loop-writes.invariant.0 end in
    record {
      seen = all.reads;
      synced = all.synced;
      moments = λ claim only. (c.loop-writes.invariant.1 claim only).1;
      honest = all.claims;
      cause = record { later = all.later; rose = tt; named = tt };
      counted = all.counted;
      kinds = all_noted (gate_kinds c.args.place c.args.start c.args.slot (gate_start c.args.is_open)) (g.D.Device.expects c.args.d.now) (g.D.Device.expects c.loop-writes.d) w.place w.start w.slot w.step c.loop-writes.invariant.2 end;
    }

pub returns-in_err-device_step-clause-moments : goal.returns-in_err-device_step-clause-moments
returns-in_err-device_step-clause-moments g c = λ claim only.
    let d = g.D.Device in
    let kind = IsTornInOrder c.args.place c.args.start c.args.slot c.args.is_open (d.seen c.args.d.now) in
    let was = c.loop-writes.invariant.1 claim only in
    let claim1 = c.loop-writes.invariant.0.claims.0 claim in
    goes_on d.moment d.left_since c.args.d.now c.loop-writes.d c.device_step.new.d kind (d.may_leave c.device_step.new.d) was.1 (c.in_err-device_step.ensures.time claim1)
    (kept_after kind _ _ _ _ c.loop-writes.writes false was.0 (c.in_err-device_step.ensures.does claim1))
