use Rattle.std.proofs.Common.{◌∷◌, ◌∙◌, ap, sym, take, ℕ, List}
use Rattle.std.proofs.lemmas.List.{take_all}
use Rattle.fkv_disk.specs.Bytes.{written}
use Rattle.fkv_disk.specs.Calls.{reads_as}
use Rattle.fkv_disk.specs.Done.{call_of, calls_of}
use Rattle.fkv_disk.proofs.Replayed.{replayed_more}
use Rattle.fkv_disk.proofs.forgetting.replay.Goals.{in-Wrote+in_ok-put-in-Wrote, in-Synced}
use Rattle.fkv_disk.proofs.forgetting.replay.Goals as goal

pub loop-call-preserved : goal.loop-call-preserved
loop-call-preserved c =
    let opening = c.args.opening.now in
    let before = calls_of (take c.loop-call.call-index c.args.done.now) in
    let more = replayed_more opening c.args.done.now c.loop-call.call-index c.call-item.result c.loop-call-test.true c.call-item.is in
    elim c.match-call.branch [
      | in-Wrote+in_ok-put-in-Wrote w ↦
          ap (λ bytes. bytes.items) w.bytes-is ∙ w.in_ok-put-in-Wrote.ensures.ok
          ∙ ap (λ (bytes : List ℕ). written c.loop-call.bytes.items w.in-Wrote.at bytes) w.deref.ensures.value
          ∙ ap (λ (old : List ℕ). written old w.in-Wrote.at w.in-Wrote.written.items) c.loop-call.invariant
          ∙ sym (ap (λ call. reads_as opening (call_of call ∷ before)) w.in-Wrote.is) ∙ sym more
      | in-Synced w ↦
          ap (λ bytes. bytes.items) w.bytes-is ∙ c.loop-call.invariant ∙ sym (ap (λ call. reads_as opening (call_of call ∷ before)) w.in-Synced.is) ∙ sym more
    ]

pub returns : goal.returns
returns c = c.loop-call.invariant ∙ ap (λ done. reads_as c.args.opening.now (calls_of done)) (take_all c.loop-call.call-index c.args.done.now c.loop-call-test.false)
