-- What the hot part has left goes on from where the line stands, and that has led on from where it stood as it was made.
use Rattle.std.proofs.Common.{ap, length, subst, sym, ◌∙◌, ◌≡◌}
use Rattle.std.specs.Prelude.{IfNone}
use Rattle.fkv_map.specs.declared.operations.Call.TheVariants as call
use Rattle.fkv_session.specs.Alike.{standing}
use Rattle.fkv_session.specs.Sessions.{Sitter}
use Rattle.fkv_straight.specs.Hot.{HasLeft}
use Rattle.fkv_straight.specs.Standing.{begins}
use Rattle.fkv_straight_tests.specs.Lines.{standing as stood}
use Rattle.fkv_straight_tests.proofs.sides.begin_hot.Goals as goal

pub run_due-ended-requires-clause-left : goal.run_due-ended-requires-clause-left
run_due-ended-requires-clause-left g c =
    let did = c.run_hot-went.ensures.left c.in-Left.due c.in-Left.is in let line = c.run_hot-went.new.line in
    subst (λ (x : Sitter). HasLeft x.seat x.state c.args.op c.in-Left.due (length line.replies.items) (stood line.machine.value line.call line.replies.items)) (sym did.1) did.2

pub catch_up-requires-clause-led : goal.catch_up-requires-clause-led
catch_up-requires-clause-led g c =
    let did = c.run_hot-went.ensures.left c.in-Left.due c.in-Left.is in let its = call.Op c.args.op in
    let same : c.run_due-ended.new.self ≡ c.run_hot-went.new.self = subst (λ o. IfNone o (c.run_due-ended.new.self ≡ c.run_hot-went.new.self)) c.in-None.is c.run_due-ended.ensures.stopped in
    let begun = c.run_hot-went.ensures.begins c.in-Left.due c.in-Left.is in
    (c.new-line.result, c.run_due-ended.ensures.led c.new-line.result its did.0, ap (λ (x : Sitter). standing (begins x.seat x.state its)) (same ∙ did.1) ∙ begun)
