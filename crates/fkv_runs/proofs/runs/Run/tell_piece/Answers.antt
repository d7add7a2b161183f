use Rattle.std.proofs.Common.{Bool, is_none}
use Rattle.fkv_runs.specs.Openings.{medium_of}
use Rattle.fkv_runs.specs.Runs.{IsPiece, RunState, state_behind}
use Rattle.fkv_runs.proofs.Told.{breaks_at_once, on_err, told_breaks}
use Rattle.fkv_runs.proofs.runs.Run.tell_piece.Goals as goal

pub returns-in_err-next-clause-part : goal.returns-in_err-next-clause-part
returns-in_err-next-clause-part g c =
    let medium = medium_of g.D.Device.honest g.D.Device.seen g.D.Device.may_leave g.D.Device.failed g.D.Device.refuses g.D.Device.expects g.D.Breaks.broken g.D.Crashes.armed in
    on_err c.from_residual.result
    (breaks_at_once (λ text. (over : Bool) × (after : RunState g.row.D.Denot) × IsPiece medium c.args.self.settings c.args.piece.now c.args.self.state after over text) (g.W.Write.contents c.args.output.now))

pub returns-in_err-write_text-clause-part : goal.returns-in_err-write_text-clause-part
returns-in_err-write_text-clause-part g c =
    let medium = medium_of g.D.Device.honest g.D.Device.seen g.D.Device.may_leave g.D.Device.failed g.D.Device.refuses g.D.Device.expects g.D.Breaks.broken g.D.Crashes.armed in
    let said = c.in_ok-next.ensures.1 in
    on_err c.from_residual-in_err-write_text.result
    (told_breaks (λ text. (over : Bool) × (after : RunState g.row.D.Denot) × IsPiece medium c.args.self.settings c.args.piece.now c.args.self.state after over text) c.new-said.result.items c.piece.new.output.items
    c.as_slice.result.now (g.W.Write.contents c.args.output.now) (g.W.Write.contents c.write_text.new.output) c.new-said.ensures.items c.as_slice.ensures.value
    (said.0, (is_none c.in_ok-next.next, state_behind c.args.self.state c.in_ok-next.next, said.1), said.2) c.in_err-write_text.ensures.part)
