use Rattle.std.proofs.Common.{[], refl}
use Rattle.fkv_texts.proofs.Shown.{appends_nothing}
use Rattle.fkv_runs.specs.Openings.{medium_of}
use Rattle.fkv_runs.proofs.Breaking.{end_breaks, piece_breaks}
use Rattle.fkv_runs.proofs.Told.{on_err}
use Rattle.fkv_runs.proofs.Legs.{one_more_piece, refused_piece, behind_last}
use Rattle.fkv_runs.proofs.runs.Run.play.Goals as goal

pub loop-piece-init : goal.loop-piece-init
loop-piece-init g c = (refl, ([], (refl, refl, refl), appends_nothing (g.W.Write.contents c.args.output.now)))

pub loop-piece-preserved : goal.loop-piece-preserved
loop-piece-preserved g c =
    let medium = medium_of g.D.Device.honest g.D.Device.seen g.D.Device.may_leave g.D.Device.failed g.D.Device.refuses g.D.Device.expects g.D.Breaks.broken g.D.Crashes.armed in
    one_more_piece medium c.args.self.settings c.args.pieces.now c.loop-piece.piece-index c.piece-item.result c.args.self.state c.loop-piece.run c.in-Some.next
    (g.W.Write.contents c.args.output.now) (g.W.Write.contents c.loop-piece.output) (g.W.Write.contents c.tell_piece.new.output)
    c.loop-piece-test.true c.piece-item.is c.loop-piece.invariant (rw c.in-Some.is at c.in_ok-next.ensures.whole)

pub returns-in_default-clause-whole : goal.returns-in_default-clause-whole
returns-in_default-clause-whole g c =
    let medium = medium_of g.D.Device.honest g.D.Device.seen g.D.Device.may_leave g.D.Device.failed g.D.Device.refuses g.D.Device.expects g.D.Breaks.broken g.D.Crashes.armed in
    refused_piece medium c.args.self.settings c.args.pieces.now c.loop-piece.piece-index c.piece-item.result c.args.self.state c.loop-piece.run c.loop-piece.run.state
    (g.W.Write.contents c.args.output.now) (g.W.Write.contents c.loop-piece.output) (g.W.Write.contents c.tell_piece.new.output)
    c.loop-piece-test.true c.piece-item.is c.loop-piece.invariant (rw c.in_default.is at c.in_ok-next.ensures.whole).1

pub returns-clause-whole : goal.returns-clause-whole
returns-clause-whole g c =
    let medium = medium_of g.D.Device.honest g.D.Device.seen g.D.Device.may_leave g.D.Device.failed g.D.Device.refuses g.D.Device.expects g.D.Breaks.broken g.D.Crashes.armed in
    behind_last medium c.args.self.settings c.args.pieces.now c.loop-piece.piece-index c.args.self.state c.loop-piece.run c.end.result
    (g.W.Write.contents c.args.output.now) (g.W.Write.contents c.loop-piece.output) (g.W.Write.contents c.end.new.output)
    c.loop-piece-test.false c.loop-piece.invariant c.end.ensures.whole

pub returns-in_err-next-clause-part : goal.returns-in_err-next-clause-part
returns-in_err-next-clause-part g c =
    let medium = medium_of g.D.Device.honest g.D.Device.seen g.D.Device.may_leave g.D.Device.failed g.D.Device.refuses g.D.Device.expects g.D.Breaks.broken g.D.Crashes.armed in
    on_err c.from_residual.result
    (piece_breaks medium c.args.self.settings c.args.pieces.now c.loop-piece.piece-index c.piece-item.result c.args.self.state c.loop-piece.run
    (g.W.Write.contents c.args.output.now) (g.W.Write.contents c.loop-piece.output) (g.W.Write.contents c.tell_piece.new.output)
    c.loop-piece-test.true c.piece-item.is c.loop-piece.invariant c.in_err-next.ensures.part)

pub returns-clause-part : goal.returns-clause-part
returns-clause-part g c =
    let medium = medium_of g.D.Device.honest g.D.Device.seen g.D.Device.may_leave g.D.Device.failed g.D.Device.refuses g.D.Device.expects g.D.Breaks.broken g.D.Crashes.armed in
    end_breaks medium c.args.self.settings c.args.pieces.now c.loop-piece.piece-index c.args.self.state c.loop-piece.run c.end.result
    (g.W.Write.contents c.args.output.now) (g.W.Write.contents c.loop-piece.output) (g.W.Write.contents c.end.new.output)
    c.loop-piece-test.false c.loop-piece.invariant c.end.ensures.part
