-- What is left of a call comes to its end.
use Rattle.std.proofs.Common.{ap, subst}
use Rattle.fkv_map.specs.declared.operations.Call.TheVariants as call
use Rattle.fkv_session.specs.Alike.{lasting}
use Rattle.fkv_session.specs.Sessions.{Sitter}
use Rattle.fkv_straight.specs.declared.hot.Due.{Due}
use Rattle.fkv_straight.specs.declared.outcomes.Outcome.TheVariants.{Contended}
use Rattle.fkv_straight.specs.Course.{course_of, Goes}
use Rattle.fkv_straight.specs.Hot.{HasRoom, IsDue}
use Rattle.fkv_straight.specs.Standing.{ComesTo}
use Rattle.fkv_straight.proofs.Endings.{update_asks, update_caught_up, waiting_ended, waiting_goes}
use Rattle.fkv_straight.proofs.MayGoes.{goes_alike}
use Rattle.fkv_straight.proofs.hot.go_due.Goals as goal

pub update_met-straight-requires-clause-at : goal.update_met-straight-requires-clause-at
update_met-straight-requires-clause-at g c =
    let k = g.L.Line.seat c.args.line.now in
    let left = c.requires.left in
    let its = course_of k left.start c.args.op (call.Op c.args.op) in
    let due = subst (λ (d : Due). IsDue its d (g.L.Line.stands c.args.line.now)) c.in-Met.is left.due in
    (its, goes_alike c.args.machine.now.seat k c.args.machine.now.state left.start c.args.op c.args.going.now c.requires.may c.requires.seat left.alike, due.2)

pub returns-in-Done-clause-ended : goal.returns-in-Done-clause-ended
returns-in-Done-clause-ended g c =
    let k = g.L.Line.seat c.args.line.now in
    let m = c.args.machine.now in
    let n = c.take_serial-serial.new.self in
    let left = c.requires.left in
    let its = course_of k left.start c.args.op (call.Op c.args.op) in
    let due = subst (λ (d : Due). IsDue its d (g.L.Line.stands c.args.line.now)) c.in-Met.is left.due in
    let goes : Goes its k c.args.op c.args.going.now = goes_alike m.seat k m.state left.start c.args.op c.args.going.now c.requires.may c.requires.seat left.alike in
    let v = g.L.Line.stands c.update_met-straight.new.line in
    let done = subst (λ o. ComesTo its o v) c.in-Done.is (c.update_met-straight.ensures.done its goes due.2) in (
      update_asks k m.state v (lasting left.start) c.take_serial-serial.result c.in-Done.reply left.alike c.take_serial-serial.ensures.serial done,
      update_caught_up m.state n.state v (lasting left.start) _ left.alike (ap (λ (x : Sitter). x.state) c.take_serial-serial.ensures.next) done,
    )

pub returns-in-Contended-clause-goes_by : goal.returns-in-Contended-clause-goes_by
returns-in-Contended-clause-goes_by g c = λ its by. waiting_goes c.args.machine.now c.wait.new.machine c.args.op its c.wait.result c.wait.ensures.waits c.wait.ensures.full by

pub returns-in-Contended-clause-ended : goal.returns-in-Contended-clause-ended
returns-in-Contended-clause-ended g c =
    let k = g.L.Line.seat c.args.line.now in
    let m = c.args.machine.now in
    let left = c.requires.left in
    let its = course_of k left.start c.args.op (call.Op c.args.op) in
    let due = subst (λ (d : Due). IsDue its d (g.L.Line.stands c.args.line.now)) c.in-Met.is left.due in
    let goes : Goes its k c.args.op c.args.going.now = goes_alike m.seat k m.state left.start c.args.op c.args.going.now c.requires.may c.requires.seat left.alike in
    let v = g.L.Line.stands c.update_met-straight.new.line in
    let waits : ComesTo its Contended v = subst (λ o. ComesTo its o v) c.in-Contended.is (c.update_met-straight.ensures.done its goes due.2) in
    waiting_ended k m c.wait.new.machine left.start v c.args.op c.args.going.now c.wait.result goes due.0 left.alike c.wait.ensures.waits c.wait.ensures.unbounded waits

pub returns-in-Lost-clause-goes_by : goal.returns-in-Lost-clause-goes_by
returns-in-Lost-clause-goes_by g c = λ its by. waiting_goes c.args.machine.now c.wait-in-Lost.new.machine c.args.op its c.wait-in-Lost.result c.wait-in-Lost.ensures.waits c.wait-in-Lost.ensures.full by

pub returns-in-Lost-clause-ended : goal.returns-in-Lost-clause-ended
returns-in-Lost-clause-ended g c =
    let k = g.L.Line.seat c.args.line.now in
    let left = c.requires.left in
    let its = course_of k left.start c.args.op (call.Op c.args.op) in
    let due = subst (λ (d : Due). IsDue its d (g.L.Line.stands c.args.line.now)) c.in-Lost.is left.due in
    let goes : Goes its k c.args.op c.args.going.now = goes_alike c.args.machine.now.seat k c.args.machine.now.state left.start c.args.op c.args.going.now c.requires.may c.requires.seat left.alike in
    waiting_ended k c.args.machine.now c.wait-in-Lost.new.machine left.start (g.L.Line.stands c.args.line.now) c.args.op c.args.going.now c.wait-in-Lost.result goes due.0 left.alike c.wait-in-Lost.ensures.waits c.wait-in-Lost.ensures.unbounded due.1

pub go_below-requires-clause-at : goal.go_below-requires-clause-at
go_below-requires-clause-at g c =
    let left = c.requires.left in
    let its = course_of (g.L.Line.seat c.args.line.now) left.start c.args.op (call.Op c.args.op) in
    let due = subst (λ (d : Due). IsDue its d (g.L.Line.stands c.args.line.now)) c.in-OnDisk.is left.due in
    (left.start, left.alike, due.1)

pub go_below-requires-clause-room : goal.go_below-requires-clause-room
go_below-requires-clause-room g c = subst (λ (d : Due). HasRoom d (g.L.Line.kept c.args.line.now)) c.in-OnDisk.is c.requires.left.room

pub go_below-requires-clause-reads : goal.go_below-requires-clause-reads
go_below-requires-clause-reads g c =
    let left = c.requires.left in
    let its = course_of (g.L.Line.seat c.args.line.now) left.start c.args.op (call.Op c.args.op) in
    let due = subst (λ (d : Due). IsDue its d (g.L.Line.stands c.args.line.now)) c.in-OnDisk.is left.due in
    due.0
