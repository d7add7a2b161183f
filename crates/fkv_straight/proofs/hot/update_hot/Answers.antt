-- An update in place is done, or this is left of it.
use Rattle.std.proofs.Common.{refl, ap, subst}
use Rattle.fkv_map.specs.declared.operations.Call.TheVariants as call
use Rattle.fkv_map.specs.declared.operations.Reply.{Reply}
use Rattle.fkv_session.specs.Alike.{lasting}
use Rattle.fkv_session.specs.Sessions.{Sitter}
use Rattle.fkv_straight.specs.declared.searching.Met.{Met}
use Rattle.fkv_straight.specs.declared.outcomes.Outcome.TheVariants.{Contended}
use Rattle.fkv_straight.specs.Course.{course_of, Goes}
use Rattle.fkv_straight.specs.Met.{HasChanged, HasLost, HasMet, IsMet}
use Rattle.fkv_straight.specs.Standing.{ComesTo, IsDone}
use Rattle.fkv_straight.proofs.Changes.{changed_done, lost_waits}
use Rattle.fkv_straight.proofs.Endings.{update_asks, update_caught_up}
use Rattle.fkv_straight.proofs.Goings.{none_of, some_of}
use Rattle.fkv_straight.proofs.MayGoes.{goes_alike}
use Rattle.fkv_straight.proofs.hot.update_hot.Goals as goal

pub change-changed-requires-clause-at : goal.change-changed-requires-clause-at
change-changed-requires-clause-at g c =
    let k = g.L.Line.seat c.args.line.now in
    let left = c.requires.left in
    let its = course_of k left.start c.args.op (call.Op c.args.op) in
    let u = g.L.Line.stands c.args.line.now in
    (its, goes_alike c.args.machine.now.seat k c.args.machine.now.state left.start c.args.op c.args.going.now c.requires.may c.requires.seat left.alike, subst (λ (m : Met). HasMet its m u) c.in-Found.is left.due.2)

pub returns-in-Some-clause-ended : goal.returns-in-Some-clause-ended
returns-in-Some-clause-ended g c =
    let k = g.L.Line.seat c.args.line.now in
    let left = c.requires.left in
    let s = left.start in
    let m = c.args.machine.now in
    let n = c.take_serial-serial.new.self in
    let its = course_of k s c.args.op (call.Op c.args.op) in
    let u = g.L.Line.stands c.args.line.now in
    let v = g.L.Line.stands c.change-changed.new.line in
    let goes : Goes its k c.args.op c.args.going.now = goes_alike m.seat k m.state s c.args.op c.args.going.now c.requires.may c.requires.seat left.alike in
    let met : IsMet its c.in-Found.record u = subst (λ (x : Met). HasMet its x u) c.in-Found.is left.due.2 in
    let done : IsDone its c.in-Some.reply v = changed_done its c.in-Some.reply v goes.settled left.due.1 left.due.0
    (some_of (λ (x : Reply). HasChanged its x v) c.change-changed.result c.in-Some.reply c.in-Some.is (c.change-changed.ensures.done its goes met)) in (
      update_asks k m.state v (lasting s) c.take_serial-serial.result c.in-Some.reply left.alike c.take_serial-serial.ensures.serial done,
      update_caught_up m.state n.state v (lasting s) _ left.alike (ap (λ (x : Sitter). x.state) c.take_serial-serial.ensures.next) done,
    )

pub returns-in-None-clause-left : goal.returns-in-None-clause-left
returns-in-None-clause-left g c =
    let k = g.L.Line.seat c.args.line.now in
    let left = c.requires.left in
    let s = left.start in
    let m = c.args.machine.now in
    let its = course_of k s c.args.op (call.Op c.args.op) in
    let u = g.L.Line.stands c.args.line.now in
    let v = g.L.Line.stands c.change-changed.new.line in
    let goes : Goes its k c.args.op c.args.going.now = goes_alike m.seat k m.state s c.args.op c.args.going.now c.requires.may c.requires.seat left.alike in
    let met : IsMet its c.in-Found.record u = subst (λ (x : Met). HasMet its x u) c.in-Found.is left.due.2 in
    let waits : ComesTo its Contended v = lost_waits its v goes.settled left.due.1 left.due.0
    (none_of (HasLost its v) c.change-changed.result c.in-None.is (c.change-changed.ensures.lost its goes met)) in
    (refl, record { start = s; alike = left.alike; due = (left.due.0, waits); room = tt })
