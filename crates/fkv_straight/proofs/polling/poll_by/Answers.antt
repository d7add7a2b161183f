-- What a poll goes by lasts through it, and behind its end the machine has caught up.
use Rattle.std.proofs.Common.{refl, ap, ◌∙◌}
use Rattle.fkv_map.specs.declared.operations.Call.TheVariants as call
use Rattle.fkv_session.specs.Sessions.{Sitter}
use Rattle.fkv_straight.specs.Course.{course_of}
use Rattle.fkv_straight.proofs.Polls.{poll_alike, poll_asks, poll_begins, poll_caught_up, polled_by, unpolled_asks, unpolled_by, unpolled_caught_up, waits_in}
use Rattle.fkv_straight.proofs.polling.poll_by.Goals as goal

pub update-straight-requires-clause-goes : goal.update-straight-requires-clause-goes
update-straight-requires-clause-goes g c =
    let k = g.L.Line.seat c.args.line.now in
    let s = g.L.Line.stands c.args.line.now in
    c.in_poll-polling.ensures.goes (course_of k s c.args.its.op call.Poll) k c.args.its.op (poll_alike c.args.machine.now.seat k c.args.machine.now.state s c.args.its c.args.going.now c.requires.may c.requires.seat c.requires.alike).goes

pub update-straight-requires-clause-begins : goal.update-straight-requires-clause-begins
update-straight-requires-clause-begins g c = poll_begins c.args.machine.now.seat (g.L.Line.seat c.args.line.now) c.args.machine.now.state (g.L.Line.stands c.args.line.now) c.args.its c.args.going.now c.requires.may c.requires.seat c.requires.alike

pub returns-in-Done-clause-ended : goal.returns-in-Done-clause-ended
returns-in-Done-clause-ended g c =
    let k = g.L.Line.seat c.args.line.now in
    let s = g.L.Line.stands c.args.line.now in
    let u = g.L.Line.stands c.update-straight.new.line in
    let m = c.args.machine.now in
    let n = c.take_polled.new.self in (
      poll_asks k s u c.args.its.op c.in-Done.reply c.in-Done.ensures.done,
      poll_caught_up m.state n.state u s k c.args.its c.in-Done.reply _ c.requires.alike (ap (λ (x : Sitter). x.state) c.take_polled.ensures) (waits_in m.seat m.state c.args.its c.args.going.now c.requires.may) c.requires.may.named c.in-Done.ensures.done,
    )

pub returns-in-Done-clause-goes_by : goal.returns-in-Done-clause-goes_by
returns-in-Done-clause-goes_by g c = λ its by.
    let m = c.args.machine.now in
    polled_by m c.take_polled.new.self c.args.its.serial c.in-Done.reply _ its (waits_in m.seat m.state c.args.its c.args.going.now c.requires.may) c.take_polled.ensures by

pub returns-in-Contended-clause-ended : goal.returns-in-Contended-clause-ended
returns-in-Contended-clause-ended g c =
    let k = g.L.Line.seat c.args.line.now in
    let s = g.L.Line.stands c.args.line.now in
    let u = g.L.Line.stands c.update-straight.new.line in
    let m = c.args.machine.now in
    let n = c.take_unpolled.new.self in
    (unpolled_asks k s u c.args.its.op (c.in-Contended.ensures.done refl), unpolled_caught_up m.state n.state u s k c.args.its.op c.requires.alike (ap (λ (x : Sitter). x.state) c.take_unpolled.ensures) (c.in-Contended.ensures.done refl))

pub returns-in-Contended-clause-goes_by : goal.returns-in-Contended-clause-goes_by
returns-in-Contended-clause-goes_by g c = λ its by. unpolled_by c.args.machine.now c.take_unpolled.new.self its c.take_unpolled.ensures by

pub update-straight-requires-clause-calm : goal.update-straight-requires-clause-calm
update-straight-requires-clause-calm g c = c.in_poll-polling.ensures.calm ∙ c.requires.may.calm
