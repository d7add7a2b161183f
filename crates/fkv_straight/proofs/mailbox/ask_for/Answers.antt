-- The machine has caught up with a read that waits.
use Rattle.std.proofs.Common.{◌<◌, ◌+◌, ap, arith, length}
use Rattle.fkv_base.specs.Limits.{max_pending}
use Rattle.fkv_session.specs.Sessions.{Sitter}
use Rattle.fkv_straight.proofs.Readers.{asking_asks, asking_by, asking_caught_up}
use Rattle.fkv_straight.proofs.mailbox.ask_for.Goals as goal

pub put-has_asked-requires-clause-at : goal.put-has_asked-requires-clause-at
put-has_asked-requires-clause-at g c = (c.requires.at.0, c.requires.at.2)

pub returns-clause-goes_by : goal.returns-clause-goes_by
returns-clause-goes_by g c = λ its by.
    let m = c.args.machine.now in
    let few : length m.state.requests + 1 < max_pending = omega arith in
    asking_by m c.take_pending_read-ticket.new.self c.args.op c.args.sought c.put-has_asked.result its few c.take_pending_read-ticket.ensures.next by

pub returns-clause-ended : goal.returns-clause-ended
returns-clause-ended g c =
    let k = g.L.Line.seat c.args.line.now in
    let s = c.requires.at.0 in
    let m = c.args.machine.now in
    let n = c.take_pending_read-ticket.new.self in
    let u = g.L.Line.stands c.put-has_asked.new.line in
    let asks = c.put-has_asked.ensures.asks s c.requires.at.2 in (
      asking_asks k m.state s u c.args.op c.args.sought c.put-has_asked.result c.take_pending_read-ticket.result c.requires.reads c.requires.at.1 c.take_pending_read-ticket.ensures.ticket asks,
      asking_caught_up m.state n.state s u k c.args.op c.args.sought c.put-has_asked.result c.requires.reads c.requires.at.1 (ap (λ (x : Sitter). x.state) c.take_pending_read-ticket.ensures.next) asks,
    )
