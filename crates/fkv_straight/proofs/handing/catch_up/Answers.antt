use Rattle.std.proofs.Common.{refl, sym, ap, ◌∙◌, get_or, subst}
use Rattle.fkv_session.specs.Alike.{StandAlike}
use Rattle.fkv_session.specs.Sessions.{Seat, SessionState, session_ask}
use Rattle.fkv_straight.specs.Standing.{begins, leads}
use Rattle.fkv_straight.proofs.Replays.{begin_comes, replies_alike, step_comes, replay_next, replay_end}
use Rattle.fkv_straight.proofs.handing.catch_up.Goals as goal

pub loop-reply-init : goal.loop-reply-init
loop-reply-init g c =
    let k = g.L.Line.seat c.args.line.now in
    let m = c.args.machine.now in
    let n = c.begin-ask.new.self in
    let led = c.requires.led in
    let first = begins (g.L.Line.seat led.0) (g.L.Line.stands led.0) c.args.call in
    let comes = begin_comes m n c.args.call c.begin-ask.ensures.next in
    record {
      seat = comes.0 ∙ c.requires.seat;
      ask = c.begin-ask.ensures.ask ∙ ap (λ (q : Seat). session_ask q n.state) (sym comes.0);
      left = (first, subst (λ (x : SessionState). StandAlike x first) (sym comes.1) led.2, sym (c.replies-reply-items.ensures.led led.0 c.args.call led.1));
    }

pub loop-reply-preserved : goal.loop-reply-preserved
loop-reply-preserved g c =
    let k = g.L.Line.seat c.args.line.now in
    let m = c.loop-reply.machine in
    let n = c.go_on-ask.new.self in
    let reply = get_or c.replies-reply-items.result.now c.loop-reply.reply-index 0 in
    let left = c.loop-reply.invariant.left in
    let comes = step_comes k m n reply c.loop-reply.invariant.seat c.go_on-ask.ensures.next in
    record {
      seat = comes.0;
      ask = c.go_on-ask.ensures.ask ∙ ap (λ (q : Seat). session_ask q n.state) (c.loop-reply.invariant.seat ∙ sym comes.0);
      left = (
        leads k left.0 reply,
        subst (λ (x : SessionState). StandAlike x (leads k left.0 reply)) (sym comes.1) (replies_alike k m.state left.0 reply (c.law_of_standing.ensures.replies k m.state left.0 reply left.1)),
        replay_next k left.0 (leads k left.0 reply) (g.L.Line.stands c.args.line.now) c.replies-reply-items.result.now c.loop-reply.reply-index reply c.loop-reply-test.true refl refl left.2,
      );
    }

pub returns : goal.returns
returns g c =
    let k = g.L.Line.seat c.args.line.now in
    let m = c.loop-reply.machine in
    let left = c.loop-reply.invariant.left in
    let stands = g.L.Line.stands c.args.line.now in
    let alike = subst (λ (x : SessionState). StandAlike m.state x) (replay_end k left.0 stands c.replies-reply-items.result.now c.loop-reply.reply-index c.loop-reply-test.false left.2) left.1 in
    record {
      seat = c.loop-reply.invariant.seat;
      alike = alike;
      ask = c.loop-reply.invariant.ask ∙ (ap (λ (q : Seat). session_ask q m.state) c.loop-reply.invariant.seat ∙ c.law_of_standing.ensures.asks k m.state stands alike);
    }
