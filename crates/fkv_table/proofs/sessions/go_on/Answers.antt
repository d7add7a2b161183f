-- The machine comes to stand where the line stands, and makes the rest of the call from there.
use Rattle.std.proofs.Common.{sym, ap, subst, ◌∙◌}
use Rattle.fkv_session.specs.Sessions.{session_ask}
use Rattle.fkv_straight.specs.Standing.{IsCaughtUp}
use Rattle.fkv_table.specs.Calls.{HasCalled}
use Rattle.fkv_table.specs.Lines.{line_of, stands}
use Rattle.fkv_table.specs.Planes.{opening_of}
use Rattle.fkv_table.proofs.StandIns.{StandsByLaws}
use Rattle.fkv_table.proofs.Straights.{asks_there, called_from, gone_on, gone_over, hand_here, on, settled_here, stands_on}
use Rattle.fkv_table.proofs.sessions.go_on.Goals as goal

pub catch_up-ask-requires : goal.catch_up-ask-requires
catch_up-ask-requires g c =
    let b = c.requires.begun in
    record { seat = sym (ap (λ z. z.machine.seat) (b.led.same)); led = (line_of c.args.words.now.key c.args.words.now.table_id b.me c.args.machine.now c.args.line.desk _, b.led, b.begins) }

pub returns-in-Done : goal.returns-in-Done
returns-in-Done g c =
    let at = opening_of g.D.Device.seen in let m = c.args.machine.now in let now = c.args.line in let b = c.requires.begun in let end = c.into_seat-seat.ensures in
    let there = c.catch_up-ask.ensures.alike in
    let law = c.law_of_standing.ensures in
    let laws : StandsByLaws = record { asks = law.asks; goes = law.replies; takes = law.actions; lasts = law.lasts } in
    let same_seat = c.catch_up-ask.ensures.seat ∙ ap (λ z. z.machine.seat) (b.led.same) in
    let caught : IsCaughtUp c.catch_up-ask.new.self.state (stands at now) = record { lasts = law.lasts c.catch_up-ask.new.self.state (stands at now) there; alike = λ busy. there } in
    let is = c.catch_up-ask.ensures.ask ∙ ap (λ z. session_ask z.machine.seat (stands at now)) (b.led.same) in
    let its = gone_over at c.args.words.now.key c.args.words.now.table_id b.seat b.me m c.args.line.desk b.ready c.args.call now b.led end.along c.catch_up-ask.new.self same_seat caught c.catch_up-ask.result is
    c.in-Done.told c.in-Done.is c.into_seat-seat.result.table_id end.table c.into_seat-seat.result.me end.me in
    record {
      ready = its.its_ready;
      number = its.its_number;
      called = λ seen called. subst (λ x. HasCalled m.seat.number c.args.call seen x.0.seen) (sym end.me) called;
      told = its.its_told;
    }

pub settle-next-requires : goal.settle-next-requires
settle-next-requires g c =
    let at = opening_of g.D.Device.seen in let m = c.args.machine.now in let now = c.args.line in let b = c.requires.begun in let end = c.into_seat-seat.ensures in
    let there = c.catch_up-ask.ensures.alike in
    let law = c.law_of_standing.ensures in
    let laws : StandsByLaws = record { asks = law.asks; goes = law.replies; takes = law.actions; lasts = law.lasts } in
    let same_seat = c.catch_up-ask.ensures.seat ∙ ap (λ z. z.machine.seat) (b.led.same) in
    let caught : IsCaughtUp c.catch_up-ask.new.self.state (stands at now) = record { lasts = law.lasts c.catch_up-ask.new.self.state (stands at now) there; alike = λ busy. there } in
    let is = c.catch_up-ask.ensures.ask ∙ ap (λ z. session_ask z.machine.seat (stands at now)) (b.led.same) in
    record {
      table = end.table ∙ ap (λ z. z.table) (b.led.same);
      ask = asks_there at c.args.words.now.key c.args.words.now.table_id b.seat b.me m c.args.line.desk b.ready c.args.call now b.led end.along c.catch_up-ask.new.self same_seat caught c.catch_up-ask.result is
          c.in_default.not-Done laws;
      hand = hand_here at c.args.words.now.key c.args.words.now.table_id b.seat b.me m c.args.line.desk b.ready c.args.call now b.led end.along c.catch_up-ask.new.self same_seat caught c.catch_up-ask.result is
          c.in_default.not-Done laws c.into_seat-seat.result.me end.me;
    }

pub steps_on-told-requires : goal.steps_on-told-requires
steps_on-told-requires g c =
    let at = opening_of g.D.Device.seen in let m = c.args.machine.now in let now = c.args.line in let b = c.requires.begun in let end = c.into_seat-seat.ensures in
    let there = c.catch_up-ask.ensures.alike in
    let law = c.law_of_standing.ensures in
    let laws : StandsByLaws = record { asks = law.asks; goes = law.replies; takes = law.actions; lasts = law.lasts } in
    let same_seat = c.catch_up-ask.ensures.seat ∙ ap (λ z. z.machine.seat) (b.led.same) in
    let caught : IsCaughtUp c.catch_up-ask.new.self.state (stands at now) = record { lasts = law.lasts c.catch_up-ask.new.self.state (stands at now) there; alike = λ busy. there } in
    let is = c.catch_up-ask.ensures.ask ∙ ap (λ z. session_ask z.machine.seat (stands at now)) (b.led.same) in
    let set = c.settle-next.ensures in
    let moved = settled_here at c.args.words.now.key c.args.words.now.table_id b.seat b.me m c.args.line.desk b.ready c.args.call now b.led end.along c.catch_up-ask.new.self same_seat caught c.catch_up-ask.result is
    c.in_default.not-Done laws c.into_seat-seat.result.me c.settle-next.new.seat.me c.settle-next.new.machine end.me set.settled in
    let its = on at c.args.words.now.key c.args.words.now.table_id b.seat b.me m c.args.line.desk b.ready c.args.call now b.led end.along c.catch_up-ask.new.self same_seat caught c.catch_up-ask.result is
    c.in_default.not-Done laws c.settle-next.new.seat.me c.settle-next.new.machine moved in
    record {
      table = (set.seat.0 ∙ (end.table ∙ ap (λ z. z.table) (b.led.same)), b.ready.opened);
      seated = stands_on at c.args.words.now.key c.args.words.now.table_id b.seat b.me m c.args.line.desk b.ready c.args.call now b.led end.along c.catch_up-ask.new.self same_seat caught c.catch_up-ask.result is
          c.in_default.not-Done laws c.settle-next.new.seat.me c.settle-next.new.machine moved;
      idle = its.idle;
      told = its.told;
      ask = set.ask;
    }

pub returns : goal.returns
returns g c =
    let at = opening_of g.D.Device.seen in let m = c.args.machine.now in let now = c.args.line in let b = c.requires.begun in let end = c.into_seat-seat.ensures in
    let there = c.catch_up-ask.ensures.alike in
    let law = c.law_of_standing.ensures in
    let laws : StandsByLaws = record { asks = law.asks; goes = law.replies; takes = law.actions; lasts = law.lasts } in
    let same_seat = c.catch_up-ask.ensures.seat ∙ ap (λ z. z.machine.seat) (b.led.same) in
    let caught : IsCaughtUp c.catch_up-ask.new.self.state (stands at now) = record { lasts = law.lasts c.catch_up-ask.new.self.state (stands at now) there; alike = λ busy. there } in
    let is = c.catch_up-ask.ensures.ask ∙ ap (λ z. session_ask z.machine.seat (stands at now)) (b.led.same) in
    let set = c.settle-next.ensures in
    let moved = settled_here at c.args.words.now.key c.args.words.now.table_id b.seat b.me m c.args.line.desk b.ready c.args.call now b.led end.along c.catch_up-ask.new.self same_seat caught c.catch_up-ask.result is
    c.in_default.not-Done laws c.into_seat-seat.result.me c.settle-next.new.seat.me c.settle-next.new.machine end.me set.settled in
    let later = c.steps_on-told.ensures in
    let its = gone_on at c.args.words.now.key c.args.words.now.table_id b.seat b.me m c.args.line.desk b.ready c.args.call now b.led end.along c.catch_up-ask.new.self same_seat caught c.catch_up-ask.result is
    c.in_default.not-Done laws c.settle-next.new.seat.me c.settle-next.new.machine moved c.steps_on-told.new.seat.me c.steps_on-told.new.machine later.rests.0 later.rests.1 c.steps_on-told.new.seat.table_id c.steps_on-told.result
    (later.seat.0 ∙ (set.seat.0 ∙ end.table)) later.desk.0 later.desk.1 later.idle later.steps later.told in
    record {
      ready = its.its_ready;
      number = its.its_number;
      called = λ seen called. called_from at c.args.words.now.key c.args.words.now.table_id b.seat b.me m c.args.line.desk b.ready c.args.call now b.led end.along c.catch_up-ask.new.self same_seat caught c.catch_up-ask.result is
          c.in_default.not-Done laws c.settle-next.new.seat.me c.settle-next.new.machine moved c.steps_on-told.new.seat.me c.steps_on-told.new.machine later.rests.0 later.rests.1 seen called later.steps;
      told = its.its_told;
    }
