-- A line begins where the session rests. A call that went straight to its end leaves it at rest. Where it has stopped the machine comes to stand where the line stands.
use Rattle.std.proofs.Common.{[], sym, ap, subst, refl, ◌∙◌, ◌≡◌, false}
use Rattle.fkv_plane.specs.declared.asks.Ask.TheVariants.{Done}
use Rattle.fkv_session.specs.Alike.{StandAlike, lasting}
use Rattle.fkv_session.specs.Sessions.{is_busy, session_ask}
use Rattle.fkv_straight.specs.Standing.{begins}
use Rattle.fkv_table.specs.Calls.{HasCalled, IsReady}
use Rattle.fkv_table.specs.Lines.{HasLed, IsBegun, line_of, stands}
use Rattle.fkv_table.specs.Planes.{opening_of}
use Rattle.fkv_table.proofs.Straights.{alike_first, gone_over, idle_first, stays_ready}
use Rattle.fkv_table.proofs.sessions.run_call.Goals as goal

pub run-went-requires : goal.run-went-requires
run-went-requires g c =
    let at = opening_of g.D.Device.seen in let m = c.args.machine.now in
    let value = c.new-line.ensures.value in
    record {
      idle = subst (λ z. is_busy (stands at z).step ≡ false) (sym value) (idle_first at c.args.words.now.key c.args.words.now.table_id c.args.seat.table_id c.args.seat.me m c.args.desk c.requires.ready);
      seat = ap (λ z. z.machine.seat) (sym value);
      alike = subst (λ z. lasting m.state ≡ lasting (stands at z)) (sym value) (alike_first at c.args.words.now.key c.args.words.now.table_id c.args.seat.table_id c.args.seat.me m c.args.desk c.requires.ready);
    }

pub returns-in-Ended : goal.returns-in-Ended
returns-in-Ended g c =
    let at = opening_of g.D.Device.seen in let m = c.args.machine.now in let value = c.new-line.ensures.value in let now = c.run-went.new.line in let end = c.into_seat-seat.ensures in
    let did = c.run-went.ensures.ended c.in-Ended.told c.in-Ended.is in
    let went = subst (λ z. HasLed at z c.args.call now) value did.0 in
    let is = did.1 ∙ ap (λ z. session_ask z.machine.seat (stands at now)) value in
    let its = gone_over at c.args.words.now.key c.args.words.now.table_id c.args.seat.table_id c.args.seat.me m c.args.desk c.requires.ready c.args.call now went end.along c.run-went.new.self c.run-went.ensures.machine did.2 (Done c.in-Ended.told) is
    c.in-Ended.told refl c.into_seat-seat.result.table_id end.table c.into_seat-seat.result.me end.me in
    record { ready = its.its_ready; number = its.its_number; called = its.its_called; told = its.its_told }

pub go_on-seat-requires : goal.go_on-seat-requires
go_on-seat-requires g c =
    let at = opening_of g.D.Device.seen in let m = c.args.machine.now in let value = c.new-line.ensures.value in let now = c.run-went.new.line in let key = c.args.words.now.key in let table = c.args.words.now.table_id in
    let did = c.run-went.ensures.stopped c.in-Stopped.is in
    let went = subst (λ z. HasLed at z c.args.call now) value did.0 in
    let begun : IsBegun at key table m c.args.call now = record {
      me = c.args.seat.me;
      seat = c.args.seat.table_id;
      ready = subst (λ d. IsReady at key table c.args.seat.table_id c.args.seat.me m d) (sym (ap (λ z. z.desk) went.same)) c.requires.ready;
      led = subst (λ d. HasLed at (line_of key table c.args.seat.me m d []) c.args.call now) (sym (ap (λ z. z.desk) went.same)) went;
      begins = subst (λ d. StandAlike (begins m.seat m.state c.args.call) (begins m.seat (stands at (line_of key table c.args.seat.me m d [])) c.args.call)) (sym (ap (λ z. z.desk) went.same))
          (subst (λ z. StandAlike (begins m.seat m.state c.args.call) (begins z.machine.seat (stands at z) c.args.call)) value did.2);
    } in
    record { begun = subst (λ x. IsBegun at key table x c.args.call now) (sym did.1) begun }

pub returns-in-Stopped : goal.returns-in-Stopped
returns-in-Stopped g c =
    let at = opening_of g.D.Device.seen in let m = c.args.machine.now in let value = c.new-line.ensures.value in let now = c.run-went.new.line in
    let did = c.run-went.ensures.stopped c.in-Stopped.is in
    let went = subst (λ z. HasLed at z c.args.call now) value did.0 in
    let ran = c.go_on-seat.ensures in
    let same = ap (λ x. x.seat.number) did.1 in
    record {
      ready = subst (λ d. IsReady at c.args.words.now.key c.args.words.now.table_id c.go_on-seat.result.0.table_id c.go_on-seat.result.0.me c.go_on-seat.new.machine d) (ap (λ z. z.desk) went.same) ran.ready;
      number = ran.number ∙ same;
      called = subst (λ n. HasCalled n c.args.call c.args.seat.me.0.seen c.go_on-seat.result.0.me.0.seen) same
          (ran.called c.args.seat.me.0.seen (subst (λ n. HasCalled n c.args.call c.args.seat.me.0.seen now.me.0.seen) (sym same) went.called));
      told = ran.told;
    }

pub run_by_machine-told-requires : goal.run_by_machine-told-requires
run_by_machine-told-requires g c =
    let at = opening_of g.D.Device.seen in let end = c.into_seat-seat-in-Stayed.ensures in let did = c.run-went.ensures.stayed c.in-Stayed.is in let value = c.new-line.ensures.value in
    record {
      ready = stays_ready at c.args.words.now.key c.args.words.now.table_id c.args.seat.table_id c.args.seat.me c.args.machine.now c.args.desk c.requires.ready c.run-went.new.self did.1 c.into_seat-seat-in-Stayed.result.table_id
          (end.table ∙ ap (λ z. z.table) (did.0 ∙ value)) c.into_seat-seat-in-Stayed.result.me (end.me ∙ ap (λ z. z.me) (did.0 ∙ value));
    }

pub returns-in-Stayed : goal.returns-in-Stayed
returns-in-Stayed g c =
    let end = c.into_seat-seat-in-Stayed.ensures in let did = c.run-went.ensures.stayed c.in-Stayed.is in let value = c.new-line.ensures.value in let ran = c.run_by_machine-told.ensures in
    let same = ap (λ x. x.seat.number) did.1 in
    let me = end.me ∙ ap (λ z. z.me) (did.0 ∙ value) in
    record {
      ready = ran.ready;
      number = ran.number ∙ same;
      called = subst (λ n. HasCalled n c.args.call c.args.seat.me.0.seen c.run_by_machine-told.new.seat.me.0.seen) same
          (subst (λ x. HasCalled c.run-went.new.self.seat.number c.args.call x.0.seen c.run_by_machine-told.new.seat.me.0.seen) me ran.called);
      told = ran.told;
    }
