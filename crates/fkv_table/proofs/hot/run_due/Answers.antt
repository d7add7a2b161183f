-- What the hot part has left comes to its end as the rest of the call.
use Rattle.std.proofs.Common.{[], sym, ap, subst, refl, ◌∙◌, ◌≡◌}
use Rattle.std.specs.Prelude.{IfSome, IfNone}
use Rattle.fkv_map.specs.declared.operations.Call.TheVariants as call
use Rattle.fkv_plane.specs.declared.asks.Ask.TheVariants.{Done}
use Rattle.fkv_session.specs.Alike.{StandAlike}
use Rattle.fkv_session.specs.Sessions.{session_ask}
use Rattle.fkv_straight.specs.Standing.{IsCaughtUp, begins}
use Rattle.fkv_table.specs.Calls.{HasCalled, IsReady}
use Rattle.fkv_table.specs.Lines.{HasLed, IsBegun, line_of, stands}
use Rattle.fkv_table.specs.Planes.{opening_of}
use Rattle.fkv_table.proofs.Straights.{gone_over}
use Rattle.fkv_table.proofs.hot.run_due.Goals as goal

pub go_on-seat-requires : goal.go_on-seat-requires
go_on-seat-requires g c =
    let at = opening_of g.D.Device.seen in let m = c.args.machine.now in let key = c.args.words.now.key in let table = c.args.words.now.table_id in let its = call.Op c.args.aside.now.over.op in
    let first = c.requires.left.0 in let b = c.requires.left.1 in
    let start = line_of key table first.me m c.args.desk [] in let now = c.run_due-ended.new.line in
    let went : HasLed at start its now = c.run_due-ended.ensures.led start its (subst (λ z. HasLed at start its z) (sym c.resume-line.ensures.value) b.led) in
    let same : c.run_due-ended.new.self ≡ m = subst (λ o. IfNone o (c.run_due-ended.new.self ≡ m)) c.in-None.is c.run_due-ended.ensures.stopped in
    let desk = sym (ap (λ z. z.desk) went.same) in
    let begun : IsBegun at key table m its now = record {
      me = first.me;
      seat = first.seat;
      ready = subst (λ d. IsReady at key table first.seat first.me m d) desk b.ready;
      led = subst (λ d. HasLed at (line_of key table first.me m d []) its now) desk went;
      begins = subst (λ d. StandAlike (begins m.seat m.state its) (begins m.seat (stands at (line_of key table first.me m d [])) its)) desk b.begins;
    } in
    record { begun = subst (λ x. IsBegun at key table x its now) (sym same) begun }

pub returns-in-Some-clause-ready : goal.returns-in-Some-clause-ready
returns-in-Some-clause-ready g c =
    let at = opening_of g.D.Device.seen in let m = c.args.machine.now in let key = c.args.words.now.key in let table = c.args.words.now.table_id in let its = call.Op c.args.aside.now.over.op in
    let first = c.requires.left.0 in let b = c.requires.left.1 in
    let start = line_of key table first.me m c.args.desk [] in let now = c.run_due-ended.new.line in
    let went : HasLed at start its now = c.run_due-ended.ensures.led start its (subst (λ z. HasLed at start its z) (sym c.resume-line.ensures.value) b.led) in
    let did = subst (λ o. IfSome o (λ told. (Done told ≡ session_ask c.resume-line.result.machine.seat (stands at now)) × IsCaughtUp c.run_due-ended.new.self.state (stands at now))) c.in-Some.is c.run_due-ended.ensures.ended in
    let is = did.0 ∙ ap (λ z. session_ask z.machine.seat (stands at now)) c.resume-line.ensures.value in
    let end = c.into_seat-seat.ensures in
    let gone = gone_over at key table first.seat first.me m c.args.desk b.ready its now went end.along c.run_due-ended.new.self c.run_due-ended.ensures.machine did.1 (Done c.in-Some.told) is
    c.in-Some.told refl c.into_seat-seat.result.table_id end.table c.into_seat-seat.result.me end.me in
    gone.its_ready

pub returns-in-Some-clause-called : goal.returns-in-Some-clause-called
returns-in-Some-clause-called g c = λ first b.
    let at = opening_of g.D.Device.seen in let m = c.args.machine.now in let key = c.args.words.now.key in let table = c.args.words.now.table_id in let its = call.Op c.args.aside.now.over.op in
    let start = line_of key table first.me m c.args.desk [] in let now = c.run_due-ended.new.line in
    let went : HasLed at start its now = c.run_due-ended.ensures.led start its (subst (λ z. HasLed at start its z) (sym c.resume-line.ensures.value) b.led) in
    let did = subst (λ o. IfSome o (λ told. (Done told ≡ session_ask c.resume-line.result.machine.seat (stands at now)) × IsCaughtUp c.run_due-ended.new.self.state (stands at now))) c.in-Some.is c.run_due-ended.ensures.ended in
    let is = did.0 ∙ ap (λ z. session_ask z.machine.seat (stands at now)) c.resume-line.ensures.value in
    let end = c.into_seat-seat.ensures in
    let gone = gone_over at key table first.seat first.me m c.args.desk b.ready its now went end.along c.run_due-ended.new.self c.run_due-ended.ensures.machine did.1 (Done c.in-Some.told) is
    c.in-Some.told refl c.into_seat-seat.result.table_id end.table c.into_seat-seat.result.me end.me in
    gone.its_called

pub returns-in-Some-clause-told : goal.returns-in-Some-clause-told
returns-in-Some-clause-told g c =
    let at = opening_of g.D.Device.seen in let m = c.args.machine.now in let key = c.args.words.now.key in let table = c.args.words.now.table_id in let its = call.Op c.args.aside.now.over.op in
    let first = c.requires.left.0 in let b = c.requires.left.1 in
    let start = line_of key table first.me m c.args.desk [] in let now = c.run_due-ended.new.line in
    let went : HasLed at start its now = c.run_due-ended.ensures.led start its (subst (λ z. HasLed at start its z) (sym c.resume-line.ensures.value) b.led) in
    let did = subst (λ o. IfSome o (λ told. (Done told ≡ session_ask c.resume-line.result.machine.seat (stands at now)) × IsCaughtUp c.run_due-ended.new.self.state (stands at now))) c.in-Some.is c.run_due-ended.ensures.ended in
    let is = did.0 ∙ ap (λ z. session_ask z.machine.seat (stands at now)) c.resume-line.ensures.value in
    let end = c.into_seat-seat.ensures in
    let gone = gone_over at key table first.seat first.me m c.args.desk b.ready its now went end.along c.run_due-ended.new.self c.run_due-ended.ensures.machine did.1 (Done c.in-Some.told) is
    c.in-Some.told refl c.into_seat-seat.result.table_id end.table c.into_seat-seat.result.me end.me in
    gone.its_told

pub returns-in-None-clause-called : goal.returns-in-None-clause-called
returns-in-None-clause-called g c = λ first b.
    let at = opening_of g.D.Device.seen in let m = c.args.machine.now in let key = c.args.words.now.key in let table = c.args.words.now.table_id in let its = call.Op c.args.aside.now.over.op in
    let start = line_of key table first.me m c.args.desk [] in let now = c.run_due-ended.new.line in
    let went : HasLed at start its now = c.run_due-ended.ensures.led start its (subst (λ z. HasLed at start its z) (sym c.resume-line.ensures.value) b.led) in
    let same : c.run_due-ended.new.self ≡ m = subst (λ o. IfNone o (c.run_due-ended.new.self ≡ m)) c.in-None.is c.run_due-ended.ensures.stopped in
    let number = ap (λ x. x.seat.number) same in
    subst (λ n. HasCalled n its first.me.0.seen c.go_on-seat.result.0.me.0.seen) number
    (c.go_on-seat.ensures.called first.me.0.seen (subst (λ n. HasCalled n its first.me.0.seen now.me.0.seen) (sym number) went.called))
