-- The seat is the session's as it was, and so it is ready for its call. The hot part leaves it at rest, or where the rest of the call begins.
use Rattle.std.proofs.Common.{[], sym, ap, subst, refl, length, take, ◌∙◌, ◌≡◌, false}
use Rattle.fkv_map.specs.declared.operations.Call.TheVariants as call
use Rattle.fkv_plane.specs.declared.asks.Ask.TheVariants.{Done}
use Rattle.fkv_session.specs.Alike.{StandAlike, lasting}
use Rattle.fkv_session.specs.Sessions.{is_busy, session_ask}
use Rattle.fkv_straight.specs.Hot.{HasLeft}
use Rattle.fkv_straight.specs.Standing.{begins}
use Rattle.fkv_table.specs.Calls.{HasCalled}
use Rattle.fkv_table.specs.Lines.{HasLed, IsAlong, IsLeft, Origin, line_of, stands}
use Rattle.fkv_table.specs.Planes.{opening_of}
use Rattle.fkv_table.proofs.Parting.{called_by, ready_by}
use Rattle.fkv_table.proofs.Ready.{some_words}
use Rattle.fkv_table.proofs.Straights.{alike_first, gone_over, idle_first, stays_ready}
use Rattle.fkv_table.proofs.sessions.Session.op.Goals as goal

pub take_seat-seat-requires : goal.take_seat-seat-requires
take_seat-seat-requires g c = let r = c.requires.ready in record { table = (r.same_table, some_words _ _ r.opened); whose = (c.args.self.now.machine.seat.number, r.rests.seated.role); empty = r.empty }

pub new-line-requires : goal.new-line-requires
new-line-requires g c = let same = c.take_seat-seat.ensures.same in record { ready = ready_by (opening_of g.D.Device.seen) _ _ _ _ _ _ _ _ same.0 same.1 c.requires.ready }

pub run_hot-went-requires-clause-idle : goal.run_hot-went-requires-clause-idle
run_hot-went-requires-clause-idle g c =
    let at = opening_of g.D.Device.seen in let same = c.take_seat-seat.ensures.same in let ready = ready_by at _ _ _ _ _ _ _ _ same.0 same.1 c.requires.ready in
    subst (λ z. is_busy (stands at z).step ≡ false) (sym c.new-line.ensures.value) (idle_first at c.args.table.now.table.shared.key c.args.table.now.table.shared.table_id c.take_seat-seat.result.table_id c.take_seat-seat.result.me c.args.self.now.machine c.args.self.now.desk ready)

pub run_hot-went-requires-clause-alike : goal.run_hot-went-requires-clause-alike
run_hot-went-requires-clause-alike g c =
    let at = opening_of g.D.Device.seen in let same = c.take_seat-seat.ensures.same in let ready = ready_by at _ _ _ _ _ _ _ _ same.0 same.1 c.requires.ready in let m = c.args.self.now.machine in
    subst (λ z. lasting m.state ≡ lasting (stands at z)) (sym c.new-line.ensures.value) (alike_first at c.args.table.now.table.shared.key c.args.table.now.table.shared.table_id c.take_seat-seat.result.table_id c.take_seat-seat.result.me m c.args.self.now.desk ready)

pub run_due-requires-clause-table : goal.run_due-requires-clause-table
run_due-requires-clause-table g c =
    let at = opening_of g.D.Device.seen in let same = c.take_seat-seat.ensures.same in let ready = ready_by at _ _ _ _ _ _ _ _ same.0 same.1 c.requires.ready in let m = c.args.self.now.machine in let key = c.args.table.now.table.shared.key in let table = c.args.table.now.table.shared.table_id in let its = call.Op c.args.op in let value = c.new-line.ensures.value in
    let now = c.run_hot-went.new.line in let end = c.into_parts-seat.ensures in let made = c.into_parts-seat.result in
    let did = c.run_hot-went.ensures.left c.in-Left.due c.in-Left.is in
    let start = line_of key table c.take_seat-seat.result.me m c.args.self.now.desk [] in
    let went : HasLed at start its now = subst (λ z. HasLed at z its now) value did.0 in
    end.table ∙ ap (λ z. z.table) went.same

pub run_due-requires-clause-left : goal.run_due-requires-clause-left
run_due-requires-clause-left g c =
    let at = opening_of g.D.Device.seen in let same = c.take_seat-seat.ensures.same in let ready = ready_by at _ _ _ _ _ _ _ _ same.0 same.1 c.requires.ready in let m = c.args.self.now.machine in let key = c.args.table.now.table.shared.key in let table = c.args.table.now.table.shared.table_id in let its = call.Op c.args.op in let value = c.new-line.ensures.value in
    let now = c.run_hot-went.new.line in let end = c.into_parts-seat.ensures in let made = c.into_parts-seat.result in
    let did = c.run_hot-went.ensures.left c.in-Left.due c.in-Left.is in
    let start = line_of key table c.take_seat-seat.result.me m c.args.self.now.desk [] in
    let went : HasLed at start its now = subst (λ z. HasLed at z its now) value did.0 in
    let begins_so = subst (λ z. StandAlike (begins m.seat m.state its) (begins z.machine.seat (stands at z) its)) value (c.run_hot-went.ensures.begins c.in-Left.due c.in-Left.is) in
    let replies = take made.kept made.aside.now.replies in
    let now_is : now ≡ line_of key table made.seat.me m c.args.self.now.desk replies = went.same ∙ λ i. line_of key table (sym end.me i) m c.args.self.now.desk (sym end.replies i) in
    let first : Origin _ = record { seat = c.take_seat-seat.result.table_id; me = c.take_seat-seat.result.me } in
    let here : IsLeft at key table m c.args.self.now.desk c.args.op c.in-Left.due first made.seat.me replies = record {
      ready = ready;
      along = subst (λ z. IsAlong at z) now_is end.along;
      led = subst (λ z. HasLed at start its z) now_is went;
      begins = begins_so;
      left = subst (λ z. HasLeft m.seat m.state c.args.op c.in-Left.due (length z.replies) (stands at z)) now_is did.2;
    } in
    let left = subst (λ x. IsLeft at key table x c.args.self.now.desk c.args.op c.in-Left.due first made.seat.me replies) (sym did.1) here in
    (first, left)

pub run_cold-requires : goal.run_cold-requires
run_cold-requires g c =
    let at = opening_of g.D.Device.seen in let same = c.take_seat-seat.ensures.same in let ready = ready_by at _ _ _ _ _ _ _ _ same.0 same.1 c.requires.ready in let end = c.into_parts-seat.ensures in let did = c.run_hot-went.ensures.stayed c.in-Stayed.is in let value = c.new-line.ensures.value in
    record {
      ready = stays_ready at c.args.table.now.table.shared.key c.args.table.now.table.shared.table_id c.take_seat-seat.result.table_id c.take_seat-seat.result.me c.args.self.now.machine c.args.self.now.desk ready c.run_hot-went.new.self did.1 c.into_parts-seat.result.seat.table_id
          (end.table ∙ ap (λ z. z.table) (did.0 ∙ value)) c.into_parts-seat.result.seat.me (end.me ∙ ap (λ z. z.me) (did.0 ∙ value));
    }

pub returns-in-Ended-clause-ready : goal.returns-in-Ended-clause-ready
returns-in-Ended-clause-ready g c =
    let at = opening_of g.D.Device.seen in let same = c.take_seat-seat.ensures.same in let ready = ready_by at _ _ _ _ _ _ _ _ same.0 same.1 c.requires.ready in let m = c.args.self.now.machine in let key = c.args.table.now.table.shared.key in let table = c.args.table.now.table.shared.table_id in let its = call.Op c.args.op in let value = c.new-line.ensures.value in
    let now = c.run_hot-went.new.line in let end = c.into_parts-seat.ensures in
    let did = c.run_hot-went.ensures.ended c.in-Ended.told c.in-Ended.is in
    let went = subst (λ z. HasLed at z its now) value did.0 in
    let is = did.1 ∙ ap (λ z. session_ask z.machine.seat (stands at now)) value in
    let gone = gone_over at key table c.take_seat-seat.result.table_id c.take_seat-seat.result.me m c.args.self.now.desk ready its now went end.along c.run_hot-went.new.self c.run_hot-went.ensures.machine did.2 (Done c.in-Ended.told) is
    c.in-Ended.told refl c.into_parts-seat.result.seat.table_id end.table c.into_parts-seat.result.seat.me end.me in
    gone.its_ready

pub returns-in-Ended-clause-called : goal.returns-in-Ended-clause-called
returns-in-Ended-clause-called g c =
    let at = opening_of g.D.Device.seen in let same = c.take_seat-seat.ensures.same in let ready = ready_by at _ _ _ _ _ _ _ _ same.0 same.1 c.requires.ready in let m = c.args.self.now.machine in let key = c.args.table.now.table.shared.key in let table = c.args.table.now.table.shared.table_id in let its = call.Op c.args.op in let value = c.new-line.ensures.value in
    let now = c.run_hot-went.new.line in let end = c.into_parts-seat.ensures in
    let did = c.run_hot-went.ensures.ended c.in-Ended.told c.in-Ended.is in
    let went = subst (λ z. HasLed at z its now) value did.0 in
    let is = did.1 ∙ ap (λ z. session_ask z.machine.seat (stands at now)) value in
    let gone = gone_over at key table c.take_seat-seat.result.table_id c.take_seat-seat.result.me m c.args.self.now.desk ready its now went end.along c.run_hot-went.new.self c.run_hot-went.ensures.machine did.2 (Done c.in-Ended.told) is
    c.in-Ended.told refl c.into_parts-seat.result.seat.table_id end.table c.into_parts-seat.result.seat.me end.me in
    called_by m.seat.number its _ _ _ same.1 gone.its_called

pub returns-in-Ended-clause-told : goal.returns-in-Ended-clause-told
returns-in-Ended-clause-told g c =
    let at = opening_of g.D.Device.seen in let same = c.take_seat-seat.ensures.same in let ready = ready_by at _ _ _ _ _ _ _ _ same.0 same.1 c.requires.ready in let m = c.args.self.now.machine in let key = c.args.table.now.table.shared.key in let table = c.args.table.now.table.shared.table_id in let its = call.Op c.args.op in let value = c.new-line.ensures.value in
    let now = c.run_hot-went.new.line in let end = c.into_parts-seat.ensures in
    let did = c.run_hot-went.ensures.ended c.in-Ended.told c.in-Ended.is in
    let went = subst (λ z. HasLed at z its now) value did.0 in
    let is = did.1 ∙ ap (λ z. session_ask z.machine.seat (stands at now)) value in
    let gone = gone_over at key table c.take_seat-seat.result.table_id c.take_seat-seat.result.me m c.args.self.now.desk ready its now went end.along c.run_hot-went.new.self c.run_hot-went.ensures.machine did.2 (Done c.in-Ended.told) is
    c.in-Ended.told refl c.into_parts-seat.result.seat.table_id end.table c.into_parts-seat.result.seat.me end.me in
    gone.its_told

pub returns-in-Left-clause-called : goal.returns-in-Left-clause-called
returns-in-Left-clause-called g c =
    let at = opening_of g.D.Device.seen in let same = c.take_seat-seat.ensures.same in let ready = ready_by at _ _ _ _ _ _ _ _ same.0 same.1 c.requires.ready in let m = c.args.self.now.machine in let key = c.args.table.now.table.shared.key in let table = c.args.table.now.table.shared.table_id in let its = call.Op c.args.op in let value = c.new-line.ensures.value in
    let now = c.run_hot-went.new.line in let end = c.into_parts-seat.ensures in let made = c.into_parts-seat.result in
    let did = c.run_hot-went.ensures.left c.in-Left.due c.in-Left.is in
    let start = line_of key table c.take_seat-seat.result.me m c.args.self.now.desk [] in
    let went : HasLed at start its now = subst (λ z. HasLed at z its now) value did.0 in
    let begins_so = subst (λ z. StandAlike (begins m.seat m.state its) (begins z.machine.seat (stands at z) its)) value (c.run_hot-went.ensures.begins c.in-Left.due c.in-Left.is) in
    let replies = take made.kept made.aside.now.replies in
    let now_is : now ≡ line_of key table made.seat.me m c.args.self.now.desk replies = went.same ∙ λ i. line_of key table (sym end.me i) m c.args.self.now.desk (sym end.replies i) in
    let first : Origin _ = record { seat = c.take_seat-seat.result.table_id; me = c.take_seat-seat.result.me } in
    let here : IsLeft at key table m c.args.self.now.desk c.args.op c.in-Left.due first made.seat.me replies = record {
      ready = ready;
      along = subst (λ z. IsAlong at z) now_is end.along;
      led = subst (λ z. HasLed at start its z) now_is went;
      begins = begins_so;
      left = subst (λ z. HasLeft m.seat m.state c.args.op c.in-Left.due (length z.replies) (stands at z)) now_is did.2;
    } in
    let left = subst (λ x. IsLeft at key table x c.args.self.now.desk c.args.op c.in-Left.due first made.seat.me replies) (sym did.1) here in
    called_by m.seat.number its _ _ _ same.1 (subst (λ n. HasCalled n its c.take_seat-seat.result.me.0.seen c.run_due.result.me.0.seen) (ap (λ x. x.seat.number) did.1) (c.run_due.ensures.called first left))

pub returns-in-Stayed-clause-called : goal.returns-in-Stayed-clause-called
returns-in-Stayed-clause-called g c =
    let its = call.Op c.args.op in let end = c.into_parts-seat.ensures in let did = c.run_hot-went.ensures.stayed c.in-Stayed.is in let n = c.args.self.now.machine.seat.number in
    let called = subst (λ x. HasCalled x.seat.number its c.into_parts-seat.result.seat.me.0.seen c.run_cold.result.me.0.seen) did.1 c.run_cold.ensures.called in
    let me = end.me ∙ ap (λ z. z.me) (did.0 ∙ c.new-line.ensures.value) in
    called_by n its _ _ _ c.take_seat-seat.ensures.same.1 (subst (λ x. HasCalled n its x.0.seen c.run_cold.result.me.0.seen) me called)
