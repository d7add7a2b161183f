-- A call that is over at once is noted, and every other one goes its steps.
use Rattle.std.proofs.Common.{refl, sym, subst, ◌∙◌, List}
use Rattle.fkv_session.specs.declared.answers.Finished.{Finished}
use Rattle.fkv_session.specs.Sessions.{Seat}
use Rattle.fkv_session.specs.SessionRun.{telling}
use Rattle.fkv_seats.specs.Rule.{led}
use Rattle.fkv_table.specs.Calls.{HasStepped, IsToldLast}
use Rattle.fkv_table.specs.Desks.{noted}
use Rattle.fkv_table.specs.Planes.{opening_of, plane}
use Rattle.fkv_table.proofs.Called.{called, noted_called, noted_seated, noted_told}
use Rattle.fkv_table.proofs.StandIns.{rests_in, same_finished, word_in}
use Rattle.fkv_table.proofs.sessions.run_begun.Goals as goal

pub returns-in-Done-clause-called : goal.returns-in-Done-clause-called
returns-in-Done-clause-called g c =
    let t = c.note.ensures.told in let sits = c.requires.seated in
    noted_called (opening_of g.D.Device.seen) c.args.words.now.key c.args.seat.now.me (record c.args.machine.now { state = sits.its }) c.args.call.now c.requires.table.1.opening sits.seated c.requires.note c.note.new.seat.me 0 t.0 t.1

pub returns-in-Done-clause-rests : goal.returns-in-Done-clause-rests
returns-in-Done-clause-rests g c =
    let t = c.note.ensures.told in let sits = c.requires.seated in let law = c.law_of_standing.ensures in
    let seated = noted_seated (opening_of g.D.Device.seen) c.args.words.now.key c.args.seat.now.me (record c.args.machine.now { state = sits.its }) c.args.call.now c.requires.table.1.opening sits.seated c.requires.note c.note.new.seat.me 0 t.0 t.1 in
    (rests_in (opening_of g.D.Device.seen) c.args.words.now.key c.note.new.seat.me c.args.machine.now c.in-Done.told law.asks law.lasts c.requires.table.1.opening (record { its = sits.its; seated = seated; alike = sits.alike }) (sym c.requires.ask ∙ c.in-Done.is), refl)

pub returns-in-Done-clause-told : goal.returns-in-Done-clause-told
returns-in-Done-clause-told g c =
    let t = c.note.ensures.told in let sits = c.requires.seated in let m = c.args.machine.now in let law = c.law_of_standing.ensures in
    let told = noted_told (opening_of g.D.Device.seen) c.args.words.now.key c.args.seat.now.me (record m { state = sits.its }) c.args.call.now c.requires.table.1.opening sits.seated c.requires.note c.note.new.seat.me 0 t.0 t.1 c.in-Done.told c.requires.idle
    (sym (law.asks m.seat m.state sits.its sits.alike) ∙ (sym c.requires.ask ∙ c.in-Done.is)) in
    subst (λ (finished : List Finished). IsToldLast (led (plane (opening_of g.D.Device.seen)) (opening_of g.D.Device.seen c.args.words.now.key) c.note.new.seat.me.0.seen) m.seat.number (telling c.in-Done.told finished))
    (sym (same_finished m.state sits.its (law.lasts m.state sits.its sits.alike))) told

pub step-next-requires : goal.step-next-requires
step-next-requires g c = record {
  table = c.requires.table;
  seated = c.requires.seated;
  ask = c.requires.ask;
  word = word_in (opening_of g.D.Device.seen) c.args.words.now.key c.args.seat.now.me (noted c.args.seat.now.me.1) c.args.machine.now c.args.first c.law_of_standing.ensures.asks c.requires.table.1.opening c.requires.seated c.requires.ask c.in_default.not-Done;
}

pub returns : goal.returns
returns g c =
    let first = c.step-next.ensures in let later = c.steps_on.ensures in record {
      seat = (later.seat.0 ∙ first.seat.0, later.seat.1 ∙ first.seat.1);
      called = called (opening_of g.D.Device.seen) c.args.machine.now.seat.number c.args.call.now c.args.seat.now.me c.step-next.new.seat.me c.steps_on.new.seat.me.0.seen c.requires.seated.seated.role c.requires.note first.went
          (subst (λ (k : Seat). HasStepped k.number c.step-next.new.seat.me.0.seen c.steps_on.new.seat.me.0.seen) first.seated.1 later.steps);
      desk = (later.desk.0 ∙ first.went.base, later.desk.1 ∙ first.went.desk);
      rests = (later.rests.0, later.rests.1 ∙ first.seated.1);
      empty = later.idle;
      told = later.told;
    }
