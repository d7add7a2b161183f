-- What a call goes by lasts through it, and behind its end the machine has caught up.
use Rattle.std.proofs.Common.{◌≡◌, refl, ap, rules, false}
use Rattle.fkv_ops.specs.Requests.{is_read}
use Rattle.fkv_session.specs.Alike.{lasting}
use Rattle.fkv_session.specs.Sessions.{Sitter}
use Rattle.fkv_straight.proofs.MayGoes.{begins_alike, goes_alike}
use Rattle.fkv_straight.proofs.Endings.{update_asks, update_caught_up, waiting_ended, waiting_goes, waiting_seat}
use Rattle.fkv_straight.proofs.Goings.{goes_by_still}
use Rattle.fkv_straight.proofs.calls.go_by.Goals as goal

pub update_by_phase-straight-requires-clause-goes : goal.update_by_phase-straight-requires-clause-goes
update_by_phase-straight-requires-clause-goes g c = goes_alike c.args.machine.now.seat (g.L.Line.seat c.args.line.now) c.args.machine.now.state (g.L.Line.stands c.args.line.now) c.args.op c.args.going.now c.requires.may c.requires.seat c.requires.alike

pub update_by_phase-straight-requires-clause-begins : goal.update_by_phase-straight-requires-clause-begins
update_by_phase-straight-requires-clause-begins g c = begins_alike c.args.machine.now.seat (g.L.Line.seat c.args.line.now) c.args.machine.now.state (g.L.Line.stands c.args.line.now) c.args.op c.args.going.now c.requires.may c.requires.seat c.requires.alike

pub returns-in-Done : goal.returns-in-Done
returns-in-Done g c =
    let k = g.L.Line.seat c.args.line.now in
    let m = c.args.machine.now in
    let n = c.take_serial-serial.new.self in
    let u = g.L.Line.stands c.update_by_phase-straight.new.line in
    let l = lasting (g.L.Line.stands c.args.line.now) in
    record {
      seat = c.update_by_phase-straight.ensures.seat;
      led = c.update_by_phase-straight.ensures.led;
      machine = ap (λ (x : Sitter). x.seat) c.take_serial-serial.ensures.next;
      goes_by = λ its by. goes_by_still m n its c.take_serial-serial.ensures.next by;
      ended = (
        update_asks k m.state u l c.take_serial-serial.result c.in-Done.reply c.requires.alike c.take_serial-serial.ensures.serial c.in-Done.ensures.done,
        update_caught_up m.state n.state u l _ c.requires.alike (ap (λ (x : Sitter). x.state) c.take_serial-serial.ensures.next) c.in-Done.ensures.done,
      );
      stopped = tt;
    }

pub returns-in-Contended : goal.returns-in-Contended
returns-in-Contended g c =
    let k = g.L.Line.seat c.args.line.now in
    let m = c.args.machine.now in
    let n = c.wait.new.machine in
    let u = g.L.Line.stands c.update_by_phase-straight.new.line in
    let updates : is_read c.args.op ≡ false = search rules in
    let goes = goes_alike m.seat k m.state (g.L.Line.stands c.args.line.now) c.args.op c.args.going.now c.requires.may c.requires.seat c.requires.alike in
    record {
      seat = c.update_by_phase-straight.ensures.seat;
      led = c.update_by_phase-straight.ensures.led;
      machine = waiting_seat m n c.args.op c.wait.result c.wait.ensures.waits c.wait.ensures.full;
      goes_by = λ its by. waiting_goes m n c.args.op its c.wait.result c.wait.ensures.waits c.wait.ensures.full by;
      ended = waiting_ended k m n (g.L.Line.stands c.args.line.now) u c.args.op c.args.going.now c.wait.result goes updates c.requires.alike c.wait.ensures.waits c.wait.ensures.unbounded c.in-Contended.ensures.done;
      stopped = c.wait.ensures.full;
    }

pub returns-in-Unusual : goal.returns-in-Unusual
returns-in-Unusual g c =
    let m = c.args.machine.now in
    record {
      seat = c.update_by_phase-straight.ensures.seat;
      led = c.update_by_phase-straight.ensures.led;
      machine = refl;
      goes_by = λ its by. by;
      ended = tt;
      stopped = refl;
    }
