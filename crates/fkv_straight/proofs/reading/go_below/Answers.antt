-- Below the floor the chain has ended, and the key is absent.
use Rattle.std.proofs.Common.{◌<◌, ◌≤◌, ℕ, refl, subst, sym}
use Rattle.fkv_map.specs.declared.operations.Call.TheVariants as call
use Rattle.fkv_session.specs.Alike.{lasting}
use Rattle.fkv_session.specs.declared.answers.Told.TheVariants.{Absent}
use Rattle.fkv_straight.specs.Course.{course_of, Goes}
use Rattle.fkv_straight.specs.Standing.{IsEnded}
use Rattle.fkv_straight.proofs.Endings.{read_asks, read_caught_up}
use Rattle.fkv_straight.proofs.Goings.{reads_calm, updates_in}
use Rattle.fkv_straight.proofs.MayGoes.{goes_alike}
use Rattle.fkv_straight.proofs.ReadEnds.{below_ends}
use Rattle.fkv_straight.proofs.reading.go_below.Goals as goal

pub returns-then-sought-going-clause-ended : goal.returns-then-sought-going-clause-ended
returns-then-sought-going-clause-ended g c =
    let k = g.L.Line.seat c.args.line.now in
    let s = c.requires.at.0 in
    let its = course_of k s c.args.op (call.Op c.args.op) in
    let away = c.requires.at.2 in
    let u = g.L.Line.stands c.args.line.now in
    let goes : Goes its k c.args.op c.args.going.now = goes_alike c.args.machine.now.seat k c.args.machine.now.state s c.args.op c.args.going.now c.requires.may c.requires.seat c.requires.at.1 in
    let below = subst (λ (n : ℕ). c.args.sought.addr.0 < n) (sym goes.its_floor) c.if-sought-going.true in
    let ended : IsEnded (lasting s) Absent u =
    below_ends its away.0 c.args.sought.entry c.args.sought.addr.0 u refl away.1 away.2 below away.3 (reads_calm its k c.args.op c.args.going.now goes c.requires.reads) (updates_in its k c.args.op c.args.going.now _ goes c.requires.reads) in
    (read_asks k u (lasting s) Absent ended, read_caught_up c.args.machine.now.state u (lasting s) Absent c.requires.at.1 ended)

pub ask_for-requires-clause-at : goal.ask_for-requires-clause-at
ask_for-requires-clause-at g c =
    let k = g.L.Line.seat c.args.line.now in
    let s = c.requires.at.0 in
    let its = course_of k s c.args.op (call.Op c.args.op) in
    let away = c.requires.at.2 in
    let goes : Goes its k c.args.op c.args.going.now = goes_alike c.args.machine.now.seat k c.args.machine.now.state s c.args.op c.args.going.now c.requires.may c.requires.seat c.requires.at.1 in
    (s, c.requires.at.1, (away.0, away.1, away.2, subst (λ (n : ℕ). n ≤ c.args.sought.addr.0) (sym goes.its_floor) c.if-sought-going.false, away.3))
