-- A read that is answered leaves what lasts; one whose chain leaves memory asks for the record.
use Rattle.std.proofs.Common.{refl, sym, ◌∙◌, subst}
use Rattle.fkv_map.specs.declared.operations.Call.TheVariants as call
use Rattle.fkv_ops.specs.declared.answers.DiskRecord.{DiskRecord}
use Rattle.fkv_session.specs.Alike.{lasting}
use Rattle.fkv_session.specs.declared.answers.Told.{Told}
use Rattle.fkv_session.specs.Sessions.{Seat}
use Rattle.fkv_straight.specs.declared.searching.Met.{Met}
use Rattle.fkv_straight.specs.Course.{course_of, Goes}
use Rattle.fkv_straight.specs.Mailbox.{IsAway}
use Rattle.fkv_straight.specs.Met.{HasMet}
use Rattle.fkv_straight.specs.Standing.{IsEnded}
use Rattle.fkv_straight.proofs.Endings.{read_asks, read_caught_up}
use Rattle.fkv_straight.proofs.Goings.{err_of, goes_at, ok_of, reads_calm, some_of}
use Rattle.fkv_straight.proofs.MayGoes.{begins_alike, goes_alike}
use Rattle.fkv_straight.proofs.reading.read.Goals as goal

pub search-met-requires-clause-goes : goal.search-met-requires-clause-goes
search-met-requires-clause-goes g c = goes_alike c.args.machine.now.seat (g.L.Line.seat c.args.line.now) c.args.machine.now.state (g.L.Line.stands c.args.line.now) c.args.op c.args.going.now c.requires.may c.requires.seat c.requires.alike

pub search-met-requires-clause-begins : goal.search-met-requires-clause-begins
search-met-requires-clause-begins g c = begins_alike c.args.machine.now.seat (g.L.Line.seat c.args.line.now) c.args.machine.now.state (g.L.Line.stands c.args.line.now) c.args.op c.args.going.now c.requires.may c.requires.seat c.requires.alike

pub search-met-requires-clause-calm : goal.search-met-requires-clause-calm
search-met-requires-clause-calm g c =
    let k = g.L.Line.seat c.args.line.now in
    let s = g.L.Line.stands c.args.line.now in
    let goes : Goes (course_of k s c.args.op (call.Op c.args.op)) k c.args.op c.args.going.now = goes_alike c.args.machine.now.seat k c.args.machine.now.state s c.args.op c.args.going.now c.requires.may c.requires.seat c.requires.alike in
    reads_calm (course_of k s c.args.op (call.Op c.args.op)) k c.args.op c.args.going.now goes c.requires.reads

pub tell-told-requires-clause-at : goal.tell-told-requires-clause-at
tell-told-requires-clause-at g c =
    let k = g.L.Line.seat c.args.line.now in
    let s = g.L.Line.stands c.args.line.now in
    let its = course_of k s c.args.op (call.Op c.args.op) in
    let u = g.L.Line.stands c.search-met.new.line in
    let goes : Goes its k c.args.op c.args.going.now = goes_alike c.args.machine.now.seat k c.args.machine.now.state s c.args.op c.args.going.now c.requires.may c.requires.seat c.requires.alike in
    (its, goes_at its k c.args.op c.args.going.now (g.L.Line.seat c.search-met.new.line) goes c.search-met.ensures.seat, some_of (λ (m : Met). HasMet its m u) c.search-met.result c.in-Some.its c.in-Some.is c.search-met.ensures.met)

pub returns-in-Ok-clause-ended : goal.returns-in-Ok-clause-ended
returns-in-Ok-clause-ended g c =
    let k = g.L.Line.seat c.args.line.now in
    let s = g.L.Line.stands c.args.line.now in
    let its = course_of k s c.args.op (call.Op c.args.op) in
    let u = g.L.Line.stands c.search-met.new.line in
    let v = g.L.Line.stands c.tell-told.new.line in
    let l = lasting s in
    let goes : Goes its k c.args.op c.args.going.now = goes_alike c.args.machine.now.seat k c.args.machine.now.state s c.args.op c.args.going.now c.requires.may c.requires.seat c.requires.alike in
    let ended : IsEnded l c.in-Ok.answer v = ok_of (λ (x : Told). IsEnded l x v) c.tell-told.result c.in-Ok.answer c.in-Ok.is
    (c.tell-told.ensures.ended its (goes_at its k c.args.op c.args.going.now (g.L.Line.seat c.search-met.new.line) goes c.search-met.ensures.seat) _ refl
    (some_of (λ (m : Met). HasMet its m u) c.search-met.result c.in-Some.its c.in-Some.is c.search-met.ensures.met)) in
    (read_asks k v l c.in-Ok.answer ended, read_caught_up c.args.machine.now.state v l c.in-Ok.answer c.requires.alike ended)

pub go_below-requires-clause-at : goal.go_below-requires-clause-at
go_below-requires-clause-at g c =
    let k = g.L.Line.seat c.args.line.now in
    let s = g.L.Line.stands c.args.line.now in
    let its = course_of k s c.args.op (call.Op c.args.op) in
    let u = g.L.Line.stands c.search-met.new.line in
    let v = g.L.Line.stands c.tell-told.new.line in
    let sought : IsAway its c.in-Err.sought v = err_of (λ (x : DiskRecord). IsAway its x v) c.tell-told.result c.in-Err.sought c.in-Err.is
    (c.tell-told.ensures.left its (some_of (λ (m : Met). HasMet its m u) c.search-met.result c.in-Some.its c.in-Some.is c.search-met.ensures.met)) in
    (s, c.requires.alike, subst (λ (x : Seat). IsAway (course_of x s c.args.op (call.Op c.args.op)) c.in-Err.sought v) (sym (c.tell-told.ensures.seat ∙ c.search-met.ensures.seat)) sought)
