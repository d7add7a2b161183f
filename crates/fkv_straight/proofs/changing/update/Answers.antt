use Rattle.fkv_straight.specs.declared.searching.Met.{Met}
use Rattle.fkv_straight.specs.Met.{HasMet}
use Rattle.fkv_straight.specs.Course.{course_of}
use Rattle.fkv_straight.proofs.Goings.{calm_in, goes_at, some_of}
use Rattle.fkv_straight.proofs.changing.update.Goals as goal

pub search-met-requires-clause-calm : goal.search-met-requires-clause-calm
search-met-requires-clause-calm g c = calm_in (course_of (g.L.Line.seat c.args.line.now) (g.L.Line.stands c.args.line.now) c.args.op c.args.call) (g.L.Line.seat c.args.line.now) c.args.op c.args.going.now c.requires.goes c.requires.calm

pub update_met-requires-clause-at : goal.update_met-requires-clause-at
update_met-requires-clause-at g c =
    let k = g.L.Line.seat c.args.line.now in
    let its = course_of k (g.L.Line.stands c.args.line.now) c.args.op c.args.call in
    let u = g.L.Line.stands c.search-met.new.line in
    (its, goes_at its k c.args.op c.args.going.now (g.L.Line.seat c.search-met.new.line) c.requires.goes c.search-met.ensures.seat, some_of (λ (m : Met). HasMet its m u) c.search-met.result c.in-Some.its c.in-Some.is c.search-met.ensures.met)

pub returns-in-Some-clause-done : goal.returns-in-Some-clause-done
returns-in-Some-clause-done g c =
    let k = g.L.Line.seat c.args.line.now in
    let its = course_of k (g.L.Line.stands c.args.line.now) c.args.op c.args.call in
    let u = g.L.Line.stands c.search-met.new.line in
    c.update_met.ensures.done its (goes_at its k c.args.op c.args.going.now (g.L.Line.seat c.search-met.new.line) c.requires.goes c.search-met.ensures.seat)
    (some_of (λ (m : Met). HasMet its m u) c.search-met.result c.in-Some.its c.in-Some.is c.search-met.ensures.met)
