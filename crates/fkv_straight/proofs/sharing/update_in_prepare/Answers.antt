use Rattle.std.proofs.Common.{◌≡◌, ◌∙◌, rules, true}
use Rattle.fkv_straight.specs.declared.searching.Met.{Met}
use Rattle.fkv_straight.specs.declared.searching.Met.TheVariants.{Found}
use Rattle.fkv_straight.specs.Course.{course_of}
use Rattle.fkv_straight.specs.Met.{HasMet}
use Rattle.fkv_straight.proofs.Goings.{goes_at, met_of}
use Rattle.fkv_straight.proofs.sharing.update_in_prepare.Goals as goal

pub search_on-met-requires-clause-at : goal.search_on-met-requires-clause-at
search_on-met-requires-clause-at g c =
    let k = g.L.Line.seat c.args.line.now in
    let its = course_of k (g.L.Line.stands c.args.line.now) c.args.op c.args.call in
    let so : c.share-shared.result ≡ true = search rules in
    (its, goes_at its k c.args.op c.args.going.now (g.L.Line.seat c.share-shared.new.line) c.requires.goes c.share-shared.ensures.seat, c.share-shared.ensures.first so)

pub change_shared-requires-clause-at : goal.change_shared-requires-clause-at
change_shared-requires-clause-at g c =
    let k = g.L.Line.seat c.args.line.now in
    let its = course_of k (g.L.Line.stands c.args.line.now) c.args.op c.args.call in
    let u = g.L.Line.stands c.search_on-met.new.line in
    let so : c.share-shared.result ≡ true = search rules in
    let goes = goes_at its k c.args.op c.args.going.now (g.L.Line.seat c.share-shared.new.line) c.requires.goes c.share-shared.ensures.seat in (
      its,
      goes_at its k c.args.op c.args.going.now (g.L.Line.seat c.search_on-met.new.line) c.requires.goes (c.search_on-met.ensures.seat ∙ c.share-shared.ensures.seat),
      met_of (λ (m : Met). HasMet its m u) c.search_on-met.result c.in-Some.its (Found c.in-Found.record) c.in-Some.is c.in-Found.is (c.search_on-met.ensures.met its goes (c.share-shared.ensures.first so)),
    )

pub returns-in-Found-clause-done : goal.returns-in-Found-clause-done
returns-in-Found-clause-done g c =
    let k = g.L.Line.seat c.args.line.now in
    let its = course_of k (g.L.Line.stands c.args.line.now) c.args.op c.args.call in
    let u = g.L.Line.stands c.search_on-met.new.line in
    let so : c.share-shared.result ≡ true = search rules in
    let goes = goes_at its k c.args.op c.args.going.now (g.L.Line.seat c.share-shared.new.line) c.requires.goes c.share-shared.ensures.seat in
    c.change_shared.ensures.done its (goes_at its k c.args.op c.args.going.now (g.L.Line.seat c.search_on-met.new.line) c.requires.goes (c.search_on-met.ensures.seat ∙ c.share-shared.ensures.seat))
    (met_of (λ (m : Met). HasMet its m u) c.search_on-met.result c.in-Some.its (Found c.in-Found.record) c.in-Some.is c.in-Found.is (c.search_on-met.ensures.met its goes (c.share-shared.ensures.first so)))
