use Rattle.std.proofs.Common.{◌≡◌, ◌<◌, ℕ, ◌^◌, ap, sym, ◌∙◌, arith, false}
use Rattle.std.proofs.lemmas.Bool.Decides.{nat_tests}
use Rattle.fkv_plane.specs.declared.asks.Ask.TheVariants.{Add}
use Rattle.fkv_ops.specs.Trying.{is_next_marked}
use Rattle.fkv_straight.specs.Course.{course_of, request_in}
use Rattle.fkv_straight.proofs.Goings.{is_unmarked, latch_is, shares_in}
use Rattle.fkv_straight.proofs.Shares.{share_asks, share_comes}
use Rattle.fkv_straight.proofs.sharing.share.Goals as goal

pub first_add-found-requires-clause-asked : goal.first_add-found-requires-clause-asked
first_add-found-requires-clause-asked g c =
    let k = g.L.Line.seat c.args.line.now in
    let s = g.L.Line.stands c.args.line.now in
    let its = course_of k s c.args.op c.args.call in
    let goes = c.requires.goes in
    let shared = shares_in its k c.args.op c.args.going.now goes c.requires.prepares c.requires.updates in
    share_asks its c.args.call s c.requires.begins shared ∙ ap (λ (n : ℕ). Add n (2 ^ 48)) (latch_is its k c.args.op c.args.going.now c.latch_of-place.result goes c.latch_of-place.ensures)

pub returns-clause-first : goal.returns-clause-first
returns-clause-first g c = λ few.
    let k = g.L.Line.seat c.args.line.now in
    let s = g.L.Line.stands c.args.line.now in
    let its = course_of k s c.args.op c.args.call in
    let goes = c.requires.goes in
    let shared = shares_in its k c.args.op c.args.going.now goes c.requires.prepares c.requires.updates in
    let below : c.first_add-found.result < 2 ^ 63 = grind (arith, nat_tests, few) in
    let unmarked : is_next_marked (request_in its).version ≡ false = is_unmarked its k c.args.op c.args.going.now goes (sym c.is_next_marked-marked.ensures ∙ c.if-marked.false) in
    share_comes its c.args.call c.first_add-found.result s (g.L.Line.stands c.first_add-found.new.self) c.requires.begins shared unmarked goes.spare_fits c.first_add-found.ensures.next below
