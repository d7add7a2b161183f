use Rattle.std.proofs.Common.{ℕ, List, ◌<◌, length, rules, arith}
use Rattle.std.specs.Prelude.{slice_index_or}
use Rattle.std.proofs.lemmas.List.Elements.{All-set, AllWithin-more_set}
use Rattle.fkv_disk.specs.Pages.{IsPageOf, ArePagesOf}
use Rattle.fkv_disk.proofs.pages.forget_range.Goals as goal

pub loop-page-preserved : goal.loop-page-preserved
loop-page-preserved c =
    let pages = c.loop-page.pages in
    let i = c.loop-page.page-index in
    let page = c.forget.new.self in
    let below : i < length pages = search rules in
    let here : (seen : List ℕ) → ArePagesOf seen pages → IsPageOf seen (slice_index_or pages i c.page-item.result) = λ seen all. all i c.page-item.result below in (
      λ seen was. All-set (IsPageOf seen) pages i page (c.forget.ensures.same seen (here seen (c.loop-page.invariant.0 seen was))) (c.loop-page.invariant.0 seen was),
      λ old new alike was. AllWithin-more_set pages i page below (IsPageOf new) (c.loop-page.invariant.1 old new alike was) (c.forget.ensures.apart old new alike (here old (c.loop-page.invariant.0 old was))),
    )

pub returns-clause-apart : goal.returns-clause-apart
returns-clause-apart c = λ old new alike was k d below. c.loop-page.invariant.1 old new alike was k d (omega arith) (omega (arith, below, c.loop-page-test.false))
