-- The pages up to the index keep what is read after a write, and all of them what was read before it.
use Rattle.std.proofs.Common.{ℕ, List}
use Rattle.std.specs.List.{AllWithin}
use Rattle.fkv_disk.specs.Pages.{IsPageOf, ArePagesOf, AlikeOutside}
use Rattle.fkv_disk.proofs.pages.forget_range.Given as goal

abbrev pub invariant-loop-page : goal.invariant-loop-page
invariant-loop-page l =
    ((seen : List ℕ) → ArePagesOf seen l.fn.pages → ArePagesOf seen l.pages)
    × ((old new : List ℕ) → AlikeOutside l.at l.n old new → ArePagesOf old l.fn.pages → AllWithin (IsPageOf new) l.pages 0 l.page-index)
