use Rattle.fkv_filling.proofs.Grouped.{ArePushed}
use Rattle.fkv_filling.proofs.filling.words_in.Given as goal

abbrev pub invariant-loop-home : goal.invariant-loop-home
invariant-loop-home l = ArePushed l.bucket l.entries l.home-index l.words.items
