use Rattle.fkv_filling.proofs.Grouped.{IsGoing}
use Rattle.fkv_filling.proofs.filling.index_words.Given as goal

abbrev pub invariant-loop-bucket : goal.invariant-loop-bucket
invariant-loop-bucket l = IsGoing l.bucket l.entries l.grouped.items l.words.items l.behind.items l.taken l.next
