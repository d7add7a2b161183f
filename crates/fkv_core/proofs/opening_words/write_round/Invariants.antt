use Rattle.std.proofs.Common.{◌≡◌}
use Rattle.fkv_core.proofs.Written.{laid_over}
use Rattle.fkv_core.proofs.opening_words.write_round.Given as goal

abbrev pub invariant-loop-i : goal.invariant-loop-i
invariant-loop-i l = l.plane ≡ laid_over l.fn.plane l.base l.size l.first l.words l.i
