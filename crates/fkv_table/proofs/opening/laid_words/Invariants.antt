use Rattle.std.proofs.Common.{◌≡◌}
use Rattle.fkv_table.specs.Positions.{laid_from}
use Rattle.fkv_table.proofs.opening.laid_words.Given as goal

abbrev pub invariant-loop-at : goal.invariant-loop-at
invariant-loop-at l = l.words.items ≡ laid_from l.plane.words 0 l.at
