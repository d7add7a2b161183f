use Rattle.std.proofs.Common.{◌≡◌, take}
use Rattle.fkv_looking.specs.Buckets.{greatest}
use Rattle.fkv_looking.proofs.index_looks.greatest.Given as goal

abbrev pub invariant-loop-number : goal.invariant-loop-number
invariant-loop-number l = l.greatest ≡ greatest (take l.number-index l.numbers)
