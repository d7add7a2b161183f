use Rattle.std.proofs.Common.{◌≡◌, take, count_by}
use Rattle.fkv_looking.specs.Uses.{has_taken}
use Rattle.fkv_looking.proofs.uses.count_taken.Given as goal

abbrev pub invariant-loop-point : goal.invariant-loop-point
invariant-loop-point l = l.count ≡ count_by has_taken (take l.point-index l.points)
