-- those that were looked at
use Rattle.std.proofs.Common.{◌≡◌, take}
use Rattle.fkv_threading.proofs.playing.copy_of.Given as goal

abbrev pub invariant-loop-point : goal.invariant-loop-point
invariant-loop-point l = l.copy.items ≡ take l.point-index l.points
