-- So far the points before are copied.
use Rattle.std.proofs.Common.{◌≡◌, take}
use Rattle.fkv_handles.proofs.opening.copied.Given as goal

abbrev pub invariant-loop-point : goal.invariant-loop-point
invariant-loop-point l = l.copies.items ≡ take l.point-index l.points
