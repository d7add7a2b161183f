-- So far the front of the room has the points.
use Rattle.std.proofs.Common.{◌≡◌, ◌++◌, map, take, drop}
use Rattle.fkv_face.proofs.points.tell_points.Given as goal

abbrev pub invariant-loop-i : goal.invariant-loop-i
invariant-loop-i l = (l.points ≡ map (λ s. s.0) (take l.i l.given) ++ drop l.i l.fn.points)
