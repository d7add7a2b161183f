use Rattle.std.proofs.Common.{◌≡◌, ◌∷◌, length, take}
use Rattle.fkv_record.specs.Points.{serial_numbers}
use Rattle.fkv_record.specs.Numbers.{padded}
use Rattle.fkv_record.proofs.point_numbers.put_points.Given as goal

-- the points so far
abbrev pub invariant-loop-i : goal.invariant-loop-i
invariant-loop-i l = l.places ≡ padded 58 (length l.points.serials.items ∷ serial_numbers (take l.i l.points.serials.items))
