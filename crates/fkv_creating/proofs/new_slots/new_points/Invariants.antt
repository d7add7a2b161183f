use Rattle.std.proofs.Common.{◌≡◌, replicate}
use Rattle.fkv_record.specs.Points.{serial_numbers}
use Rattle.fkv_creating.proofs.new_slots.new_points.Given as goal

-- so many points so far
abbrev pub invariant-loop : goal.invariant-loop
invariant-loop l = serial_numbers l.serials.items ≡ replicate l.counter 0
