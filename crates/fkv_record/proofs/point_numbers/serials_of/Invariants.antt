use Rattle.std.proofs.Common.{◌≡◌, ◌≤◌, All, take}
use Rattle.fkv_base.specs.Limits.{last_serial}
use Rattle.fkv_record.specs.Points.{serial_numbers}
use Rattle.fkv_record.proofs.point_numbers.serials_of.Given as goal

-- the serials so far
abbrev pub invariant-loop-number : goal.invariant-loop-number
invariant-loop-number l = record {
  fit : All (λ serial. serial.0 ≤ last_serial) l.serials.items;
  same : serial_numbers l.serials.items ≡ take l.number-index l.numbers;
}
