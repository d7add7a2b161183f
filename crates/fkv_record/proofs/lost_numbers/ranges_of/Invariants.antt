use Rattle.std.proofs.Common.{◌≡◌, ◌*◌, length, take}
use Rattle.fkv_record.specs.Manifest.{range_numbers}
use Rattle.fkv_record.proofs.lost_numbers.ranges_of.Given as goal

-- the ranges so far
abbrev pub invariant-loop-i : goal.invariant-loop-i
invariant-loop-i l = record {
  count : length l.ranges.items ≡ l.i;
  same : range_numbers l.ranges.items ≡ take (2 * l.i) l.numbers;
}
