use Rattle.std.proofs.Common.{◌≡◌, ◌++◌, take}
use Rattle.fkv_record.specs.Manifest.{range_numbers}
use Rattle.fkv_record.proofs.manifest_bytes.push_ranges.Given as goal

-- the ranges so far
abbrev pub invariant-loop-range : goal.invariant-loop-range
invariant-loop-range l = l.numbers.items ≡ l.initial.numbers.items ++ range_numbers (take l.range-index l.ranges)
