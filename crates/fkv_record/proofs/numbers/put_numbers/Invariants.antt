use Rattle.std.proofs.Common.{◌≡◌, ◌*◌, take}
use Rattle.fkv_record.specs.Numbers.{spelled}
use Rattle.fkv_record.proofs.numbers.put_numbers.Given as goal

-- as many bytes as numbers so far
abbrev pub invariant-loop-i : goal.invariant-loop-i
invariant-loop-i l = take (8 * l.i) l.bytes ≡ spelled (take l.i l.numbers)
