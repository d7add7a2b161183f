use Rattle.std.proofs.Common.{◌≡◌, ◌++◌, take}
use Rattle.fkv_record.specs.Points.{serial_numbers}
use Rattle.fkv_record.proofs.manifest_bytes.push_serials.Given as goal

-- the serials so far
abbrev pub invariant-loop-serial : goal.invariant-loop-serial
invariant-loop-serial l = l.numbers.items ≡ l.initial.numbers.items ++ serial_numbers (take l.serial-index l.serials)
