use Rattle.std.proofs.Common.{◌≡◌, take}
use Rattle.std.specs.List.{flat_map}
use Rattle.fkv_record.specs.Layout.{record_bytes}
use Rattle.fkv_renewing.proofs.spelling.log_bytes.Given as goal

abbrev pub invariant-loop-i : goal.invariant-loop-i
invariant-loop-i l = l.bytes.items ≡ flat_map record_bytes (take l.i l.records)
