use Rattle.std.proofs.Common.{◌≡◌, ◌++◌, replicate}
use Rattle.fkv_record.proofs.manifest_bytes.pad.Given as goal

-- so many zeros so far
abbrev pub invariant-loop : goal.invariant-loop
invariant-loop l = l.numbers.items ≡ l.initial.numbers.items ++ replicate l.counter 0
