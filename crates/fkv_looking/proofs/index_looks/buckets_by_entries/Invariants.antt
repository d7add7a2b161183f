use Rattle.std.proofs.Common.{◌+◌, take}
use Rattle.fkv_looking.specs.Buckets.{IsTally, greatest, itself}
use Rattle.fkv_looking.proofs.index_looks.buckets_by_entries.Given as goal

abbrev pub invariant-loop-number : goal.invariant-loop-number
invariant-loop-number l = IsTally itself (greatest l.entries + 1) (take l.number-index l.entries) l.counts.items
