use Rattle.std.proofs.Common.{◌^◌, take}
use Rattle.fkv_looking.specs.Buckets.{IsTally, bucket_of}
use Rattle.fkv_looking.proofs.index_looks.entries_by_bucket.Given as goal

abbrev pub invariant-loop-entry : goal.invariant-loop-entry
invariant-loop-entry l = IsTally bucket_of (2 ^ l.opened.shape.bucket_bits) (take l.entry-index l.opened.entries.items) l.counts.items
