use Rattle.std.proofs.Common.{◌<◌, ◌^◌, ◌+◌, arith, length, ap}
use Rattle.std.specs.BTreeMap.{keys}
use Rattle.fkv_entries.specs.Room.{needed}
use Rattle.fkv_room.specs.Room.{taken, in_bucket}
use Rattle.fkv_renewing.proofs.Counts.{read_count, count_small, more_than}
use Rattle.fkv_renewing.proofs.counting.has_slots.Goals as goal

pub needed-taken-requires : goal.needed-taken-requires
needed-taken-requires c =
    let homes = keys c.args.latest.now in
    let below : c.loop-bucket.bucket < length c.in_ok-counts.counts.items = omega (arith, c.loop-bucket-test.true, c.in_ok-counts.counts.ok.0) in
    count_small c.args.shape.bucket_bits homes c.in_ok-counts.counts.items c.loop-bucket.bucket c.index.result.now c.in_ok-counts.ensures.ok below c.index.ensures

pub returns-then-taken-shape-clause-ok : goal.returns-then-taken-shape-clause-ok
returns-then-taken-shape-clause-ok c =
    let homes = keys c.args.latest.now in
    let bucket = c.loop-bucket.bucket in
    let below : bucket < length c.in_ok-counts.counts.items = omega (arith, c.loop-bucket-test.true, c.in_ok-counts.counts.ok.0) in
    let is = read_count c.args.shape.bucket_bits homes c.in_ok-counts.counts.items bucket c.index.result.now c.in_ok-counts.ensures.ok below c.index.ensures in
    let in_index : bucket < 2 ^ c.args.shape.bucket_bits = omega (arith, below, c.in_ok-counts.ensures.ok.each_bucket) in
    let more : c.args.shape.overflow < taken homes bucket + needed (in_bucket homes bucket) = omega (arith, c.if-taken-shape.true, c.loop-bucket.invariant.0, c.needed-taken.ensures, ap needed is) in
    ((λ never. absurd (cc)), (λ enough. absurd (more_than homes bucket (2 ^ c.args.shape.bucket_bits) c.args.shape.overflow in_index more enough)))
