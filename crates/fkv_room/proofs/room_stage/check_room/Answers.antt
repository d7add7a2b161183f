use Rattle.std.proofs.Common.{◌≡◌, ◌≤◌, ◌<◌, ◌^◌, ◌+◌, arith, length, subst, ap}
use Rattle.fkv_room.specs.Counted.{homes_of}
use Rattle.fkv_entries.specs.Room.{needed}
use Rattle.fkv_room.specs.Room.{taken, in_bucket}
use Rattle.fkv_room.proofs.Counts.{read_count, count_small}
use Rattle.fkv_room.proofs.Filling.{is_full, has_room}
use Rattle.fkv_room.proofs.room_stage.check_room.Goals as goal

pub needed-taken-requires : goal.needed-taken-requires
needed-taken-requires c =
    let homes = homes_of c.args.scanned.now.homes.entries in
    let below : c.loop-bucket.bucket < length c.in_ok-counts.counts.items = omega (arith, c.loop-bucket-test.true, c.in_ok-counts.counts.ok.0) in
    count_small c.args.shape.bucket_bits homes c.in_ok-counts.counts.items c.loop-bucket.bucket c.index.result.now c.in_ok-counts.ensures.ok below c.index.ensures

pub returns-then-taken-shape-clause-err : goal.returns-then-taken-shape-clause-err
returns-then-taken-shape-clause-err c = λ log given.
    let homes = homes_of c.args.scanned.now.homes.entries in
    let below : c.loop-bucket.bucket < length c.in_ok-counts.counts.items = omega (arith, c.loop-bucket-test.true, c.in_ok-counts.counts.ok.0) in
    let is = read_count c.args.shape.bucket_bits homes c.in_ok-counts.counts.items c.loop-bucket.bucket c.index.result.now c.in_ok-counts.ensures.ok below c.index.ensures in
    let in_index : c.loop-bucket.bucket < 2 ^ c.args.shape.bucket_bits = omega (arith, below, c.in_ok-counts.ensures.ok.each_bucket) in
    let before : taken homes c.loop-bucket.bucket ≤ c.args.shape.overflow = omega (arith, c.loop-bucket.invariant.0, c.loop-bucket.invariant.1) in
    let more : c.args.shape.overflow < taken homes c.loop-bucket.bucket + needed (in_bucket homes c.loop-bucket.bucket) =
    omega (arith, c.if-taken-shape.true, c.loop-bucket.invariant.0, c.needed-taken.ensures, ap needed is) in
    is_full c.args.scanned.now c.law_entries.ensures c.in_ok-counts.ensures.ordered c.args.shape log given.0 given.1 c.loop-bucket.bucket in_index before more

pub returns-clause-ok : goal.returns-clause-ok
returns-clause-ok c = λ log same sound.
    let homes = homes_of c.args.scanned.now.homes.entries in
    let end : c.loop-bucket.bucket ≡ 2 ^ c.args.shape.bucket_bits = omega (arith, c.loop-bucket-test.false, c.loop-bucket.auto, c.in_ok-counts.counts.ok.0, c.in_ok-counts.ensures.ok.each_bucket) in
    let enough : taken homes c.loop-bucket.bucket ≤ c.args.shape.overflow = omega (arith, c.loop-bucket.invariant.0, c.loop-bucket.invariant.1) in
    has_room c.args.scanned.now c.law_entries.ensures c.in_ok-counts.ensures.ordered c.args.shape log same sound (subst (λ n. taken homes n ≤ c.args.shape.overflow) end enough)

pub returns-clause-fits : goal.returns-clause-fits
returns-clause-fits c =
    let homes = homes_of c.args.scanned.now.homes.entries in
    let end : c.loop-bucket.bucket ≡ 2 ^ c.args.shape.bucket_bits = omega (arith, c.loop-bucket-test.false, c.loop-bucket.auto, c.in_ok-counts.counts.ok.0, c.in_ok-counts.ensures.ok.each_bucket) in
    let enough : taken homes c.loop-bucket.bucket ≤ c.args.shape.overflow = omega (arith, c.loop-bucket.invariant.0, c.loop-bucket.invariant.1) in
    subst (λ n. taken homes n ≤ c.args.shape.overflow) end enough
