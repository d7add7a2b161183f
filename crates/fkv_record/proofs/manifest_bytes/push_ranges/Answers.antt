use Rattle.std.proofs.Common.{length, take, ap, arith}
use Rattle.std.proofs.lemmas.List.{length-append, length-take-le}
use Rattle.fkv_record.specs.Manifest.{range_numbers}
use Rattle.fkv_record.proofs.RangePlaces.{length-range_numbers}
use Rattle.fkv_record.proofs.manifest_bytes.push_ranges.Goals as goal

pub push-requires : goal.push-requires
push-requires c =
    let so_far = take c.loop-range.range-index c.args.ranges.now in
    omega (arith, ap length c.loop-range.invariant, length-append c.args.numbers.now.items (range_numbers so_far), length-range_numbers so_far, length-take-le c.loop-range.range-index c.args.ranges.now (omega arith), c.requires, c.loop-range-test.true)

pub push-requires-in-loop-range : goal.push-requires-in-loop-range
push-requires-in-loop-range c =
    let so_far = take c.loop-range.range-index c.args.ranges.now in
    omega (arith, c.push.ensures.len, ap length c.loop-range.invariant, length-append c.args.numbers.now.items (range_numbers so_far), length-range_numbers so_far, length-take-le c.loop-range.range-index c.args.ranges.now (omega arith), c.requires, c.loop-range-test.true)
