use Rattle.std.proofs.Common.{◌≡◌, refl, arith, length, ap}
use Rattle.fkv_record.proofs.ManifestSections.{built, begun, length-built, length-begun, length-padded, whole}
use Rattle.fkv_record.proofs.manifest_bytes.numbers_of.Goals as goal

pub pad-requires-2-clause-few : goal.pad-requires-2-clause-few
pad-requires-2-clause-few c =
    let is : c.push_ranges.new.numbers.items ≡ built c.args.format c.args.slot.now = rw (c.push_ranges.ensures, c.push-2.ensures.items, c.push.ensures.items, c.pad.ensures, c.front_of-numbers.ensures, c.point_places.ensures, c.named_checkpoint.ensures, c.len.ensures.value, c.deref.ensures.0) refl in
    rw is (length-built c.args.format c.args.slot.now c.requires)

pub push-requires-3 : goal.push-requires-3
push-requires-3 c =
    let is : c.push_ranges.new.numbers.items ≡ built c.args.format c.args.slot.now = rw (c.push_ranges.ensures, c.push-2.ensures.items, c.push.ensures.items, c.pad.ensures, c.front_of-numbers.ensures, c.point_places.ensures, c.named_checkpoint.ensures, c.len.ensures.value, c.deref.ensures.0) refl in
    omega (arith, ap length c.pad-2.ensures, length-padded 57 c.push_ranges.new.numbers.items (rw is (length-built c.args.format c.args.slot.now c.requires)))

pub pad-requires-3-clause-few : goal.pad-requires-3-clause-few
pad-requires-3-clause-few c =
    let is : c.push_ranges.new.numbers.items ≡ built c.args.format c.args.slot.now = rw (c.push_ranges.ensures, c.push-2.ensures.items, c.push.ensures.items, c.pad.ensures, c.front_of-numbers.ensures, c.point_places.ensures, c.named_checkpoint.ensures, c.len.ensures.value, c.deref.ensures.0) refl in
    let begun_is : c.push-3.new.self.items ≡ begun c.args.format c.args.slot.now = rw (c.push-3.ensures.items, c.pad-2.ensures, is, c.named_begin.ensures) refl in
    omega (arith, ap length begun_is, length-begun c.args.format c.args.slot.now c.requires)

pub push-requires-4 : goal.push-requires-4
push-requires-4 c =
    let is : c.push_ranges.new.numbers.items ≡ built c.args.format c.args.slot.now = rw (c.push_ranges.ensures, c.push-2.ensures.items, c.push.ensures.items, c.pad.ensures, c.front_of-numbers.ensures, c.point_places.ensures, c.named_checkpoint.ensures, c.len.ensures.value, c.deref.ensures.0) refl in
    let begun_is : c.push-3.new.self.items ≡ begun c.args.format c.args.slot.now = rw (c.push-3.ensures.items, c.pad-2.ensures, is, c.named_begin.ensures) refl in
    omega (arith, ap length c.pad-3.ensures, ap length begun_is, length-begun c.args.format c.args.slot.now c.requires, length-padded 63 c.push-3.new.self.items (omega (arith, ap length begun_is, length-begun c.args.format c.args.slot.now c.requires)))

pub returns : goal.returns
returns c =
    let is : c.push_ranges.new.numbers.items ≡ built c.args.format c.args.slot.now = rw (c.push_ranges.ensures, c.push-2.ensures.items, c.push.ensures.items, c.pad.ensures, c.front_of-numbers.ensures, c.point_places.ensures, c.named_checkpoint.ensures, c.len.ensures.value, c.deref.ensures.0) refl in
    let begun_is : c.push-3.new.self.items ≡ begun c.args.format c.args.slot.now = rw (c.push-3.ensures.items, c.pad-2.ensures, is, c.named_begin.ensures) refl in
    rw (c.push-4.ensures.items, c.pad-3.ensures, begun_is, c.number.ensures) (whole c.args.format c.args.slot.now c.requires)
