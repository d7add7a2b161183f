use Rattle.std.proofs.Common.{◌≡◌, sym, ap, arith, length}
use Rattle.fkv_record.specs.Manifest.{newest_bytes, said_in}
use Rattle.fkv_record.specs.Numbers.{spelled}
use Rattle.fkv_record.proofs.ManifestSections.{length-layout, newest_held, newest_whole}
use Rattle.fkv_record.proofs.ManifestBytes.{newest_spelled}
use Rattle.fkv_record.proofs.manifest_bytes.write_newest_slot.Goals as goal

pub numbers_of-requires : goal.numbers_of-requires
numbers_of-requires c = c.newest_format.ensures.held

pub spell-requires : goal.spell-requires
spell-requires c =
    let many = length-layout c.newest_format.result c.args.slot.now (rw c.newest_format.ensures.format (newest_held c.args.slot.now)) in
    omega (arith, ap length c.deref.ensures.0, ap length c.numbers_of.ensures, many)

pub returns : goal.returns
unfolding newest_bytes
returns c =
    let said : c.spell.result ≡ newest_bytes (said_in c.args.slot.now) = rw (c.spell.ensures, c.deref.ensures.0, c.numbers_of.ensures, c.newest_format.ensures.format) (ap spelled (sym (newest_whole c.args.slot.now))) in
    record { spelled = rw said (newest_spelled c.args.slot.now); said = said }
