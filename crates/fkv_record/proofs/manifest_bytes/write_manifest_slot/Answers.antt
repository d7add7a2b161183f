use Rattle.std.proofs.Common.{◌≡◌, true, false, refl, sym, ap, ◌∙◌, arith, length}
use Rattle.fkv_record.specs.Manifest.{is_held, manifest_bytes}
use Rattle.fkv_record.proofs.ManifestSections.{length-layout}
use Rattle.fkv_record.proofs.manifest_bytes.write_manifest_slot.Goals as goal

pub returns-then-not-is_held : goal.returns-then-not-is_held
unfolding manifest_bytes
returns-then-not-is_held c =
    let not_held : is_held c.args.format c.args.slot.now ≡ false = sym c.is_held.ensures ∙ c.if-not-is_held.true in
    rw not_held refl

pub spell-requires : goal.spell-requires
spell-requires c =
    let held : is_held c.args.format c.args.slot.now ≡ true = sym c.is_held.ensures ∙ c.if-not-is_held.false in
    let many = length-layout c.args.format c.args.slot.now held in
    omega (arith, ap length c.deref.ensures.0, ap length c.numbers_of.ensures)

pub returns : goal.returns
unfolding manifest_bytes
returns c =
    let held : is_held c.args.format c.args.slot.now ≡ true = sym c.is_held.ensures ∙ c.if-not-is_held.false in
    rw (held, c.spell.ensures, c.deref.ensures.0, c.numbers_of.ensures) refl
