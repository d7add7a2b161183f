use Rattle.std.proofs.Common.{refl}
use Rattle.fkv_base.specs.declared.faults.Fault.TheVariants.{Device}
use Rattle.fkv_cli.proofs.Appending.{when_err}
use Rattle.fkv_cli.proofs.Endings.{life_breaks_in_new_file, life_in_new_file, refused_device, refused_new}
use Rattle.fkv_cli.proofs.Finding.{new_so}
use Rattle.fkv_cli.proofs.file_runs.play_new_file.Goals as goal

pub returns-in-Err-clause-whole : goal.returns-in-Err-clause-whole
returns-in-Err-clause-whole g c = refused_device _ Device _ _ c.refuse.result c.refuse.ensures.text refl

pub returns-in_err-play_life-in-Ok-create_opened-clause-part : goal.returns-in_err-play_life-in-Ok-create_opened-clause-part
returns-in_err-play_life-in-Ok-create_opened-clause-part g c =
    when_err c.from_residual.result
    (life_breaks_in_new_file _ _ c.args.shape c.in-Ok-create_opened.opened _ _ c.args.pieces.now _ _ c.in-Ok-create_opened.ensures.new c.in-Ok.ensures.made
    (new_so _ _ _ _ _ c.in-Ok-create_opened.opened c.create_opened.ensures.honest c.in-Ok-create_opened.ensures.ok c.in-Ok-create_opened.ensures.synced)
    c.in_err-play_life-in-Ok-create_opened.ensures.part)

pub returns-in_ok-play_life-in-Ok-create_opened-clause-whole : goal.returns-in_ok-play_life-in-Ok-create_opened-clause-whole
returns-in_ok-play_life-in-Ok-create_opened-clause-whole g c =
    life_in_new_file _ _ c.args.shape c.in-Ok-create_opened.opened _ _ c.args.pieces.now _ _ c.in-Ok-create_opened.ensures.new c.in-Ok.ensures.made
    (new_so _ _ _ _ _ c.in-Ok-create_opened.opened c.create_opened.ensures.honest c.in-Ok-create_opened.ensures.ok c.in-Ok-create_opened.ensures.synced)
    c.in_ok-play_life-in-Ok-create_opened.ensures.whole

pub returns-in-Err-create_opened-clause-whole : goal.returns-in-Err-create_opened-clause-whole
returns-in-Err-create_opened-clause-whole g c =
    refused_new _ _ _ c.in-Err-create_opened.fault _ _ c.refuse-in-Err-create_opened.result c.refuse-in-Err-create_opened.ensures.text c.refuse-in-Err-create_opened.ensures.memory
    c.in-Err-create_opened.ensures.err
