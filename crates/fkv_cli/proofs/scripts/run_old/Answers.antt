use Rattle.fkv_cli.proofs.Outputs.{old_breaks_in_file, old_in_file}
use Rattle.fkv_cli.proofs.scripts.run_old.Goals as goal

pub returns-in-Some-clause-whole : goal.returns-in-Some-clause-whole
returns-in-Some-clause-whole g c = old_in_file _ c.args.options.now c.in-Some.path _ c.in-Some.is c.as_str.ensures.value c.args.pieces.now _ _ c.play_old_file.result c.play_old_file.ensures.whole

pub returns-in-Some-clause-part : goal.returns-in-Some-clause-part
returns-in-Some-clause-part g c = old_breaks_in_file _ c.args.options.now c.in-Some.path _ c.in-Some.is c.as_str.ensures.value c.args.pieces.now _ _ c.play_old_file.result c.play_old_file.ensures.part
