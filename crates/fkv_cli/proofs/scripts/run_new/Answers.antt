use Rattle.fkv_cli.proofs.Outputs.{new_breaks_in_file, new_breaks_in_memory, new_in_file, new_in_memory}
use Rattle.fkv_cli.proofs.scripts.run_new.Goals as goal

pub returns-in-None-clause-whole : goal.returns-in-None-clause-whole
returns-in-None-clause-whole g c = new_in_memory _ c.args.options.now c.args.shape c.args.pieces.now c.args.options.now.file _ _ c.play_memory.result c.in-None.is c.play_memory.ensures.whole

pub returns-in-None-clause-part : goal.returns-in-None-clause-part
returns-in-None-clause-part g c = new_breaks_in_memory _ c.args.options.now c.args.shape c.args.pieces.now c.args.options.now.file _ _ c.play_memory.result c.in-None.is c.play_memory.ensures.part

pub returns-in-Some-clause-whole : goal.returns-in-Some-clause-whole
returns-in-Some-clause-whole g c =
    new_in_file _ c.args.options.now c.in-Some.path _ c.in-Some.is c.as_str.ensures.value c.args.pieces.now _ _ c.play_new_file.result c.args.shape c.play_new_file.ensures.whole

pub returns-in-Some-clause-part : goal.returns-in-Some-clause-part
returns-in-Some-clause-part g c =
    new_breaks_in_file _ c.args.options.now c.in-Some.path _ c.in-Some.is c.as_str.ensures.value c.args.pieces.now _ _ c.play_new_file.result c.args.shape c.play_new_file.ensures.part
