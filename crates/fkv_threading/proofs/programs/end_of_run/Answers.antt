-- The run ends in memory, or in the file of the path.
use Rattle.fkv_threading.proofs.Refused.{ended, ended_in_file}
use Rattle.fkv_threading.proofs.programs.end_of_run.Goals as goal

pub returns-in-Some : goal.returns-in-Some
returns-in-Some g c =
    let apart = c.told_apart.ensures in let told = c.report_in_file.ensures in
    rw c.in-Some.is (ended_in_file _ _ _ _ _ _ c.args.lines.now c.args.sizes c.report_in_file.result c.told_apart.result told.ok told.err apart.closed apart.ok apart.err)

pub returns-in-None : goal.returns-in-None
returns-in-None g c =
    let told = c.report_in_memory.ensures in
    rw c.in-None.is (ended _ _ _ _ c.args.lines.now c.args.sizes c.report_in_memory.result told.ok told.err)
