use Rattle.std.proofs.Common.{[]}
use Rattle.fkv_texts.proofs.Shown.{appends_nothing}
use Rattle.fkv_runs.proofs.runs.Run.piece.Goals as goal

pub returns-in-CrashAt : goal.returns-in-CrashAt
returns-in-CrashAt g c = rw c.in-CrashAt.is (c.prepare_crash.ensures.settings, ([], c.prepare_crash.ensures.run, appends_nothing (g.W.Write.contents c.args.output.now)))

pub returns-in-FailAt : goal.returns-in-FailAt
returns-in-FailAt g c = rw c.in-FailAt.is (c.prepare_failure.ensures.settings, ([], c.prepare_failure.ensures.run, appends_nothing (g.W.Write.contents c.args.output.now)))
