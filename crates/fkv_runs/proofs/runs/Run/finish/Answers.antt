use Rattle.fkv_runs.specs.Openings.{medium_of}
use Rattle.fkv_runs.proofs.Legs.{run_finished, run_struck}
use Rattle.fkv_runs.proofs.runs.Run.finish.Goals as goal

pub returns-then-has_struck : goal.returns-then-has_struck
returns-then-has_struck g c =
    let medium = medium_of g.D.Device.honest g.D.Device.seen g.D.Device.may_leave g.D.Device.failed g.D.Device.refuses g.D.Device.expects g.D.Breaks.broken g.D.Crashes.armed in
    run_struck medium c.args.self c.run.inside.settings (record { player = c.run.inside.player; agrees = c.run.inside.agrees }) c.finish.new.self c.in_ok-finish.field-0 c.crash.result
    (g.W.Write.contents c.args.output.now) (g.W.Write.contents c.finish.new.output) (g.W.Write.contents c.crash.new.output) c.run.view_is (cc) c.in_ok-finish.ensures c.crash.ensures

pub returns : goal.returns
returns g c =
    let medium = medium_of g.D.Device.honest g.D.Device.seen g.D.Device.may_leave g.D.Device.failed g.D.Device.refuses g.D.Device.expects g.D.Breaks.broken g.D.Crashes.armed in
    run_finished medium c.args.self c.run.inside.settings (record { player = c.run.inside.player; agrees = c.run.inside.agrees }) c.finish.new.self c.in_ok-finish.field-0
    (g.W.Write.contents c.args.output.now) (g.W.Write.contents c.finish.new.output) c.run.view_is (cc) c.in_ok-finish.ensures
