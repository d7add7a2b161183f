use Rattle.fkv_runs.specs.Openings.{medium_of}
use Rattle.fkv_runs.proofs.Legs.{run_grouped, run_group_refused, run_goes_on}
use Rattle.fkv_runs.proofs.runs.Run.group.Goals as goal

pub returns-then-not-branch : goal.returns-then-not-branch
returns-then-not-branch g c =
    let medium = medium_of g.D.Device.honest g.D.Device.seen g.D.Device.may_leave g.D.Device.failed g.D.Device.refuses g.D.Device.expects g.D.Breaks.broken g.D.Crashes.armed in
    run_grouped medium c.args.self c.run.inside.settings c.args.calls.now (record { player = c.run.inside.player; agrees = c.run.inside.agrees }) c.play_group.new.self c.in_ok-queues.queues.items c.play_group.new.queues.items
    (g.W.Write.contents c.args.output.now) (g.W.Write.contents c.play_group.new.output) c.run.view_is c.in_ok-queues.ensures (rw c.if-not-branch.true at c.in_ok-play_group.ensures)

pub returns-in_default : goal.returns-in_default
returns-in_default g c =
    let medium = medium_of g.D.Device.honest g.D.Device.seen g.D.Device.may_leave g.D.Device.failed g.D.Device.refuses g.D.Device.expects g.D.Breaks.broken g.D.Crashes.armed in (
      tt,
      run_group_refused medium c.args.self c.run.inside.settings c.args.calls.now (record { player = c.run.inside.player; agrees = c.run.inside.agrees }) c.play_group.new.self (record { player = c.play_group.new.self; agrees = c.run.inside.agrees }) c.in_ok-queues.queues.items c.play_group.new.queues.items
          (g.W.Write.contents c.args.output.now) (g.W.Write.contents c.play_group.new.output) (g.W.Write.contents c.crash.new.output) c.run.view_is c.in_ok-queues.ensures
          (rw c.if-not-branch.false at c.in_ok-play_group.ensures) (rw c.in_default.is at c.in_ok-next.ensures).1,
    )

pub returns : goal.returns
returns g c =
    let medium = medium_of g.D.Device.honest g.D.Device.seen g.D.Device.may_leave g.D.Device.failed g.D.Device.refuses g.D.Device.expects g.D.Breaks.broken g.D.Crashes.armed in
    let crashed = rw c.in-Some.is at c.in_ok-next.ensures in
    run_goes_on medium c.args.self c.in-Some.next c.run.inside.settings c.run-2.inside.settings c.args.calls.now (record { player = c.run.inside.player; agrees = c.run.inside.agrees }) c.play_group.new.self (record { player = c.run-2.inside.player; agrees = c.run-2.inside.agrees }) c.play_group-2.new.self
    c.in_ok-queues.queues.items c.play_group.new.queues.items c.play_group-2.new.queues.items
    (g.W.Write.contents c.args.output.now) (g.W.Write.contents c.play_group.new.output) (g.W.Write.contents c.crash.new.output) (g.W.Write.contents c.play_group-2.new.output)
    c.run.view_is c.run-2.view_is crashed.0 c.in_ok-queues.ensures (rw c.if-not-branch.false at c.in_ok-play_group.ensures) crashed.1 (rw c.if-branch.false at c.in_ok-play_group-2.ensures)
