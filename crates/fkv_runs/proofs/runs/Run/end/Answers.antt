use Rattle.std.proofs.Common.{◌≡◌, true, false, refl, subst}
use Rattle.fkv_runs.specs.Openings.{medium_of}
use Rattle.fkv_runs.proofs.Legs.{end_due, run_ends_due, run_ends_quiet}
use Rattle.fkv_runs.proofs.Breaking.{due_breaks}
use Rattle.fkv_runs.proofs.Told.{on_err}
use Rattle.fkv_runs.proofs.runs.Run.end.Goals as goal
use Rattle.fkv_runs.specs.Runs.{RunModel, is_due}

pub returns-then-not-is_due-clause-whole : goal.returns-then-not-is_due-clause-whole
returns-then-not-is_due-clause-whole g c =
    let medium = medium_of g.D.Device.honest g.D.Device.seen g.D.Device.may_leave g.D.Device.failed g.D.Device.refuses g.D.Device.expects g.D.Breaks.broken g.D.Crashes.armed in
    let off = c.if-not-is_due.true in
    let is = c.is_due.ensures in
    let waits = c.waits.ensures in
    let quiet : is_due c.self.inside.player.waits ≡ false = cc in
    run_ends_quiet medium c.args.self c.self.inside.settings (record { player = c.self.inside.player; agrees = c.self.inside.agrees }) c.status_of.result
    (g.W.Write.contents c.args.output.now) c.self.view_is quiet c.status_of.ensures

pub returns-clause-whole : goal.returns-clause-whole
returns-clause-whole g c =
    let medium = medium_of g.D.Device.honest g.D.Device.seen g.D.Device.may_leave g.D.Device.failed g.D.Device.refuses g.D.Device.expects g.D.Breaks.broken g.D.Crashes.armed in
    let on = c.if-not-is_due.false in
    let is = c.is_due.ensures in
    let waits = c.waits.ensures in
    let due : is_due c.self.inside.player.waits ≡ true = cc in
    let still = subst (λ (its : RunModel g.row.D.Denot). is_due its.state.player.waits ≡ true) c.self.view_is due in
    run_ends_due medium c.args.self c.in-Some.run' c.args.self.settings c.run.inside.settings c.args.self.state (record { player = c.run.inside.player; agrees = c.run.inside.agrees }) c.status_of-2.result
    (g.W.Write.contents c.args.output.now) (g.W.Write.contents c.tell_crash.new.output) refl c.run.view_is still c.status_of-2.ensures ((rw c.in-Some.is at c.in_ok-run.ensures.whole).1)

pub returns-in_err-run-clause-part : goal.returns-in_err-run-clause-part
returns-in_err-run-clause-part g c =
    let medium = medium_of g.D.Device.honest g.D.Device.seen g.D.Device.may_leave g.D.Device.failed g.D.Device.refuses g.D.Device.expects g.D.Breaks.broken g.D.Crashes.armed in
    let on = c.if-not-is_due.false in
    let is = c.is_due.ensures in
    let waits = c.waits.ensures in
    let due : is_due c.self.inside.player.waits ≡ true = cc in
    let still = subst (λ (its : RunModel g.row.D.Denot). is_due its.state.player.waits ≡ true) c.self.view_is due in
    on_err c.from_residual.result
    (due_breaks medium c.args.self.settings c.args.self.state (is_due c.args.self.state.player.waits) (g.W.Write.contents c.args.output.now) (g.W.Write.contents c.tell_crash.new.output) still c.in_err-run.ensures.part)

pub returns-in_default-clause-whole : goal.returns-in_default-clause-whole
returns-in_default-clause-whole g c =
    let medium = medium_of g.D.Device.honest g.D.Device.seen g.D.Device.may_leave g.D.Device.failed g.D.Device.refuses g.D.Device.expects g.D.Breaks.broken g.D.Crashes.armed in
    let on = c.if-not-is_due.false in
    let is = c.is_due.ensures in
    let waits = c.waits.ensures in
    let due : is_due c.self.inside.player.waits ≡ true = cc in
    let still = subst (λ (its : RunModel g.row.D.Denot). is_due its.state.player.waits ≡ true) c.self.view_is due in (
      true,
      c.args.self.state,
      refl,
      end_due (is_due c.args.self.state.player.waits) medium c.args.self.settings c.args.self.state c.args.self.state true (g.W.Write.contents c.args.output.now) (g.W.Write.contents c.tell_crash.new.output) still (rw c.in_default.is at c.in_ok-run.ensures.whole).1,
    )
