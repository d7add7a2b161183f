use Rattle.std.proofs.Common.{◌≡◌, ap, subst, sym, ◌∙◌}
use Rattle.fkv_runs.specs.Openings.{CrashesFrom, Holds, RefusesNoCall, crash_image}
use Rattle.fkv_runs.proofs.Reported.{crash_taken}
use Rattle.fkv_runs.proofs.crashes.take_crash.Goals as goal

pub returns-in-Ok : goal.returns-in-Ok
returns-in-Ok g c =
    let its = c.in-Ok.its in
    let life = c.in_ok-report-in-Ok.field-0 in
    let expects = g.D.Device.expects in
    let torn = c.args.settings.torn in
    let device = c.end-device.result.0 in
    let image = crash_image expects device torn in
    let honest : g.D.Device.honest c.in_ok-image.image = rw c.in_ok-image.ensures at c.crash.ensures.honest in
    let seen : g.D.Device.seen c.in_ok-image.image ≡ image = rw c.in_ok-image.ensures at c.crash.ensures.image in
    let none : RefusesNoCall g.D.Device.refuses c.in_ok-image.image = rw c.in_ok-image.ensures at c.crash.ensures.sound in
    let from : CrashesFrom expects image c.in_ok-image.image = rw c.in_ok-image.ensures at c.crash.ensures.crashes in
    let left : g.D.Device.may_leave device image = rw c.in_ok-image.ensures at c.crash.ensures.allowed in
    let goes_on : CrashesFrom expects image life.player.world.device = subst (CrashesFrom expects image) (sym c.in_ok-report-in-Ok.ensures.0.over) (c.in-Ok.ensures.crashes image from) in (
      subst (λ (d : g.row.D.Denot). g.D.Device.may_leave d (crash_image expects d torn)) c.end-device.ensures.device left,
      (
        subst (λ (d : g.row.D.Denot). CrashesFrom expects (crash_image expects d torn) life.player.world.device) c.end-device.ensures.device goes_on,
        crash_taken (Holds g.D.Device.honest g.D.Device.seen g.D.Device.may_leave g.D.Device.refuses) (crash_image expects c.args.player.world.device torn) (g.D.Device.seen c.in_ok-image.image) its.opened its.device its.pairs.items
            c.args.player life.player c.deref.result.now c.args.settings.checks life.agrees (g.W.Write.contents c.args.output.now) (g.W.Write.contents c.report.new.output)
            (seen ∙ ap (λ (d : g.row.D.Denot). crash_image expects d torn) c.end-device.ensures.device)
            (c.deref.ensures.value ∙ c.end-device.ensures.history)
            (c.in-Ok.ensures.store honest) (c.in-Ok.ensures.reads honest none) c.in_ok-report-in-Ok.ensures,
      ),
    )
