use Rattle.std.proofs.Common.{◌≡◌}
use Rattle.std.specs.Prelude.{◌&&◌}
use Rattle.fkv_runs.specs.Openings.{medium_of}
use Rattle.fkv_runs.proofs.Legs.{run_crashed}
use Rattle.fkv_runs.proofs.runs.Run.crash.Goals.{then-agrees, else-agrees}
use Rattle.fkv_runs.proofs.runs.Run.crash.Goals as goal

pub returns : goal.returns
returns g c =
    let medium = medium_of g.D.Device.honest g.D.Device.seen g.D.Device.may_leave g.D.Device.failed g.D.Device.refuses g.D.Device.expects g.D.Breaks.broken g.D.Crashes.armed in
    let both : c.if-agrees.result ≡ (c.self.inside.agrees && c.in-Some.next.agrees) = elim c.if-agrees.branch [
      | then-agrees w ↦ (let is = w.result-is in let on = w.if-agrees.true in cc)
      | else-agrees w ↦ (let is = w.result-is in let off = w.if-agrees.false in cc)
    ] in
    let told = rw c.in-Some.is at c.in_ok-next.ensures.1 in
    run_crashed medium c.args.self c.self.inside.settings (record { player = c.self.inside.player; agrees = c.self.inside.agrees }) c.in-Some.next.player c.in-Some.next.agrees c.if-agrees.result
    (g.W.Write.contents c.args.output.now) (g.W.Write.contents c.take_crash.new.output) c.self.view_is both c.in_ok-next.ensures.0 told.0 told.1
