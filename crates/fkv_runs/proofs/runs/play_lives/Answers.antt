use Rattle.std.proofs.Common.{[], true}
use Rattle.fkv_playing.specs.Players.{PlayerState}
use Rattle.fkv_runs.specs.Openings.{Begins, medium_of}
use Rattle.fkv_runs.specs.Runs.{IsPartOfRun}
use Rattle.fkv_runs.proofs.Breaking.{begun_breaks}
use Rattle.fkv_runs.proofs.Told.{breaks_at_once, on_err}
use Rattle.fkv_runs.proofs.Legs.{begun_and_played}
use Rattle.fkv_runs.proofs.runs.play_lives.Goals as goal

pub returns-clause-whole : goal.returns-clause-whole
returns-clause-whole g c =
    let medium = medium_of g.D.Device.honest g.D.Device.seen g.D.Device.may_leave g.D.Device.failed g.D.Device.refuses g.D.Device.expects g.D.Breaks.broken g.D.Crashes.armed in
    begun_and_played medium c.args.settings c.args.pieces.now c.args.opened c.args.device c.new.result.items c.args.settings.checks c.in_ok-player.player c.play.result
    (g.W.Write.contents c.args.output.now) (g.W.Write.contents c.play.new.output) c.new.ensures.items c.in_ok-player.ensures c.play.ensures.whole

pub returns-in_err-player-clause-part : goal.returns-in_err-player-clause-part
returns-in_err-player-clause-part g c =
    let medium = medium_of g.D.Device.honest g.D.Device.seen g.D.Device.may_leave g.D.Device.failed g.D.Device.refuses g.D.Device.expects g.D.Breaks.broken g.D.Crashes.armed in
    on_err c.from_residual.result
    (breaks_at_once (λ text. (player : PlayerState g.row.D.Denot) × Begins c.args.opened c.args.device [] c.args.settings.checks player
    × IsPartOfRun medium c.args.settings c.args.pieces.now (record { player = player; agrees = true }) text) (g.W.Write.contents c.args.output.now))

pub returns-clause-part : goal.returns-clause-part
returns-clause-part g c =
    let medium = medium_of g.D.Device.honest g.D.Device.seen g.D.Device.may_leave g.D.Device.failed g.D.Device.refuses g.D.Device.expects g.D.Breaks.broken g.D.Crashes.armed in
    begun_breaks (λ player. IsPartOfRun medium c.args.settings c.args.pieces.now (record { player = player; agrees = true })) c.args.opened c.args.device c.new.result.items c.args.settings.checks c.in_ok-player.player c.play.result
    (g.W.Write.contents c.args.output.now) (g.W.Write.contents c.play.new.output) c.new.ensures.items c.in_ok-player.ensures c.play.ensures.part
