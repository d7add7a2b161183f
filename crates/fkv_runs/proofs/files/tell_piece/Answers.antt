use Rattle.std.proofs.Common.{false}
use Rattle.fkv_playing.specs.Players.{EngineStep, PlayerState}
use Rattle.fkv_runs.specs.Files.{IsPieceOfLife}
use Rattle.fkv_runs.proofs.Told.{told_err}
use Rattle.fkv_runs.proofs.files.tell_piece.Goals as goal

pub returns-clause-part : goal.returns-clause-part
returns-clause-part g c =
    let engine = EngineStep g.D.Device.honest g.D.Device.seen g.D.Device.may_leave g.D.Device.failed g.D.Device.refuses g.D.Device.expects g.D.Breaks.broken in
    let said = c.in_ok-play_piece.ensures in
    told_err (λ text. (after : PlayerState g.row.D.Denot) × IsPieceOfLife engine c.args.piece.now c.args.player.now after false text) c.new-said.result.items _ _ _ _ _ c.new-said.ensures.items c.as_slice.ensures.value
    (said.0, (c.play_piece.new.player, said.1), said.2) c.write_text.ensures.part
