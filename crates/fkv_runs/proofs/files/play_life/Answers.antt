-- One piece more behind those so far.
use Rattle.std.proofs.Common.{◌≡◌, List, [], false, subst, take}
use Rattle.std.proofs.lemmas.List.{take_all}
use Rattle.fkv_playing.specs.InTurn.{InTurn}
use Rattle.fkv_playing.specs.Players.{EngineStep, PlayerState}
use Rattle.fkv_runs.specs.declared.pieces.Piece.{Piece}
use Rattle.fkv_runs.specs.Files.{IsPartOfLife, IsPieceOfLife}
use Rattle.fkv_runs.specs.Openings.{Begins}
use Rattle.fkv_runs.proofs.Breaking.{begun_breaks, life_breaks}
use Rattle.fkv_runs.proofs.Told.{breaks_at_once, on_err}
use Rattle.fkv_runs.proofs.Turning.{next_read, none_written}
use Rattle.fkv_runs.proofs.files.play_life.Goals as goal

pub loop-piece-init : goal.loop-piece-init
loop-piece-init g c =
    let its = IsPieceOfLife (EngineStep g.D.Device.honest g.D.Device.seen g.D.Device.may_leave g.D.Device.failed g.D.Device.refuses g.D.Device.expects g.D.Breaks.broken) in
    none_written its false c.in_ok-player.player (g.W.Write.contents c.args.output.now)

pub loop-piece-preserved : goal.loop-piece-preserved
loop-piece-preserved g c =
    let its = IsPieceOfLife (EngineStep g.D.Device.honest g.D.Device.seen g.D.Device.may_leave g.D.Device.failed g.D.Device.refuses g.D.Device.expects g.D.Breaks.broken) in
    next_read its false c.args.pieces.now c.loop-piece.piece-index c.piece-item.result c.in_ok-player.player c.loop-piece.player c.tell_piece.new.player false _ _ _
    c.loop-piece-test.true c.piece-item.is c.loop-piece.invariant c.in_ok-tell_piece.ensures.whole

pub returns-clause-whole : goal.returns-clause-whole
returns-clause-whole g c =
    let its = IsPieceOfLife (EngineStep g.D.Device.honest g.D.Device.seen g.D.Device.may_leave g.D.Device.failed g.D.Device.refuses g.D.Device.expects g.D.Breaks.broken) in
    let pieces = c.args.pieces.now in
    let all : take c.loop-piece.piece-index pieces ≡ pieces = take_all c.loop-piece.piece-index pieces c.loop-piece-test.false in
    let written = c.loop-piece.invariant in (
      c.in_ok-player.player,
      rw c.new.ensures.items at c.in_ok-player.ensures,
      (
        written.0,
        record {
          after = c.loop-piece.player;
          played = subst (λ (some : List Piece). InTurn its false some c.in_ok-player.player c.loop-piece.player false written.0) all written.1;
        },
        written.2,
      ),
    )

pub returns-in_err-tell_piece-clause-part : goal.returns-in_err-tell_piece-clause-part
returns-in_err-tell_piece-clause-part g c =
    let engine = EngineStep g.D.Device.honest g.D.Device.seen g.D.Device.may_leave g.D.Device.failed g.D.Device.refuses g.D.Device.expects g.D.Breaks.broken in
    begun_breaks (IsPartOfLife engine c.args.pieces.now) c.args.opened c.args.device c.new.result.items false c.in_ok-player.player _
    (g.W.Write.contents c.args.output.now) (g.W.Write.contents c.tell_piece.new.output) c.new.ensures.items c.in_ok-player.ensures
    (on_err _ (life_breaks engine c.args.pieces.now c.loop-piece.piece-index c.piece-item.result c.in_ok-player.player c.loop-piece.player
    (g.W.Write.contents c.args.output.now) (g.W.Write.contents c.loop-piece.output) (g.W.Write.contents c.tell_piece.new.output)
    c.loop-piece-test.true c.piece-item.is c.loop-piece.invariant c.in_err-tell_piece.ensures.part))

pub returns-in_err-player-clause-part : goal.returns-in_err-player-clause-part
returns-in_err-player-clause-part g c =
    let engine = EngineStep g.D.Device.honest g.D.Device.seen g.D.Device.may_leave g.D.Device.failed g.D.Device.refuses g.D.Device.expects g.D.Breaks.broken in
    on_err _ (breaks_at_once (λ text. (player : PlayerState g.row.D.Denot) × Begins c.args.opened c.args.device [] false player × IsPartOfLife engine c.args.pieces.now player text) (g.W.Write.contents c.args.output.now))
