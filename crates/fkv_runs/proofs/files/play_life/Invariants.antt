-- the pieces so far, and what they have written
use Rattle.std.proofs.Common.{false, take}
use Rattle.fkv_playing.specs.InTurn.{InTurn, Writes}
use Rattle.fkv_playing.specs.Players.{EngineStep}
use Rattle.fkv_runs.specs.Files.{IsPieceOfLife}
use Rattle.fkv_runs.proofs.files.play_life.Given as goal

abbrev pub invariant-loop-piece : goal.invariant-loop-piece
invariant-loop-piece g l = Writes
    (InTurn (IsPieceOfLife (EngineStep g.D.Device.honest g.D.Device.seen g.D.Device.may_leave g.D.Device.failed g.D.Device.refuses g.D.Device.expects g.D.Breaks.broken))
    false (take l.piece-index l.pieces) l.initial.player l.player false) (g.W.Write.contents l.fn.output) (g.W.Write.contents l.output)
