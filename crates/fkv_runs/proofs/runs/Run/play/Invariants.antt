-- the pieces so far lead from the first state to the run in hand, with what is written
use Rattle.std.proofs.Common.{◌≡◌, false, take}
use Rattle.fkv_playing.specs.InTurn.{InTurn, Writes}
use Rattle.fkv_runs.specs.Openings.{medium_of}
use Rattle.fkv_runs.specs.Runs.{IsPiece}
use Rattle.fkv_runs.proofs.runs.Run.play.Given as goal

abbrev pub invariant-loop-piece : goal.invariant-loop-piece
invariant-loop-piece g l =
    (l.run.settings ≡ l.fn.self.settings)
    × Writes (InTurn (IsPiece (medium_of g.D.Device.honest g.D.Device.seen g.D.Device.may_leave g.D.Device.failed g.D.Device.refuses g.D.Device.expects g.D.Breaks.broken g.D.Crashes.armed) l.fn.self.settings) false (take l.piece-index l.pieces) l.fn.self.state l.run.state false)
    (g.W.Write.contents l.fn.output) (g.W.Write.contents l.output)
