-- the calls so far, and what they have written
use Rattle.std.proofs.Common.{take}
use Rattle.fkv_playing.specs.Finishes.{IsPlayedAlone}
use Rattle.fkv_playing.specs.InTurn.{InTurn, Writes}
use Rattle.fkv_playing.specs.Players.{EngineStep}
use Rattle.fkv_playing.specs.declared.calls.Outcome.TheVariants.{Answered}
use Rattle.fkv_playing.proofs.players.Player.play_calls.Given as goal

abbrev pub invariant-loop-call : goal.invariant-loop-call
invariant-loop-call g l = Writes
    (InTurn (IsPlayedAlone (EngineStep g.D.Device.honest g.D.Device.seen g.D.Device.may_leave g.D.Device.failed g.D.Device.refuses g.D.Device.expects g.D.Breaks.broken) l.telling)
    Answered (take l.call-index l.calls) l.fn.self l.self Answered) (g.W.Write.contents l.fn.output) (g.W.Write.contents l.output)
