-- the beats so far, and what they have written
use Rattle.std.proofs.Common.{◌∷◌, replicate}
use Rattle.fkv_playing.specs.Beats.{IsBeat}
use Rattle.fkv_playing.specs.InTurn.{InTurn, Writes}
use Rattle.fkv_playing.specs.Players.{EngineStep}
use Rattle.fkv_playing.specs.declared.calls.Outcome.TheVariants.{GoesOn}
use Rattle.fkv_playing.specs.declared.calls.Stage.TheVariants.{Begins, Moves}
use Rattle.fkv_playing.proofs.players.Player.play_alone.Given as goal

abbrev pub invariant-loop : goal.invariant-loop
invariant-loop g l = Writes
    (InTurn (IsBeat (EngineStep g.D.Device.honest g.D.Device.seen g.D.Device.may_leave g.D.Device.failed g.D.Device.refuses g.D.Device.expects g.D.Breaks.broken) l.telling l.call)
    GoesOn (Begins ∷ replicate l.counter Moves) l.fn.self l.self l.outcome) (g.W.Write.contents l.fn.output) (g.W.Write.contents l.output)
