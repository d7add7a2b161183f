-- some picks in turn lead from the start to here, with what was written so far
use Rattle.fkv_playing.specs.Players.{EngineStep}
use Rattle.fkv_playing.proofs.Picking.{SomePicks}
use Rattle.fkv_playing.proofs.players.Player.play_group.Given as goal

abbrev pub invariant-loop : goal.invariant-loop
invariant-loop g l =
    SomePicks (EngineStep g.D.Device.honest g.D.Device.seen g.D.Device.may_leave g.D.Device.failed g.D.Device.refuses g.D.Device.expects g.D.Breaks.broken)
    (record { player = l.fn.self; queues = l.fn.queues.items }) (record { player = l.self; queues = l.queues.items })
    (g.W.Write.contents l.fn.output) (g.W.Write.contents l.output)
