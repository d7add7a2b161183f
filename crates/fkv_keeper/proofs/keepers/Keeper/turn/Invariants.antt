use Rattle.std.proofs.Common.{◌≡◌}
use Rattle.std.specs.Prelude.{◌↔◌}
use Rattle.fkv_keeper.specs.KeeperAsks.{keeper_asks_left}
use Rattle.fkv_keeper.specs.Keeping.{turn_asked}
use Rattle.fkv_keeper.specs.WholeCalls.{IsHonestTurnSoFar, IsTurnSoFar}
use Rattle.fkv_keeper.proofs.TurnRun.{TurnRuns}
use Rattle.fkv_keeper.proofs.keepers.Keeper.turn.Given as goal

abbrev pub invariant-asks : goal.invariant-asks
invariant-asks g l = record {
  shape : l.self.shape ≡ l.initial.self.shape;
  places : l.self.places ≡ l.initial.self.places;
  runs : TurnRuns l.fn.self.state l.self.state l.self.state.step;
  asked : IsTurnSoFar l.self.shape l.self.places (turn_asked l.fn.self.state) l.fn.plane l.self.state l.plane (g.D.Device.failed l.initial.d) (g.D.Device.failed l.d) (g.D.Device.refuses l.initial.d) (g.D.Device.refuses l.d);
  device : g.D.Device.honest l.initial.d → IsHonestTurnSoFar l.self.shape l.self.places (turn_asked l.fn.self.state) l.fn.plane l.self.state l.plane (g.D.Device.seen l.initial.d) (g.D.Device.seen l.d) (g.D.Device.may_leave l.initial.d) (g.D.Device.may_leave l.d);
  honest : g.D.Device.honest l.initial.d ↔ g.D.Device.honest l.d;
}

-- each reply, action and call leaves fewer
abbrev pub decreases-asks : goal.decreases-asks
decreases-asks g l = keeper_asks_left l.self.shape l.self.places l.self.state
