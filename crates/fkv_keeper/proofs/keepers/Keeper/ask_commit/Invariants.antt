use Rattle.std.proofs.Common.{◌≡◌}
use Rattle.fkv_keeper.specs.KeeperAsks.{keeper_asks_left}
use Rattle.fkv_keeper.specs.WholeCalls.{IsCallSoFar}
use Rattle.fkv_keeper.proofs.BeginRun.{Begins}
use Rattle.fkv_keeper.proofs.keepers.Keeper.ask_commit.Given as goal

-- as long as it asks nothing is begun, and each ask was answered
abbrev pub invariant-asks : goal.invariant-asks
invariant-asks l = record {
  shape : l.self.shape ≡ l.initial.self.shape;
  places : l.self.places ≡ l.initial.self.places;
  asked : IsCallSoFar l.self.shape l.self.places l.initial.self.state l.initial.plane l.self.state l.plane;
  begins : Begins l.initial.self.state.commit l.self.state l.self.state.step;
}

-- each reply leaves fewer asks
abbrev pub decreases-asks : goal.decreases-asks
decreases-asks l = keeper_asks_left l.self.shape l.self.places l.self.state
