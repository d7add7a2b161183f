use Rattle.std.specs.Prelude.{◌↔◌}
use Rattle.fkv_core.proofs.LoneMoves.{AreMovesSoFar}
use Rattle.fkv_core.proofs.worlds.World.finish.Given as goal

abbrev pub invariant-loop : goal.invariant-loop
invariant-loop g l = record {
  honest : g.D.Device.honest l.fn.self.device ↔ g.D.Device.honest l.self.device;
  so_far : AreMovesSoFar l.actor l.counter l.fn.self.now l.self.now (g.D.Device.failed l.fn.self.device) (g.D.Device.failed l.self.device) (g.D.Device.refuses l.fn.self.device) (g.D.Device.refuses l.self.device) (g.D.Device.honest l.fn.self.device) (g.D.Device.seen l.fn.self.device) (g.D.Device.seen l.self.device) (g.D.Device.may_leave l.fn.self.device) (g.D.Device.may_leave l.self.device);
}
