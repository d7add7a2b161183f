use Rattle.std.proofs.Common.{ℕ}
use Rattle.fkv_disk.specs.Device.{AtEachMoment}
use Rattle.fkv_keeper.specs.KeeperAsks.{keeper_asks_left}
use Rattle.fkv_table.specs.declared.happenings.Happening.TheVariants.{Turns}
use Rattle.fkv_table.specs.KeeperCalls.{HasKept}
use Rattle.fkv_table.specs.Keeps.{IsAfterSeen, IsKeeperAtWork, IsLeftWithin}
use Rattle.fkv_table.specs.Planes.{opening_of}
use Rattle.fkv_table.specs.Turns.{IsCounted, ended_by_device}
use Rattle.fkv_table.proofs.keepers.Keeper.make_turn.Given as goal

abbrev pub invariant-pieces : goal.invariant-pieces
invariant-pieces g l = record {
  at_work : IsKeeperAtWork (opening_of g.D.Device.seen) l.fn.table.table.shared.key l.fn.table.table.shared.table_id l.pass.seat.table_id l.pass.seat.me l.self.machine;
  kept : HasKept Turns l.fn.pass.seat.me.0.seen l.pass.seat.me.0.seen;
  honest : g.D.Device.honest l.d;
  after : IsAfterSeen (opening_of g.D.Device.seen) l.fn.table.table.shared.key l.pass.seat.me.0.seen (g.D.Device.seen l.d) (g.D.Device.may_leave l.d);
  moments : AtEachMoment g.D.Device.moment g.D.Device.left_since l.fn.d l.d (IsLeftWithin (opening_of g.D.Device.seen) l.fn.table.table.shared.key l.fn.pass.seat.me.0.seen l.pass.seat.me.0.seen);
  counted : (count : ℕ) × IsCounted count (ended_by_device l.self.machine.state.step) (g.D.Device.failed l.fn.d) (g.D.Device.failed l.d) (g.D.Device.refuses l.fn.d) (g.D.Device.refuses l.d);
}

abbrev pub decreases-pieces : goal.decreases-pieces
decreases-pieces g l = keeper_asks_left l.self.machine.shape l.self.machine.places l.self.machine.state
