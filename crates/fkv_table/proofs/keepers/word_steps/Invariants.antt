use Rattle.std.proofs.Common.{◌≡◌, ◌≤◌}
use Rattle.fkv_keeper.specs.KeeperAsks.{keeper_asks_left}
use Rattle.fkv_keeper.specs.Keeping.{keeper_ask}
use Rattle.fkv_seats.specs.Rule.{led}
use Rattle.fkv_table.specs.KeeperCalls.{HasGoneOn, IsBeginning}
use Rattle.fkv_table.specs.Keeps.{IsKeeping}
use Rattle.fkv_table.specs.Planes.{opening_of, plane}
use Rattle.fkv_table.specs.Turns.{ended_by_device}
use Rattle.fkv_table.proofs.keepers.word_steps.Given as goal

abbrev pub invariant-asks : goal.invariant-asks
invariant-asks g l = record {
  table : l.seat.table_id ≡ l.fn.seat.table_id;
  id : l.seat.id ≡ l.fn.seat.id;
  keeping : IsKeeping (opening_of g.D.Device.seen) l.fn.words.key l.seat.me l.machine;
  went : HasGoneOn l.fn.seat.me.0.seen l.seat.me.0.seen;
  calls : (led (plane (opening_of g.D.Device.seen)) (opening_of g.D.Device.seen l.fn.words.key) l.seat.me.0.seen).past.calls
      ≡ (led (plane (opening_of g.D.Device.seen)) (opening_of g.D.Device.seen l.fn.words.key) l.fn.seat.me.0.seen).past.calls;
  by_device : ended_by_device l.machine.state.step ≡ ended_by_device l.fn.machine.state.step;
  left : keeper_asks_left l.machine.shape l.machine.places l.machine.state ≤ keeper_asks_left l.fn.machine.shape l.fn.machine.places l.fn.machine.state;
  beginning : IsBeginning l.fn.machine.state.step → IsBeginning l.machine.state.step;
  asked : l.ask ≡ keeper_ask l.machine.shape l.machine.places l.machine.state;
}

abbrev pub decreases-asks : goal.decreases-asks
decreases-asks g l = keeper_asks_left l.machine.shape l.machine.places l.machine.state
