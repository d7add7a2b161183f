use Rattle.std.proofs.Common.{◌≡◌, ◌<◌, ◌≤◌, ◌+◌, ◌-◌, ◌*◌}
use Rattle.fkv_straight.specs.Course.{Course, Goes}
use Rattle.fkv_straight.specs.Memory.{is_in_memory}
use Rattle.fkv_straight.specs.Met.{IsReached}
use Rattle.fkv_map.specs.declared.operations.Call.{Call}
use Rattle.fkv_straight.proofs.searching.walk_on.Given as goal

-- the chain was walked to this address
abbrev pub invariant-records : goal.invariant-records
invariant-records g l =
    let k = g.L.Line.seat l.fn.line in
    record {
      few : l.met < 7;
      seat : g.L.Line.seat l.line ≡ k;
      led : (start : g.row.L.Denot) (call : Call) → g.L.Line.led start call l.fn.line → g.L.Line.led start call l.line;
      kept : g.L.Line.kept l.line ≤ g.L.Line.kept l.fn.line + 2 * l.met;
      here : l.is_here ≡ is_in_memory l.fn.going.places.ring l.fn.going.head l.addr;
      stands : (c : Course) → Goes c k l.fn.op l.fn.going → IsReached c l.fn.slot.place l.fn.slot.entry l.fn.from (g.L.Line.stands l.fn.line) → IsReached c l.fn.slot.place l.fn.slot.entry l.addr (g.L.Line.stands l.line);
    }

abbrev pub decreases-records : goal.decreases-records
decreases-records g l = 7 - l.met
