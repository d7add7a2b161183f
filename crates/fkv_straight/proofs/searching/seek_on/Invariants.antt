use Rattle.std.proofs.Common.{◌≡◌, ◌≤◌, ◌+◌, ◌-◌, ◌*◌, ◌^◌}
use Rattle.fkv_map.specs.declared.operations.Call.{Call}
use Rattle.fkv_straight.specs.Course.{Course, Goes}
use Rattle.fkv_straight.specs.Met.{IsAtLink}
use Rattle.fkv_straight.proofs.searching.seek_on.Given as goal

-- behind so many links each slot of this bucket was passed
abbrev pub invariant-links : goal.invariant-links
invariant-links g l =
    let k = g.L.Line.seat l.fn.line in
    record {
      within : l.links ≤ l.fn.going.places.overflow;
      fits : l.base + 8 ≤ 2 ^ 62;
      seat : g.L.Line.seat l.line ≡ k;
      led : (start : g.row.L.Denot) (call : Call) → g.L.Line.led start call l.fn.line → g.L.Line.led start call l.line;
      kept : g.L.Line.kept l.line ≤ g.L.Line.kept l.fn.line + 8 * l.links;
      stands : (c : Course) → Goes c k l.fn.op l.fn.going → IsAtLink c l.fn.first l.fn.going.places.overflow (g.L.Line.stands l.fn.line) → IsAtLink c l.base (l.fn.going.places.overflow - l.links) (g.L.Line.stands l.line);
    }
