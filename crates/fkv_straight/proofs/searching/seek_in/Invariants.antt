use Rattle.std.proofs.Common.{◌≡◌, ◌≤◌, ◌+◌, ◌-◌}
use Rattle.fkv_map.specs.declared.operations.Call.{Call}
use Rattle.fkv_straight.specs.Course.{Course, Goes}
use Rattle.fkv_straight.specs.Met.{HasSlot}
use Rattle.fkv_straight.proofs.searching.seek_in.Given as goal

-- the word of this slot has come
abbrev pub invariant-slots : goal.invariant-slots
invariant-slots g l =
    let k = g.L.Line.seat l.fn.line in
    let links = l.fn.going.places.overflow - l.fn.passed in
    record {
      seat : g.L.Line.seat l.line ≡ k;
      led : (start : g.row.L.Denot) (call : Call) → g.L.Line.led start call l.fn.line → g.L.Line.led start call l.line;
      kept : g.L.Line.kept l.line ≤ g.L.Line.kept l.fn.line + l.slot;
      stands : (c : Course) → Goes c k l.fn.op l.fn.going → HasSlot c l.fn.base links 0 l.fn.first (g.L.Line.stands l.fn.line) → HasSlot c l.fn.base links l.slot l.word (g.L.Line.stands l.line);
    }
