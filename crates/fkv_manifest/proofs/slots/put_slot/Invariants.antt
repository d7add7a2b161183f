use Rattle.fkv_disk.specs.Device.{LeavesOnly, AtEachMoment}
use Rattle.fkv_manifest.specs.Gating.{gate_start, gate_calls_left, gate_kinds}
use Rattle.fkv_manifest.specs.Tearing.{IsTornInOrder}
use Rattle.fkv_manifest.proofs.Noting.{IsNoted}
use Rattle.fkv_manifest.proofs.Putting.{IsPut}
use Rattle.fkv_manifest.proofs.Tearing.{IsKeptTo}
use Rattle.fkv_manifest.proofs.slots.put_slot.Given as goal

-- how far the slot has come, what a crash may have left so far, and which calls the device has met
abbrev pub invariant-loop-writes : goal.invariant-loop-writes
invariant-loop-writes g l =
    let d = g.D.Device in
    let kind = IsTornInOrder l.fn.place l.fn.start l.fn.slot l.fn.is_open (d.seen l.initial.d) in
    IsPut l.fn.place l.fn.start l.fn.slot (gate_start l.fn.is_open) (d.honest l.initial.d) (d.seen l.initial.d) (d.failed l.initial.d) (d.refuses l.initial.d) (d.honest l.d) (d.seen l.d) (d.may_leave l.d) (d.failed l.d) (d.refuses l.d) l.writes
    × (d.honest l.initial.d → LeavesOnly (d.seen l.initial.d) (d.may_leave l.initial.d) → IsKeptTo kind (d.seen l.d) (d.may_leave l.d) l.writes × AtEachMoment d.moment d.left_since l.initial.d l.d kind)
    × IsNoted (gate_kinds l.fn.place l.fn.start l.fn.slot (gate_start l.fn.is_open)) (d.expects l.initial.d) (d.expects l.d) l.writes

abbrev pub decreases-loop-writes : goal.decreases-loop-writes
decreases-loop-writes g l = gate_calls_left l.writes.step
