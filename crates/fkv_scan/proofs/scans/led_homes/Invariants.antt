use Rattle.std.specs.Ordering.{nat_cmp}
use Rattle.std.specs.BTreeMap.{get}
use Rattle.fkv_scan.proofs.Leading.{AreLedHomes}
use Rattle.fkv_scan.proofs.scans.led_homes.Given as goal

abbrev pub invariant-loop-i : goal.invariant-loop-i
invariant-loop-i l = AreLedHomes l.triples l.slot.begin.0 l.slot.first.0 l.i (get nat_cmp l.homes)
