use Rattle.std.specs.Ordering.{nat_cmp}
use Rattle.std.specs.BTreeMap.{get}
use Rattle.fkv_scan.specs.Checkpoint.{checkpoint_in}
use Rattle.fkv_disk.specs.Kinds.{OnlyReads}
use Rattle.fkv_disk.specs.Quiet.{IsQuiet}
use Rattle.fkv_scan.proofs.Triples.{AreSeen, AreRead}
use Rattle.fkv_scan.proofs.triple_stage.read_triples.Given as goal

abbrev pub invariant-loop-i : goal.invariant-loop-i
invariant-loop-i g l = record {
  quiet : IsQuiet g.D.Device.honest g.D.Device.seen g.D.Device.may_leave g.D.Device.moment g.D.Device.left_since g.D.Device.failed l.fn.d l.d;
  reads : OnlyReads g.D.Device.refuses g.D.Device.expects l.fn.d l.d;
  seen : AreSeen l.triples.items (get nat_cmp l.homes) l.i l.slot.end.0;
  read : g.D.Device.honest l.fn.d → AreRead (checkpoint_in (g.D.Device.seen l.fn.d) l.shape l.slot) l.triples.items;
}
