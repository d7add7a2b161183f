use Rattle.std.specs.Ordering.{nat_cmp}
use Rattle.std.specs.BTreeMap.{get}
use Rattle.fkv_disk.specs.Kinds.{OnlyReads}
use Rattle.fkv_disk.specs.Quiet.{IsQuiet}
use Rattle.fkv_opening.specs.Opened.{IsStoreOf}
use Rattle.fkv_pairs.specs.Pairs.{log_of_store}
use Rattle.fkv_pairs.specs.Gathered.{AreGathered}
use Rattle.fkv_pairs.proofs.contents.values_of.Given as goal

abbrev pub invariant-loop-i : goal.invariant-loop-i
invariant-loop-i g l = record {
  quiet : IsQuiet g.D.Device.honest g.D.Device.seen g.D.Device.may_leave g.D.Device.moment g.D.Device.left_since g.D.Device.failed l.fn.d l.d;
  reads : OnlyReads g.D.Device.refuses g.D.Device.expects l.fn.d l.d;
  gathered : g.D.Device.honest l.fn.d → (store : IsStoreOf (g.D.Device.seen l.fn.d) l.opened) → AreGathered (log_of_store (g.D.Device.seen l.fn.d) l.opened store) (get nat_cmp l.values) l.opened.entries.items l.i;
}
