use Rattle.std.proofs.Common.{ℕ, ◌<◌, ◌^◌}
use Rattle.std.specs.Ordering.{nat_cmp}
use Rattle.std.specs.BTreeMap.{get}
use Rattle.fkv_scan.specs.Log.{Log}
use Rattle.fkv_disk.specs.Kinds.{OnlyReads}
use Rattle.fkv_disk.specs.Quiet.{IsQuiet}
use Rattle.fkv_chains.specs.Entries.{IsEntry}
use Rattle.fkv_pairs.specs.Gathered.{IsReadFrom, AreNewest}
use Rattle.fkv_pairs.proofs.Along.{IsGathering}
use Rattle.fkv_pairs.proofs.gathering.gather.Given as goal

abbrev pub invariant-loop-addr : goal.invariant-loop-addr
invariant-loop-addr g l = record {
  short : l.addr.0 < 2 ^ 48;
  quiet : IsQuiet g.D.Device.honest g.D.Device.seen g.D.Device.may_leave g.D.Device.moment g.D.Device.left_since g.D.Device.failed l.fn.d l.d;
  reads : OnlyReads g.D.Device.refuses g.D.Device.expects l.fn.d l.d;
  gathering : (log : Log) (its_home : ℕ) → g.D.Device.honest l.fn.d → IsReadFrom (g.D.Device.seen l.fn.d) l.shape l.begin.0 log → IsEntry log its_home l.fn.entry.0 → AreNewest log (get nat_cmp l.fn.values)
      → IsGathering log its_home (get nat_cmp l.fn.values) (get nat_cmp l.values) l.addr.0;
}

abbrev pub decreases-loop-addr : goal.decreases-loop-addr
decreases-loop-addr g l = l.addr.0
