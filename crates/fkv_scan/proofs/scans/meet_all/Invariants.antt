use Rattle.std.proofs.Common.{◌≤◌, ◌-◌, List}
use Rattle.std.specs.Ordering.{nat_cmp}
use Rattle.std.specs.BTreeMap.{get}
use Rattle.fkv_record.specs.declared.triples.Triple.{Triple}
use Rattle.fkv_scan.specs.Log.{log_in}
use Rattle.fkv_scan.specs.Scan.{IsScannedTo}
use Rattle.fkv_scan.specs.Scanned.{TellsNewer}
use Rattle.fkv_scan.specs.Known.{KnowsAll}
use Rattle.fkv_disk.specs.Kinds.{OnlyReads}
use Rattle.fkv_disk.specs.Quiet.{IsQuiet}
use Rattle.fkv_scan.proofs.scans.meet_all.Given as goal

abbrev pub invariant-loop-from : goal.invariant-loop-from
invariant-loop-from g l = record {
  start : l.slot.first.0 ≤ l.from;
  end : l.from ≤ l.slot.end.0;
  quiet : IsQuiet g.D.Device.honest g.D.Device.seen g.D.Device.may_leave g.D.Device.moment g.D.Device.left_since g.D.Device.failed l.fn.d l.d;
  reads : OnlyReads g.D.Device.refuses g.D.Device.expects l.fn.d l.d;
  known : (triples : List Triple) → g.D.Device.honest l.fn.d → KnowsAll (log_in (g.D.Device.seen l.fn.d) l.shape l.slot triples) l.slot.first.0 (get nat_cmp l.fn.homes)
      → IsScannedTo (log_in (g.D.Device.seen l.fn.d) l.shape l.slot triples) l.from × KnowsAll (log_in (g.D.Device.seen l.fn.d) l.shape l.slot triples) l.from (get nat_cmp l.homes);
  newer : (triples : List Triple) → g.D.Device.honest l.fn.d → TellsNewer (log_in (g.D.Device.seen l.fn.d) l.shape l.slot triples) l.from l.newer;
}

abbrev pub decreases-loop-from : goal.decreases-loop-from
decreases-loop-from g l = l.slot.end.0 - l.from
