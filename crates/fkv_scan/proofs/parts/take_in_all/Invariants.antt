use Rattle.std.proofs.Common.{List, ℕ}
use Rattle.std.specs.Ordering.{nat_cmp}
use Rattle.std.specs.BTreeMap.{get}
use Rattle.fkv_record.specs.declared.triples.Triple.{Triple}
use Rattle.fkv_scan.specs.Log.{log_in}
use Rattle.fkv_scan.specs.Known.{KnowsAll}
use Rattle.fkv_scan.specs.Parts.{AreMet, RiseByHome}
use Rattle.fkv_disk.specs.Kinds.{OnlyReads}
use Rattle.fkv_disk.specs.Quiet.{IsQuiet}
use Rattle.fkv_scan.proofs.Linking.{AreTaken}
use Rattle.fkv_scan.proofs.parts.take_in_all.Given as goal

abbrev pub invariant-loop-i : goal.invariant-loop-i
invariant-loop-i g l = record {
  quiet : IsQuiet g.D.Device.honest g.D.Device.seen g.D.Device.may_leave g.D.Device.moment g.D.Device.left_since g.D.Device.failed l.fn.d l.d;
  reads : OnlyReads g.D.Device.refuses g.D.Device.expects l.fn.d l.d;
  taken : (triples : List Triple) (from : ℕ) → g.D.Device.honest l.fn.d → AreMet (log_in (g.D.Device.seen l.fn.d) l.shape l.slot triples) from l.fn.end.0 l.mets → RiseByHome l.mets
      → KnowsAll (log_in (g.D.Device.seen l.fn.d) l.shape l.slot triples) from (get nat_cmp l.fn.homes)
      → AreTaken (log_in (g.D.Device.seen l.fn.d) l.shape l.slot triples) from l.fn.end.0 l.mets l.i l.linked.0 (get nat_cmp l.homes);
}
