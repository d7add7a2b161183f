use Rattle.std.proofs.Common.{List}
use Rattle.fkv_record.specs.declared.triples.Triple.{Triple}
use Rattle.fkv_scan.specs.Log.{log_in}
use Rattle.fkv_disk.specs.Kinds.{OnlyReads}
use Rattle.fkv_disk.specs.Quiet.{IsQuiet}
use Rattle.fkv_scan.proofs.Upwards.{IsReadTo}
use Rattle.fkv_scan.proofs.gathering.gather.Given as goal

abbrev pub invariant-loop-addr : goal.invariant-loop-addr
invariant-loop-addr g l = record {
  quiet : IsQuiet g.D.Device.honest g.D.Device.seen g.D.Device.may_leave g.D.Device.moment g.D.Device.left_since g.D.Device.failed l.fn.d l.d;
  reads : OnlyReads g.D.Device.refuses g.D.Device.expects l.fn.d l.d;
  read : (triples : List Triple) → g.D.Device.honest l.fn.d → IsReadTo (log_in (g.D.Device.seen l.fn.d) l.shape l.slot triples) l.fn.from.0 l.addr l.mets.items l.newer;
}
