use Rattle.fkv_scan.specs.Log.{log_in}
use Rattle.fkv_scan.specs.Scan.{AreLed}
use Rattle.fkv_disk.specs.Kinds.{OnlyReads}
use Rattle.fkv_disk.specs.Quiet.{IsQuiet}
use Rattle.fkv_scan.proofs.scans.check_led.Given as goal

abbrev pub invariant-loop-i : goal.invariant-loop-i
invariant-loop-i g l = record {
  quiet : IsQuiet g.D.Device.honest g.D.Device.seen g.D.Device.may_leave g.D.Device.moment g.D.Device.left_since g.D.Device.failed l.fn.d l.d;
  reads : OnlyReads g.D.Device.refuses g.D.Device.expects l.fn.d l.d;
  led : g.D.Device.honest l.fn.d → AreLed (log_in (g.D.Device.seen l.fn.d) l.shape l.slot l.triples) l.i;
}
