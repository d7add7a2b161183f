use Rattle.fkv_disk.specs.Kinds.{OnlyReads}
use Rattle.fkv_disk.specs.Quiet.{IsQuiet}
use Rattle.fkv_looking.specs.Pages.{AreClasses}
use Rattle.fkv_looking.proofs.page_looks.classes_in.Given as goal

abbrev pub invariant-loop-addr : goal.invariant-loop-addr
invariant-loop-addr g l = record {
  quiet : IsQuiet g.D.Device.honest g.D.Device.seen g.D.Device.may_leave g.D.Device.moment g.D.Device.left_since g.D.Device.failed l.fn.d l.d;
  reads : OnlyReads g.D.Device.refuses g.D.Device.expects l.fn.d l.d;
  found : g.D.Device.honest l.fn.d → AreClasses (g.D.Device.seen l.fn.d) l.opened l.fn.first.0 l.addr l.classes.items;
}
