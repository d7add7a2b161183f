use Rattle.std.proofs.Common.{◌≡◌, ◌≤◌, ◌-◌, ◌*◌, length}
use Rattle.fkv_disk.specs.Kinds.{OnlyReads}
use Rattle.fkv_disk.specs.Quiet.{IsQuiet}
use Rattle.fkv_warming.specs.Records.{records_from}
use Rattle.fkv_warming.proofs.records.records_from.Given as goal

abbrev pub invariant-loop-addr : goal.invariant-loop-addr
invariant-loop-addr g l = record {
  quiet : IsQuiet g.D.Device.honest g.D.Device.seen g.D.Device.may_leave g.D.Device.moment g.D.Device.left_since g.D.Device.failed l.fn.d l.d;
  reads : OnlyReads g.D.Device.refuses g.D.Device.expects l.fn.d l.d;
  up : l.fn.first.0 ≤ l.addr;
  many : length l.words.items ≡ 3 * (l.addr - l.fn.first.0);
  so_far : g.D.Device.honest l.fn.d → l.words.items ≡ records_from (g.D.Device.seen l.fn.d) l.shape l.begin.0 l.number.0 l.fn.first.0 (l.addr - l.fn.first.0);
}
