use Rattle.std.proofs.Common.{◌≡◌, ℕ, ◌<◌}
use Rattle.std.specs.Prelude.{slice_get, Some}
use Rattle.std.specs.Ordering.{nat_cmp}
use Rattle.std.specs.BTreeMap.{get}
use Rattle.fkv_record.specs.declared.triples.Triple.{Triple}
use Rattle.fkv_scan.specs.Log.{log_in, triple_home}
use Rattle.fkv_disk.specs.Kinds.{OnlyReads}
use Rattle.fkv_disk.specs.Quiet.{IsQuiet}
use Rattle.fkv_chains.specs.Along.{IsFollowed}
use Rattle.fkv_chains.specs.Ways.{way_below}
use Rattle.fkv_chains.proofs.chain_stage.check_chains.Given as goal

abbrev pub invariant-loop-i : goal.invariant-loop-i
invariant-loop-i g l = record {
  quiet : IsQuiet g.D.Device.honest g.D.Device.seen g.D.Device.may_leave g.D.Device.moment g.D.Device.left_since g.D.Device.failed l.fn.d l.d;
  reads : OnlyReads g.D.Device.refuses g.D.Device.expects l.fn.d l.d;
  followed : g.D.Device.honest l.fn.d → (j : ℕ) (t : Triple) → j < l.i → slice_get l.triples j ≡ Some t
      → IsFollowed (log_in (g.D.Device.seen l.fn.d) l.shape l.slot l.triples) (triple_home t) (way_below (get nat_cmp l.scanned.homes (triple_home t)) l.slot.first.0);
}
