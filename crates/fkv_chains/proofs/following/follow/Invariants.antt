use Rattle.std.proofs.Common.{◌≤◌, List}
use Rattle.fkv_record.specs.declared.triples.Triple.{Triple}
use Rattle.fkv_scan.specs.Log.{log_in}
use Rattle.fkv_disk.specs.Kinds.{OnlyReads}
use Rattle.fkv_disk.specs.Quiet.{IsQuiet}
use Rattle.fkv_chains.specs.Along.{IsToFollow}
use Rattle.fkv_chains.proofs.FollowedTo.{IsFollowedTo}
use Rattle.fkv_chains.proofs.following.follow.Given as goal

abbrev pub invariant-loop-addr : goal.invariant-loop-addr
invariant-loop-addr g l = record {
  low : l.addr.0 ≤ l.fn.from.0;
  quiet : IsQuiet g.D.Device.honest g.D.Device.seen g.D.Device.may_leave g.D.Device.moment g.D.Device.left_since g.D.Device.failed l.fn.d l.d;
  reads : OnlyReads g.D.Device.refuses g.D.Device.expects l.fn.d l.d;
  above : (triples : List Triple) → g.D.Device.honest l.fn.d → IsFollowedTo (log_in (g.D.Device.seen l.fn.d) l.shape l.slot triples) l.home l.fn.from.0 l.addr.0;
  led : (triples : List Triple) → g.D.Device.honest l.fn.d → IsToFollow (log_in (g.D.Device.seen l.fn.d) l.shape l.slot triples) l.home l.fn.from.0 → IsToFollow (log_in (g.D.Device.seen l.fn.d) l.shape l.slot triples) l.home l.addr.0;
}

abbrev pub decreases-loop-addr : goal.decreases-loop-addr
decreases-loop-addr g l = l.addr.0
