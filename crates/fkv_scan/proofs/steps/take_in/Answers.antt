use Rattle.std.specs.Ordering.{nat_cmp}
use Rattle.std.specs.BTreeMap.{get}
use Rattle.fkv_scan.specs.Log.{log_in}
use Rattle.fkv_scan.proofs.Taking.{taken_in}
use Rattle.fkv_scan.proofs.steps.take_in.Goals as goal

pub returns-clause-ok : goal.returns-clause-ok
returns-clause-ok g c = λ triples claim tells knows.
    taken_in (log_in (g.D.Device.seen c.args.d.now) c.args.shape c.args.slot.now triples) c.args.met.now tells (get nat_cmp c.args.homes.now) c.deref.result.now c.is_lost-lost.result
    c.in_ok-leads.leads c.deref.ensures.0 c.is_lost-lost.ensures (c.in_ok-leads.ensures.ok claim triples) knows (get nat_cmp c.put_in.new.homes) c.in_ok-linked.linked
    c.in_ok-linked.ensures.linked c.in_ok-linked.ensures.known c.in_ok-linked.ensures.others
