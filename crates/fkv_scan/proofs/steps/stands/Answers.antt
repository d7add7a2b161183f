use Rattle.fkv_scan.specs.Log.{log_in}
use Rattle.fkv_scan.proofs.Standing.{valid_there}
use Rattle.fkv_scan.proofs.steps.stands.Goals as goal

pub returns-then-not-found-clause-ok : goal.returns-then-not-found-clause-ok
returns-then-not-found-clause-ok g c = λ claim slot triples.
    valid_there (log_in (g.D.Device.seen c.args.d.now) c.args.shape slot triples) c.args.addr.0 c.in_ok-read.read (c.in_ok-read.ensures.ok claim) c.in-Some.found c.args.home c.record_home.result
    c.in-Some.is c.if-not-found.true c.record_home.ensures
