use Rattle.std.proofs.Common.{ap}
use Rattle.fkv_pending.specs.Pending.{with_latch}
use Rattle.fkv_pending.proofs.Requests.{request_same}
use Rattle.fkv_pending.proofs.pending_requests.PendingRequest.set_latch.Goals as goal

pub returns : goal.returns
unfolding with_latch
returns c =
    let its = c.args.self.now in
    let r = its.request in
    ap (λ request. record { name = its.name; request = request; sought = its.sought; has_asked = its.has_asked })
    (request_same r.op c.args.has_latch r.held r.floor r.version (c.self-1.given.0.0, c.self-1.given.0.1.0) (r.some_version, r.version_fits))
