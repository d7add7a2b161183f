use Rattle.std.proofs.Common.{ap}
use Rattle.fkv_pending.specs.Pending.{with_held}
use Rattle.fkv_pending.proofs.Requests.{request_same}
use Rattle.fkv_pending.proofs.pending_requests.PendingRequest.hold.Goals as goal

pub returns : goal.returns
unfolding with_held
returns c =
    let its = c.args.self.now in
    let r = its.request in
    ap (λ request. record { name = its.name; request = request; sought = its.sought; has_asked = its.has_asked })
    (request_same r.op r.has_latch c.args.held r.floor r.version (c.held-1.given.0.0, c.held-1.given.0.1.0) (r.some_version, r.version_fits))
