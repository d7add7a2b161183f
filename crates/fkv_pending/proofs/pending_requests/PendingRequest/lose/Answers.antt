use Rattle.std.proofs.Common.{ap}
use Rattle.std.specs.Prelude.{None}
use Rattle.fkv_pending.specs.Pending.{without_gone}
use Rattle.fkv_pending.proofs.Requests.{request_same}
use Rattle.fkv_pending.proofs.pending_requests.PendingRequest.lose.Goals as goal

pub returns : goal.returns
unfolding without_gone
returns c =
    let its = c.args.self.now in
    let r = its.request in
    ap (λ request. record { name = its.name; request = request; sought = None; has_asked = its.has_asked })
    (request_same r.op r.has_latch None c.args.begin r.version (c.begin-1.given.0.0, c.begin-1.given.0.1.0) (r.some_version, r.version_fits))
