use Rattle.std.proofs.Common.{ap}
use Rattle.fkv_pending.specs.Pending.{with_latch}
use Rattle.fkv_pending.proofs.Requests.{request_same}
use Rattle.fkv_pending.proofs.pending_requests.PendingRequest.with_latch.Goals as goal

pub returns : goal.returns
unfolding with_latch
returns c =
    let r = c.args.self.request in
    ap (λ request. record { name = c.args.self.name; request = request; sought = c.args.self.sought; has_asked = c.args.self.has_asked })
    (request_same r.op c.args.has_latch c.args.self.request.held r.floor r.version (c.changed-1.given.0, c.changed-1.given.1.0) (r.some_version, r.version_fits))
