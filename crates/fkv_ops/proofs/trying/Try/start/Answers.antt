-- With how many asks a try begins, at most.
use Rattle.std.proofs.Common.{◌≡◌, rules}
use Rattle.fkv_ops.specs.Trying.{try_begun}
use Rattle.fkv_ops.proofs.TryAsks.{try_begun_left}
use Rattle.fkv_ops.proofs.trying.Try.start.Goals as goal

pub returns-clause-bounded : goal.returns-clause-bounded
returns-clause-bounded c =
    let now = c.args.self.now in
    let a = c.args in
    let next : c.if-wants_shared.self.state ≡ try_begun now.places now.bits a.request a.seen a.occasion a.spare = search rules in
    rw next (try_begun_left now.places now.bits a.request a.seen a.occasion a.spare)
