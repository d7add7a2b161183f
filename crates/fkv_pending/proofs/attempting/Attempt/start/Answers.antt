-- As it begins it has the asks of all its parts left, at most.
use Rattle.std.proofs.Common.{◌≡◌, rules}
use Rattle.fkv_pending.specs.Attempting.{attempt_begun}
use Rattle.fkv_pending.proofs.AttemptAsks.{attempt_begun_left}
use Rattle.fkv_pending.proofs.attempting.Attempt.start.Goals as goal

pub returns-clause-bounded : goal.returns-clause-bounded
returns-clause-bounded c =
    let now = c.args.self.now in
    let a = c.args in
    let next : c.if-self.self.state ≡ attempt_begun now.places now.bits a.pending.now a.seen a.occasion a.spare a.is_orphaned = search rules in
    rw next (attempt_begun_left now.places now.bits a.pending.now a.seen a.occasion a.spare a.is_orphaned)
