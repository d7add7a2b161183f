-- Each reply leaves fewer asks.
use Rattle.std.proofs.Common.{◌≡◌, rules}
use Rattle.fkv_pending.specs.Attempting.{attempting_next, attempt_next}
use Rattle.fkv_pending.proofs.AttemptAsks.{attempt_fewer}
use Rattle.fkv_pending.proofs.attempting.Attempt.drive.Goals as goal

pub returns-clause-fewer : goal.returns-clause-fewer
unfolding attempting_next
returns-clause-fewer c =
    let now = c.args.self.now in
    let next : c.match-self.self.state ≡ attempt_next now.places now.bits now.room now.session now.state c.args.reply = search rules in
    λ some. rw next (attempt_fewer now.places now.bits now.room now.session now.state c.args.reply some)
