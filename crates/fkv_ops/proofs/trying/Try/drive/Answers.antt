-- Each reply leaves fewer asks.
use Rattle.std.proofs.Common.{◌≡◌, rules}
use Rattle.fkv_ops.specs.Trying.{trying_next, try_next}
use Rattle.fkv_ops.proofs.TryAsks.{try_fewer}
use Rattle.fkv_ops.proofs.trying.Try.drive.Goals as goal

pub returns-clause-fewer : goal.returns-clause-fewer
unfolding trying_next
returns-clause-fewer c =
    let now = c.args.self.now in
    let next : c.match-self.self.state ≡ try_next now.places now.room now.state c.args.reply = search rules in
    λ some. rw next (try_fewer now.places now.room now.state c.args.reply some)
