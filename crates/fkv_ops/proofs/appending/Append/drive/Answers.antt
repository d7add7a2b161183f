-- Each reply leaves fewer asks.
use Rattle.std.proofs.Common.{◌≡◌, rules}
use Rattle.fkv_ops.specs.Appending.{appending_next, append_next}
use Rattle.fkv_ops.proofs.AppendAsks.{append_fewer}
use Rattle.fkv_ops.proofs.appending.Append.drive.Goals as goal

pub returns-clause-fewer : goal.returns-clause-fewer
unfolding appending_next
returns-clause-fewer c =
    let now = c.args.self.now in
    let next : c.match-self.self.state ≡ append_next now.places now.room now.state c.args.reply = search rules in
    λ some. rw next (append_fewer now.places now.room now.state c.args.reply some)
