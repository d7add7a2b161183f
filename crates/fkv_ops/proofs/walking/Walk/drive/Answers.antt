-- Each reply leaves fewer asks.
use Rattle.std.proofs.Common.{◌≡◌, rules}
use Rattle.fkv_ops.specs.Walking.{walking_next, walk_next}
use Rattle.fkv_ops.proofs.WalkAsks.{walk_fewer}
use Rattle.fkv_ops.proofs.walking.Walk.drive.Goals as goal

pub returns-clause-fewer : goal.returns-clause-fewer
unfolding walking_next
returns-clause-fewer c =
    let next : c.match-self.self.state ≡ walk_next c.args.self.now.places c.args.self.now.state c.args.reply = search rules in
    λ some. rw next (walk_fewer c.args.self.now.places c.args.self.now.state c.args.reply some)
