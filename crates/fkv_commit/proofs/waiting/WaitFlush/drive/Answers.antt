-- It asks just where asks are left, and each reply leaves fewer.
use Rattle.std.proofs.Common.{◌≡◌, rules}
use Rattle.fkv_commit.specs.Waiting.{waiting_next}
use Rattle.fkv_commit.proofs.EndLeft.{wait_left, wait_fewer}
use Rattle.fkv_commit.proofs.waiting.WaitFlush.drive.Goals as goal

pub returns-clause-asks : goal.returns-clause-asks
returns-clause-asks c = rw c.ask.ensures (wait_left (record { end = c.self.inside.end; epoch = c.self.inside.epoch; step = c.match-self.self }))

pub returns-clause-fewer : goal.returns-clause-fewer
unfolding waiting_next
returns-clause-fewer c =
    let now = c.args.self.now in
    let next : c.match-self.self ≡ waiting_next now.end now.epoch now.step c.args.reply = search rules in
    λ some. rw next (wait_fewer now c.args.reply some)
