-- It asks just where asks are left, and each reply leaves fewer.
use Rattle.std.proofs.Common.{◌≡◌, rules}
use Rattle.fkv_commit.specs.Seeking.{seeking_next, seek_next}
use Rattle.fkv_commit.proofs.SeekLeft.{seek_left, seek_fewer}
use Rattle.fkv_commit.proofs.seeking.SeekPoints.drive.Goals as goal

pub returns-clause-asks : goal.returns-clause-asks
returns-clause-asks c = rw c.ask.ensures (seek_left _)

pub returns-clause-fewer : goal.returns-clause-fewer
unfolding seeking_next
returns-clause-fewer c =
    let now = c.args.self.now in
    let next : c.match-self.self ≡ seek_next now c.args.reply = search rules in
    λ some. rw next (seek_fewer now c.args.reply some)
