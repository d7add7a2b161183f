-- It asks just where asks are left.
use Rattle.std.proofs.Common.{◌≡◌, rules}
use Rattle.fkv_commit.specs.Seeking.{seek_begun}
use Rattle.fkv_commit.proofs.SeekLeft.{seek_left, seek_begun_left}
use Rattle.fkv_commit.proofs.seeking.SeekPoints.start.Goals as goal

pub returns-clause-asks : goal.returns-clause-asks
returns-clause-asks c = rw c.ask.ensures (seek_left _)

pub returns-clause-bounded : goal.returns-clause-bounded
returns-clause-bounded c =
    let now = c.args.self.now in
    let next : c.owing_from.new.self ≡ seek_begun now c.args.number c.args.floor.now = search rules in
    rw next (seek_begun_left now c.args.number c.args.floor.now)
