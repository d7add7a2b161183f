-- It asks just where asks are left, and each reply leaves fewer.
use Rattle.std.proofs.Common.{◌≡◌, rules}
use Rattle.fkv_commit.specs.Starting.{starting_next, start_next}
use Rattle.fkv_commit.proofs.StartLeft.{start_left, start_fewer}
use Rattle.fkv_commit.proofs.starting.StartCommit.drive.Goals as goal

pub returns-clause-asks : goal.returns-clause-asks
returns-clause-asks c = rw c.ask.ensures (start_left _)

pub returns-clause-fewer : goal.returns-clause-fewer
unfolding starting_next
returns-clause-fewer c =
    let now = c.args.self.now in
    let next : c.match-self.self ≡ start_next now c.args.reply = search rules in
    λ some. rw next (start_fewer now c.args.reply some)
