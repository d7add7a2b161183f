-- It asks just where asks are left, and each reply leaves fewer.
use Rattle.std.proofs.Common.{◌≡◌, rules}
use Rattle.fkv_commit.specs.Entering.{entering_next, enter_next}
use Rattle.fkv_commit.proofs.EnterLeft.{enter_left, enter_fewer}
use Rattle.fkv_commit.proofs.entering.EnterWaitPending.drive.Goals as goal

pub returns-clause-asks : goal.returns-clause-asks
returns-clause-asks c = rw c.ask.ensures (enter_left _)

pub returns-clause-fewer : goal.returns-clause-fewer
unfolding entering_next
returns-clause-fewer c =
    let now = c.args.self.now in
    let next : c.match-self.self ≡ enter_next now c.args.reply = search rules in
    λ some. rw next (enter_fewer now c.args.reply some)
