-- It asks just where asks are left, and each reply leaves fewer.
use Rattle.std.proofs.Common.{◌≡◌, rules}
use Rattle.fkv_commit.specs.Finishing.{FinishState, finishing_next}
use Rattle.fkv_commit.proofs.EndLeft.{finish_left, finish_fewer}
use Rattle.fkv_commit.proofs.finishing.FinishCommit.drive.Goals as goal

pub returns-clause-asks : goal.returns-clause-asks
returns-clause-asks c = rw c.ask.ensures (finish_left c.args.points.now _)

pub returns-clause-fewer : goal.returns-clause-fewer
unfolding finishing_next
returns-clause-fewer c =
    let now : FinishState = record { sessions = c.self.inside.sessions; number = c.self.inside.number; step = c.self.inside.step } in
    let next : c.match-self.self ≡ finishing_next now now.step = search rules in
    rw (← c.self.view_is, next) (finish_fewer now c.args.reply)
