-- It asks just where asks are left.
use Rattle.fkv_commit.specs.Finishing.{FinishState}
use Rattle.fkv_commit.specs.declared.finishing.Finishing.TheVariants.{StoresRest}
use Rattle.fkv_commit.proofs.EndLeft.{finish_left, finish_begun_left}
use Rattle.fkv_commit.proofs.finishing.FinishCommit.start.Goals as goal

pub returns-clause-asks : goal.returns-clause-asks
returns-clause-asks c = rw c.ask.ensures (finish_left c.args.points.now _)

pub returns-clause-bounded : goal.returns-clause-bounded
returns-clause-bounded c =
    let now : FinishState = record { sessions = c.self.inside.sessions; number = c.args.number; step = StoresRest } in
    rw (← c.self.view_is, c.durable_from-self-inside.ensures.next) (finish_begun_left now c.args.number)
