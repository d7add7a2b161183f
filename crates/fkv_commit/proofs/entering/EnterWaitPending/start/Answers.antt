-- It asks just where asks are left.
use Rattle.fkv_commit.specs.declared.entering.Entering.TheVariants.{Seeks}
use Rattle.fkv_commit.proofs.EnterLeft.{enter_left, enter_begun_left}
use Rattle.fkv_commit.proofs.entering.EnterWaitPending.start.Goals as goal

pub returns-clause-asks : goal.returns-clause-asks
returns-clause-asks c = rw c.ask.ensures (enter_left _)

pub returns-clause-bounded : goal.returns-clause-bounded
returns-clause-bounded c = rw c.start.ensures (enter_begun_left (record { number = c.args.number; defer = c.self.inside.defer; step = Seeks }) c.args.number)
