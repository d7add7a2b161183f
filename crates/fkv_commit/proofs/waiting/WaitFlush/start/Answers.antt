-- It asks just where asks are left.
use Rattle.fkv_commit.specs.declared.waiting.Waiting.TheVariants.{LoadsSafe}
use Rattle.fkv_commit.proofs.EndLeft.{wait_left}
use Rattle.fkv_commit.proofs.waiting.WaitFlush.start.Goals as goal

pub returns-clause-asks : goal.returns-clause-asks
returns-clause-asks c = rw c.ask.ensures (wait_left (record { end = c.args.end; epoch = c.args.epoch; step = LoadsSafe }))
