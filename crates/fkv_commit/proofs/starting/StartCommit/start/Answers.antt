-- It asks just where asks are left.
use Rattle.fkv_commit.proofs.StartLeft.{start_left}
use Rattle.fkv_commit.proofs.starting.StartCommit.start.Goals as goal

pub returns-clause-asks : goal.returns-clause-asks
returns-clause-asks c = rw c.ask.ensures (start_left _)
