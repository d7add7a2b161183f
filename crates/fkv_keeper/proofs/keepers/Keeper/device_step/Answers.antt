-- The one call that it has made is the one that is due.
use Rattle.fkv_keeper.proofs.KeeperDue.{makes_due}
use Rattle.fkv_keeper.proofs.keepers.Keeper.device_step.Goals as goal

pub returns-clause-due : goal.returns-clause-due
returns-clause-due g c = makes_due c.args.self.now
