use Rattle.fkv_opening_tests.proofs.Quiet.{quiet_told}
use Rattle.fkv_opening_tests.proofs.watched.recover_watched.Goals as goal

pub returns : goal.returns
returns g c = quiet_told c.args.d.now.stand c.recover.new.d.stand c.recover.ensures.asked.reads c.recover.ensures.asked.synced c.requires c.recover.ensures.asked.kinds
