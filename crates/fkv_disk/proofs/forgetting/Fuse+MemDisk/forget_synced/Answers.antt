use Rattle.fkv_disk.proofs.Forgotten.{fuse_since}
use Rattle.fkv_disk.proofs.forgetting.Fuse+MemDisk.forget_synced.Goals as goal

pub returns-clause-since : goal.returns-clause-since
returns-clause-since c = λ t image le. fuse_since c.args.self.now.state _ _ _ _ t image (c.forget_synced.ensures.since t image le) c.forget_synced.ensures.crash
