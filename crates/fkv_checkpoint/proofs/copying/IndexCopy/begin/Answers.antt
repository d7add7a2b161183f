-- A copy begins with eight asks for each bucket.
use Rattle.fkv_checkpoint.proofs.CopyAsks.{copy_bounded}
use Rattle.fkv_checkpoint.proofs.copying.IndexCopy.begin.Goals as goal

pub returns-clause-bounded : goal.returns-clause-bounded
returns-clause-bounded c = copy_bounded c.args.room
