use Rattle.fkv_disk.proofs.Left.{torn_allowed}
use Rattle.fkv_disk.proofs.laws.law_torn.Goals as goal

pub returns : goal.returns
returns c = torn_allowed
