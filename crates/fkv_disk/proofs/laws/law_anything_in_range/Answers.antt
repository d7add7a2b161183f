use Rattle.fkv_disk.proofs.Images.{anything_in_range}
use Rattle.fkv_disk.proofs.laws.law_anything_in_range.Goals as goal

pub returns : goal.returns
returns c = anything_in_range
