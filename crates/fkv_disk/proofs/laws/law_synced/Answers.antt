use Rattle.fkv_disk.proofs.Images.{synced_image}
use Rattle.fkv_disk.proofs.laws.law_synced.Goals as goal

pub returns : goal.returns
returns c = synced_image
