use Rattle.fkv_disk.proofs.Images.{written_and_synced}
use Rattle.fkv_disk.proofs.laws.law_written_and_synced.Goals as goal

pub returns : goal.returns
returns c = written_and_synced
