use Rattle.fkv_map.proofs.KeptEntries.{kept_again}
use Rattle.fkv_map.proofs.laws.law_kept_again.Goals as goal

pub returns : goal.returns
returns c = kept_again
