use Rattle.std.proofs.Common.{refl}
use Rattle.fkv_map.proofs.Keys.{keep_leaves}
use Rattle.fkv_map.proofs.laws.law_keep.Goals as goal

pub returns : goal.returns
returns c = λ m key n. (keep_leaves m key n, refl)
