-- The pairs of a store as they come to lie in a new one.
use Rattle.std.specs.Prelude.{List, map}
use Rattle.std.specs.List.Sorted.{IsPermutation}
use Rattle.fkv_base.specs.declared.numbers.Key.{Key}
use Rattle.fkv_base.specs.declared.numbers.Value.{Value}
use Rattle.fkv_spread.specs.Spreading.{key_told, lies_under}
use Rattle.fkv_spread.specs.declared.keys.Keys.{Keys}
use Rattle.fkv_renewing.specs.Renewed.{AreSomePairs}

-- the pair with the number that its key lies under
abbrev pub laid_pair : Keys → Key × Value → Key × Value
laid_pair keys pair = (record { 0 = lies_under keys pair.0.0 }, pair.1)

-- the pair with the key that its number tells
abbrev pub told_pair : Keys → Key × Value → Key × Value
told_pair keys pair = (record { 0 = key_told keys pair.0.0 }, pair.1)

-- Just these pairs, each as it lies, in some order; told back they are just these again. Where they are some store's, so are those that lie there: keys ascend again.
pub record AreLaid (keys : Keys) (pairs laid : List (Key × Value)) : Type 0 where
  pub moved : IsPermutation (map (laid_pair keys) pairs) laid
  pub told : IsPermutation (map (told_pair keys) laid) pairs
  pub some : AreSomePairs pairs → AreSomePairs laid
