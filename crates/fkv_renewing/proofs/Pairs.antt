-- What the pairs of a log are.
use Rattle.std.proofs.Common.{◌≡◌, List, get_or}
use Rattle.std.proofs.lemmas.List.Elements.{Contains-get_or}
use Rattle.fkv_base.specs.declared.numbers.Key.{Key}
use Rattle.fkv_base.specs.declared.numbers.Value.{Value}
use Rattle.fkv_pairs.specs.Pairs.{ArePairs}
use Rattle.fkv_scan.specs.Log.{Log}
use Rattle.fkv_renewing.specs.Renewed.{AreSomePairs}
use Rattle.fkv_renewing.proofs.Listed.{same_ascending}

pub some_pairs : (log : Log) (pairs : List (Key × Value)) → ArePairs log pairs → AreSomePairs pairs
some_pairs log pairs are = record {
  ascending = are.ascending;
  present = λ k d below. ((are.all (get_or pairs k d)).0 (Contains-get_or pairs k d below)).present;
}

pub one_list : (log : Log) (pairs found : List (Key × Value)) → ArePairs log pairs → ArePairs log found → pairs ≡ found
one_list log pairs found first second =
    same_ascending (λ pair. pair.0.0) pairs found first.ascending second.ascending (λ pair has. (second.all pair).1 ((first.all pair).0 has)) (λ pair has. (first.all pair).1 ((second.all pair).0 has))
