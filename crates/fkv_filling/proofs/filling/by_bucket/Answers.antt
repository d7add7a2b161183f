use Rattle.std.proofs.Common.{◌≡◌, ap, length, rules, subst, ◌∙◌}
use Rattle.std.proofs.lemmas.Fn.{always_returns_same}
use Rattle.std.proofs.lemmas.List.Sorted.{IsNonDecreasingBy-from_sort_by_key, length_permutation}
use Rattle.fkv_filling.specs.Filled.{AreByBucket}
use Rattle.fkv_filling.proofs.Grouped.{grouped_by}
use Rattle.fkv_filling.proofs.filling.by_bucket.Goals as goal

pub returns-clause-ok : goal.returns-clause-ok
returns-clause-ok c =
    let all : c.extend_from_slice.new.self.items ≡ c.args.entries.now = search rules in
    subst (λ es. AreByBucket es c.sort_by_key.new.self.items) all
    (grouped_by c.extend_from_slice.new.self.items c.sort_by_key.new.self.items
    (c.in_ok-sort_by_key.ensures.stable (λ x. x.bucket) (always_returns_same _ (λ a r. r ≡ a.0.now.bucket) _ (λ a r q k. search rules)))
    (length_permutation c.extend_from_slice.new.self.items c.sort_by_key.new.self.items c.in_ok-sort_by_key.ensures.permutation)
    (IsNonDecreasingBy-from_sort_by_key (λ x. x.bucket) _ c.in_ok-sort_by_key.ensures.sorted (λ a r q k. search rules)))
