use Rattle.std.proofs.Common.{ap, length, subst, arith}
use Rattle.std.specs.List.Sorted.{IsPermutation}
use Rattle.std.proofs.lemmas.List.Sorted.{IsNonDecreasingBy-from_sort, length_permutation}
use Rattle.fkv_base.proofs.Shown.{slots_few}
use Rattle.fkv_filling.proofs.Grouped.{first_few}
use Rattle.fkv_filling.proofs.filling.sorted_words.Goals as goal

pub returns-clause-ok : goal.returns-clause-ok
returns-clause-ok c = record {
  same = subst (λ ws. IsPermutation ws c.sort.new.self.items) c.in_ok-words.ensures.ok c.in_ok-sort.ensures.permutation;
  ascending = IsNonDecreasingBy-from_sort (λ x. x) c.sort.new.self.items c.in_ok-sort.ensures.sorted;
}

pub returns-clause-few : goal.returns-clause-few
returns-clause-few c =
    let shape = c.args.shape.now in
    omega (
      arith,
      length_permutation c.in_ok-words.words.items c.sort.new.self.items c.in_ok-sort.ensures.permutation,
      ap length c.in_ok-words.ensures.ok,
      first_few c.args.bucket c.args.entries.now,
      c.requires,
      slots_few shape.bucket_bits shape.overflow shape.limits.few_buckets shape.limits.few_overflow,
    )
