use Rattle.std.proofs.Common.{◌≡◌, ◌∙◌, All, List, ap, arith, length, map, rules, subst, sym}
use Rattle.std.proofs.lemmas.List.Sorted.{IsNonDecreasingBy-from_sort_by_key}
use Rattle.fkv_base.specs.declared.numbers.Key.{Key}
use Rattle.fkv_base.specs.declared.numbers.Value.{Value}
use Rattle.fkv_spread.specs.declared.keys.Keys.{Keys}
use Rattle.fkv_spread.specs.declared.keys.Keys.TheVariants.{AsTheyAre}
use Rattle.fkv_renewing.specs.Laid.{AreLaid, laid_pair}
use Rattle.fkv_renewing.proofs.Lying.{IsToldBack, as_they_were, laid_so, whole}
use Rattle.fkv_renewing.proofs.laid.lay.Goals as goal

pub returns-then-eq : goal.returns-then-eq
returns-then-eq c =
    let is : c.args.keys ≡ AsTheyAre = search rules in
    subst (λ (keys : Keys). AreLaid keys c.args.pairs.now.items c.args.pairs.now.items) (sym is) (as_they_were c.args.pairs.now.items)

pub returns : goal.returns
returns c =
    let sorted = IsNonDecreasingBy-from_sort_by_key (λ (p : Key × Value). p.0.0) _ c.sort_unstable_by_key.ensures.sorted (λ a r q k. search rules) in
    let back = subst (λ (ps : List (Key × Value)). All (IsToldBack c.args.keys) ps) c.deref_mut.ensures.value c.lay_each.ensures.back in
    let many : length c.lay_each.new.pairs ≡ c.args.pairs.now.len = omega (arith, c.lay_each.auto.pairs, c.deref_mut.ensures.len, ap (λ (ps : List (Key × Value)). length ps) c.deref_mut.ensures.value) in
    let each = whole c.args.pairs.now.len c.lay_each.new.pairs _ many ∙ c.lay_each.ensures.laid ∙ ap (map (laid_pair c.args.keys)) c.deref_mut.ensures.value in
    laid_so c.args.keys c.args.pairs.now.items _ c.sort_unstable_by_key.new.self.items back each c.sort_unstable_by_key.ensures.permutation sorted
