use Rattle.std.proofs.Common.{◌≡◌, [], ◌++◌, sym, ◌∙◌, ap, subst, append-nil}
use Rattle.std.specs.Map.Iter.{deref_pair}
use Rattle.std.proofs.lemmas.Map.Iter.{rest_all}
use Rattle.fkv_pairs.specs.Gathered.{AreShown}
use Rattle.fkv_pairs.proofs.ShownPairs.{shown_of, are_shown}
use Rattle.fkv_pairs.proofs.showing.present.Goals as goal

pub returns-clause-ok : goal.returns-clause-ok
returns-clause-ok c =
    let none : c.loop-key.key-iterator ≡ [] = rest_all deref_pair _ _ _ c.in-None.is c.next.ensures.steps in
    let whole : c.loop-key.pairs.items ≡ shown_of c.args.values.now.entries = sym (append-nil c.loop-key.pairs.items) ∙ ap (λ es. c.loop-key.pairs.items ++ shown_of es) (sym none) ∙ c.loop-key.invariant in
    subst (λ pairs. AreShown c.args.values.now pairs) (sym whole) (are_shown c.args.values.now c.len.ensures.ordered)
