use Rattle.std.proofs.Common.{◌≡◌, [], sym, ◌∙◌, ap, append-nil, append_assoc}
use Rattle.std.specs.FinMap.{entries}
use Rattle.std.specs.Map.Iter.{deref_pair}
use Rattle.std.proofs.lemmas.Map.Iter.{rest_more, rest_all}
use Rattle.fkv_map.proofs.Stored.{entries-map_of, IsAscending-entries}
use Rattle.fkv_map.proofs.plain_map.PlainMap.pairs.Goals as goal

pub loop-key-init : goal.loop-key-init
loop-key-init c =
    rw (c.in_ok-pairs.ensures.items, c.into_iter-key-iterator.ensures.into_iter_gives.0)
    (sym (entries-map_of c.self.inside.values.entries c.len.ensures.ordered) ∙ ap entries c.self.view_is)

pub loop-key-preserved : goal.loop-key-preserved
loop-key-preserved c =
    let left = rest_more deref_pair _ _ _ _ c.in-Some.is c.next.ensures.steps in
    rw (c.in_ok-push.ensures.items, append_assoc) (rw (← left) c.loop-key.invariant)

pub returns-clause-entries : goal.returns-clause-entries
returns-clause-entries c =
    let none : c.loop-key.key-iterator ≡ [] = rest_all deref_pair _ _ _ c.in-None.is c.next.ensures.steps in
    rw (← append-nil c.loop-key.pairs.items, ← none) c.loop-key.invariant

pub returns-clause-ascending : goal.returns-clause-ascending
returns-clause-ascending c = rw (returns-clause-entries c) (IsAscending-entries c.args.self.now)
