use Rattle.std.proofs.Common.{◌≡◌, rules, None, option_map, ◌∙◌, sym, ap}
use Rattle.std.specs.FinMap.{get, insert}
use Rattle.fkv_map.proofs.Stored.{get-map_of, map_of-insert}
use Rattle.fkv_map.proofs.plain_map.PlainMap.set.Goals as goal

pub returns-in_err-insert-clause-absent : goal.returns-in_err-insert-clause-absent
returns-in_err-insert-clause-absent c =
    let absent : get c.args.self.now c.args.key.0 ≡ None =
    ap (λ m. get m c.args.key.0) (sym c.self.view_is)
    ∙ get-map_of c.self.inside.values.entries c.args.key
    ∙ ap (option_map (λ value. value.0)) c.in_err-insert.ensures.absent in
    search (rules, absent)

pub returns-clause-set : goal.returns-clause-set
returns-clause-set c =
    map_of-insert c.self.inside.values.entries c.insert.new.self.entries c.args.key c.args.value c.in_ok-insert.ensures.updates.0
    ∙ ap (λ m. insert m c.args.key.0 c.args.value.0) c.self.view_is
