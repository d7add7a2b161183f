use Rattle.std.proofs.Common.{option_map, ◌∙◌, sym, ap}
use Rattle.std.specs.FinMap.{get}
use Rattle.fkv_map.proofs.Stored.{get-map_of}
use Rattle.fkv_map.proofs.plain_map.PlainMap.get.Goals as goal

-- what is stored at the key, and then what the map has there
pub returns : goal.returns
returns c =
    ap (option_map (λ value. value.0)) (c.copied.ensures ∙ c.get.ensures.value)
    ∙ sym (get-map_of c.self.inside.values.entries c.args.key)
    ∙ ap (λ m. get m c.args.key.0) c.self.view_is
