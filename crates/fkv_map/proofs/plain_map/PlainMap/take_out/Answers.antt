use Rattle.std.proofs.Common.{◌∙◌, ap}
use Rattle.std.specs.FinMap.{remove}
use Rattle.fkv_map.proofs.Stored.{map_of-remove}
use Rattle.fkv_map.proofs.plain_map.PlainMap.take_out.Goals as goal

pub returns : goal.returns
returns c =
    map_of-remove c.self.inside.values.entries c.remove.new.self.entries c.args.key c.remove.ensures.updates.0
    ∙ ap (λ m. remove m c.args.key.0) c.self.view_is
