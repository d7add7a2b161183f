use Rattle.std.proofs.Common.{◌≡◌, ◌++◌}
use Rattle.std.specs.FinMap.{entries}
use Rattle.fkv_map.specs.Map.{as_numbers}
use Rattle.fkv_map.proofs.plain_map.PlainMap.pairs.Given as goal

-- the pairs so far and the entries that are left are the map's entries
abbrev pub invariant-loop-key : goal.invariant-loop-key
invariant-loop-key l = as_numbers (l.pairs.items ++ l.key-iterator) ≡ entries l.self
