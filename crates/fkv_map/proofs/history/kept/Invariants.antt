use Rattle.std.proofs.Common.{◌≡◌, take}
use Rattle.fkv_map.specs.History.{kept}
use Rattle.fkv_map.proofs.history.kept.Given as goal

-- what was kept of the entries so far
abbrev pub invariant-loop-entry : goal.invariant-loop-entry
invariant-loop-entry l = l.entries.items ≡ kept (take l.entry-index l.history) l.points
