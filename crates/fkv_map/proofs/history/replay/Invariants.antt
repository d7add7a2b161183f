use Rattle.std.proofs.Common.{◌≡◌, drop}
use Rattle.std.specs.FinMap.{empty}
use Rattle.fkv_map.specs.History.{content}
use Rattle.fkv_map.proofs.history.replay.Given as goal

-- what is left, from the map so far, gives the whole history's content
abbrev pub invariant-loop-entry : goal.invariant-loop-entry
invariant-loop-entry l = content l.map (drop l.entry-index l.history) ≡ content empty l.history
