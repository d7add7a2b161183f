use Rattle.std.proofs.Common.{◌≡◌, ◌++◌}
use Rattle.fkv_pairs.proofs.ShownPairs.{shown_of}
use Rattle.fkv_pairs.proofs.showing.present.Given as goal

-- the pairs so far, and those that are left, are all
abbrev pub invariant-loop-key : goal.invariant-loop-key
invariant-loop-key l = l.pairs.items ++ shown_of l.key-iterator ≡ shown_of l.values.entries
