use Rattle.std.proofs.Common.{◌≡◌, ◌++◌}
use Rattle.fkv_filling.specs.Filled.{links_behind}
use Rattle.fkv_filling.proofs.filling.push_other_links.Given as goal

abbrev pub invariant-loop-j : goal.invariant-loop-j
invariant-loop-j l = l.index.items ≡ l.fn.index.items ++ links_behind l.words l.taken l.j
