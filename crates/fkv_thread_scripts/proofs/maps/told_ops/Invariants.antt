-- what the first sessions were told, so many
use Rattle.std.proofs.Common.{◌≡◌}
use Rattle.fkv_thread_scripts.specs.Keys.{ops_of_first}
use Rattle.fkv_thread_scripts.proofs.maps.told_ops.Given as goal

abbrev pub invariant-loop-number : goal.invariant-loop-number
invariant-loop-number l = l.ops.items ≡ ops_of_first l.points l.logs l.number
