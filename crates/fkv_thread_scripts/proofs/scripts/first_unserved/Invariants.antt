-- The lines are served if those that are left are, behind what is begun.
use Rattle.std.proofs.Common.{◌≡◌, false, drop}
use Rattle.std.specs.Prelude.{is_some}
use Rattle.fkv_thread_scripts.specs.Served.{are_served}
use Rattle.fkv_thread_scripts.proofs.scripts.first_unserved.Given as goal

abbrev pub invariant-loop-line : goal.invariant-loop-line
invariant-loop-line l = are_served false l.lines ≡ are_served (is_some l.begun) (drop l.line-index l.lines)
