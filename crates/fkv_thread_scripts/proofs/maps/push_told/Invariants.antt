-- what was there before, and the updates of the results that were looked at
use Rattle.std.proofs.Common.{◌≡◌, ◌++◌, take}
use Rattle.std.specs.List.{flat_map}
use Rattle.fkv_thread_scripts.specs.Keys.{op_told}
use Rattle.fkv_thread_scripts.proofs.maps.push_told.Given as goal

abbrev pub invariant-loop-serial : goal.invariant-loop-serial
invariant-loop-serial l = l.ops.items ≡ l.initial.ops.items ++ flat_map (op_told l.point l.log) (take l.serial-index l.log.told.items)
