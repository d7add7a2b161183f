-- what the operations that were looked at make
use Rattle.std.proofs.Common.{◌≡◌, take}
use Rattle.std.specs.FinMap.{empty}
use Rattle.std.specs.List.{fold}
use Rattle.fkv_map.specs.Map.{applied}
use Rattle.fkv_thread_scripts.proofs.maps.made_by.Given as goal

abbrev pub invariant-loop-op : goal.invariant-loop-op
invariant-loop-op l = l.map ≡ fold applied empty (take l.op-index l.ops)
