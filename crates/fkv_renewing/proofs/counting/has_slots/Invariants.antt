use Rattle.std.proofs.Common.{◌≡◌, ◌≤◌}
use Rattle.std.specs.BTreeMap.{keys}
use Rattle.fkv_room.specs.Room.{taken}
use Rattle.fkv_renewing.proofs.counting.has_slots.Given as goal

abbrev pub invariant-loop-bucket : goal.invariant-loop-bucket
invariant-loop-bucket l = (l.taken ≡ taken (keys l.latest) l.bucket) × (l.taken ≤ l.shape.overflow)
