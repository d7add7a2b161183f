use Rattle.std.proofs.Common.{◌≡◌, ◌≤◌}
use Rattle.fkv_room.specs.Counted.{homes_of}
use Rattle.fkv_room.specs.Room.{taken}
use Rattle.fkv_room.proofs.room_stage.check_room.Given as goal

abbrev pub invariant-loop-bucket : goal.invariant-loop-bucket
invariant-loop-bucket l = (l.taken ≡ taken (homes_of l.scanned.homes.entries) l.bucket) × (l.taken ≤ l.shape.overflow)
