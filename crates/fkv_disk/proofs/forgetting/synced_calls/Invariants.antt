use Rattle.fkv_disk.proofs.Replayed.{IsSyncedWithin}
use Rattle.fkv_disk.proofs.forgetting.synced_calls.Given as goal

abbrev pub invariant-loop-left : goal.invariant-loop-left
invariant-loop-left l = IsSyncedWithin l.done l.left

abbrev pub decreases-loop-left : goal.decreases-loop-left
decreases-loop-left l = l.left
