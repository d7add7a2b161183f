-- How the sentence that a device reads as, and may leave, what some calls give goes on over a step.
use Rattle.std.proofs.Common.{ℕ, List, ◌∷◌, true, false}
use Rattle.std.specs.Prelude.{Option, Some, None}
use Rattle.fkv_disk.specs.Calls.{Call, Write, Sync}
use Rattle.fkv_disk.specs.Device.{IsAfter}
use Rattle.fkv_disk.proofs.Shown.{after_same, after_write, after_sync, after_failed_sync}
use Rattle.fkv_manifest.specs.Devices.{Does, DoesNext}
use Rattle.fkv_manifest.specs.Made.{with_call}

module _ (opening : List ℕ) (calls : List Call) (seen seen' : List ℕ) (may_leave may_leave' : List ℕ → Type 0) (was : IsAfter opening calls seen may_leave) where
  -- one call
  pub does_after : (call : Call) → Does call seen seen' may_leave may_leave' → IsAfter opening (call ∷ calls) seen' may_leave'
  does_after (Write at bytes done) does = after_write opening calls seen seen' may_leave may_leave' was at bytes done does.0 does.1
  does_after (Sync true) does = after_sync opening calls seen seen' may_leave may_leave' was does.0 does.1
  does_after (Sync false) does = after_failed_sync opening calls seen seen' may_leave may_leave' was does.0 does.1

  -- one step, which makes a call or none
  pub step_after : (call : Option Call) → DoesNext call seen seen' may_leave may_leave' → IsAfter opening (with_call call calls) seen' may_leave'
  step_after None does = after_same opening calls seen seen' may_leave may_leave' was does.0 does.1
  step_after (Some call) does = does_after call does
