-- The call that a machine makes next, and what it makes of the device.
use Rattle.std.specs.Prelude.{◌≡◌, ℕ, List, length, Bool, true, false, Option, Some, None}
use Rattle.fkv_disk.specs.Calls.{Call, Write, Sync}
use Rattle.fkv_disk.specs.Device.{Writes, LeavesNoMore, LeavesTorn, LeavesOnly}
use Rattle.fkv_manifest.specs.declared.answers.WriteAnswer.{WriteAnswer}
use Rattle.fkv_manifest.specs.declared.answers.WriteAnswer.TheVariants as answer
use Rattle.fkv_manifest.specs.declared.calls.NextCall.{NextCall}
use Rattle.fkv_manifest.specs.declared.calls.NextCall.TheVariants as next

-- What a device that reads as these bytes, and may leave these images, reads as after a call, and may leave then.
abbrev pub Does : Call → List ℕ → List ℕ → (List ℕ → Type 0) → (List ℕ → Type 0) → Type 0
Does (Write at bytes done) seen seen' may_leave may_leave' = Writes at bytes done seen seen' × LeavesTorn at (length bytes) may_leave may_leave'
Does (Sync true) seen seen' may_leave may_leave' = (seen' ≡ seen) × LeavesOnly seen may_leave'
Does (Sync false) seen seen' may_leave may_leave' = (seen' ≡ seen) × LeavesNoMore may_leave may_leave'

-- the same of a step that makes this call, or none
abbrev pub DoesNext : Option Call → List ℕ → List ℕ → (List ℕ → Type 0) → (List ℕ → Type 0) → Type 0
DoesNext None seen seen' may_leave may_leave' = (seen' ≡ seen) × LeavesNoMore may_leave may_leave'
DoesNext (Some call) seen seen' may_leave may_leave' = Does call seen seen' may_leave may_leave'

-- how many calls the next step makes
abbrev pub calls_next : WriteAnswer → ℕ
calls_next answer.Device = 1
calls_next answer.Written = 0
calls_next (answer.Broken fault) = 0

-- the call that comes next once it is made, and whether it succeeded
abbrev pub call_made : NextCall → Bool → Call
call_made (next.Writes at bytes) done = Write at bytes.now done
call_made next.Syncs done = Sync done

-- the same where there may be none
abbrev pub next_made : Option NextCall → Bool → Option Call
next_made None done = None
next_made (Some call) done = Some (call_made call done)

-- how many calls that is
abbrev pub calls_told : Option NextCall → ℕ
calls_told None = 0
calls_told (Some call) = 1
