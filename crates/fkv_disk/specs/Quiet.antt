-- A stretch of calls that leaves a device as it was.
use Rattle.std.specs.Prelude.{◌≡◌, ◌↔◌, ℕ, ◌≤◌, List}
use Rattle.fkv_base.specs.declared.faults.Fault.{Fault}
use Rattle.fkv_base.specs.declared.faults.Fault.TheVariants.{Device, Memory}
use Rattle.fkv_disk.specs.Device.{LeavesNoMore, Elapses, Rose}

-- An honest device stays one and reads as before, and a crash at any moment of the stretch and after it leaves no more than before it.
pub record IsQuiet {D : Type 0} (honest : D → Type 0) (seen : D → List ℕ) (may_leave : D → List ℕ → Type 0) (moment : D → ℕ)
    (left_since : D → ℕ → List ℕ → Type 0) (failed : D → ℕ) (old new : D) : Type 0 where
  pub premise : honest old ↔ honest new
  pub same_bytes : honest old → seen new ≡ seen old
  pub leaves_no_more : honest old → LeavesNoMore (may_leave old) (may_leave new)
  pub at_each_moment : honest old → Elapses (moment old) (moment new) (left_since old) (left_since new) (may_leave old)
  pub no_fewer_failures : failed old ≤ failed new

-- the device failed in this stretch, or memory was refused
abbrev pub IsHindrance : ℕ → ℕ → Fault → Type 0
IsHindrance before now Memory = Unit {0}
IsHindrance before now Device = Rose before now
IsHindrance before now other = ⊥
