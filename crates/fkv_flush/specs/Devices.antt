-- What a machine makes of the device.
use Rattle.std.specs.Prelude.{ℕ, List, ◌++◌}
use Rattle.fkv_plane.specs.declared.asks.Ask.{Ask}
use Rattle.fkv_plane.specs.declared.asks.Ask.TheVariants.{Done}
use Rattle.fkv_flush.specs.declared.answers.DeviceAnswer.{DeviceAnswer}
use Rattle.fkv_flush.specs.declared.answers.DeviceAnswer.TheVariants.{Device}
use Rattle.fkv_disk.specs.Calls.{Call}
use Rattle.fkv_disk.specs.Device.{IsAfter}

-- A device that reads as, and may leave, what some calls give does so after these calls too, the newest first.
abbrev pub Adds : List Call → List ℕ → List ℕ → (List ℕ → Type 0) → (List ℕ → Type 0) → Type 0
Adds made seen seen' may_leave may_leave' = (opening : List ℕ) (calls : List Call) → IsAfter opening calls seen may_leave → IsAfter opening (made ++ calls) seen' may_leave'

-- how many calls of the device a machine makes next: one where its ask is for the device, and else none
abbrev pub calls_asked : Ask DeviceAnswer → ℕ
calls_asked (Done Device) = 1
calls_asked ask = 0
