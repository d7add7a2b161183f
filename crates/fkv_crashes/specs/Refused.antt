-- Why there is no image.
use Rattle.std.specs.Prelude.{◌≡◌, ◌<◌, ◌⊎◌, List, length}
use Rattle.fkv_base.specs.declared.faults.Fault.{Fault}
use Rattle.fkv_base.specs.declared.faults.Fault.TheVariants as fault
use Rattle.fkv_crashes.specs.declared.crashing.MadeCall.{MadeCall}

-- one of these calls was refused, so there is one
abbrev pub IsCallRefused : List MadeCall → Fault → Type 0
IsCallRefused calls its = (its ≡ fault.Device) × (0 < length calls)

-- so it was, or memory was refused for the image
abbrev pub IsRefused : List MadeCall → Fault → Type 0
IsRefused calls its = IsCallRefused calls its ⊎ (its ≡ fault.Memory)
