-- Why the chains aren't told to be sound.
use Rattle.std.specs.Prelude.{ℕ}
use Rattle.fkv_base.specs.declared.faults.Fault.{Fault}
use Rattle.fkv_base.specs.declared.faults.Fault.TheVariants.{Damaged, Device}
use Rattle.fkv_disk.specs.Device.{Rose}
use Rattle.fkv_scan.specs.Log.{Log}
use Rattle.fkv_chains.specs.Chains.{IsChainFault}

-- a failure of the device in this call, and nothing else
abbrev pub IsFailure : ℕ → ℕ → Fault → Type 0
IsFailure before now Device = Rose before now
IsFailure before now other = ⊥

-- a fault of the chains that stands in the image of an honest device, or a failure of the device in this call
abbrev pub IsRefused : ℕ → ℕ → Type 0 → Log → Fault → Type 0
IsRefused before now premise log (Damaged part place) = premise → IsChainFault log (Damaged part place)
IsRefused before now premise log Device = Rose before now
IsRefused before now premise log other = ⊥
