-- Why a scan is refused.
use Rattle.std.specs.Prelude.{ℕ}
use Rattle.fkv_base.specs.declared.faults.Fault.{Fault}
use Rattle.fkv_base.specs.declared.faults.Fault.TheVariants.{Damaged, Device, Memory}
use Rattle.fkv_disk.specs.Device.{Rose}
use Rattle.fkv_scan.specs.Log.{Log}
use Rattle.fkv_scan.specs.Scan.{IsScanFault}

-- a fault that the scan finds in the image of an honest device, a failure of the device in this call, or want of memory
abbrev pub IsRefused : ℕ → ℕ → Type 0 → Log → Fault → Type 0
IsRefused before now premise log (Damaged part place) = premise → IsScanFault log (Damaged part place)
IsRefused before now premise log Device = Rose before now
IsRefused before now premise log Memory = Unit {0}
IsRefused before now premise log other = ⊥
