-- Why the newest slot isn't told.
use Rattle.std.specs.Prelude.{ℕ, List}
use Rattle.fkv_base.specs.declared.faults.Fault.{Fault}
use Rattle.fkv_base.specs.declared.faults.Fault.TheVariants.{NotAStore, Damaged, Device}
use Rattle.fkv_base.specs.declared.faults.Damage.TheVariants.{Manifest}
use Rattle.fkv_disk.specs.Device.{Rose}
use Rattle.fkv_newest.specs.Newest.{IsNewestFault}

-- a failure of the device in this call, and nothing else
abbrev pub IsFailure : ℕ → ℕ → Fault → Type 0
IsFailure before now Device = Rose before now
IsFailure before now other = ⊥

-- a fault that stands in the image, under a premise
abbrev pub IsFound : Type 0 → List ℕ → Fault → Type 0
IsFound premise image NotAStore = premise → IsNewestFault image NotAStore
IsFound premise image (Damaged Manifest index) = premise → IsNewestFault image (Damaged Manifest index)
IsFound premise image other = ⊥

-- a fault that stands in the image of an honest device, or a failure of the device in this call
abbrev pub IsRefused : ℕ → ℕ → Type 0 → List ℕ → Fault → Type 0
IsRefused before now premise image Device = Rose before now
IsRefused before now premise image NotAStore = IsFound premise image NotAStore
IsRefused before now premise image (Damaged part place) = IsFound premise image (Damaged part place)
IsRefused before now premise image other = ⊥
