-- The calls of the device that recovery makes.
use Rattle.std.specs.Prelude.{◌≡◌, ℕ, Bool, true, Result, Err}
use Rattle.fkv_base.specs.declared.faults.Fault.{Fault}
use Rattle.fkv_base.specs.declared.faults.Fault.TheVariants.{NotAStore, Damaged, Device}
use Rattle.fkv_base.specs.declared.faults.Damage.TheVariants.{Manifest}
use Rattle.fkv_disk.specs.Device.{after}

-- Where the device says that it refuses the first call, that is the only one, and the answer is the device's failure.
abbrev pub EndsAtFirst : {T : Type 0} → (ℕ → Bool) → (ℕ → Bool) → Result T Fault → Type 0
EndsAtFirst before now result = before 0 ≡ true → (now ≡ after 1 before) × (result ≡ Err Device)

-- Where the answer is a fault of the first two stages, two calls were made, and no more.
abbrev pub EndsAtFront : {T : Type 0} → (ℕ → Bool) → (ℕ → Bool) → Result T Fault → Type 0
EndsAtFront before now (Err NotAStore) = now ≡ after 2 before
EndsAtFront before now (Err (Damaged Manifest place)) = now ≡ after 2 before
EndsAtFront before now other = Unit {0}
