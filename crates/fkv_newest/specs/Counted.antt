-- How many calls of the device are made.
use Rattle.std.specs.Prelude.{◌≡◌, ℕ, ◌≤◌, Bool, true, Result, Err}
use Rattle.fkv_base.specs.declared.faults.Fault.{Fault}
use Rattle.fkv_base.specs.declared.faults.Fault.TheVariants.{Device}
use Rattle.fkv_disk.specs.Device.{MakesCalls}

-- Two calls of the device are made. Only where the device fails the first may be the last, and where it says that it refuses
-- the first, that is the only one.
pub record MakesTwoCalls {T : Type 0} (before now : ℕ → Bool) (result : Result T Fault) : Type 0 where
  pub made : ℕ
  pub some : 1 ≤ made
  pub most : made ≤ 2
  pub both : (result ≡ Err Device → ⊥) → made ≡ 2
  pub first : before 0 ≡ true → (made ≡ 1) × (result ≡ Err Device)
  pub counted : MakesCalls made before now result
