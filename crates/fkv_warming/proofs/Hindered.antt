-- What hinders memory from getting its records is why the opening is refused.
use Rattle.std.proofs.Common.{ℕ, ◌≤◌, arith}
use Rattle.fkv_base.specs.declared.faults.Fault.{Fault}
use Rattle.fkv_base.specs.declared.faults.Fault.TheVariants as fault
use Rattle.fkv_disk.specs.Quiet.{IsHindrance}
use Rattle.fkv_opening.specs.Faults.{IsRefused}

pub hindered : (before mid now : ℕ) → before ≤ mid → (premise : Type 0) (Stands : Fault → Type 0) (why : Fault) → IsHindrance mid now why → IsRefused before now premise Stands why
hindered before mid now le premise Stands fault.Memory found = tt
hindered before mid now le premise Stands fault.Device found = omega (arith, le, found)
hindered before mid now le premise Stands other found = absurd (found)
