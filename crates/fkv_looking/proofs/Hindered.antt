-- Recovery that answers neither damage nor that there is no store was hindered.
use Rattle.std.proofs.Common.{◌≡◌, ℕ, refl}
use Rattle.fkv_base.specs.declared.faults.Fault.{Fault}
use Rattle.fkv_base.specs.declared.faults.Fault.TheVariants as fault
use Rattle.fkv_base.specs.declared.faults.Damage.{Damage}
use Rattle.fkv_disk.specs.Quiet.{IsHindrance}
use Rattle.fkv_opening.specs.Faults.{IsRefused}

pub hindered : (before now : ℕ) (premise : Type 0) (Stands : Fault → Type 0) (why : Fault) → IsRefused before now premise Stands why → (why ≡ fault.NotAStore → ⊥)
    → ((part : Damage) (place : ℕ) → why ≡ fault.Damaged part place → ⊥) → IsHindrance before now why
hindered before now premise Stands fault.NotAStore found not_none not_damaged = absurd (not_none refl)
hindered before now premise Stands (fault.Damaged part place) found not_none not_damaged = absurd (not_damaged part place refl)
hindered before now premise Stands fault.Device found not_none not_damaged = found
hindered before now premise Stands fault.Memory found not_none not_damaged = tt
hindered before now premise Stands other found not_none not_damaged = absurd (found)
