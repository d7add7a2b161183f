-- A result is passed as its bits.
use Rattle.std.proofs.Common.{◌≡◌, ℕ, ℤ, List, refl, ap, ◌∙◌, subst, to_z, of_z, w32}
use Rattle.fkv_base.specs.declared.faults.Fault.{Fault}
use Rattle.fkv_base.specs.declared.faults.Fault.TheVariants.{BadShape, ValueReserved, PendingFull, IndexFull, LogFull, VersionsSpent, SerialsSpent, EpochsSpent, DrainFull, CommitRunning, PendingLeft, Asleep, Broken, Device, NotAStore, Damaged, Script, Memory, NoSession, Awake, LostFull}
use Rattle.fkv_face.specs.Numbers.{fault_told}
use Rattle.fkv_face.specs.Stores.{IsPut}

passed : (fault : Fault) → to_z w32 (of_z w32 (fault_told fault)) ≡ fault_told fault
passed BadShape = refl
passed ValueReserved = refl
passed PendingFull = refl
passed IndexFull = refl
passed LogFull = refl
passed VersionsSpent = refl
passed SerialsSpent = refl
passed EpochsSpent = refl
passed DrainFull = refl
passed CommitRunning = refl
passed PendingLeft = refl
passed Asleep = refl
passed Broken = refl
passed Device = refl
passed NotAStore = refl
passed (Damaged part place) = refl
passed (Script line kind) = refl
passed Memory = refl
passed NoSession = refl
passed Awake = refl
passed LostFull = refl

-- what a fault's number is passed as
pub told_fault : (fault : Fault) (result : ℤ) → result ≡ fault_told fault → to_z w32 (of_z w32 result) ≡ fault_told fault
told_fault fault result is = ap (λ (z : ℤ). to_z w32 (of_z w32 z)) is ∙ passed fault

-- what was put stands there, whatever the bytes are called
pub put_at : (bytes bytes' : List ℕ) (result : ℤ) (room room' : List ℕ) → bytes ≡ bytes' → IsPut bytes result room room' → IsPut bytes' (to_z w32 (of_z w32 result)) room room'
put_at bytes bytes' result room room' same put = subst (λ (bs : List ℕ). IsPut bs (to_z w32 (of_z w32 result)) room room') same (record {
  small = λ few. let its = put.small few in (ap (λ (z : ℤ). to_z w32 (of_z w32 z)) its.0, its.1);
  put = λ room. let its = put.put room in (ap (λ (z : ℤ). to_z w32 (of_z w32 z)) its.0, its.1);
})
