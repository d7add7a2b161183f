-- What hints answer. Nothing is said of what they tell.
use Rattle.std.specs.Prelude.{◌≡◌, ℤ, pos, Bool, true, false}
use Rattle.fkv_base.specs.declared.faults.Fault.{Fault}
use Rattle.fkv_face.specs.declared.hints.Offsets.{Offsets}
use Rattle.fkv_face.specs.Numbers.{fault_told}
pub use Rattle.std.specs.Prelude.{is_some, length}
pub use Rattle.fkv_base.specs.declared.faults.Fault.TheVariants.{Broken, NoSession}
pub use Rattle.fkv_handles.specs.Handles.{sitting_of, store_is_open}

-- Offsets are told while the handle is in use. Then it is refused, and what was in their place stays.
pub record AreTold (is_in_use : Bool) (why : Fault) (result : ℤ) (offsets offsets' : Offsets) : Type 0 where
  pub told : is_in_use ≡ true → result ≡ pos 0
  pub refused : is_in_use ≡ false → (result ≡ fault_told why) × (offsets' ≡ offsets)
