-- What a renewal tells.
use Rattle.std.specs.Prelude.{◌≡◌, ℕ, zero, suc, ℤ, neg_ℤ, pos, Bool, true, false, ◌&&◌, ◌==◌, List, length, Option, None, IsSomeAnd}
use Rattle.fkv_base.specs.declared.faults.Fault.{Fault}
use Rattle.fkv_base.specs.declared.faults.Fault.TheVariants.{Damaged}
use Rattle.fkv_base.specs.declared.shapes.Shape.{Shape}
use Rattle.fkv_renewing.specs.Bytes.{IsRefusedFrom, IsRenewedFrom}
use Rattle.fkv_spread.specs.declared.keys.Keys.{Keys}
use Rattle.fkv_spread.specs.declared.keys.Keys.TheVariants.{Spread, AsTheyAre}
use Rattle.fkv_face.specs.declared.renewals.Renewal.{Renewal}
use Rattle.fkv_face.specs.declared.sizes.Sizes.{Sizes}
use Rattle.fkv_face.specs.Numbers.{fault_told}
use Rattle.fkv_face.specs.Sizes.{IsLivingOf, are_sizes, damage_number}
use Rattle.fkv_face.specs.Stores.{IsPut}
pub use Rattle.fkv_base.specs.declared.faults.Fault.TheVariants.{BadShape}
pub use Rattle.std.specs.Prelude.{IfErr, IfOk}

-- 0 leaves the keys as they lie
abbrev pub keys_laid : ℕ → Keys
keys_laid zero = AsTheyAre
keys_laid (suc n) = Spread

-- each size is 0: the old store's own shape is wanted, with its class
abbrev pub all_zero : Sizes → Bool
all_zero s = (s.bucket_bits == 0) && (s.page == 0) && (s.frames == 0) && (s.mutable_pages == 0) && (s.sessions == 0) && (s.overflow == 0) && (s.disk_pages == 0)

-- the shape of a living store of these sizes; or none, where each is 0
pub record IsWanted (sizes : Sizes) (wanted : Option Shape) : Type 0 where
  pub own : all_zero sizes ≡ true → wanted ≡ None
  pub given : all_zero sizes ≡ false → IsSomeAnd wanted (IsLivingOf sizes)

-- no living store has these sizes
abbrev pub AreNone : Sizes → Type 0
AreNone sizes = (all_zero sizes ≡ false) × (are_sizes sizes ≡ false)

-- with the part that is damaged, where that is the fault
abbrev pub damaged_by : Fault → Renewal → Renewal
damaged_by (Damaged part place) renewal = record renewal { damage = damage_number part; place = place }
damaged_by other renewal = renewal

-- A renewal of the store that the bytes hold is put into the room, and its length is told; or it is refused, by the sizes, by the bytes or for want of room in the new
-- store, and the caller's room is as it was.
pub data IsRenewing (bytes : List ℕ) (sizes : Sizes) (spread : ℕ) (result : ℤ) (renewal renewal' : Renewal) (room room' : List ℕ) : Type 0 where
  Renewed : (wanted : Option Shape) (image : List ℕ) → IsWanted sizes wanted → IsRenewedFrom bytes wanted (keys_laid spread) image → renewal' ≡ record renewal { length = length image } → IsPut image result room room'
      → IsRenewing bytes sizes spread result renewal renewal' room room'
  Refused : (wanted : Option Shape) (fault : Fault) → IsWanted sizes wanted → IsRefusedFrom bytes wanted (keys_laid spread) fault → result ≡ fault_told fault → renewal' ≡ damaged_by fault renewal → room' ≡ room
      → IsRenewing bytes sizes spread result renewal renewal' room room'
  BadSizes : AreNone sizes → result ≡ neg_ℤ (pos 1) → renewal' ≡ renewal → room' ≡ room → IsRenewing bytes sizes spread result renewal renewal' room room'
