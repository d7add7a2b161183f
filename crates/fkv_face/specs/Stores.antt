-- What a store's exports tell.
use Rattle.std.specs.Prelude.{◌≡◌, ◌⊎◌, ◌<◌, ◌≤◌, ◌-◌, ◌^◌, ◌++◌, ℕ, zero, suc, nat_eq, if◌then◌else◌, ℤ, pos, neg_ℤ, true, false, List, [], length, drop, Result, Ok, Err}
use Rattle.fkv_base.specs.declared.faults.Fault.{Fault}
use Rattle.fkv_base.specs.declared.shapes.Shape.{Shape}
use Rattle.fkv_creating.specs.Created.{created_bytes}
use Rattle.fkv_handles.specs.Handles.{IsGiven, IsKeeperGiven, Opening, store_is_open, store_keeper, store_keys, store_sessions}
use Rattle.fkv_handles.specs.Opens.{IsOpenedFrom, IsOpeningRefused}
use Rattle.fkv_handles.specs.declared.keepers.Keeper.{Keeper}
use Rattle.fkv_handles.specs.declared.refusals.Refusal.{Refusal}
use Rattle.fkv_handles.specs.declared.sessions.Session.{Session}
use Rattle.fkv_handles.specs.declared.stores.Recovered.{Recovered}
use Rattle.fkv_handles.specs.declared.stores.Store.{Store}
use Rattle.fkv_handles.specs.Below.fkv_world.Runs.{World}
use Rattle.fkv_face.specs.declared.sizes.Image.{Image}
use Rattle.fkv_face.specs.declared.sizes.Sizes.{Sizes}
use Rattle.fkv_face.specs.Numbers.{fault_told, refusal_told}
use Rattle.fkv_face.specs.Points.{ArePoints}
use Rattle.fkv_face.specs.Sizes.{HasSizes, IsLivingOf, are_sizes, damaged_by, told_of, with_margin}
use Rattle.fkv_spread.specs.declared.keys.Keys.{Keys}
use Rattle.fkv_spread.specs.declared.keys.Keys.TheVariants.{Spread, AsTheyAre}
pub use Rattle.fkv_handles.specs.Below.fkv_threads.Models.{opening}

-- at most so many records are given memory: 0 stands for all that fit, and the greatest number for none
abbrev pub most_told : ℕ → ℕ
most_told warm = if nat_eq warm 0 then 2 ^ 64 - 1 else if nat_eq warm (2 ^ 64 - 1) then 0 else warm

abbrev pub keys_told : ℕ → Keys
keys_told zero = Spread
keys_told (suc n) = AsTheyAre

-- the bytes stand at the front of the room, where they have room
pub record IsPut (bytes : List ℕ) (result : ℤ) (room room' : List ℕ) : Type 0 where
  pub small : length room < length bytes → (result ≡ neg_ℤ (pos 24)) × (room' ≡ room)
  pub put : length bytes ≤ length room → (result ≡ pos 0) × (room' ≡ bytes ++ drop (length bytes) room)

-- memory was refused
abbrev pub IsOutOfMemory : ℤ → Type 0
IsOutOfMemory result = result ≡ neg_ℤ (pos 18)

-- Where a living store may have these sizes the image of a new one is put into the room, unless memory was refused. It has its margin on top.
pub record IsImage (sizes : Sizes) (result : ℤ) (room room' : List ℕ) : Type 0 where
  pub bad : are_sizes sizes ≡ false → (result ≡ neg_ℤ (pos 1)) × (room' ≡ room)
  pub good : are_sizes sizes ≡ true → ((IsOutOfMemory result × (room' ≡ room)) ⊎ ((shape : Shape) × IsLivingOf (with_margin sizes) shape × IsPut (created_bytes [] shape) result room room'))

-- A handle was given, unless memory was refused for its box; or none was, and the word is as it was.
abbrev pub IsHandedOut : {X : Type 0} {P : Type 0} → Result X Refusal → ℤ → P → P → Type 0
IsHandedOut (Ok its) result out out' = (result ≡ pos 0) ⊎ IsOutOfMemory result
IsHandedOut (Err why) result out out' = (result ≡ refusal_told why) × (out' ≡ out)

pub record IsSessionTaken {P : Type 0} (before : Store) (number : ℕ) (result : ℤ) (out out' : P) (after : Store) : Type 0 where
  pub its : Result Session Refusal
  pub given : IsGiven (store_keys before) (store_sessions before) number its (store_sessions after)
  pub told : IsHandedOut its result out out'
  pub keeper : store_keeper after ≡ store_keeper before
  pub stays_open : store_is_open after ≡ store_is_open before
  pub keys : store_keys after ≡ store_keys before

pub record IsKeeperTaken {P : Type 0} (before : Store) (result : ℤ) (out out' : P) (after : Store) : Type 0 where
  pub its : Result Keeper Refusal
  pub given : IsKeeperGiven (store_keeper before) its (store_keeper after)
  pub told : IsHandedOut its result out out'
  pub sessions : store_sessions after ≡ store_sessions before
  pub stays_open : store_is_open after ≡ store_is_open before
  pub keys : store_keys after ≡ store_keys before

-- The store is closed, or a handle is out. What nobody had taken is gone in both cases.
pub record IsClosed (before : Store) (result : ℤ) (after : Store) : Type 0 where
  pub told : ((result ≡ pos 0) × (store_is_open after ≡ false)) ⊎ ((result ≡ neg_ℤ (pos 22)) × (store_is_open after ≡ true))
  pub again : store_is_open before ≡ false → result ≡ pos 0
  pub dropped : store_sessions after ≡ []

module _ (at : Opening → World) where
  -- The store was opened from its image, and C is told of it; or the image was refused, or memory was.
  pub data IsOpening {P : Type 0} (bytes : List ℕ) (keys warm : ℕ) (result : ℤ) (out out' : P) (sizes sizes' : Sizes) (image image' : Image) (points points' : List ℕ) : Type 0 where
    Opened : (store : Store) (told : Recovered) → IsOpenedFrom at bytes (keys_told keys) (most_told warm) store told → (result ≡ pos 0) ⊎ IsOutOfMemory result
        → HasSizes sizes' told.shape → image' ≡ told_of told image → ArePoints told.points.items points points' → IsOpening bytes keys warm result out out' sizes sizes' image image' points points'
    Refused : (fault : Fault) → IsOpeningRefused bytes fault → result ≡ fault_told fault → out' ≡ out → sizes' ≡ sizes → image' ≡ damaged_by fault image → points' ≡ points
        → IsOpening bytes keys warm result out out' sizes sizes' image image' points points'
