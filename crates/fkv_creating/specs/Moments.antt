-- What a crash leaves while a store is created.
use Rattle.std.specs.Prelude.{◌≡◌, ◌⊎◌, ℕ, Bool, false, List, replicate, Result, IsErr}
use Rattle.fkv_base.specs.declared.faults.Fault.{Fault}
use Rattle.fkv_base.specs.declared.faults.Fault.TheVariants.{NotAStore}
use Rattle.fkv_base.specs.declared.shapes.Shape.{Shape}
use Rattle.fkv_disk.specs.Bytes.{written}
use Rattle.fkv_disk.specs.Device.{Torn, AtEachMoment, LeavesOnly, Writes, after}
use Rattle.fkv_newest.specs.declared.newest_slots.Newest.{Newest}
use Rattle.fkv_newest.specs.Newest.{IsNewestOf, IsNewestFault}
use Rattle.fkv_creating.specs.Created.{IsNew}
use Rattle.fkv_creating.specs.Long.{IsLong}

-- one of these images, with a write of n bytes over it that is torn
abbrev pub IsTornOver : (List ℕ → Type 0) → ℕ → ℕ → List ℕ → Type 0
IsTornOver was at n image = (old : List ℕ) × was old × Torn at n old image

-- one of these images, with anything in its first 1,536 bytes
abbrev pub IsTornInFront : (List ℕ → Type 0) → List ℕ → Type 0
IsTornInFront was image = IsTornOver was 0 1536 image

-- no store's, or that of the new store, which is long
abbrev pub IsNoneOrNew : Shape → List ℕ → Type 0
IsNoneOrNew shape image = IsNewestFault image NotAStore ⊎ ((n : Newest) × IsNew shape n × IsNewestOf image n × IsLong image n.shape n.slot)

-- The front is cleared: zeros stand in the first 1,536 bytes of what was read, the rest is as before, and a crash leaves just that.
pub record IsClearedFront {D : Type 0} (seen : D → List ℕ) (may_leave : D → List ℕ → Type 0) (old cleared : D) : Type 0 where
  pub zeros : seen cleared ≡ written (seen old) 0 (replicate 1536 0)
  pub synced : LeavesOnly (seen cleared) (may_leave cleared)

-- The first two calls clear the front. Until then a crash leaves an image of before, with anything in its first 1,536 bytes; from then on one that is no
-- store's, or that of the new store.
pub record ClearsFirst {D : Type 0} (seen : D → List ℕ) (may_leave : D → List ℕ → Type 0) (moment : D → ℕ) (left_since : D → ℕ → List ℕ → Type 0) (refuses : D → ℕ → Bool) (shape : Shape) (old new : D) : Type 0 where
  pub cleared : D
  pub calls : refuses cleared ≡ after 2 (refuses old)
  pub front : IsClearedFront seen may_leave old cleared
  pub until_then : AtEachMoment moment left_since old cleared (IsTornInFront (may_leave old))
  pub from_then : AtEachMoment moment left_since cleared new (IsNoneOrNew shape)

-- A write is refused, or the sync behind it, and no other call is made: after one call anything may be read in the range, and after two these bytes.
abbrev pub IsStoppedAt : {D : Type 0} → (D → List ℕ) → (D → ℕ → Bool) → ℕ → List ℕ → D → D → Type 0
IsStoppedAt seen refuses at bytes old new =
    ((refuses new ≡ after 1 (refuses old)) × Writes at bytes false (seen old) (seen new)) ⊎ ((refuses new ≡ after 2 (refuses old)) × (seen new ≡ written (seen old) at bytes))

-- The front isn't cleared: the write of its zeros is refused, or the sync behind it, and with it the whole. No other call is made, and a crash leaves an image
-- of before, with anything in its first 1,536 bytes.
pub record LeavesUncleared {D T : Type 0} (seen : D → List ℕ) (may_leave : D → List ℕ → Type 0) (moment : D → ℕ) (left_since : D → ℕ → List ℕ → Type 0) (refuses : D → ℕ → Bool) (old new : D) (result : Result T Fault) : Type 0 where
  pub refused : IsErr result
  pub stopped : IsStoppedAt seen refuses 0 (replicate 1536 0) old new
  pub so_far : AtEachMoment moment left_since old new (IsTornInFront (may_leave old))

-- The first two calls clear the front, or one of them is refused and is the last.
abbrev pub IsLaidInOrder : {D T : Type 0} → (D → List ℕ) → (D → List ℕ → Type 0) → (D → ℕ) → (D → ℕ → List ℕ → Type 0) → (D → ℕ → Bool) → Shape → D → D → Result T Fault → Type 0
IsLaidInOrder seen may_leave moment left_since refuses shape old new result =
    ClearsFirst seen may_leave moment left_since refuses shape old new ⊎ LeavesUncleared seen may_leave moment left_since refuses old new result
