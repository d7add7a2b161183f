-- What a crash leaves while a store is renewed.
use Rattle.std.specs.Prelude.{◌≡◌, ◌⊎◌, ℕ, Bool, List, replicate, Result, IsErr}
use Rattle.fkv_base.specs.declared.faults.Fault.{Fault}
use Rattle.fkv_base.specs.declared.faults.Fault.TheVariants.{NotAStore}
use Rattle.fkv_base.specs.declared.numbers.Key.{Key}
use Rattle.fkv_base.specs.declared.numbers.Serial.{Serial}
use Rattle.fkv_base.specs.declared.numbers.Value.{Value}
use Rattle.fkv_base.specs.declared.shapes.Shape.{Shape}
use Rattle.fkv_creating.specs.Moments.{IsClearedFront, IsStoppedAt, IsTornInFront}
use Rattle.fkv_disk.specs.Device.{AtEachMoment, after}
use Rattle.fkv_newest.specs.Newest.{IsNewestFault}
use Rattle.fkv_renewing.specs.Renewed.{IsRenewal}

-- no store's, or that of the whole renewed store
abbrev pub IsNoneOrRenewal : Shape → List Serial → List (Key × Value) → List ℕ → Type 0
IsNoneOrRenewal shape points pairs image = IsNewestFault image NotAStore ⊎ IsRenewal shape points pairs image

-- The first two calls clear the front. Until then a crash leaves an image of before, with anything in its first 1,536 bytes; from then on one that is no store's,
-- or that of the whole renewed store.
pub record ClearsFirst {D : Type 0} (seen : D → List ℕ) (may_leave : D → List ℕ → Type 0) (moment : D → ℕ) (left_since : D → ℕ → List ℕ → Type 0) (refuses : D → ℕ → Bool) (shape : Shape) (points : List Serial) (pairs : List (Key × Value)) (old new : D) : Type 0 where
  pub cleared : D
  pub calls : refuses cleared ≡ after 2 (refuses old)
  pub front : IsClearedFront seen may_leave old cleared
  pub until_then : AtEachMoment moment left_since old cleared (IsTornInFront (may_leave old))
  pub from_then : AtEachMoment moment left_since cleared new (IsNoneOrRenewal shape points pairs)

-- The front isn't cleared, and the whole is refused: before any call; or at the write of its zeros, or at the sync behind it, with no other call. A crash leaves an
-- image of before, with anything in its first 1,536 bytes.
pub record LeavesUncleared {D T : Type 0} (seen : D → List ℕ) (may_leave : D → List ℕ → Type 0) (moment : D → ℕ) (left_since : D → ℕ → List ℕ → Type 0) (refuses : D → ℕ → Bool) (old new : D) (result : Result T Fault) : Type 0 where
  pub refused : IsErr result
  pub stopped : (new ≡ old) ⊎ IsStoppedAt seen refuses 0 (replicate 1536 0) old new
  pub so_far : AtEachMoment moment left_since old new (IsTornInFront (may_leave old))

-- the front is cleared first, or the call is refused before
abbrev pub RenewsInOrder : {D T : Type 0} → (D → List ℕ) → (D → List ℕ → Type 0) → (D → ℕ) → (D → ℕ → List ℕ → Type 0) → (D → ℕ → Bool) → Shape → List Serial → List (Key × Value) → D → D → Result T Fault → Type 0
RenewsInOrder seen may_leave moment left_since refuses shape points pairs old new result =
    ClearsFirst seen may_leave moment left_since refuses shape points pairs old new ⊎ LeavesUncleared seen may_leave moment left_since refuses old new result
