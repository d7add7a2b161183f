-- What a crash leaves while one write is synced, and while writes follow each other.
use Rattle.std.proofs.Common.{inl, inr, ⊎_elim, ℕ, List, refl, subst, arith}
use Rattle.fkv_disk.specs.Device.{Torn, Elapses, AtEachMoment, LeavesNoMore, LeavesOnly, LeavesTorn}
use Rattle.fkv_disk.proofs.Shown.{started, goes_on}
use Rattle.fkv_creating.specs.Moments.{IsTornOver}

-- what holds of each image that is left is weakened
pub weaker : {D : Type 0} {moment : D → ℕ} {left_since : D → ℕ → List ℕ → Type 0} {old new : D} {P Q : List ℕ → Type 0} → ((image : List ℕ) → P image → Q image) → AtEachMoment moment left_since old new P → AtEachMoment moment left_since old new Q
weaker to at = record {
  later = at.later;
  each = λ image left. to image (at.each image left);
  before = λ t image le left. ⊎_elim inl (λ is. inr (to image is)) (at.before t image le left);
}

module _ {D : Type 0} (may_leave : D → List ℕ → Type 0) (moment : D → ℕ) (left_since : D → ℕ → List ℕ → Type 0) (old : D) (at n : ℕ) where
  -- over bytes that alone a crash leaves
  pub over_bytes : (new : D) (P : List ℕ → Type 0) (bytes : List ℕ) → LeavesOnly bytes (may_leave old) → ((image : List ℕ) → Torn at n bytes image → P image) → AtEachMoment moment left_since old new (IsTornOver (may_leave old) at n)
      → AtEachMoment moment left_since old new P
  over_bytes new P bytes only to = weaker (λ image is. to image (subst (λ b. Torn at n b image) (only is.0 is.1) is.2))

  module _ (only : (image : List ℕ) → left_since old (moment old) image → may_leave old image) where
    -- no call at all
    pub untouched : AtEachMoment moment left_since old old (IsTornOver (may_leave old) at n)
    untouched = started moment left_since old (IsTornOver (may_leave old) at n) (λ image left. (image, only image left, record { no_shorter = omega arith; no_longer = omega arith; outside = λ i below out. refl }))

    module _ (mid : D) (time : Elapses (moment old) (moment mid) (left_since old) (left_since mid) (may_leave mid)) (torn : LeavesTorn at n (may_leave old) (may_leave mid)) where
      -- a write
      pub one_write : AtEachMoment moment left_since old mid (IsTornOver (may_leave old) at n)
      one_write = goes_on moment left_since old old mid (IsTornOver (may_leave old) at n) (may_leave mid) untouched time torn

      -- a write and its sync
      pub one_synced : (new : D) → Elapses (moment mid) (moment new) (left_since mid) (left_since new) (may_leave new) → LeavesNoMore (may_leave mid) (may_leave new) → AtEachMoment moment left_since old new (IsTornOver (may_leave old) at n)
      one_synced new later no_more = goes_on moment left_since old mid new (IsTornOver (may_leave old) at n) (may_leave new) one_write later (λ image left. torn image (no_more image left))
