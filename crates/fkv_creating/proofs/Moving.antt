-- What a crash leaves while one write is synced, and while writes follow each other.
use Rattle.std.proofs.Common.{inl, inr, ⊎_elim, ℕ, List, refl, subst, arith}
use Rattle.fkv_disk.specs.Device.{Torn, Elapses, AtEachMoment, LeavesNoMore, LeavesOnly, LeavesTorn}
use Rattle.fkv_disk.proofs.Shown.{started, goes_on}
use Rattle.fkv_creating.specs.Moments.{IsTornOver}

torn_itself : (at n : ℕ) (image : List ℕ) → Torn at n image image
torn_itself at n image = record { no_shorter = omega arith; no_longer = omega arith; outside = λ i below out. refl }

module _ {D : Type 0} (may_leave : D → List ℕ → Type 0) (moment : D → ℕ) (left_since : D → ℕ → List ℕ → Type 0) where
  -- the write
  pub one_write : (old new : D) (at n : ℕ) → ((image : List ℕ) → left_since old (moment old) image → may_leave old image)
      → Elapses (moment old) (moment new) (left_since old) (left_since new) (may_leave new) → LeavesTorn at n (may_leave old) (may_leave new)
      → AtEachMoment moment left_since old new (IsTornOver (may_leave old) at n)
  one_write old new at n only time torn =
      goes_on moment left_since old old new (IsTornOver (may_leave old) at n) (may_leave new) (started moment left_since old (IsTornOver (may_leave old) at n) (λ image left. (image, only image left, torn_itself at n image)))
      time torn

  -- and the sync behind it
  pub and_sync : (old mid new : D) (at n : ℕ) → AtEachMoment moment left_since old mid (IsTornOver (may_leave old) at n) → LeavesTorn at n (may_leave old) (may_leave mid)
      → Elapses (moment mid) (moment new) (left_since mid) (left_since new) (may_leave new) → LeavesNoMore (may_leave mid) (may_leave new)
      → AtEachMoment moment left_since old new (IsTornOver (may_leave old) at n)
  and_sync old mid new at n so_far torn time no_more =
      goes_on moment left_since old mid new (IsTornOver (may_leave old) at n) (may_leave new) so_far time (λ image left. torn image (no_more image left))

  pub weaker : (old new : D) (P Q : List ℕ → Type 0) → ((image : List ℕ) → P image → Q image) → AtEachMoment moment left_since old new P → AtEachMoment moment left_since old new Q
  weaker old new P Q to at = record {
    later = at.later;
    each = λ image left. to image (at.each image left);
    before = λ t image le left. ⊎_elim inl (λ is. inr (to image is)) (at.before t image le left);
  }

  -- over bytes that alone a crash leaves
  pub over_bytes : (old new : D) (P : List ℕ → Type 0) (at n : ℕ) (bytes : List ℕ) → LeavesOnly bytes (may_leave old) → ((image : List ℕ) → Torn at n bytes image → P image)
      → AtEachMoment moment left_since old new (IsTornOver (may_leave old) at n) → AtEachMoment moment left_since old new P
  over_bytes old new P at n bytes only to moments =
      weaker old new (IsTornOver (may_leave old) at n) P (λ image is. to image (subst (λ b. Torn at n b image) (only is.0 is.1) is.2)) moments
