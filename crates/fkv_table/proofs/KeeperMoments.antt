-- What a crash leaves at each moment of a call of the keeper.
use Rattle.std.proofs.Common.{inl, inr, ⊎_elim, ℕ, refl, sym, ap, ◌∙◌, List, [], ◌∷◌, ◌++◌, append_assoc}
use Rattle.fkv_disk.specs.Device.{AtEachMoment, Elapses}
use Rattle.fkv_disk.proofs.Shown.{started, goes_on, goes_on_to}
use Rattle.law_world.specs.Below.fkv_world.Runs.{World}
use Rattle.fkv_seats.specs.Rule.{IsSeenBy}
use Rattle.fkv_table.specs.declared.happenings.Happening.{Happening}
use Rattle.fkv_table.specs.KeeperCalls.{HasGoneOn, HasKept}
use Rattle.fkv_table.specs.Keeps.{IsAfterSeen, IsLeftWithin}
use Rattle.fkv_table.specs.Planes.{plane}

weaker : {D : Type 0} (moment : D → ℕ) (left_since : D → ℕ → List ℕ → Type 0) (old new : D) (P Q : List ℕ → Type 0) → ((image : List ℕ) → P image → Q image)
    → AtEachMoment moment left_since old new P → AtEachMoment moment left_since old new Q
weaker moment left_since old new P Q so its = record {
  later = its.later;
  each = λ image left. so image (its.each image left);
  before = λ t image le left. ⊎_elim inl (λ is. inr (so image is)) (its.before t image le left);
}

module _ {K : Type 0} (at : K → World) where
  nothing_since : (es : List Happening) → IsSeenBy (plane at) es es
  nothing_since es = ([], refl)

  seen_on : (xs ys zs : List Happening) → IsSeenBy (plane at) xs ys → IsSeenBy (plane at) ys zs → IsSeenBy (plane at) xs zs
  seen_on xs ys zs a b = (b.0 ++ a.0, b.1 ∙ (ap (λ (es : List Happening). b.0 ++ es) a.1 ∙ sym (append_assoc b.0 a.0 xs)))

  gone_seen : (xs ys : List Happening) → HasGoneOn xs ys → IsSeenBy (plane at) xs ys
  gone_seen xs ys gone = (gone.steps, gone.so)

  kept_seen : (start : Happening) (xs ys : List Happening) → HasKept start xs ys → IsSeenBy (plane at) xs ys
  kept_seen start xs ys kept = (kept.steps ++ start ∷ kept.others, kept.so ∙ sym (append_assoc kept.steps (start ∷ kept.others) xs))

  -- what is left in a part of a call is left in the call
  wider : (key : K) (seen first last seen' : List Happening) (image : List ℕ) → IsSeenBy (plane at) seen first → IsSeenBy (plane at) last seen' → IsLeftWithin at key first last image → IsLeftWithin at key seen seen' image
  wider key seen first last seen' image a b its = record { now = its.now; from = seen_on seen first its.now a its.from; to = seen_on its.now last seen' its.to b; left = its.left }

  -- what is left now
  left_now : (key : K) (seen : List Happening) (shown : List ℕ) (may_leave : List ℕ → Type 0) (image : List ℕ) → IsAfterSeen at key seen shown may_leave → may_leave image → IsLeftWithin at key seen seen image
  left_now key seen shown may_leave image after left = record { now = seen; from = nothing_since seen; to = nothing_since seen; left = after.leaves image left }

  module _ {D : Type 0} (moment : D → ℕ) (left_since : D → ℕ → List ℕ → Type 0) (key : K) where
    -- as a stretch of calls begins
    pub moments_begin : (old : D) (seen : List Happening) (shown : List ℕ) (may_leave : List ℕ → Type 0) → IsAfterSeen at key seen shown may_leave → ((image : List ℕ) → left_since old (moment old) image → may_leave image)
        → AtEachMoment moment left_since old old (IsLeftWithin at key seen seen)
    moments_begin old seen shown may_leave after only = started moment left_since old (IsLeftWithin at key seen seen) (λ image left. left_now key seen shown may_leave image after (only image left))

    -- the one call of the device
    pub moments_called : (old new : D) (seen seen' : List Happening) (shown shown' : List ℕ) (may_leave may_leave' : List ℕ → Type 0) → IsAfterSeen at key seen shown may_leave → IsAfterSeen at key seen' shown' may_leave'
        → HasGoneOn seen seen' → ((image : List ℕ) → left_since old (moment old) image → may_leave image) → Elapses (moment old) (moment new) (left_since old) (left_since new) may_leave'
        → AtEachMoment moment left_since old new (IsLeftWithin at key seen seen')
    moments_called old new seen seen' shown shown' may_leave may_leave' after after' gone only time =
        goes_on moment left_since old old new (IsLeftWithin at key seen seen') may_leave'
        (weaker moment left_since old old (IsLeftWithin at key seen seen) (IsLeftWithin at key seen seen')
        (λ image its. wider key seen seen seen seen' image (nothing_since seen) (gone_seen seen seen' gone) its)
        (moments_begin old seen shown may_leave after only))
        time
        (λ image left. wider key seen seen' seen' seen' image (gone_seen seen seen' gone) (nothing_since seen') (left_now key seen' shown' may_leave' image after' left))

    -- a step of a word
    pub moments_stepped : (old new : D) (seen mid seen' : List Happening) → HasGoneOn mid seen' → AtEachMoment moment left_since old new (IsLeftWithin at key seen mid)
        → AtEachMoment moment left_since old new (IsLeftWithin at key seen seen')
    moments_stepped old new seen mid seen' gone its =
        weaker moment left_since old new (IsLeftWithin at key seen mid) (IsLeftWithin at key seen seen') (λ image left. wider key seen seen mid seen' image (nothing_since seen) (gone_seen mid seen' gone) left) its

    -- a call's start stands before them
    moments_kept : (old new : D) (start : Happening) (seen mid seen' : List Happening) → HasKept start seen mid → AtEachMoment moment left_since old new (IsLeftWithin at key mid seen')
        → AtEachMoment moment left_since old new (IsLeftWithin at key seen seen')
    moments_kept old new start seen mid seen' kept its =
        weaker moment left_since old new (IsLeftWithin at key mid seen') (IsLeftWithin at key seen seen')
        (λ image left. wider key seen mid seen' seen' image (kept_seen start seen mid kept) (nothing_since seen') left) its

    -- as a call has begun
    pub moments_started : (old : D) (start : Happening) (seen mid : List Happening) (shown : List ℕ) (may_leave : List ℕ → Type 0) → HasKept start seen mid → IsAfterSeen at key mid shown may_leave
        → ((image : List ℕ) → left_since old (moment old) image → may_leave image) → AtEachMoment moment left_since old old (IsLeftWithin at key seen mid)
    moments_started old start seen mid shown may_leave kept after only = moments_kept old old start seen mid mid kept (moments_begin old mid shown may_leave after only)

    -- a call of the device in the middle of a call of the keeper
    pub moments_on : (old middle new : D) (start : Happening) (seen mid seen' : List Happening) → HasKept start seen mid → HasGoneOn mid seen' → AtEachMoment moment left_since old middle (IsLeftWithin at key seen mid)
        → AtEachMoment moment left_since middle new (IsLeftWithin at key mid seen') → AtEachMoment moment left_since old new (IsLeftWithin at key seen seen')
    moments_on old middle new start seen mid seen' kept on first second =
        goes_on_to moment left_since old middle new (IsLeftWithin at key seen seen') (moments_stepped old middle seen mid seen' on first) (moments_kept middle new start seen mid seen' kept second)
