-- Where the index has the entries of homes, by slots alone.
use Rattle.std.specs.Prelude.{◌≡◌, ℕ, ◌/◌, ◌^◌, ◌<◌, ◌≤◌}
use Rattle.law_log.specs.Ghosts.{Log}
use Rattle.law_log.specs.Trace.{IsIn}
use Rattle.fkv_scan.specs.Log as scan

-- A slot of a bucket and of the overflow buckets behind it: `part` is 0 for the bucket itself, and else the number of the overflow bucket.
pub record Slot : Type 0 where
  pub part : ℕ
  pub place : ℕ

-- A home may have its entry there. A part has seven slots, and there are so many overflow buckets. If the part is one of these, it follows the home's bucket.
pub record IsSlotOf (follows : ℕ → ℕ) (overflow h : ℕ) (slot : Slot) : Type 0 where
  pub seven : slot.place < 7
  pub there : slot.part ≤ overflow
  pub its_bucket : 0 < slot.part → follows slot.part ≡ h / 2 ^ 15

-- Each home whose chain isn't empty has a slot, and no two homes of a bucket have the same. An overflow bucket follows one bucket at most: `follows` says which.
pub record HasSlots (image : scan.Log) (g : Log) : Type 0 where
  pub follows : ℕ → ℕ
  pub slot : ℕ → Slot
  pub each : (h a : ℕ) → IsIn a (g.chains h) → IsSlotOf follows image.shape.overflow h (slot h)
  pub apart : (h k a b : ℕ) → IsIn a (g.chains h) → IsIn b (g.chains k) → h / 2 ^ 15 ≡ k / 2 ^ 15 → slot h ≡ slot k → h ≡ k
