-- What one call of a device does to what it reads as and to what a crash may leave, and how such calls follow each other.
use Rattle.std.specs.Prelude.{◌≡◌, ◌⊎◌, ℕ, zero, suc, ◌+◌, ◌-◌, ◌<◌, ◌≤◌, ◌^◌, max, min, List, length, Bool, true, false, Result, IsErr, IfErr, OnErr}
use Rattle.fkv_base.specs.declared.faults.Fault.{Fault}
use Rattle.fkv_base.specs.declared.faults.Fault.TheVariants as fault
use Rattle.fkv_disk.specs.Bytes.{byte_at, covers, range_end, written}
use Rattle.fkv_disk.specs.Calls.{Call, ReadsAs, MayLeave}

-- What is kept outside the range of a write of n bytes that a failure or a crash cut short: each byte below the old end. The new end is anywhere from the old one to that of the range.
pub record Torn (at n : ℕ) (old new : List ℕ) : Type 0 where
  pub no_shorter : length old ≤ length new
  pub no_longer : length new ≤ max (length old) (range_end at n)
  pub outside : (i : ℕ) → i < length old → covers at n i ≡ false → byte_at new i ≡ byte_at old i

-- What a write makes of the bytes that are read. One that failed may leave anything in its range, and a gap before it still reads as 0.
abbrev pub Writes : ℕ → List ℕ → Bool → List ℕ → List ℕ → Type 0
Writes at bytes true old new = new ≡ written old at bytes
Writes at bytes false old new = (length old ≤ length new) × (length new ≤ max (length old) (range_end at (length bytes))) × ((i : ℕ) → covers at (length bytes) i ≡ false → byte_at new i ≡ byte_at old i)

-- a crash may leave no more than before
abbrev pub LeavesNoMore : (List ℕ → Type 0) → (List ℕ → Type 0) → Type 0
LeavesNoMore was now = (image : List ℕ) → now image → was image

-- each image that may be left now is one of before, with a write of n bytes over it that is torn
abbrev pub LeavesTorn : ℕ → ℕ → (List ℕ → Type 0) → (List ℕ → Type 0) → Type 0
LeavesTorn at n was now = (image : List ℕ) → now image → (old : List ℕ) × was old × Torn at n old image

-- a crash leaves these bytes and nothing else
abbrev pub LeavesOnly : List ℕ → (List ℕ → Type 0) → Type 0
LeavesOnly bytes may_leave = (image : List ℕ) → may_leave image → image ≡ bytes

-- Time goes on: what a crash since t may have left is what it may have left before, or may leave now.
pub record Elapses (before now : ℕ) (past since : ℕ → List ℕ → Type 0) (may_leave : List ℕ → Type 0) : Type 0 where
  pub later : before ≤ now
  pub nothing_else : (t : ℕ) (image : List ℕ) → t ≤ before → since t image → past t image ⊎ may_leave image
  pub keeps : (t : ℕ) (image : List ℕ) → t ≤ before → past t image → since t image

-- The count of failures rose. At 2^64 - 1 it stays, and that counts as a rise.
abbrev pub Rose : ℕ → ℕ → Type 0
Rose before now = min (before + 1) (2 ^ 64 - 1) ≤ now

-- a call is refused as the device's failure alone, and only where the count of failures rose
pub record HasCause {T : Type 0} (before now : ℕ) (result : Result T Fault) : Type 0 where
  pub later : before ≤ now
  pub rose : OnErr result (Rose before now)
  pub named : IfErr result (λ e. e ≡ fault.Device)

-- What is said of the calls to come, the next one being number 0, is said of those after n calls.
abbrev pub after : ℕ → (ℕ → Bool) → ℕ → Bool
after zero refuses = refuses
after (suc n) refuses = after n (λ i. refuses (i + 1))

-- n calls were made, no fewer and no more: what the device said of the calls after them it says now. Where it said that it refuses one of them, there was a refusal.
pub record MakesCalls {T : Type 0} (n : ℕ) (before now : ℕ → Bool) (result : Result T Fault) : Type 0 where
  pub counted : now ≡ after n before
  pub refused : (i : ℕ) → i < n → before i ≡ true → IsErr result

-- The one sentence that goes from call to call: the device reads as, and may leave, what these calls give.
pub record IsAfter (opening : List ℕ) (calls : List Call) (seen : List ℕ) (may_leave : List ℕ → Type 0) : Type 0 where
  pub reads : ReadsAs opening calls seen
  pub leaves : (image : List ℕ) → may_leave image → MayLeave opening calls image

-- A crash at any moment since old leaves an image that has P.
pub record AtEachMoment {D : Type 0} (moment : D → ℕ) (left_since : D → ℕ → List ℕ → Type 0) (old new : D) (P : List ℕ → Type 0) : Type 0 where
  pub later : moment old ≤ moment new
  pub each : (image : List ℕ) → left_since new (moment old) image → P image
  -- for a run that began earlier
  pub before : (t : ℕ) (image : List ℕ) → t ≤ moment old → left_since new t image → left_since old t image ⊎ P image
