-- The record of calls that a device in memory keeps, and what it says of crashes.
use Rattle.std.specs.Prelude.{◌≡◌, ◌⊎◌, ℕ, ◌+◌, ◌<◌, ◌≤◌, List, [], ◌∷◌, ◌++◌, length, drop, true}
use Rattle.std.proofs.Common.{inl, inr, subst, arith}
use Rattle.fkv_disk.specs.Bytes.{AreBytes}
use Rattle.fkv_disk.specs.Calls.{Call, Write, Sync, MayLeave}
use Rattle.fkv_disk.specs.declared.memory.DoneCall.{DoneCall}
use Rattle.fkv_disk.specs.declared.memory.DoneCall.TheVariants.{Wrote, Synced}

abbrev pub call_of : DoneCall → Call
call_of (Wrote at bytes) = Write at bytes.items true
call_of Synced = Sync true

-- the record has the oldest call first
abbrev pub calls_of : List DoneCall → List Call
calls_of [] = []
calls_of (done ∷ later) = calls_of later ++ call_of done ∷ []

-- an image of bytes that a crash may leave
pub record MayLeaveBytes (opening : List ℕ) (calls : List Call) (image : List ℕ) : Type 0 where
  pub allowed : MayLeave opening calls image
  pub are_bytes : AreBytes image

-- An image that a crash may have left when the newest of these calls hadn't come yet, at most those since time t. Time counts calls, and of a time within those that were forgotten nothing is told: any image may have been left.
abbrev pub LeftSince : ℕ → List ℕ → List Call → ℕ → List ℕ → Type 0
LeftSince forgotten opening calls t image = (t < forgotten) ⊎ (newest : ℕ) × (t + newest ≤ forgotten + length calls) × MayLeaveBytes opening (drop newest calls) image

-- this moment is one of those since an earlier one
pub counts_now : (forgotten : ℕ) (opening : List ℕ) (calls : List Call) (t : ℕ) (image : List ℕ) → t ≤ forgotten + length calls → MayLeaveBytes opening calls image → LeftSince forgotten opening calls t image
counts_now forgotten opening calls t image le left = inr (0, omega arith, left)

-- since this moment there is no other
pub only_now : (forgotten : ℕ) (opening : List ℕ) (calls : List Call) (image : List ℕ) → LeftSince forgotten opening calls (forgotten + length calls) image → MayLeaveBytes opening calls image
only_now forgotten opening calls image (inl early) = absurd (omega arith)
only_now forgotten opening calls image (inr left) = subst (λ (n : ℕ). MayLeaveBytes opening (drop n calls) image) (let none : left.0 ≡ 0 = omega (arith, left.1) in none) left.2
