-- The laws of what remains of a medium, for which nothing of proofs/ may be cited.
use Rattle.std.specs.Prelude.{◌≡◌, ℕ, suc, ◌≤◌, List, [], ◌∷◌, length, drop, true, false, refl}
use Rattle.std.proofs.Common.{subst, arith}
use Rattle.fkv_disk.specs.Bytes.{AreBytes, written}
use Rattle.fkv_disk.specs.Calls.{Call, Write, Sync, reads_as}
use Rattle.fkv_disk.specs.Device.{Torn}
use Rattle.fkv_disk.proofs.Shown.{byte_at-written_out, length-written}
use Rattle.fkv_posted.specs.Outcomes.{AlwaysBytes, MayRemain, RemainsSince}

-- this moment is one of those since an earlier one
pub counts_now : (opened : List ℕ) (calls : List Call) (t : ℕ) (image : List ℕ) → t ≤ length calls → MayRemain opened calls image → RemainsSince opened calls t image
counts_now opened calls t image le left = (0, omega arith, left)

-- since this moment there is no other
pub only_now : (opened : List ℕ) (calls : List Call) (image : List ℕ) → RemainsSince opened calls (length calls) image → MayRemain opened calls image
only_now opened calls image left = subst (λ (n : ℕ). MayRemain opened (drop n calls) image) (let none : left.0 ≡ 0 = omega (arith, left.1) in none) left.2

pub remains_bytes : (opened : List ℕ) (calls : List Call) (image : List ℕ) → MayRemain opened calls image → AreBytes image
remains_bytes opened [] image left = left.0
remains_bytes opened (Write at bytes done ∷ before) image left = left.0
remains_bytes opened (Sync true ∷ before) image left = left.0
remains_bytes opened (Sync false ∷ before) image left = remains_bytes opened before image left

-- what was written is torn over what was there
torn_written : (old : List ℕ) (at : ℕ) (bytes : List ℕ) → Torn at (length bytes) old (written old at bytes)
torn_written old at bytes = record {
  no_shorter = omega (arith, length-written old at bytes);
  no_longer = omega (arith, length-written old at bytes);
  outside = λ i below out_it. byte_at-written_out old at bytes i out_it;
}

torn_nothing : (old : List ℕ) (at n : ℕ) → Torn at n old old
torn_nothing old at n = record { no_shorter = omega arith; no_longer = omega arith; outside = λ i below out_it. refl }

-- what is read may remain
pub reads_remain : (opened : List ℕ) (calls : List Call) → AlwaysBytes opened calls → MayRemain opened calls (reads_as opened calls)
reads_remain opened [] fits = (fits 0, refl)
reads_remain opened (Write at bytes true ∷ before) fits = (fits 0, (reads_as opened before, reads_remain opened before (λ n. fits (suc n)), torn_written (reads_as opened before) at bytes))
reads_remain opened (Write at bytes false ∷ before) fits = (fits 0, (reads_as opened before, reads_remain opened before (λ n. fits (suc n)), torn_nothing (reads_as opened before) at (length bytes)))
reads_remain opened (Sync true ∷ before) fits = (fits 0, refl)
reads_remain opened (Sync false ∷ before) fits = reads_remain opened before (λ n. fits (suc n))
