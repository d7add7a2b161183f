-- How the sentence that a device reads as, and may leave, what these calls give goes from call to call.
use Rattle.std.proofs.Common.{◌≡◌, ℕ, List, [], ◌∷◌, length, Bool, true, false, refl, sym, subst, arith}
use Rattle.fkv_disk.specs.Calls.{Call, Write, Sync, ReadsAs, MayLeave}
use Rattle.fkv_disk.specs.Device.{Writes, LeavesNoMore, LeavesTorn, LeavesOnly, IsAfter}
use Rattle.fkv_disk.proofs.Left.{torn_to, synced_to, reads_to}

-- a device that a crash leaves as it reads is as it was opened
pub is_opened : (seen : List ℕ) (may_leave : List ℕ → Type 0) → LeavesOnly seen may_leave → IsAfter seen [] seen may_leave
is_opened seen may_leave only = record {
  reads = record { no_shorter = omega arith; no_longer = omega arith; last_written = λ i s. refl };
  leaves = λ image left. subst (MayLeave seen []) (sym (only image left)) (record { no_shorter = omega arith; no_longer = omega arith; kept = λ i below u s. refl });
}

module _ (opening : List ℕ) (calls : List Call) (seen seen' : List ℕ) (may_leave may_leave' : List ℕ → Type 0) (was : IsAfter opening calls seen may_leave) where
  -- a read, or another call that changes nothing
  pub after_same : seen' ≡ seen → LeavesNoMore may_leave may_leave' → IsAfter opening calls seen' may_leave'
  after_same same no_more = record {
    reads = subst (ReadsAs opening calls) (sym same) was.reads;
    leaves = λ image left. was.leaves image (no_more image left);
  }

  -- a write, succeeded or failed
  pub after_write : (at : ℕ) (bytes : List ℕ) (done : Bool) → Writes at bytes done seen seen' → LeavesTorn at (length bytes) may_leave may_leave' → IsAfter opening (Write at bytes done ∷ calls) seen' may_leave'
  after_write at bytes done writes torn = record {
    reads = reads_to opening at bytes done calls seen seen' was.reads writes;
    leaves = λ image left. let from = torn image left in torn_to opening at bytes done calls from.0 image (was.leaves from.0 from.1) from.2;
  }

  -- a sync that succeeded
  pub after_sync : seen' ≡ seen → LeavesOnly seen may_leave' → IsAfter opening (Sync true ∷ calls) seen' may_leave'
  after_sync same only = record {
    reads = let now : ReadsAs opening calls seen' = subst (ReadsAs opening calls) (sym same) was.reads in record { no_shorter = now.no_shorter; no_longer = now.no_longer; last_written = now.last_written };
    leaves = λ image left. subst (MayLeave opening (Sync true ∷ calls)) (sym (only image left)) (synced_to opening calls seen was.reads);
  }

  -- one that failed
  pub after_failed_sync : seen' ≡ seen → LeavesNoMore may_leave may_leave' → IsAfter opening (Sync false ∷ calls) seen' may_leave'
  after_failed_sync same no_more = record {
    reads = let now : ReadsAs opening calls seen' = subst (ReadsAs opening calls) (sym same) was.reads in record { no_shorter = now.no_shorter; no_longer = now.no_longer; last_written = now.last_written };
    leaves = λ image left. let old = was.leaves image (no_more image left) in record { no_shorter = old.no_shorter; no_longer = old.no_longer; kept = old.kept };
  }
