-- What a device reads as a crash may leave: the law of a device in memory, for which nothing of proofs/ may be cited.
use Rattle.std.specs.Prelude.{◌≡◌, ℕ, ◌≤◌, max, List, [], ◌∷◌, length, true, false, refl}
use Rattle.std.proofs.Common.{sym, subst, arith}
use Rattle.std.proofs.lemmas.List.FromFn.{length-map-range_with_len}
use Rattle.fkv_disk.specs.Bytes.{listed, range_end, written, AreBytes}
use Rattle.fkv_disk.specs.Calls.{Call, Write, Sync, reads_as, synced_end, far_end, ReadsAs, MayLeave}
use Rattle.fkv_disk.specs.Done.{MayLeaveBytes}

pub length-listed : (n : ℕ) (f : ℕ → ℕ) → length (listed n f) ≡ n
unfolding listed
length-listed n f = length-map-range_with_len f 0 n

pub length-written : (old : List ℕ) (at : ℕ) (bytes : List ℕ) → length (written old at bytes) ≡ max (length old) (range_end at (length bytes))
length-written old at bytes = length-listed _ _

-- the writes that succeeded reach no further than all of them
pub reads_within : (opening : List ℕ) (calls : List Call) → length (reads_as opening calls) ≤ far_end opening calls
reads_within opening [] = omega arith
reads_within opening (Write at bytes true ∷ before) = omega (arith, length-written (reads_as opening before) at bytes, reads_within opening before)
reads_within opening (Write at bytes false ∷ before) = omega (arith, reads_within opening before)
reads_within opening (Sync done ∷ before) = reads_within opening before

-- the synced end lies within
pub synced_within : (opening : List ℕ) (calls : List Call) → synced_end opening calls ≤ length (reads_as opening calls)
synced_within opening [] = omega arith
synced_within opening (Write at bytes true ∷ before) = omega (arith, length-written (reads_as opening before) at bytes, synced_within opening before)
synced_within opening (Write at bytes false ∷ before) = synced_within opening before
synced_within opening (Sync true ∷ before) = omega arith
synced_within opening (Sync false ∷ before) = synced_within opening before

-- what is read may be left
pub reads_may_stay : (opening : List ℕ) (calls : List Call) (seen : List ℕ) → ReadsAs opening calls seen → MayLeave opening calls seen
reads_may_stay opening calls seen reads = record {
  no_shorter = omega (arith, synced_within opening calls, reads.no_shorter);
  no_longer = reads.no_longer;
  kept = λ i below u s. reads.last_written i s;
}

-- a device whose calls all succeeded reads as they make it
pub reads_itself : (opening : List ℕ) (calls : List Call) → ReadsAs opening calls (reads_as opening calls)
reads_itself opening calls = record { no_shorter = omega arith; no_longer = reads_within opening calls; last_written = λ i s. refl }

pub seen_left : (opening : List ℕ) (calls : List Call) (seen : List ℕ) → seen ≡ reads_as opening calls → AreBytes seen → MayLeaveBytes opening calls seen
seen_left opening calls seen is fits = record { allowed = subst (MayLeave opening calls) (sym is) (reads_may_stay opening calls (reads_as opening calls) (reads_itself opening calls)); are_bytes = fits }
