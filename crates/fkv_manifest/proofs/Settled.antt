-- What a crash may leave where everything was synced, and after one write since.
use Rattle.std.proofs.Common.{◌≡◌, ℕ, ◌≤◌, max, List, [], ◌∷◌, length, Bool, true, false, not, ◌&&◌, refl, sym, ◌∙◌, ap, subst, arith}
use Rattle.std.specs.Prelude.{if◌then◌else◌}
use Rattle.std.proofs.lemmas.List.{ext_get_or}
use Rattle.fkv_disk.specs.Bytes.{byte_at, covers, range_end, written}
use Rattle.fkv_disk.specs.Calls.{Call, Write, Sync, reads_as, is_sure, is_untouched, synced_end, far_end, AllDone, MayLeave}
use Rattle.fkv_disk.specs.Device.{Torn}
use Rattle.fkv_disk.specs.Forgotten.{since_sync}
use Rattle.fkv_disk.proofs.Shown.{length-written, sure_out, reads_out}

-- the device reads as these bytes, and each of them is synced
pub record IsSettled (opened : List ℕ) (calls : List Call) (bytes : List ℕ) : Type 0 where
  pub reads : reads_as opened calls ≡ bytes
  pub end : synced_end opened calls ≡ length bytes
  pub far : far_end opened calls ≡ length bytes
  pub untouched : (i : ℕ) → is_untouched calls i ≡ true
  pub sure : (i : ℕ) → is_sure calls i ≡ true

if_same : (b : Bool) (c : Bool) → c ≡ true → (if b then true else c) ≡ true
if_same true c is = refl
if_same false c is = is

-- where no call has failed each byte is known
pub sure_all : (calls : List Call) (i : ℕ) → AllDone calls → is_sure calls i ≡ true
sure_all [] i all = refl
sure_all (Write at bytes true ∷ before) i all = if_same (covers at (length bytes) i) (is_sure before i) (sure_all before i all)
sure_all (Write at bytes false ∷ before) i all = absurd all
sure_all (Sync true ∷ before) i all = sure_all before i all
sure_all (Sync false ∷ before) i all = absurd all

far_all : (opened : List ℕ) (calls : List Call) → AllDone calls → far_end opened calls ≡ length (reads_as opened calls)
far_all opened [] all = refl
far_all opened (Write at bytes true ∷ before) all = ap (λ (n : ℕ). max n (range_end at (length bytes))) (far_all opened before all) ∙ sym (length-written (reads_as opened before) at bytes)
far_all opened (Write at bytes false ∷ before) all = absurd all
far_all opened (Sync true ∷ before) all = far_all opened before all
far_all opened (Sync false ∷ before) all = absurd all

-- where no call has failed, and the newest was a sync
pub settled : (opened : List ℕ) (calls : List Call) → AllDone calls → since_sync calls ≡ [] → IsSettled opened calls (reads_as opened calls)
settled opened [] all none = record { reads = refl; end = refl; far = refl; untouched = λ i. refl; sure = λ i. refl }
settled opened (Write at bytes true ∷ before) all none = absurd (cc)
settled opened (Write at bytes false ∷ before) all none = absurd all
settled opened (Sync true ∷ before) all none = record { reads = refl; end = refl; far = far_all opened before all; untouched = λ i. refl; sure = λ i. sure_all before i all }
settled opened (Sync false ∷ before) all none = absurd all

module _ (opened : List ℕ) (calls : List Call) (bytes : List ℕ) (is : IsSettled opened calls bytes) where
  -- one sync more
  pub settled_sync : IsSettled opened (Sync true ∷ calls) bytes
  settled_sync = record { reads = is.reads; end = ap (λ (s : List ℕ). length s) is.reads; far = is.far; untouched = λ i. refl; sure = is.sure }

  -- a write, and a sync
  pub settled_write : (at : ℕ) (new : List ℕ) → IsSettled opened (Sync true ∷ Write at new true ∷ calls) (written bytes at new)
  settled_write at new = record {
    reads = ap (λ (s : List ℕ). written s at new) is.reads;
    end = ap (λ (s : List ℕ). length (written s at new)) is.reads;
    far = ap (λ (n : ℕ). max n (range_end at (length new))) is.far ∙ sym (length-written bytes at new);
    untouched = λ i. refl;
    sure = λ i. if_same (covers at (length new) i) (is_sure calls i) (is.sure i);
  }

  -- a crash leaves the bytes
  pub left_same : (image : List ℕ) → MayLeave opened calls image → image ≡ bytes
  left_same image left =
      ext_get_or 0 image bytes (omega (arith, left.no_shorter, left.no_longer, is.end, is.far))
      (λ i below. left.kept i (omega (arith, below, left.no_longer, is.end, is.far)) (is.untouched i) (is.sure i) ∙ ap (λ (s : List ℕ). byte_at s i) is.reads)

  -- and after a sync that failed too
  pub left_unsynced : (image : List ℕ) → MayLeave opened (Sync false ∷ calls) image → image ≡ bytes
  left_unsynced image left = left_same image (record { no_shorter = left.no_shorter; no_longer = left.no_longer; kept = left.kept })

  -- after a write, succeeded or failed, the bytes torn in its range
  pub left_torn : (at : ℕ) (new : List ℕ) (done : Bool) (image : List ℕ) → MayLeave opened (Write at new done ∷ calls) image → Torn at (length new) bytes image
  left_torn at new done image left = record {
    no_shorter = omega (arith, left.no_shorter, is.end);
    no_longer = subst (λ (n : ℕ). length image ≤ max n (range_end at (length new))) is.far left.no_longer;
    outside = λ i below out.
        left.kept i (omega (arith, below, is.end)) (ap (λ (c : Bool). not c && is_untouched calls i) out ∙ is.untouched i) (sure_out at new done calls i out ∙ is.sure i)
        ∙ reads_out opened at new done calls i out ∙ ap (λ (s : List ℕ). byte_at s i) is.reads;
  }

  -- the same where a sync after it failed
  pub left_torn_unsynced : (at : ℕ) (new : List ℕ) (done : Bool) (image : List ℕ) → MayLeave opened (Sync false ∷ Write at new done ∷ calls) image → Torn at (length new) bytes image
  left_torn_unsynced at new done image left = left_torn at new done image (record { no_shorter = left.no_shorter; no_longer = left.no_longer; kept = left.kept })
