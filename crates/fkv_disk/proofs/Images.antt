-- What the crates above need of the images that a crash may leave, and of what a device reads as.
use Rattle.std.proofs.Common.{◌≡◌, ◌⊎◌, inl, inr, ℕ, ◌+◌, ◌<◌, ◌≤◌, max, List, [], ◌∷◌, length, Bool, true, false, not, ◌&&◌, refl, sym, ◌∙◌, ap, arith}
use Rattle.std.specs.Prelude.{if◌then◌else◌}
use Rattle.std.proofs.lemmas.List.{ext_get_or}
use Rattle.fkv_disk.specs.Bytes.{byte_at, bytes_at, covers, range_end, written}
use Rattle.fkv_disk.specs.Calls.{Call, Write, Sync, reads_as, is_sure, is_untouched, synced_end, far_end, AllDone, ReadsAs, MayLeave}
use Rattle.fkv_disk.specs.Stays.{length-written}
use Rattle.fkv_disk.proofs.BytesLemmas.{bytes_at_same, bytes_at-written, before_range, after_range, in_range, range_end_is}
use Rattle.fkv_disk.proofs.Left.{sure_in, sure_out}

-- where each call succeeded each byte is sure, and the end is known
pub sure_if_done : (calls : List Call) (i : ℕ) → AllDone calls → is_sure calls i ≡ true
sure_if_done [] i all = refl
sure_if_done (Write at bytes true ∷ before) i all = either_way (covers at (length bytes) i) (sure_if_done before i all)
  where
    either_way : (b : Bool) → is_sure before i ≡ true → (if b then true else is_sure before i) ≡ true
    either_way true sure = refl
    either_way false sure = sure
sure_if_done (Write at bytes false ∷ before) i all = absurd all
sure_if_done (Sync true ∷ before) i all = sure_if_done before i all
sure_if_done (Sync false ∷ before) i all = absurd all

pub end_if_done : (opening : List ℕ) (calls : List Call) → AllDone calls → far_end opening calls ≡ length (reads_as opening calls)
end_if_done opening [] all = refl
end_if_done opening (Write at bytes true ∷ before) all = ap (λ (n : ℕ). max n (range_end at (length bytes))) (end_if_done opening before all) ∙ sym (length-written (reads_as opening before) at bytes)
end_if_done opening (Write at bytes false ∷ before) all = absurd all
end_if_done opening (Sync true ∷ before) all = end_if_done opening before all
end_if_done opening (Sync false ∷ before) all = absurd all

-- a device whose calls all succeeded reads as they make it
pub reads_all : (opening : List ℕ) (calls : List Call) (seen : List ℕ) → AllDone calls → ReadsAs opening calls seen → seen ≡ reads_as opening calls
reads_all opening calls seen all reads =
    let end = end_if_done opening calls all in
    ext_get_or 0 seen (reads_as opening calls) (omega (arith, reads.no_shorter, reads.no_longer, end)) (λ i below. reads.last_written i (sure_if_done calls i all))

-- after a sync, where all calls succeeded, a crash leaves what is read
pub synced_image : (opening : List ℕ) (calls : List Call) (image : List ℕ) → AllDone calls → MayLeave opening (Sync true ∷ calls) image → image ≡ reads_as opening calls
synced_image opening calls image all left =
    let end = end_if_done opening calls all in
    ext_get_or 0 image (reads_as opening calls) (omega (arith, left.no_shorter, left.no_longer, end)) (λ i below. left.kept i (omega (arith, below, left.no_longer, end)) refl (sure_if_done calls i all))

-- before the first call a crash leaves the opening bytes
pub opened_image : (opening image : List ℕ) → MayLeave opening [] image → image ≡ opening
opened_image opening image left = ext_get_or 0 image opening (omega (arith, left.no_shorter, left.no_longer)) (λ i below. left.kept i (omega (arith, below, left.no_longer)) refl refl)

-- A range that lies below the synced end, and where nothing was written since the sync nor has failed before it, stands in each image.
pub kept_range : (opening : List ℕ) (calls : List Call) (image : List ℕ) (at n : ℕ) → MayLeave opening calls image → at + n ≤ synced_end opening calls → ((i : ℕ) → at ≤ i → i < at + n → (is_untouched calls i ≡ true) × (is_sure calls i ≡ true)) → bytes_at image at n ≡ bytes_at (reads_as opening calls) at n
kept_range opening calls image at n left below quiet = bytes_at_same image (reads_as opening calls) at n (λ i above under. left.kept i (omega (arith, below, under)) (quiet i above under).0 (quiet i above under).1)

-- What was written and then synced stands in each image, whatever failed before.
pub written_and_synced : (opening : List ℕ) (calls : List Call) (at : ℕ) (bytes image : List ℕ) → MayLeave opening (Sync true ∷ Write at bytes true ∷ calls) image → bytes_at image at (length bytes) ≡ bytes
written_and_synced opening calls at [] image left = bytes_at_same image (written (reads_as opening calls) at []) at 0 (λ i above under. absurd (omega arith)) ∙ bytes_at-written (reads_as opening calls) at []
written_and_synced opening calls at (b ∷ rest) image left =
    let bytes = b ∷ rest in
    let now = Write at bytes true ∷ calls in
    let end : range_end at (length bytes) ≡ at + length bytes = range_end_is at (length bytes) (omega arith) in
    kept_range opening (Sync true ∷ now) image at (length bytes) left (omega (arith, end, length-written (reads_as opening calls) at bytes))
    (λ i above under. (refl, sure_in at bytes true calls i (in_range at (length bytes) i above under)))
    ∙ bytes_at-written (reads_as opening calls) at bytes

-- Writes that leave an offset out change nothing of what is known of it.
pub untouched_by : (at : ℕ) (bytes : List ℕ) (done : Bool) (calls : List Call) (i : ℕ) → (i < at) ⊎ (at + length bytes ≤ i) → (is_untouched (Write at bytes done ∷ calls) i ≡ is_untouched calls i) × (is_sure (Write at bytes done ∷ calls) i ≡ is_sure calls i)
untouched_by at bytes done calls i (inl before) = let out = before_range at (length bytes) i before in (ap (λ (b : Bool). not b && is_untouched calls i) out, sure_out at bytes done calls i out)
untouched_by at bytes done calls i (inr after) = let out = after_range at (length bytes) i after in (ap (λ (b : Bool). not b && is_untouched calls i) out, sure_out at bytes done calls i out)

-- In the range of a write not yet synced, and past the old end, a crash may leave anything.
pub anything_in_range : (opening : List ℕ) (at : ℕ) (bytes : List ℕ) (done : Bool) (calls : List Call) (image other : List ℕ) → MayLeave opening (Write at bytes done ∷ calls) image → length other ≡ length image → ((i : ℕ) → covers at (length bytes) i ≡ false → byte_at other i ≡ byte_at image i) → MayLeave opening (Write at bytes done ∷ calls) other
anything_in_range opening at bytes done calls image other left size same = record {
  no_shorter = omega (arith, size, left.no_shorter);
  no_longer = omega (arith, size, left.no_longer);
  kept = λ i below u s. by_cover i below u s (bool_is (covers at (length bytes) i));
}
  where
    bool_is : (b : Bool) → (b ≡ true) ⊎ (b ≡ false)
    bool_is true = inl refl
    bool_is false = inr refl

    by_cover : (i : ℕ) → i < synced_end opening calls → is_untouched (Write at bytes done ∷ calls) i ≡ true → is_sure (Write at bytes done ∷ calls) i ≡ true → (covers at (length bytes) i ≡ true) ⊎ (covers at (length bytes) i ≡ false) → byte_at other i ≡ byte_at (reads_as opening (Write at bytes done ∷ calls)) i
    by_cover i below u s (inl in_it) = let off : false ≡ true = sym (ap (λ (b : Bool). not b && is_untouched calls i) in_it) ∙ u in absurd (cc)
    by_cover i below u s (inr out_it) = same i out_it ∙ left.kept i below u s
