-- No image is shorter than the opened bytes, and each reaches beyond each flushed record: whatever a device is opened with, what was flushed shows alike.
use Rattle.std.proofs.Common.{◌≡◌, ℕ, zero, suc, ◌+◌, ◌<◌, ◌≤◌, ◌∙◌, inl, inr, refl, sym, ap, arith, Bool, true, false, List, [], ◌∷◌, length}
use Rattle.std.specs.Prelude.{◌==◌, if◌then◌else◌}
use Rattle.std.proofs.lemmas.Bool.{cases_lt}
use Rattle.std.proofs.lemmas.Bool.Decides.{nat_tests}
use Rattle.fkv_base.specs.declared.shapes.Shape.{Shape}
use Rattle.fkv_disk.specs.Bytes.{byte_at, bytes_at, covers, listed, range_end}
use Rattle.fkv_disk.specs.Calls.{Call, MayLeave, ReadsAs, Sync, Write, far_end, reads_as, synced_end}
use Rattle.fkv_disk.proofs.Shown.{after_range, before_range, byte_at-bytes_at, byte_at-listed, byte_at_past, length-listed, length-written, reads_out, reads_within}
use Rattle.law_commit.specs.Below.fkv_flush.GuardFlushed.{IsSynced}
use Rattle.fkv_plane.specs.declared.places.RecordWord.{RecordWord}
use Rattle.fkv_record.specs.Places.{record_place}

-- ---- the end never falls
reads_longer : (opened : List ℕ) (calls : List Call) → length opened ≤ length (reads_as opened calls)
reads_longer opened [] = omega arith
reads_longer opened (Write at bytes true ∷ before) = let was = reads_longer opened before in let is = length-written (reads_as opened before) at bytes in omega (arith, was, is)
reads_longer opened (Write at bytes false ∷ before) = reads_longer opened before
reads_longer opened (Sync done ∷ before) = reads_longer opened before

pub synced_longer : (opened : List ℕ) (calls : List Call) → length opened ≤ synced_end opened calls
synced_longer opened [] = omega arith
synced_longer opened (Write at bytes done ∷ before) = synced_longer opened before
synced_longer opened (Sync true ∷ before) = reads_longer opened before
synced_longer opened (Sync false ∷ before) = synced_longer opened before

-- ---- past all that was written a device reads as it was opened
out_of : (at i : ℕ) (bytes : List ℕ) → range_end at (length bytes) ≤ i → covers at (length bytes) i ≡ false
out_of at i bytes past = by_length (length bytes) past
  where
    by_length : (n : ℕ) → range_end at n ≤ i → covers at n i ≡ false
    by_length zero past = elim (cases_lt i at) [
      | inl low ↦ before_range at zero i low
      | inr high ↦ after_range at zero i (omega (arith, high))
    ]
    by_length (suc n) past = after_range at (suc n) i past

unwritten : (opened other : List ℕ) (calls : List Call) (i : ℕ) → far_end opened calls ≤ i → byte_at (reads_as other calls) i ≡ byte_at other i
unwritten opened other [] i past = refl
unwritten opened other (Write at bytes true ∷ before) i past =
    reads_out other at bytes true before i (out_of at i bytes (omega (arith, past))) ∙ unwritten opened other before i (omega (arith, past))
unwritten opened other (Write at bytes false ∷ before) i past = unwritten opened other before i (omega (arith, past))
unwritten opened other (Sync done ∷ before) i past = unwritten opened other before i past

reads_itself : (opened : List ℕ) (calls : List Call) → ReadsAs opened calls (reads_as opened calls)
reads_itself opened calls = record { no_shorter = omega arith; no_longer = reads_within opened calls; last_written = λ i sure. refl }

-- ---- a byte in the range of a flushed record
-- bytes that end behind this one, which is 1
abbrev marked : List ℕ → ℕ → List ℕ
marked bytes i = listed (suc i) (λ k. if k == i then 1 else byte_at bytes k)

marked_there : (bytes : List ℕ) (i : ℕ) → byte_at (marked bytes i) i ≡ 1
marked_there bytes i =
    byte_at-listed (suc i) (λ k. if k == i then 1 else byte_at bytes k) i (omega arith)
    ∙ ap (λ (c : Bool). if c then 1 else byte_at bytes i) (let own : (i == i) ≡ true = grind (arith, nat_tests) in own)

marked_below : (bytes : List ℕ) (i k : ℕ) → k < i → byte_at (marked bytes i) k ≡ byte_at bytes k
marked_below bytes i k low =
    byte_at-listed (suc i) (λ k. if k == i then 1 else byte_at bytes k) k (omega (arith, low))
    ∙ ap (λ (c : Bool). if c then 1 else byte_at bytes k) (let other : (k == i) ≡ false = grind (arith, nat_tests, low) in other)

marked_left : (opened : List ℕ) (calls : List Call) (image : List ℕ) (i : ℕ) → MayLeave opened calls image → length image ≤ i → i < far_end opened calls → MayLeave opened calls (marked image i)
marked_left opened calls image i left short far =
    let size : length (marked image i) ≡ suc i = length-listed (suc i) (λ k. if k == i then 1 else byte_at image k) in
    let least = left.no_shorter in
    record {
      no_shorter = omega (arith, size, least, short);
      no_longer = omega (arith, size, far);
      kept = λ k below untouched sure. marked_below image i k (omega (arith, below, least, short)) ∙ left.kept k below untouched sure;
    }

module _ (shape : Shape) (words : ℕ → RecordWord → ℕ) (start flushed : ℕ) (calls : List Call) (synced : (opened : List ℕ) → IsSynced shape opened calls words start flushed) (a : ℕ) (from : start ≤ a) (to : a < flushed) where
  abbrev place : ℕ
  place = record_place shape a

  last_byte : (bytes : List ℕ) → byte_at (bytes_at bytes place 24) 23 ≡ byte_at bytes (place + 23)
  last_byte bytes = byte_at-bytes_at bytes place 24 23 (omega arith)

  -- two such devices, and what crashes leave of them, have the same last byte of the record
  read_same : (one other : List ℕ) → byte_at (reads_as one calls) (place + 23) ≡ byte_at (reads_as other calls) (place + 23)
  read_same one other =
      let here = (synced one).records (reads_as one calls) (inl (reads_itself one calls)) a from to in
      let there = (synced other).records (reads_as other calls) (inl (reads_itself other calls)) a from to in
      sym (last_byte (reads_as one calls)) ∙ ap (λ (x : List ℕ). byte_at x 23) (here ∙ sym there) ∙ last_byte (reads_as other calls)

  left_same : (opened image other : List ℕ) → MayLeave opened calls image → MayLeave opened calls other → byte_at image (place + 23) ≡ byte_at other (place + 23)
  left_same opened image other left is_left =
      let here = (synced opened).records image (inr left) a from to in
      let there = (synced opened).records other (inr is_left) a from to in
      sym (last_byte image) ∙ ap (λ (x : List ℕ). byte_at x 23) (here ∙ sym there) ∙ last_byte other

  far : (opened : List ℕ) → place + 23 < far_end opened calls
  far opened = elim (cases_lt (place + 23) (far_end opened calls)) [
    | inl low ↦ low
    | inr past ↦
        let one : byte_at (reads_as (marked [] (place + 23)) calls) (place + 23) ≡ 1 = unwritten opened (marked [] (place + 23)) calls (place + 23) past ∙ marked_there [] (place + 23) in
        let none : byte_at (reads_as [] calls) (place + 23) ≡ 0 = unwritten opened [] calls (place + 23) past ∙ byte_at_past [] (place + 23) (omega arith) in
        let same = read_same (marked [] (place + 23)) [] in
        absurd (omega (arith, one, none, same))
  ]

  pub reaches : (opened image : List ℕ) → MayLeave opened calls image → record_place shape a + 24 ≤ length image
  reaches opened image left = elim (cases_lt (place + 23) (length image)) [
    | inl low ↦ omega (arith, low)
    | inr short ↦
        let one = marked_there image (place + 23) in
        let none = byte_at_past image (place + 23) short in
        let same = left_same opened image (marked image (place + 23)) left (marked_left opened calls image (place + 23) left short (far opened)) in
        absurd (omega (arith, one, none, same))
  ]
