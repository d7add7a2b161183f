-- Bytes and records that a device reads as, and that every image has which a crash may leave of it.
use Rattle.std.proofs.Common.{◌≡◌, ◌⊎◌, inl, inr, ℕ, zero, suc, ◌+◌, ◌-◌, ◌*◌, ◌<◌, ◌≤◌, Bool, true, false, not, ◌&&◌, List, [], ◌∷◌, ◌++◌, length, refl, sym, ap, ◌∙◌, arith, length-append}
use Rattle.std.specs.Prelude.{nat_le, ⊤}
use Rattle.std.specs.Int.{w64, to_le_bytes}
use Rattle.std.proofs.lemmas.Bool.{cases_lt}
use Rattle.std.proofs.lemmas.Bool.Decides.{nat_tests}
use Rattle.std.proofs.lemmas.Grind.{flat_map-append}
use Rattle.std.proofs.lemmas.List.{get_or_append_left, get_or-append_right}
use Rattle.fkv_base.specs.declared.shapes.Shape.{Shape}
use Rattle.fkv_record.specs.Numbers.{spelled}
use Rattle.fkv_record.specs.Places as image
use Rattle.fkv_record.proofs.Shown.{length-spelled}
use Rattle.fkv_disk.specs.Bytes.{byte_at, covers, range_end}
use Rattle.fkv_disk.specs.Calls.{Call, Write, Sync, reads_as, is_sure, is_untouched, synced_end}
use Rattle.fkv_disk.proofs.Shown.{is_listed, length-written, byte_at-written_in, in_range, before_range, after_range, range_end_is, sure_in, sure_out, reads_out}
use Rattle.fkv_plane.specs.declared.places.RecordWord.{RecordWord}
use Rattle.fkv_plane.specs.declared.places.RecordWord.TheVariants as rec
use Rattle.fkv_flush.specs.declared.flushing.Part.{Part}
use Rattle.fkv_flush.specs.declared.flushing.Flushing.{Flushing}
use Rattle.fkv_flush.specs.declared.flushing.Flushing.TheVariants.{AtRest, LoadsFlushed, LoadsEnd, LoadsWord, WritesPart, Syncs, RaisesFlushed}
use Rattle.fkv_flush.specs.Flushing.{IsFlushInRange}
use Rattle.fkv_flush.specs.InHand.{words_from, words_before, HasLoaded}
use Rattle.fkv_flush.specs.GuardFlushed.{MayShow, ShowsRecord, spares_log}

-- the newest write over this offset succeeded, and put this byte there
pub record IsRead (opened : List ℕ) (calls : List Call) (i b : ℕ) : Type 0 where
  pub sure : is_sure calls i ≡ true
  pub byte : byte_at (reads_as opened calls) i ≡ b
  pub below : i < length (reads_as opened calls)

-- and it was synced since
pub record IsKept (opened : List ℕ) (calls : List Call) (i b : ℕ) : Type 0 where
  pub read : IsRead opened calls i b
  pub untouched : is_untouched calls i ≡ true
  pub synced : i < synced_end opened calls

-- a call that writes nothing over this offset
abbrev pub Misses : Call → ℕ → Type 0
Misses (Write at bytes done) i = covers at (length bytes) i ≡ false
Misses (Sync done) i = ⊤

-- a call that misses an offset leaves it as it is read
pub read_on : (opened : List ℕ) (calls : List Call) (call : Call) (i b : ℕ) → Misses call i → IsRead opened calls i b → IsRead opened (call ∷ calls) i b
read_on opened calls (Write at bytes true) i b misses is = record {
  sure = sure_out at bytes true calls i misses ∙ is.sure;
  byte = reads_out opened at bytes true calls i misses ∙ is.byte;
  below = omega (arith, is.below, length-written (reads_as opened calls) at bytes);
}
read_on opened calls (Write at bytes false) i b misses is = record { sure = sure_out at bytes false calls i misses ∙ is.sure; byte = is.byte; below = is.below }
read_on opened calls (Sync done) i b misses is = record { sure = is.sure; byte = is.byte; below = is.below }

-- and what was synced there stays so
pub kept_on : (opened : List ℕ) (calls : List Call) (call : Call) (i b : ℕ) → Misses call i → IsKept opened calls i b → IsKept opened (call ∷ calls) i b
kept_on opened calls (Write at bytes done) i b misses is = record {
  read = read_on opened calls (Write at bytes done) i b misses is.read;
  untouched = ap (λ (c : Bool). not c && is_untouched calls i) misses ∙ is.untouched;
  synced = is.synced;
}
kept_on opened calls (Sync true) i b misses is = record { read = read_on opened calls (Sync true) i b misses is.read; untouched = refl; synced = is.read.below }
kept_on opened calls (Sync false) i b misses is = record { read = read_on opened calls (Sync false) i b misses is.read; untouched = is.untouched; synced = is.synced }

-- a sync that succeeds keeps what is read
pub read_synced : (opened : List ℕ) (calls : List Call) (i b : ℕ) → IsRead opened calls i b → IsKept opened (Sync true ∷ calls) i b
read_synced opened calls i b is = record { read = read_on opened calls (Sync true) i b tt is; untouched = refl; synced = is.below }

-- before any call, what the device was opened with is kept
pub opened_kept : (opened : List ℕ) (i : ℕ) → i < length opened → IsKept opened [] i (byte_at opened i)
opened_kept opened i below = record { read = record { sure = refl; byte = refl; below = below }; untouched = refl; synced = below }

-- the device shows what is kept, and so does whatever a crash leaves of it
pub kept_shown : (opened : List ℕ) (calls : List Call) (i b : ℕ) (bytes : List ℕ) → IsKept opened calls i b → MayShow opened calls bytes → byte_at bytes i ≡ b
kept_shown opened calls i b bytes is (inl reads) = reads.last_written i is.read.sure ∙ is.read.byte
kept_shown opened calls i b bytes is (inr leaves) = leaves.kept i is.synced is.untouched is.read.sure ∙ is.read.byte

-- each record takes three words
pub words_from_length : (words : ℕ → RecordWord → ℕ) (from n : ℕ) → length (words_from words from n) ≡ 3 * n
words_from_length words from zero = refl
words_from_length words from (suc n) =
    let before = words_from_length words from n in
    let both = length-append (words_from words from n) (words (from + n) rec.Header ∷ words (from + n) rec.Key ∷ words (from + n) rec.Value ∷ []) in
    omega (arith, before, both)

-- the words of the record at an address, and their bytes
abbrev pub record_words : (ℕ → RecordWord → ℕ) → ℕ → List ℕ
record_words words addr = words addr rec.Header ∷ words addr rec.Key ∷ words addr rec.Value ∷ []

abbrev pub record_bytes : (ℕ → RecordWord → ℕ) → ℕ → List ℕ
record_bytes words addr = spelled (record_words words addr)

-- the device reads as the record at its place
abbrev pub RecordRead : Shape → List ℕ → List Call → (ℕ → RecordWord → ℕ) → ℕ → Type 0
RecordRead shape opened calls words addr = (k : ℕ) → k < 24 → IsRead opened calls (image.record_place shape addr + k) (byte_at (record_bytes words addr) k)

-- and it was synced since
abbrev pub RecordKept : Shape → List ℕ → List Call → (ℕ → RecordWord → ℕ) → ℕ → Type 0
RecordKept shape opened calls words addr = (k : ℕ) → k < 24 → IsKept opened calls (image.record_place shape addr + k) (byte_at (record_bytes words addr) k)

-- a record that is kept is shown
pub record_shown : (shape : Shape) (opened : List ℕ) (calls : List Call) (words : ℕ → RecordWord → ℕ) (addr : ℕ) (bytes : List ℕ)
    → RecordKept shape opened calls words addr → MayShow opened calls bytes → ShowsRecord shape words addr bytes
record_shown shape opened calls words addr bytes kept shows =
    sym (is_listed (record_bytes words addr) 24 (λ k. byte_at bytes (image.record_place shape addr + k))
    (length-spelled (record_words words addr))
    (λ k below. sym (kept_shown opened calls (image.record_place shape addr + k) (byte_at (record_bytes words addr) k) bytes (kept k below) shows)))

-- the bytes of a record among those of a part
pub record_in_part : (words : ℕ → RecordWord → ℕ) (from n j k : ℕ) → j < n → k < 24
    → byte_at (spelled (words_from words from n)) (24 * j + k) ≡ byte_at (record_bytes words (from + j)) k
record_in_part words from zero j k below small = absurd (omega (arith, below))
record_in_part words from (suc n) j k below small = by_place (λ before. record_in_part words from n j k before small) (cases_lt j n)
  where
    parted : spelled (words_from words from (suc n)) ≡ spelled (words_from words from n) ++ record_bytes words (from + n)
    parted = flat_map-append (to_le_bytes w64) (words_from words from n) (record_words words (from + n))

    size : length (spelled (words_from words from n)) ≡ 24 * n
    size = let words_size = words_from_length words from n in let bytes_size = length-spelled (words_from words from n) in omega (arith, words_size, bytes_size)

    by_place : (j < n → byte_at (spelled (words_from words from n)) (24 * j + k) ≡ byte_at (record_bytes words (from + j)) k) → (j < n) ⊎ (n ≤ j)
        → byte_at (spelled (words_from words from (suc n))) (24 * j + k) ≡ byte_at (record_bytes words (from + j)) k
    by_place earlier (inl before) =
        ap (λ (bytes : List ℕ). byte_at bytes (24 * j + k)) parted
        ∙ get_or_append_left (spelled (words_from words from n)) (record_bytes words (from + n)) 0 (24 * j + k) (omega (arith, size, before, small))
        ∙ earlier before
    by_place earlier (inr after) =
        let here : n ≡ j = omega (arith, below, after) in
        let rest : (24 * j + k) - 24 * n ≡ k = omega (arith, here) in
        ap (λ (bytes : List ℕ). byte_at bytes (24 * j + k)) parted
        ∙ get_or-append_right (spelled (words_from words from n)) (record_bytes words (from + n)) (24 * n) (24 * j + k) 0 size (omega (arith, here))
        ∙ ap (λ (at : ℕ). byte_at (record_bytes words (from + n)) at) rest
        ∙ ap (λ (at : ℕ). byte_at (record_bytes words (from + at)) k) here

module _ (shape : Shape) (opened : List ℕ) (calls : List Call) (words : ℕ → RecordWord → ℕ) (from n : ℕ) (bytes : List ℕ) (addr : ℕ) where
  abbrev start : ℕ
  start = image.record_place shape from

  abbrev place : ℕ
  place = image.record_place shape addr

  -- the records of a part, once they are written
  pub part_read : bytes ≡ spelled (words_from words from n) → from ≤ addr → addr < from + n → RecordRead shape opened (Write (image.record_place shape from) bytes true ∷ calls) words addr
  part_read is above below k small = record {
    sure = sure_in start bytes true calls (place + k) inside;
    byte = byte_at-written_in (reads_as opened calls) start bytes (place + k) inside
        ∙ ap (λ (at : ℕ). byte_at bytes at) along
        ∙ ap (λ (those : List ℕ). byte_at those (24 * (addr - from) + k)) is
        ∙ record_in_part words from n (addr - from) k (omega (arith, above, below)) small
        ∙ ap (λ (at : ℕ). byte_at (record_bytes words at) k) here;
    below = omega (arith, end, total, length-written (reads_as opened calls) start bytes, after_start, above, below, small);
  }
    where
      here : from + (addr - from) ≡ addr
      here = omega (arith, above)

      after_start : place + k ≡ start + (24 * (addr - from) + k)
      after_start = omega (arith, above)

      along : (place + k) - start ≡ 24 * (addr - from) + k
      along = omega (arith, after_start)

      total : length bytes ≡ 24 * n
      total = let size = ap (λ (those : List ℕ). length those) is in let words_size = words_from_length words from n in let bytes_size = length-spelled (words_from words from n) in omega (arith, size, words_size, bytes_size)

      inside : covers start (length bytes) (place + k) ≡ true
      inside = in_range start (length bytes) (place + k) (omega (arith, after_start)) (omega (arith, after_start, total, above, below, small))

      end : range_end start (length bytes) ≡ start + length bytes
      end = range_end_is start (length bytes) (omega (arith, total, above, below))

-- a write of n records misses the bytes of all others
pub part_misses : (shape : Shape) (from n : ℕ) (bytes : List ℕ) (done : Bool) (addr k : ℕ)
    → length bytes ≡ 24 * n → (addr < from) ⊎ (from + n ≤ addr) → k < 24 → Misses (Write (image.record_place shape from) bytes done) (image.record_place shape addr + k)
part_misses shape from n bytes done addr k total (inl before) small =
    before_range (image.record_place shape from) (length bytes) (image.record_place shape addr + k) (omega (arith, before, small))
part_misses shape from n bytes done addr k total (inr after) small =
    after_range (image.record_place shape from) (length bytes) (image.record_place shape addr + k) (omega (arith, total, after))

-- and each offset below its first record
pub part_misses_below : (shape : Shape) (from : ℕ) (bytes : List ℕ) (done : Bool) (i : ℕ)
    → i < image.record_place shape from → Misses (Write (image.record_place shape from) bytes done) i
part_misses_below shape from bytes done i below = before_range (image.record_place shape from) (length bytes) i below

-- an offset past the end of a range is not in it
pub past_range_end : (at n i : ℕ) → range_end at n ≤ i → covers at n i ≡ false
past_range_end at zero i past = grind (arith, nat_tests)
past_range_end at (suc n) i past = after_range at (suc n) i past

-- a call that spares the log misses every offset of it
pub log_missed : (shape : Shape) (call : Call) (i : ℕ) → spares_log shape call ≡ true → image.record_place shape 0 ≤ i → Misses call i
log_missed shape (Write at bytes done) i spares above = past_range_end at (length bytes) i (ends_below (range_end at (length bytes)) (image.record_place shape 0) spares above)
  where
    ends_below : (end start : ℕ) → nat_le end start ≡ true → start ≤ i → end ≤ i
    ends_below end start le from = grind (arith, nat_tests, le, from)
log_missed shape (Sync done) i spares above = tt

-- the bytes of records depend on nothing but the words of these records
pub words_alike : (words words' : ℕ → RecordWord → ℕ) (from n : ℕ) → ((addr : ℕ) (word : RecordWord) → from ≤ addr → addr < from + n → words' addr word ≡ words addr word)
    → words_from words' from n ≡ words_from words from n
words_alike words words' from zero same = refl
words_alike words words' from (suc n) same =
    let before = words_alike words words' from n (λ addr word above below. same addr word above (omega (arith, below))) in
    let header = same (from + n) rec.Header (omega arith) (omega arith) in
    let key = same (from + n) rec.Key (omega arith) (omega arith) in
    let value = same (from + n) rec.Value (omega arith) (omega arith) in
    cc

-- so do those of one record before a word
before_alike : (words words' : ℕ → RecordWord → ℕ) (addr : ℕ) (this : RecordWord) → ((word : RecordWord) → words' addr word ≡ words addr word)
    → words_before words' addr this ≡ words_before words addr this
before_alike words words' addr rec.Header same = refl
before_alike words words' addr rec.Key same = ap (λ (n : ℕ). n ∷ []) (same rec.Header)
before_alike words words' addr rec.Value same = let header = same rec.Header in let key = same rec.Key in cc

-- the part that a flush loads or writes
abbrev pub PartOf : Flushing → Part → Type 0
PartOf (LoadsWord part addr word) this = this ≡ part
PartOf (WritesPart part) this = this ≡ part
PartOf step this = ⊥

-- what a flush has in hand depends on nothing but the words of the records of its part
pub loaded_alike : (page : ℕ) (words words' : ℕ → RecordWord → ℕ) (step : Flushing) (bytes : List ℕ) → IsFlushInRange page (length bytes) step
    → ((part : Part) → PartOf step part → (addr : ℕ) (word : RecordWord) → part.from ≤ addr → addr < part.stop → words' addr word ≡ words addr word)
    → HasLoaded words step bytes → HasLoaded words' step bytes
loaded_alike page words words' AtRest bytes fits same is = tt
loaded_alike page words words' LoadsFlushed bytes fits same is = is
loaded_alike page words words' (LoadsEnd flushed) bytes fits same is = is
loaded_alike page words words' (LoadsWord part addr this) bytes fits same is =
    let whole = words_alike words words' part.from (addr - part.from) (λ at word above below. same part refl at word above (omega (arith, below, fits.after, fits.before))) in
    let begun = before_alike words words' addr this (λ word. same part refl addr word fits.after fits.before) in
    is ∙ ap spelled (sym (ap (λ (those : List ℕ). those ++ words_before words' addr this) whole ∙ ap (λ (those : List ℕ). words_from words part.from (addr - part.from) ++ those) begun))
loaded_alike page words words' (WritesPart part) bytes fits same is =
    is ∙ ap spelled (sym (words_alike words words' part.from (part.stop - part.from) (λ at word above below. same part refl at word above (omega (arith, below, fits.some_records)))))
loaded_alike page words words' (Syncs end) bytes fits same is = tt
loaded_alike page words words' (RaisesFlushed end) bytes fits same is = tt
