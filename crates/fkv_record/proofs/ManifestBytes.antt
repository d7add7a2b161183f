-- What is read of the numbers of a manifest slot is read of their bytes.
use Rattle.std.proofs.Common.{◌≡◌, ℕ, ◌-◌, ◌^◌, ◌<◌, List, [], ◌∷◌, ◌++◌, length, replicate, Bool, true, false, Option, Some, None, refl, sym, ap, ◌∙◌, arith}
use Rattle.std.specs.Prelude.{if◌then◌else◌, IsSome}
use Rattle.fkv_words.specs.Fields.{Reads}
use Rattle.fkv_record.specs.declared.formats.Format.{Format}
use Rattle.fkv_record.specs.declared.formats.Format.TheVariants.{First, Second, Third, Fourth}
use Rattle.fkv_record.specs.declared.manifest_slots.ManifestSlot.{ManifestSlot}
use Rattle.fkv_record.specs.declared.slots.Slot.{Slot}
use Rattle.fkv_record.specs.Layout.{first_layout, point_numbers, slot_bytes}
use Rattle.fkv_record.specs.FirstFormat.{SaysSame}
use Rattle.fkv_record.specs.Formats.{format_number, point_places}
use Rattle.fkv_record.specs.Manifest.{is_held, layout, range_numbers, named_checkpoint, named_begin, manifest_numbers, manifest_bytes, SpelledOnce, front_numbers, first_numbers, newest_bytes, newest_format, newest_numbers, said_in}
use Rattle.fkv_record.specs.Numbers.{spelled, padded}
use Rattle.fkv_record.specs.Points.{serial_numbers}
use Rattle.fkv_record.proofs.ManifestSections.{sections, sectioned, length-layout, tail_numbers, newest_held, newest_whole, third_format}
use Rattle.fkv_record.proofs.ManifestApart.{there, numbers_held, held_numbers, telling, read_some}
use Rattle.fkv_record.proofs.PointApart.{serial_words, zero_words}
use Rattle.fkv_record.proofs.RangePlaces.{range_words}
use Rattle.fkv_record.proofs.Spelling.{AreWords, spelled_apart, words_append}

padded_words : (n : ℕ) (xs : List ℕ) → AreWords xs → AreWords (padded n xs)
padded_words n xs fit = words_append xs (replicate (n - length xs) 0) fit (zero_words (n - length xs))

named_fits : (f : Format) (x : ManifestSlot) → named_checkpoint f x < 2 ^ 64
named_fits First x = omega arith
named_fits Second x = x.checkpoint_fits
named_fits Third x = x.checkpoint_fits
named_fits Fourth x = x.checkpoint_fits

begin_fits : (f : Format) (x : ManifestSlot) → named_begin f x < 2 ^ 64
begin_fits First x = omega arith
begin_fits Second x = omega arith
begin_fits Third x = omega arith
begin_fits Fourth x = x.begin_fits

format_fits : (f : Format) → format_number f < 2 ^ 64
format_fits First = omega arith
format_fits Second = omega arith
format_fits Third = omega arith
format_fits Fourth = omega arith

tail_words : (f : Format) (x : ManifestSlot) → AreWords (tail_numbers f x)
tail_words f x =
    let few = x.lost.few_ranges in
    let ranges = padded_words (48 - point_places f) (range_numbers x.lost.ranges.items) (range_words x.lost.ranges.items) in
    let end : AreWords (named_begin f x ∷ (replicate 5 0 ++ format_number f ∷ [])) = (begin_fits f x, words_append (replicate 5 0) (format_number f ∷ []) (zero_words 5) (format_fits f, tt)) in
    (named_fits f x, (omega (arith, few), words_append (padded (48 - point_places f) (range_numbers x.lost.ranges.items)) (named_begin f x ∷ 0 ∷ 0 ∷ 0 ∷ 0 ∷ 0 ∷ format_number f ∷ []) ranges end))

section_words : (f : Format) (x : ManifestSlot) → AreWords (sections f x)
section_words f x =
    let few = x.points.few_sessions in
    let points = padded_words (point_places f) (serial_numbers x.points.serials.items) (serial_words x.points.serials.items x.points.serials_fit) in (
      omega arith,
      (
        x.number_fits,
        (
          x.first_fits,
          (
            x.end_fits,
            (
              x.triples_fit,
              (
                x.area_fits,
                (
                  omega (arith, few),
                  words_append (padded (point_places f) (serial_numbers x.points.serials.items)) (tail_numbers f x) points (tail_words f x),
                ),
              ),
            ),
          ),
        ),
      ),
    )

-- the numbers of a slot are words
pub layout_words : (f : Format) (x : ManifestSlot) → is_held f x ≡ true → AreWords (layout f x)
layout_words f x held = rw (sectioned f x held) (section_words f x)

bytes_held : (p : Format × ManifestSlot) (bytes : List ℕ) → manifest_bytes p ≡ Some bytes → (is_held p.0 p.1 ≡ true) × (spelled (layout p.0 p.1) ≡ bytes)
unfolding manifest_bytes
bytes_held p bytes e = there (is_held p.0 p.1) (spelled (layout p.0 p.1)) bytes e

held_bytes : (p : Format × ManifestSlot) (bytes : List ℕ) → is_held p.0 p.1 ≡ true → spelled (layout p.0 p.1) ≡ bytes → manifest_bytes p ≡ Some bytes
unfolding manifest_bytes
held_bytes p bytes held e = rw (held, e) refl

-- 64 numbers are a slot where their bytes are
pub bytes_read : (bytes numbers : List ℕ) (found : Option (Format × ManifestSlot)) → length numbers ≡ 64 → AreWords numbers → bytes ≡ spelled numbers
    → Reads manifest_numbers (Some numbers) found → Reads manifest_bytes (Some bytes) found
bytes_read bytes numbers found len words e reads p = (
  λ s.
      let held = numbers_held p numbers ((reads p).0 s) in
      held_bytes p bytes held.0 (ap spelled held.1 ∙ sym e),
  λ h.
      let held = bytes_held p bytes h in
      (reads p).1 (held_numbers p numbers held.0 (spelled_apart (layout p.0 p.1) numbers (layout_words p.0 p.1 held.0) words (length-layout p.0 p.1 held.0 ∙ sym len) (held.1 ∙ e))),
)

-- something stands there only where the test holds
some_there : (b : Bool) (l : List ℕ) (o : Option (List ℕ)) → o ≡ (if b then Some l else None) → IsSome o → b ≡ true
some_there true l o e some = refl
some_there false l None e some = let never : ⊥ = cc in absurd never
some_there false l (Some n) e some = let never : ⊥ = cc in absurd never

some_bytes : (p : Format × ManifestSlot) → IsSome (manifest_bytes p) → is_held p.0 p.1 ≡ true
unfolding manifest_bytes
some_bytes p some = some_there (is_held p.0 p.1) (spelled (layout p.0 p.1)) (manifest_bytes p) refl some

-- a slot is written in the format that it has, which is the third where its log begins at the first record
pub newest_spelled : (x : ManifestSlot) → Some (newest_bytes (said_in x)) ≡ manifest_bytes (newest_format x, x)
unfolding newest_bytes
newest_spelled x = sym (held_bytes (newest_format x, x) (spelled (newest_numbers (said_in x))) (newest_held x) (ap spelled (sym (newest_whole x))))

pub third_spelled : (x : ManifestSlot) → x.begin.0 ≡ 1 → Some (newest_bytes (said_in x)) ≡ manifest_bytes (Third, x)
third_spelled x first = newest_spelled x ∙ ap (λ (f : Format). manifest_bytes (f, x)) (third_format x first)

pub manifest_apart : SpelledOnce manifest_bytes
manifest_apart x y some e =
    let held = some_bytes x some in
    let numbers : List ℕ = layout x.0 x.1 in
    let len = length-layout x.0 x.1 held in
    let told = telling x.0 x.1 numbers len held refl in
    let reads = bytes_read (spelled numbers) numbers (Some x) len (layout_words x.0 x.1 held) refl (read_some x.0 x.1 numbers len told) in
    let same = (reads y).1 (sym e ∙ held_bytes x (spelled numbers) held refl) in
    cc

-- the first format's numbers are those of a slot that says the same
first_same : (x : ManifestSlot) (y : Slot) → SaysSame x y → first_numbers x ≡ first_layout y
unfolding first_numbers first_layout point_numbers
first_same x y same =
    let number = same.number in
    let first = same.first in
    let end = same.end in
    let triples = same.triples in
    let area = same.area in
    let points = same.points in
    let left : 64 - length (front_numbers x) ≡ 58 - length (length x.points.serials.items ∷ serial_numbers x.points.serials.items) = omega arith in
    ap (λ (k : ℕ). front_numbers x ++ replicate k 0) left ∙ cc

pub first_bytes : (x : ManifestSlot) (y : Slot) → SaysSame x y → is_held First x ≡ true → manifest_bytes (First, x) ≡ Some (slot_bytes y)
unfolding slot_bytes
first_bytes x y same held = held_bytes (First, x) (slot_bytes y) held (ap spelled (first_same x y same))
