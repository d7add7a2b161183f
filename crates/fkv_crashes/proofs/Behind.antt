-- The image that a device in memory tears the most, behind calls that all succeeded, is the rule's.
use Rattle.std.proofs.Common.{◌≡◌, ◌∙◌, ◌⊎◌, inl, inr, ℕ, ◌+◌, ◌-◌, ◌<◌, ◌≤◌, max, List, [], ◌∷◌, length, Bool, true, false, not, ◌&&◌, Result, Ok, Err, IfOk, refl, sym, ap, arith}
use Rattle.std.specs.Prelude.{◌||◌, if◌then◌else◌}
use Rattle.std.proofs.lemmas.Bool.{not-false, not-true}
use Rattle.fkv_crashes.specs.Made.{as_call, as_calls, noted}
use Rattle.fkv_crashes.specs.Torn.{IsTornBehind, is_unsynced, last_byte, last_end}
use Rattle.fkv_crashes.specs.declared.crashing.MadeCall.{MadeCall}
use Rattle.fkv_crashes.specs.declared.crashing.MadeCall.TheVariants as made
use Rattle.fkv_disk.proofs.Shown.{byte_at-listed, byte_at-written_in, byte_at-written_out, byte_at_past, covered, length-listed, range_end_is, reads_within}
use Rattle.fkv_disk.specs.Bytes.{byte_at, covers, listed, range_end, written}
use Rattle.fkv_disk.specs.Fuse.{with_refused}
use Rattle.fkv_disk.specs.declared.fuses.FuseState.{FuseState}
use Rattle.fkv_disk.specs.Calls.{Call, Write, Sync, far_end, is_untouched, reads_as, torn_image}

bool_is : (b : Bool) → (b ≡ true) ⊎ (b ≡ false)
bool_is true = inl refl
bool_is false = inr refl

up_down : true ≡ false → ⊥
up_down is = cc

-- a write more touches its range
touched : (its before : Bool) (b : Bool) → b ≡ not before → (its || b) ≡ not (not its && before)
touched true before b is = refl
touched false before b is = is

-- which bytes are torn
pub torn_on : (calls : List MadeCall) (before : List Call) (b : Bool) (i : ℕ) → b ≡ not (is_untouched before i) → is_unsynced calls b i ≡ not (is_untouched (noted calls before) i)
torn_on [] before b i is = is
torn_on (made.Write at bytes ∷ later) before b i is = torn_on later (Write at bytes.items true ∷ before) _ i (touched (covers at (length bytes.items) i) (is_untouched before i) b is)
torn_on (made.Sync ∷ later) before b i is = torn_on later (Sync true ∷ before) false i refl

-- the byte that a write leaves at an offset
pub byte_behind : (old : List ℕ) (at : ℕ) (bytes : List ℕ) (i n : ℕ) → n ≡ byte_at old i → (if covers at (length bytes) i then byte_at bytes (i - at) else n) ≡ byte_at (written old at bytes) i
byte_behind old at bytes i n is = by_cover (bool_is (covers at (length bytes) i))
  where
    by_cover : (covers at (length bytes) i ≡ true) ⊎ (covers at (length bytes) i ≡ false) → (if covers at (length bytes) i then byte_at bytes (i - at) else n) ≡ byte_at (written old at bytes) i
    by_cover (inl its) = ap (λ (b : Bool). if b then byte_at bytes (i - at) else n) its ∙ sym (byte_at-written_in old at bytes i its)
    by_cover (inr out) = ap (λ (b : Bool). if b then byte_at bytes (i - at) else n) out ∙ is ∙ sym (byte_at-written_out old at bytes i out)

-- what was written last
pub byte_on : (calls : List MadeCall) (before : List Call) (n i : ℕ) → n ≡ byte_at (reads_as [] before) i → last_byte calls n i ≡ byte_at (reads_as [] (noted calls before)) i
byte_on [] before n i is = is
byte_on (made.Write at bytes ∷ later) before n i is = byte_on later (Write at bytes.items true ∷ before) _ i (byte_behind (reads_as [] before) at bytes.items i n is)
byte_on (made.Sync ∷ later) before n i is = byte_on later (Sync true ∷ before) n i is

-- how far writes reach
pub end_on : (calls : List MadeCall) (before : List Call) (n : ℕ) → n ≡ far_end [] before → last_end calls n ≡ far_end [] (noted calls before)
end_on [] before n is = is
end_on (made.Write at bytes ∷ later) before n is = end_on later (Write at bytes.items true ∷ before) _ (ap (λ (m : ℕ). max m (range_end at (length bytes.items))) is)
end_on (made.Sync ∷ later) before n is = end_on later (Sync true ∷ before) n is

-- what is touched lies below the end
pub below_end : (calls : List Call) (i : ℕ) → is_untouched calls i ≡ false → i < far_end [] calls
below_end [] i was = absurd (up_down was)
below_end (Write at bytes done ∷ before) i was = by_cover (bool_is (covers at (length bytes) i)) (below_end before i)
  where
    by_cover : (covers at (length bytes) i ≡ true) ⊎ (covers at (length bytes) i ≡ false) → (is_untouched before i ≡ false → i < far_end [] before) → i < max (far_end [] before) (range_end at (length bytes))
    by_cover (inl its) earlier =
        let span = covered at (length bytes) i its in
        let end : range_end at (length bytes) ≡ at + length bytes = range_end_is at (length bytes) (omega (arith, span.0, span.1)) in
        omega (arith, span.0, span.1, end)
    by_cover (inr out) earlier = omega (arith, earlier (sym (ap (λ (b : Bool). not b && is_untouched before i) out) ∙ was))
below_end (Sync true ∷ before) i was = absurd (up_down was)
below_end (Sync false ∷ before) i was = below_end before i was

-- what the image has at an offset
pub image_at : (calls : List Call) (torn i : ℕ) → byte_at (torn_image [] calls torn) i ≡ (if is_untouched calls i then byte_at (reads_as [] calls) i else torn)
image_at calls torn i = by_touch (bool_is (is_untouched calls i))
  where
    its : ℕ → ℕ
    its k = if is_untouched calls k then byte_at (reads_as [] calls) k else torn

    by_touch : (is_untouched calls i ≡ true) ⊎ (is_untouched calls i ≡ false) → byte_at (torn_image [] calls torn) i ≡ its i
    by_touch (inr was) = byte_at-listed (far_end [] calls) its i (below_end calls i was)
    by_touch (inl still) = by_place (below_or i (far_end [] calls))
      where
        below_or : (k n : ℕ) → (k < n) ⊎ (n ≤ k)
        below_or k n = grind arith

        by_place : (i < far_end [] calls) ⊎ (far_end [] calls ≤ i) → byte_at (torn_image [] calls torn) i ≡ its i
        by_place (inl low) = byte_at-listed (far_end [] calls) its i low
        by_place (inr past) =
            byte_at_past (torn_image [] calls torn) i (omega (arith, past, length-listed (far_end [] calls) its))
            ∙ sym (ap (λ (b : Bool). if b then byte_at (reads_as [] calls) i else torn) still ∙ byte_at_past (reads_as [] calls) i (omega (arith, past, reads_within [] calls)))

-- the image of a crash behind these calls
pub torn_behind : (calls : List MadeCall) (torn : ℕ) (image : List ℕ) → image ≡ torn_image [] (as_calls calls) torn → IsTornBehind calls torn image
torn_behind calls torn image is = record {
  ends = ap length is ∙ length-listed (far_end [] (as_calls calls)) _ ∙ sym (end_on calls [] 0 refl);
  tears = λ i up. at i ∙ ap (λ (b : Bool). if b then byte_at (reads_as [] (as_calls calls)) i else torn) (not-true (is_untouched (as_calls calls) i) (sym (torn_on calls [] false i refl) ∙ up));
  keeps = λ i down. at i ∙ ap (λ (b : Bool). if b then byte_at (reads_as [] (as_calls calls)) i else torn) (not-false (is_untouched (as_calls calls) i) (sym (torn_on calls [] false i refl) ∙ down)) ∙ sym (byte_on calls [] 0 i (sym (byte_at_past [] i (omega arith))));
}
  where
    at : (i : ℕ) → byte_at image i ≡ (if is_untouched (as_calls calls) i then byte_at (reads_as [] (as_calls calls)) i else torn)
    at i = ap (λ (l : List ℕ). byte_at l i) is ∙ image_at (as_calls calls) torn i

-- So it is of a fuse around the device that was called, if it blew at no write: it adds no call.
pub crashed : {X E : Type 0} (shows : X → List ℕ) (calls : List MadeCall) (torn : ℕ) (still : FuseState) (opening : List ℕ) (state : FuseState) (its : List Call) (r : Result X E) → ((cs : List Call) → with_refused still cs ≡ cs)
    → opening ≡ [] → state ≡ still → its ≡ as_calls calls → IfOk r (λ x. shows x ≡ torn_image opening (with_refused state its) torn) → IfOk r (λ x. IsTornBehind calls torn (shows x))
crashed shows calls torn still opening state its (Ok x) adds none stays same is =
    torn_behind calls torn (shows x) (is ∙ (λ i. torn_image (none i) (with_refused (stays i) (same i)) torn) ∙ ap (λ (cs : List Call). torn_image [] cs torn) (adds (as_calls calls)))
crashed shows calls torn still opening state its (Err e) adds none stays same is = tt
