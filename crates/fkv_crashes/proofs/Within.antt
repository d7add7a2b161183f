-- The image of a crash within a write is the rule's. The fuse keeps the range of that write, which counts as failed.
use Rattle.std.proofs.Common.{◌≡◌, ◌∙◌, ℕ, max, List, [], ◌∷◌, length, Bool, true, false, not, ◌&&◌, Result, Ok, Err, IfOk, refl, sym, ap, arith}
use Rattle.std.specs.Prelude.{if◌then◌else◌}
use Rattle.std.proofs.lemmas.Bool.{not-false, not-true}
use Rattle.fkv_crashes.specs.Made.{as_calls}
use Rattle.fkv_crashes.specs.Torn.{IsTornWithin, is_unsynced, last_byte, last_end}
use Rattle.fkv_crashes.specs.declared.crashing.MadeCall.{MadeCall}
use Rattle.fkv_disk.proofs.Shown.{byte_at_past, length-listed}
use Rattle.fkv_disk.specs.Bytes.{byte_at, covers, listed, range_end}
use Rattle.fkv_disk.specs.Calls.{Call, Write, far_end, is_untouched, reads_as, torn_image}
use Rattle.fkv_disk.specs.Fuse.{with_refused}
use Rattle.fkv_disk.specs.declared.fuses.FuseState.{FuseState}
use Rattle.fkv_disk.specs.declared.fuses.FuseState.TheVariants.{BlownAt}
use Rattle.fkv_crashes.proofs.Behind.{byte_on, end_on, image_at, torn_on}

and_false : (b : Bool) → (b && false) ≡ false
and_false true = refl
and_false false = refl

-- a write of n bytes that failed, behind these calls
abbrev cut : List MadeCall → ℕ → ℕ → List Call
cut calls at n = Write at (listed n (λ k. 0)) false ∷ as_calls calls

-- it touches its range, and elsewhere what they touch
touched_by : (calls : List MadeCall) (at n i : ℕ) → is_untouched (cut calls at n) i ≡ (not (covers at n i) && is_untouched (as_calls calls) i)
touched_by calls at n i = ap (λ (k : ℕ). not (covers at k i) && is_untouched (as_calls calls) i) (length-listed n (λ k. 0))

pub torn_within : (calls : List MadeCall) (at n torn : ℕ) (image : List ℕ) → image ≡ torn_image [] (cut calls at n) torn → IsTornWithin calls at n torn image
torn_within calls at n torn image is = record {
  ends = ap length is ∙ length-listed (far_end [] (cut calls at n)) _ ∙ (λ i. max (reach i) (range_end at (size i)));
  cuts = λ i its. torn_at i (touched_by calls at n i ∙ ap (λ (b : Bool). not b && is_untouched (as_calls calls) i) its);
  tears = λ i up.
      torn_at i (touched_by calls at n i ∙ ap (λ (b : Bool). not (covers at n i) && b) (not-true (is_untouched (as_calls calls) i) (sym (torn_on calls [] false i refl) ∙ up)) ∙ and_false (not (covers at n i)));
  keeps = λ i out down.
      kept_at i (touched_by calls at n i ∙ ap (λ (b : Bool). not b && is_untouched (as_calls calls) i) out ∙ not-false (is_untouched (as_calls calls) i) (sym (torn_on calls [] false i refl) ∙ down));
}
  where
    reach : far_end [] (as_calls calls) ≡ last_end calls 0
    reach = sym (end_on calls [] 0 refl)

    size : length (listed n (λ k. 0)) ≡ n
    size = length-listed n (λ k. 0)

    said_at : (i : ℕ) → byte_at image i ≡ (if is_untouched (cut calls at n) i then byte_at (reads_as [] (as_calls calls)) i else torn)
    said_at i = ap (λ (l : List ℕ). byte_at l i) is ∙ image_at (cut calls at n) torn i

    torn_at : (i : ℕ) → is_untouched (cut calls at n) i ≡ false → byte_at image i ≡ torn
    torn_at i was = said_at i ∙ ap (λ (b : Bool). if b then byte_at (reads_as [] (as_calls calls)) i else torn) was

    kept_at : (i : ℕ) → is_untouched (cut calls at n) i ≡ true → byte_at image i ≡ last_byte calls 0 i
    kept_at i still = said_at i ∙ ap (λ (b : Bool). if b then byte_at (reads_as [] (as_calls calls)) i else torn) still ∙ sym (byte_on calls [] 0 i (sym (byte_at_past [] i (omega arith))))

-- so it is of a fuse that blew at this write, around the device that was called
pub crashed_within : {X E : Type 0} (shows : X → List ℕ) (calls : List MadeCall) (at n torn : ℕ) (opening : List ℕ) (state : FuseState) (its : List Call) (r : Result X E) → opening ≡ [] → state ≡ BlownAt at n → its ≡ as_calls calls
    → IfOk r (λ x. shows x ≡ torn_image opening (with_refused state its) torn) → IfOk r (λ x. IsTornWithin calls at n torn (shows x))
crashed_within shows calls at n torn opening state its (Ok x) none blown same is = torn_within calls at n torn (shows x) (is ∙ (λ i. torn_image (none i) (with_refused (blown i) (same i)) torn))
crashed_within shows calls at n torn opening state its (Err e) none blown same is = tt
