-- The image that a device in memory tears the most is the rule's, of the calls that it has met.
use Rattle.std.proofs.Common.{◌≡◌, ◌∙◌, ◌⊎◌, inl, inr, ℕ, ◌+◌, ◌-◌, ◌<◌, ◌≤◌, max, List, [], ◌∷◌, length, Bool, true, false, not, ◌&&◌, refl, sym, ap, arith}
use Rattle.std.specs.Prelude.{◌||◌, if◌then◌else◌}
use Rattle.std.proofs.lemmas.Bool.{not-false, not-true}
use Rattle.fkv_disk.proofs.Shown.{byte_at-listed, byte_at-written_in, byte_at-written_out, byte_at_past, covered, length-listed, length-written, range_end_is, reads_within}
use Rattle.fkv_disk.specs.Bytes.{byte_at, covers, listed, range_end, written}
use Rattle.fkv_disk.specs.Calls.{AllDone, Call, Write, Sync, far_end, is_untouched, reads_as, torn_image}
use Rattle.fkv_disk.specs.Kinds.{Kind, Reading, Writing, Syncing, noted}
use Rattle.law_calls.specs.Torn.{IsTornBehind, IsTornWithin, is_unsynced, last_byte, last_end}

bool_is : (b : Bool) → (b ≡ true) ⊎ (b ≡ false)
bool_is true = inl refl
bool_is false = inr refl

up_down : true ≡ false → ⊥
up_down is = cc

and_false : (b : Bool) → (b && false) ≡ false
and_false true = refl
and_false false = refl

-- a write more touches its range
touched : (its before : Bool) (b : Bool) → b ≡ not before → (its || b) ≡ not (not its && before)
touched true before b is = refl
touched false before b is = is

-- which bytes are torn
pub torn_on : (met : List Kind) (before : List Call) (b : Bool) (i : ℕ) → b ≡ not (is_untouched before i) → is_unsynced met b i ≡ not (is_untouched (noted met before) i)
torn_on [] before b i is = is
torn_on (Reading ∷ later) before b i is = torn_on later before b i is
torn_on (Writing at bytes true ∷ later) before b i is = torn_on later (Write at bytes true ∷ before) _ i (touched (covers at (length bytes) i) (is_untouched before i) b is)
torn_on (Writing at bytes false ∷ later) before b i is = torn_on later before b i is
torn_on (Syncing true ∷ later) before b i is = torn_on later (Sync true ∷ before) false i refl
torn_on (Syncing false ∷ later) before b i is = torn_on later before b i is

-- the byte that a write leaves at an offset
byte_behind : (old : List ℕ) (at : ℕ) (bytes : List ℕ) (i n : ℕ) → n ≡ byte_at old i → (if covers at (length bytes) i then byte_at bytes (i - at) else n) ≡ byte_at (written old at bytes) i
byte_behind old at bytes i n is = by_cover (bool_is (covers at (length bytes) i))
  where
    by_cover : (covers at (length bytes) i ≡ true) ⊎ (covers at (length bytes) i ≡ false) → (if covers at (length bytes) i then byte_at bytes (i - at) else n) ≡ byte_at (written old at bytes) i
    by_cover (inl its) = ap (λ (b : Bool). if b then byte_at bytes (i - at) else n) its ∙ sym (byte_at-written_in old at bytes i its)
    by_cover (inr out) = ap (λ (b : Bool). if b then byte_at bytes (i - at) else n) out ∙ is ∙ sym (byte_at-written_out old at bytes i out)

-- what was written last
pub byte_on : (met : List Kind) (opening : List ℕ) (before : List Call) (n i : ℕ) → n ≡ byte_at (reads_as opening before) i → last_byte met n i ≡ byte_at (reads_as opening (noted met before)) i
byte_on [] opening before n i is = is
byte_on (Reading ∷ later) opening before n i is = byte_on later opening before n i is
byte_on (Writing at bytes true ∷ later) opening before n i is = byte_on later opening (Write at bytes true ∷ before) _ i (byte_behind (reads_as opening before) at bytes i n is)
byte_on (Writing at bytes false ∷ later) opening before n i is = byte_on later opening before n i is
byte_on (Syncing true ∷ later) opening before n i is = byte_on later opening (Sync true ∷ before) n i is
byte_on (Syncing false ∷ later) opening before n i is = byte_on later opening before n i is

-- how far writes reach
pub end_on : (met : List Kind) (opening : List ℕ) (before : List Call) (n : ℕ) → n ≡ far_end opening before → last_end met n ≡ far_end opening (noted met before)
end_on [] opening before n is = is
end_on (Reading ∷ later) opening before n is = end_on later opening before n is
end_on (Writing at bytes true ∷ later) opening before n is = end_on later opening (Write at bytes true ∷ before) _ (ap (λ (m : ℕ). max m (range_end at (length bytes))) is)
end_on (Writing at bytes false ∷ later) opening before n is = end_on later opening before n is
end_on (Syncing true ∷ later) opening before n is = end_on later opening (Sync true ∷ before) n is
end_on (Syncing false ∷ later) opening before n is = end_on later opening before n is

-- they reach as far as is read, where each came through
pub end_if_done : (opening : List ℕ) (calls : List Call) → AllDone calls → length (reads_as opening calls) ≡ far_end opening calls
end_if_done opening [] all = refl
end_if_done opening (Write at bytes true ∷ before) all = length-written (reads_as opening before) at bytes ∙ ap (λ (n : ℕ). max n (range_end at (length bytes))) (end_if_done opening before all)
end_if_done opening (Write at bytes false ∷ before) all = absurd all
end_if_done opening (Sync true ∷ before) all = end_if_done opening before all
end_if_done opening (Sync false ∷ before) all = absurd all

-- what is touched lies below the end
below_end : (opening : List ℕ) (calls : List Call) (i : ℕ) → is_untouched calls i ≡ false → i < far_end opening calls
below_end opening [] i was = absurd (up_down was)
below_end opening (Write at bytes done ∷ before) i was = by_cover (bool_is (covers at (length bytes) i)) (below_end opening before i)
  where
    by_cover : (covers at (length bytes) i ≡ true) ⊎ (covers at (length bytes) i ≡ false) → (is_untouched before i ≡ false → i < far_end opening before) → i < max (far_end opening before) (range_end at (length bytes))
    by_cover (inl its) earlier =
        let span = covered at (length bytes) i its in
        let end : range_end at (length bytes) ≡ at + length bytes = range_end_is at (length bytes) (omega (arith, span.0, span.1)) in
        omega (arith, span.0, span.1, end)
    by_cover (inr out) earlier = omega (arith, earlier (sym (ap (λ (b : Bool). not b && is_untouched before i) out) ∙ was))
below_end opening (Sync true ∷ before) i was = absurd (up_down was)
below_end opening (Sync false ∷ before) i was = below_end opening before i was

-- what the image has at an offset
image_at : (opening : List ℕ) (calls : List Call) (torn i : ℕ) → byte_at (torn_image opening calls torn) i ≡ (if is_untouched calls i then byte_at (reads_as opening calls) i else torn)
image_at opening calls torn i = by_touch (bool_is (is_untouched calls i))
  where
    its : ℕ → ℕ
    its k = if is_untouched calls k then byte_at (reads_as opening calls) k else torn

    by_touch : (is_untouched calls i ≡ true) ⊎ (is_untouched calls i ≡ false) → byte_at (torn_image opening calls torn) i ≡ its i
    by_touch (inr was) = byte_at-listed (far_end opening calls) its i (below_end opening calls i was)
    by_touch (inl still) = by_place (below_or i (far_end opening calls))
      where
        below_or : (k n : ℕ) → (k < n) ⊎ (n ≤ k)
        below_or k n = grind arith

        by_place : (i < far_end opening calls) ⊎ (far_end opening calls ≤ i) → byte_at (torn_image opening calls torn) i ≡ its i
        by_place (inl low) = byte_at-listed (far_end opening calls) its i low
        by_place (inr past) =
            byte_at_past (torn_image opening calls torn) i (omega (arith, past, length-listed (far_end opening calls) its))
            ∙ sym (ap (λ (b : Bool). if b then byte_at (reads_as opening calls) i else torn) still ∙ byte_at_past (reads_as opening calls) i (omega (arith, past, reads_within opening calls)))

module _ (opening : List ℕ) (before : List Call) (all : AllDone before) (met : List Kind) (torn : ℕ) where
  abbrev bytes : List ℕ
  bytes = reads_as opening before

  abbrev unsynced : ℕ → Bool
  unsynced i = not (is_untouched before i)

  abbrev calls : List Call
  calls = noted met before

  reach : far_end opening calls ≡ last_end met (length bytes)
  reach = sym (end_on met opening before (length bytes) (end_if_done opening before all))

  up_at : (i : ℕ) → is_unsynced met (unsynced i) i ≡ true → is_untouched calls i ≡ false
  up_at i up = not-true (is_untouched calls i) (sym (torn_on met before (unsynced i) i refl) ∙ up)

  down_at : (i : ℕ) → is_unsynced met (unsynced i) i ≡ false → is_untouched calls i ≡ true
  down_at i down = not-false (is_untouched calls i) (sym (torn_on met before (unsynced i) i refl) ∙ down)

  last_at : (i : ℕ) → byte_at (reads_as opening calls) i ≡ last_byte met (byte_at bytes i) i
  last_at i = sym (byte_on met opening before (byte_at bytes i) i refl)

  -- behind these calls
  pub torn_behind : IsTornBehind bytes unsynced met torn (torn_image opening calls torn)
  torn_behind = record {
    ends = length-listed (far_end opening calls) _ ∙ reach;
    tears = λ i up. image_at opening calls torn i ∙ ap (λ (b : Bool). if b then byte_at (reads_as opening calls) i else torn) (up_at i up);
    keeps = λ i down. image_at opening calls torn i ∙ ap (λ (b : Bool). if b then byte_at (reads_as opening calls) i else torn) (down_at i down) ∙ last_at i;
  }

  abbrev cut : ℕ → ℕ → List Call
  cut at n = Write at (listed n (λ k. 0)) false ∷ calls

  -- and within a write that failed behind them
  pub torn_within : (at n : ℕ) → IsTornWithin bytes unsynced met at n torn (torn_image opening (cut at n) torn)
  torn_within at n = record {
    ends = length-listed (far_end opening (cut at n)) _ ∙ (λ i. max (reach i) (range_end at (size i)));
    cuts = λ i its. torn_at i (touched_by i ∙ ap (λ (b : Bool). not b && is_untouched calls i) its);
    tears = λ i up. torn_at i (touched_by i ∙ ap (λ (b : Bool). not (covers at n i) && b) (up_at i up) ∙ and_false (not (covers at n i)));
    keeps = λ i out down. image_at opening (cut at n) torn i
        ∙ ap (λ (b : Bool). if b then byte_at (reads_as opening calls) i else torn) (touched_by i ∙ ap (λ (b : Bool). not b && is_untouched calls i) out ∙ down_at i down) ∙ last_at i;
  }
    where
      size : length (listed n (λ k. 0)) ≡ n
      size = length-listed n (λ k. 0)

      touched_by : (i : ℕ) → is_untouched (cut at n) i ≡ (not (covers at n i) && is_untouched calls i)
      touched_by i = ap (λ (k : ℕ). not (covers at k i) && is_untouched calls i) size

      torn_at : (i : ℕ) → is_untouched (cut at n) i ≡ false → byte_at (torn_image opening (cut at n) torn) i ≡ torn
      torn_at i was = image_at opening (cut at n) torn i ∙ ap (λ (b : Bool). if b then byte_at (reads_as opening calls) i else torn) was
