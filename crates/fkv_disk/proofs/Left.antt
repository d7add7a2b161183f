-- What a call makes of the images that a crash may leave.
use Rattle.std.proofs.Common.{◌≡◌, ◌⊎◌, inl, inr, ℕ, ◌<◌, ◌≤◌, min, List, ◌∷◌, length, Bool, true, false, not, ◌&&◌, refl, sym, ◌∙◌, ap, subst, arith}
use Rattle.std.specs.Prelude.{if◌then◌else◌}
use Rattle.fkv_disk.specs.Bytes.{byte_at, listed, covers, written, AreBytes}
use Rattle.fkv_disk.specs.Calls.{Call, Write, Sync, reads_as, is_sure, is_untouched, synced_end, far_end, ReadsAs, MayLeave, torn_image}
use Rattle.fkv_disk.specs.Device.{Torn, Writes}
use Rattle.fkv_disk.specs.Stays.{length-listed, length-written, reads_within, synced_within}
use Rattle.fkv_disk.proofs.BytesLemmas.{byte_at-listed, byte_at_past, byte_at-written_in, byte_at-written_out}

bool_is : (b : Bool) → (b ≡ true) ⊎ (b ≡ false)
bool_is true = inl refl
bool_is false = inr refl

-- what a write leaves of an offset that it doesn't cover
untouched_out : (at : ℕ) (bytes : List ℕ) (done : Bool) (before : List Call) (i : ℕ) → is_untouched (Write at bytes done ∷ before) i ≡ true → (covers at (length bytes) i ≡ false) × (is_untouched before i ≡ true)
untouched_out at bytes done before i is = by_cover (bool_is (covers at (length bytes) i)) (bool_is (is_untouched before i))
  where
    by_cover : (covers at (length bytes) i ≡ true) ⊎ (covers at (length bytes) i ≡ false) → (is_untouched before i ≡ true) ⊎ (is_untouched before i ≡ false) → (covers at (length bytes) i ≡ false) × (is_untouched before i ≡ true)
    by_cover (inl in_it) u = let off : false ≡ true = sym (ap (λ (b : Bool). not b && is_untouched before i) in_it) ∙ is in absurd (cc)
    by_cover (inr out_it) (inl u) = (out_it, u)
    by_cover (inr out_it) (inr u) = let off : is_untouched before i ≡ true = sym (ap (λ (b : Bool). not b && is_untouched before i) out_it) ∙ is in absurd (cc)

untouched_back : (at : ℕ) (bytes : List ℕ) (done : Bool) (before : List Call) (i : ℕ) → covers at (length bytes) i ≡ false → is_untouched before i ≡ true → is_untouched (Write at bytes done ∷ before) i ≡ true
untouched_back at bytes done before i out_it u = ap (λ (b : Bool). not b && is_untouched before i) out_it ∙ u

pub sure_out : (at : ℕ) (bytes : List ℕ) (done : Bool) (before : List Call) (i : ℕ) → covers at (length bytes) i ≡ false → is_sure (Write at bytes done ∷ before) i ≡ is_sure before i
sure_out at bytes done before i out_it = ap (λ (b : Bool). if b then done else is_sure before i) out_it

pub sure_in : (at : ℕ) (bytes : List ℕ) (done : Bool) (before : List Call) (i : ℕ) → covers at (length bytes) i ≡ true → is_sure (Write at bytes done ∷ before) i ≡ done
sure_in at bytes done before i in_it = ap (λ (b : Bool). if b then done else is_sure before i) in_it

pub reads_out : (opening : List ℕ) (at : ℕ) (bytes : List ℕ) (done : Bool) (before : List Call) (i : ℕ) → covers at (length bytes) i ≡ false → byte_at (reads_as opening (Write at bytes done ∷ before)) i ≡ byte_at (reads_as opening before) i
reads_out opening at bytes true before i out_it = byte_at-written_out (reads_as opening before) at bytes i out_it
reads_out opening at bytes false before i out_it = refl

-- a torn write over an image that was allowed gives one that is allowed after the write, succeeded or failed
pub torn_to : (opening : List ℕ) (at : ℕ) (bytes : List ℕ) (done : Bool) (before : List Call) (old image : List ℕ) → MayLeave opening before old → Torn at (length bytes) old image → MayLeave opening (Write at bytes done ∷ before) image
torn_to opening at bytes done before old image was torn = record {
  no_shorter = omega (arith, was.no_shorter, torn.no_shorter);
  no_longer = omega (arith, was.no_longer, torn.no_longer);
  kept = λ i below u s.
      let out = untouched_out at bytes done before i u in
      let sure = sym (sure_out at bytes done before i out.0) ∙ s in
      torn.outside i (omega (arith, below, was.no_shorter)) out.0 ∙ was.kept i below out.1 sure ∙ sym (reads_out opening at bytes done before i out.0);
}

-- an image that is allowed after a write is a torn write over one that was allowed
module _ (opening : List ℕ) (at : ℕ) (bytes : List ℕ) (done : Bool) (before : List Call) (image : List ℕ) (may : MayLeave opening (Write at bytes done ∷ before) image) where
  abbrev old_byte : ℕ → ℕ
  old_byte i = if covers at (length bytes) i then byte_at (reads_as opening before) i else byte_at image i

  abbrev size : ℕ
  size = min (length image) (far_end opening before)

  abbrev pub torn_over : List ℕ
  torn_over = listed size old_byte

  at_in : (i : ℕ) → i < size → covers at (length bytes) i ≡ true → byte_at torn_over i ≡ byte_at (reads_as opening before) i
  at_in i below in_it = byte_at-listed size old_byte i below ∙ ap (λ (b : Bool). if b then byte_at (reads_as opening before) i else byte_at image i) in_it

  at_out : (i : ℕ) → i < size → covers at (length bytes) i ≡ false → byte_at torn_over i ≡ byte_at image i
  at_out i below out_it = byte_at-listed size old_byte i below ∙ ap (λ (b : Bool). if b then byte_at (reads_as opening before) i else byte_at image i) out_it

  length-torn_over : length torn_over ≡ size
  length-torn_over = length-listed size old_byte

  pub torn_over_was : MayLeave opening before torn_over
  torn_over_was = record {
    no_shorter = omega (arith, length-torn_over, may.no_shorter, reads_within opening before, synced_within opening before);
    no_longer = omega (arith, length-torn_over);
    kept = λ i below u s. by_cover i (omega (arith, below, may.no_shorter, reads_within opening before, synced_within opening before)) below u s (bool_is (covers at (length bytes) i));
  }
    where
      by_cover : (i : ℕ) → i < size → i < synced_end opening before → is_untouched before i ≡ true → is_sure before i ≡ true → (covers at (length bytes) i ≡ true) ⊎ (covers at (length bytes) i ≡ false) → byte_at torn_over i ≡ byte_at (reads_as opening before) i
      by_cover i small below u s (inl in_it) = at_in i small in_it
      by_cover i small below u s (inr out_it) =
          at_out i small out_it
          ∙ may.kept i below (untouched_back at bytes done before i out_it u) (sure_out at bytes done before i out_it ∙ s)
          ∙ reads_out opening at bytes done before i out_it

  pub torn_over_torn : Torn at (length bytes) torn_over image
  torn_over_torn = record {
    no_shorter = omega (arith, length-torn_over);
    no_longer = omega (arith, length-torn_over, may.no_longer);
    outside = λ i below out_it. sym (at_out i (omega (arith, below, length-torn_over)) out_it);
  }

  pub torn_over_bytes : AreBytes image → AreBytes (reads_as opening before) → AreBytes torn_over
  torn_over_bytes fits reads_fit i = by_place (below_or i) (bool_is (covers at (length bytes) i))
    where
      below_or : (i : ℕ) → (i < size) ⊎ (size ≤ i)
      below_or i = grind arith

      by_place : (i < size) ⊎ (size ≤ i) → (covers at (length bytes) i ≡ true) ⊎ (covers at (length bytes) i ≡ false) → byte_at torn_over i < 256
      by_place (inl below) (inl in_it) = omega (arith, at_in i below in_it, reads_fit i)
      by_place (inl below) (inr out_it) = omega (arith, at_out i below out_it, fits i)
      by_place (inr past) c = omega (arith, byte_at_past torn_over i (omega (arith, length-torn_over)))

-- after a sync that succeeded a crash leaves what is read
pub synced_to : (opening : List ℕ) (before : List Call) (seen : List ℕ) → ReadsAs opening before seen → MayLeave opening (Sync true ∷ before) seen
synced_to opening before seen reads = record {
  no_shorter = reads.no_shorter;
  no_longer = reads.no_longer;
  kept = λ i below u s. reads.last_written i s;
}

-- the image that tears the most is one that a crash may leave
module _ (opening : List ℕ) (calls : List Call) (torn : ℕ) where
  abbrev torn_byte : ℕ → ℕ
  torn_byte i = if is_untouched calls i then byte_at (reads_as opening calls) i else torn

  torn_size : length (torn_image opening calls torn) ≡ far_end opening calls
  torn_size = length-listed (far_end opening calls) torn_byte

  pub torn_allowed : MayLeave opening calls (torn_image opening calls torn)
  torn_allowed = record {
    no_shorter = omega (arith, torn_size, synced_within opening calls, reads_within opening calls);
    no_longer = omega (arith, torn_size);
    kept = λ i below u s. byte_at-listed (far_end opening calls) torn_byte i (omega (arith, below, synced_within opening calls, reads_within opening calls)) ∙ ap (λ (b : Bool). if b then byte_at (reads_as opening calls) i else torn) u;
  }

  pub torn_bytes : torn < 256 → AreBytes (reads_as opening calls) → AreBytes (torn_image opening calls torn)
  torn_bytes fits reads_fit i = by_place (below_or i) (bool_is (is_untouched calls i))
    where
      below_or : (i : ℕ) → (i < far_end opening calls) ⊎ (far_end opening calls ≤ i)
      below_or i = grind arith

      by_place : (i < far_end opening calls) ⊎ (far_end opening calls ≤ i) → (is_untouched calls i ≡ true) ⊎ (is_untouched calls i ≡ false) → byte_at (torn_image opening calls torn) i < 256
      by_place (inl below) (inl u) =
          let is : byte_at (torn_image opening calls torn) i ≡ byte_at (reads_as opening calls) i = byte_at-listed (far_end opening calls) torn_byte i below ∙ ap (λ (b : Bool). if b then byte_at (reads_as opening calls) i else torn) u in
          omega (arith, is, reads_fit i)
      by_place (inl below) (inr u) =
          let is : byte_at (torn_image opening calls torn) i ≡ torn = byte_at-listed (far_end opening calls) torn_byte i below ∙ ap (λ (b : Bool). if b then byte_at (reads_as opening calls) i else torn) u in
          omega (arith, is)
      by_place (inr past) c = omega (arith, byte_at_past (torn_image opening calls torn) i (omega (arith, torn_size)))

-- what a write makes of what is read
pub reads_to : (opening : List ℕ) (at : ℕ) (bytes : List ℕ) (done : Bool) (before : List Call) (old new : List ℕ) → ReadsAs opening before old → Writes at bytes done old new → ReadsAs opening (Write at bytes done ∷ before) new
reads_to opening at bytes true before old new was writes =
    subst (ReadsAs opening (Write at bytes true ∷ before)) (sym writes) (record {
      no_shorter = omega (arith, length-written (reads_as opening before) at bytes, length-written old at bytes, was.no_shorter);
      no_longer = omega (arith, length-written old at bytes, was.no_longer);
      last_written = λ i s. by_cover i s (bool_is (covers at (length bytes) i));
    })
  where
    by_cover : (i : ℕ) → is_sure (Write at bytes true ∷ before) i ≡ true → (covers at (length bytes) i ≡ true) ⊎ (covers at (length bytes) i ≡ false) → byte_at (written old at bytes) i ≡ byte_at (written (reads_as opening before) at bytes) i
    by_cover i s (inl in_it) = byte_at-written_in old at bytes i in_it ∙ sym (byte_at-written_in (reads_as opening before) at bytes i in_it)
    by_cover i s (inr out_it) =
        byte_at-written_out old at bytes i out_it ∙ was.last_written i (sym (sure_out at bytes true before i out_it) ∙ s) ∙ sym (byte_at-written_out (reads_as opening before) at bytes i out_it)
reads_to opening at bytes false before old new was writes = record {
  no_shorter = omega (arith, was.no_shorter, writes.0);
  no_longer = omega (arith, was.no_longer, writes.1);
  last_written = λ i s. by_cover i s (bool_is (covers at (length bytes) i));
}
  where
    by_cover : (i : ℕ) → is_sure (Write at bytes false ∷ before) i ≡ true → (covers at (length bytes) i ≡ true) ⊎ (covers at (length bytes) i ≡ false) → byte_at new i ≡ byte_at (reads_as opening before) i
    by_cover i s (inl in_it) = let off : false ≡ true = sym (sure_in at bytes false before i in_it) ∙ s in absurd (cc)
    by_cover i s (inr out_it) = writes.2 i out_it ∙ was.last_written i (sym (sure_out at bytes false before i out_it) ∙ s)
