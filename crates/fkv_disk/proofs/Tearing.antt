-- The image of a crash that tears the most, call by call from the newest on.
use Rattle.std.proofs.Common.{◌≡◌, ◌⊎◌, inl, inr, ℕ, ◌+◌, ◌<◌, ◌≤◌, max, List, [], ◌∷◌, length, Bool, true, false, not, ◌&&◌, refl, sym, ◌∙◌, ap, subst, arith}
use Rattle.std.specs.Prelude.{if◌then◌else◌}
use Rattle.fkv_disk.specs.Bytes.{byte_at, listed, covers, range_end, AreBytes}
use Rattle.fkv_disk.specs.Calls.{Call, Write, Sync, reads_as, is_untouched, far_end, AllDone, torn_image, MayLeave}
use Rattle.fkv_disk.specs.Device.{Torn}
use Rattle.fkv_disk.specs.Done.{calls_of, MayLeaveBytes}
use Rattle.fkv_disk.specs.Fuse.{FuseLeaves, with_refused}
use Rattle.fkv_disk.specs.declared.fuses.FuseState.{FuseState}
use Rattle.fkv_disk.specs.declared.fuses.FuseState.TheVariants.{Sound, Armed, Blown, BlownAt}
use Rattle.fkv_disk.specs.declared.memory.DoneCall.{DoneCall}
use Rattle.fkv_disk.specs.Stays.{length-listed, length-written}
use Rattle.fkv_disk.proofs.BytesLemmas.{is_listed, byte_at_past, covered, range_end_is}
use Rattle.fkv_disk.proofs.Left.{torn_allowed, torn_bytes, torn_over, torn_over_was, torn_over_torn, torn_over_bytes}
use Rattle.fkv_disk.proofs.Images.{end_if_done}
use Rattle.fkv_disk.proofs.Recorded.{all_done}

-- a torn write is one call less to tear
pub tear_step : (is_in untouched : Bool) (old torn new end : ℕ) → new ≡ (if is_in then torn else old) → (if (not is_in && untouched) then old else torn) ≡ end → (if untouched then new else torn) ≡ end
tear_step true true old torn new end is leads = is ∙ leads
tear_step true false old torn new end is leads = leads
tear_step false true old torn new end is leads = is ∙ leads
tear_step false false old torn new end is leads = leads

-- what lies past the end was not written
beyond : (opening : List ℕ) (calls : List Call) (i : ℕ) → AllDone calls → length (reads_as opening calls) ≤ i → is_untouched calls i ≡ true
beyond opening [] i all past = refl
beyond opening (Write at bytes true ∷ before) i all past =
    by_cover (bool_is (covers at (length bytes) i)) (beyond opening before i all (omega (arith, past, length-written (reads_as opening before) at bytes)))
  where
    bool_is : (b : Bool) → (b ≡ true) ⊎ (b ≡ false)
    bool_is true = inl refl
    bool_is false = inr refl

    by_cover : (covers at (length bytes) i ≡ true) ⊎ (covers at (length bytes) i ≡ false) → is_untouched before i ≡ true → is_untouched (Write at bytes true ∷ before) i ≡ true
    by_cover (inl in_it) u =
        let span = covered at (length bytes) i in_it in
        let end : range_end at (length bytes) ≡ at + length bytes = range_end_is at (length bytes) (omega arith) in
        absurd (omega (arith, span.0, span.1, past, end, length-written (reads_as opening before) at bytes))
    by_cover (inr out_it) u = ap (λ (b : Bool). not b && is_untouched before i) out_it ∙ u
beyond opening (Write at bytes false ∷ before) i all past = absurd all
beyond opening (Sync true ∷ before) i all past = refl
beyond opening (Sync false ∷ before) i all past = absurd all

module _ (opening : List ℕ) (done : List DoneCall) (bytes : List ℕ) (torn : ℕ) (replayed : bytes ≡ reads_as opening (calls_of done)) (image : List ℕ) (size : length image ≡ length bytes) (each : (i : ℕ) → i < length bytes → byte_at image i ≡ (if is_untouched (calls_of done) i then byte_at bytes i else torn)) where
  abbrev calls : List Call
  calls = calls_of done

  end : far_end opening calls ≡ length bytes
  end = end_if_done opening calls (all_done done) ∙ sym (ap length replayed)

  each_of : (i : ℕ) → i < length bytes → byte_at image i ≡ (if is_untouched calls i then byte_at (reads_as opening calls) i else torn)
  each_of i below = each i below ∙ ap (λ (l : List ℕ). if is_untouched calls i then byte_at l i else torn) replayed

  -- where no write was refused
  pub torn_done : image ≡ torn_image opening calls torn
  torn_done = is_listed image (far_end opening calls) _ (size ∙ sym end) (λ i below. each_of i (omega (arith, below, end)))

  each_all : (i : ℕ) → byte_at image i ≡ (if is_untouched calls i then byte_at (reads_as opening calls) i else torn)
  each_all i = by_place (below_or i)
    where
      below_or : (i : ℕ) → (i < length bytes) ⊎ (length bytes ≤ i)
      below_or i = grind arith

      by_place : (i < length bytes) ⊎ (length bytes ≤ i) → byte_at image i ≡ (if is_untouched calls i then byte_at (reads_as opening calls) i else torn)
      by_place (inl below) = each_of i below
      by_place (inr past) =
          byte_at_past image i (omega (arith, size))
          ∙ sym (byte_at_past (reads_as opening calls) i (omega (arith, past, ap length replayed)))
          ∙ sym (ap (λ (b : Bool). if b then byte_at (reads_as opening calls) i else torn) (beyond opening calls i (all_done done) (omega (arith, past, ap length replayed))))

  -- where one was
  pub torn_refused : (at n : ℕ) (last : List ℕ) → length last ≡ max (length image) (range_end at n) → ((i : ℕ) → i < length last → byte_at last i ≡ (if covers at n i then torn else byte_at image i)) → last ≡ torn_image opening (with_refused (BlownAt at n) calls) torn
  torn_refused at n last long each_last =
      let n_is = length-listed n (λ k. 0) in
      let total : length last ≡ far_end opening (with_refused (BlownAt at n) calls) =
      long ∙ ap (λ (m : ℕ). max m (range_end at n)) (size ∙ sym end) ∙ sym (ap (λ (m : ℕ). max (far_end opening calls) (range_end at m)) n_is) in
      is_listed last (far_end opening (with_refused (BlownAt at n) calls)) _ total
      (λ i below. each_last i (subst (λ (m : ℕ). i < m) (sym total) below) ∙ cover_step (covers at n i) i ∙ sym (ap (λ (m : ℕ). if (not (covers at m i) && is_untouched calls i) then byte_at (reads_as opening calls) i else torn) n_is))
    where
      cover_step : (b : Bool) (i : ℕ) → (if b then torn else byte_at image i) ≡ (if (not b && is_untouched calls i) then byte_at (reads_as opening calls) i else torn)
      cover_step true i = refl
      cover_step false i = each_all i

-- the image that tears the most is one that the fuse may leave
pub torn_fuse_leaves : (opening : List ℕ) (calls : List Call) (torn : ℕ) (state : FuseState) → torn < 256 → AreBytes (reads_as opening calls) → FuseLeaves state (MayLeaveBytes opening calls) (torn_image opening (with_refused state calls) torn)
torn_fuse_leaves opening calls torn Sound fits reads_fit = record { allowed = torn_allowed opening calls torn; are_bytes = torn_bytes opening calls torn fits reads_fit }
torn_fuse_leaves opening calls torn (Armed left) fits reads_fit = record { allowed = torn_allowed opening calls torn; are_bytes = torn_bytes opening calls torn fits reads_fit }
torn_fuse_leaves opening calls torn Blown fits reads_fit = record { allowed = torn_allowed opening calls torn; are_bytes = torn_bytes opening calls torn fits reads_fit }
torn_fuse_leaves opening calls torn (BlownAt at n) fits reads_fit =
    let blank = listed n (λ k. 0) in
    let last = Write at blank false ∷ calls in
    let image = torn_image opening last torn in
    let may : MayLeave opening last image = torn_allowed opening last torn in
    let image_fits : AreBytes image = torn_bytes opening last torn fits reads_fit in (
      torn_over opening at blank false calls image may,
      record { allowed = torn_over_was opening at blank false calls image may; are_bytes = torn_over_bytes opening at blank false calls image may image_fits reads_fit },
      subst (λ (m : ℕ). Torn at m (torn_over opening at blank false calls image may) image) (length-listed n (λ k. 0)) (torn_over_torn opening at blank false calls image may),
      image_fits,
    )
