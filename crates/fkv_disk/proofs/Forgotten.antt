-- A life told from its newest sync on is like the whole one.
use Rattle.std.proofs.Common.{◌≡◌, inl, inr, ℕ, zero, suc, ◌+◌, ◌≤◌, ◌↔◌, max, List, [], ◌∷◌, ◌++◌, length, drop, Bool, true, false, not, ◌&&◌, refl, sym, ◌∙◌, ap, arith}
use Rattle.std.specs.Prelude.{if◌then◌else◌}
use Rattle.fkv_disk.specs.Bytes.{byte_at, covers, range_end, written}
use Rattle.fkv_disk.specs.Calls.{Call, Write, Sync, reads_as, is_sure, is_untouched, synced_end, far_end, AllDone, MayLeave}
use Rattle.fkv_disk.specs.Done.{MayLeaveBytes, LeftSince}
use Rattle.fkv_disk.specs.Forgotten.{since_sync, synced_bytes}
use Rattle.fkv_disk.specs.Fuse.{FuseLeftSince}
use Rattle.fkv_disk.specs.declared.fuses.FuseState.{FuseState}
use Rattle.fkv_disk.specs.declared.fuses.FuseState.TheVariants.{Sound, Armed, Blown, BlownAt}
use Rattle.fkv_disk.proofs.Images.{sure_if_done, end_if_done}

-- two lives that are told alike
record IsAlike (opening : List ℕ) (calls : List Call) (opening' : List ℕ) (calls' : List Call) : Type 0 where
  reads : reads_as opening calls ≡ reads_as opening' calls'
  sure : (i : ℕ) → is_sure calls i ≡ is_sure calls' i
  untouched : (i : ℕ) → is_untouched calls i ≡ is_untouched calls' i
  synced : synced_end opening calls ≡ synced_end opening' calls'
  far : far_end opening calls ≡ far_end opening' calls'

-- one call more
alike_after : (opening opening' : List ℕ) (calls calls' : List Call) (call : Call) → IsAlike opening calls opening' calls' → IsAlike opening (call ∷ calls) opening' (call ∷ calls')
alike_after opening opening' calls calls' (Write at bytes true) alike = record {
  reads = ap (λ (seen : List ℕ). written seen at bytes) alike.reads;
  sure = λ i. ap (λ (b : Bool). if covers at (length bytes) i then true else b) (alike.sure i);
  untouched = λ i. ap (λ (b : Bool). not (covers at (length bytes) i) && b) (alike.untouched i);
  synced = alike.synced;
  far = ap (λ (n : ℕ). max n (range_end at (length bytes))) alike.far;
}
alike_after opening opening' calls calls' (Write at bytes false) alike = record {
  reads = alike.reads;
  sure = λ i. ap (λ (b : Bool). if covers at (length bytes) i then false else b) (alike.sure i);
  untouched = λ i. ap (λ (b : Bool). not (covers at (length bytes) i) && b) (alike.untouched i);
  synced = alike.synced;
  far = ap (λ (n : ℕ). max n (range_end at (length bytes))) alike.far;
}
alike_after opening opening' calls calls' (Sync true) alike = record { reads = alike.reads; sure = alike.sure; untouched = λ i. refl; synced = ap length alike.reads; far = alike.far }
alike_after opening opening' calls calls' (Sync false) alike = record { reads = alike.reads; sure = alike.sure; untouched = alike.untouched; synced = alike.synced; far = alike.far }

alike : (opening : List ℕ) (calls : List Call) → AllDone calls → IsAlike opening calls (synced_bytes opening calls) (since_sync calls)
alike opening [] all = record { reads = refl; sure = λ i. refl; untouched = λ i. refl; synced = refl; far = refl }
alike opening (Write at bytes true ∷ before) all = alike_after opening (synced_bytes opening before) before (since_sync before) (Write at bytes true) (alike opening before all)
alike opening (Write at bytes false ∷ before) all = absurd all
alike opening (Sync true ∷ before) all = record { reads = refl; sure = λ i. sure_if_done before i all; untouched = λ i. refl; synced = refl; far = end_if_done opening before all }
alike opening (Sync false ∷ before) all = absurd all

-- and whatever comes later
alike_later : (opening : List ℕ) (calls later : List Call) → AllDone calls → IsAlike opening (later ++ calls) (synced_bytes opening calls) (later ++ since_sync calls)
alike_later opening calls [] all = alike opening calls all
alike_later opening calls (call ∷ later) all = alike_after opening (synced_bytes opening calls) (later ++ calls) (later ++ since_sync calls) call (alike_later opening calls later all)

-- or not so far
alike_earlier : (opening : List ℕ) (calls : List Call) (newest : ℕ) → AllDone calls → newest ≤ length (since_sync calls) → IsAlike opening (drop newest calls) (synced_bytes opening calls) (drop newest (since_sync calls))
alike_earlier opening calls zero all le = alike opening calls all
alike_earlier opening [] (suc newest) all le = absurd (omega arith)
alike_earlier opening (Write at bytes true ∷ before) (suc newest) all le = alike_earlier opening before newest all (omega arith)
alike_earlier opening (Write at bytes false ∷ before) (suc newest) all le = absurd all
alike_earlier opening (Sync true ∷ before) (suc newest) all le = absurd (omega arith)
alike_earlier opening (Sync false ∷ before) (suc newest) all le = absurd all

module _ (opening : List ℕ) (calls : List Call) (opening' : List ℕ) (calls' : List Call) (both : IsAlike opening calls opening' calls') (image : List ℕ) where
  to : MayLeave opening calls image → MayLeave opening' calls' image
  to left = record {
    no_shorter = omega (arith, left.no_shorter, both.synced);
    no_longer = omega (arith, left.no_longer, both.far);
    kept = λ i below u s. left.kept i (omega (arith, below, both.synced)) (both.untouched i ∙ u) (both.sure i ∙ s) ∙ ap (λ (seen : List ℕ). byte_at seen i) both.reads;
  }

  from : MayLeave opening' calls' image → MayLeave opening calls image
  from left = record {
    no_shorter = omega (arith, left.no_shorter, both.synced);
    no_longer = omega (arith, left.no_longer, both.far);
    kept = λ i below u s. left.kept i (omega (arith, below, both.synced)) (sym (both.untouched i) ∙ u) (sym (both.sure i) ∙ s) ∙ sym (ap (λ (seen : List ℕ). byte_at seen i) both.reads);
  }

  bytes_to : MayLeaveBytes opening calls image → MayLeaveBytes opening' calls' image
  bytes_to left = record { allowed = to left.allowed; are_bytes = left.are_bytes }

  bytes_from : MayLeaveBytes opening' calls' image → MayLeaveBytes opening calls image
  bytes_from left = record { allowed = from left.allowed; are_bytes = left.are_bytes }

pub forgotten_reads : (opening : List ℕ) (calls later : List Call) → AllDone calls → reads_as (synced_bytes opening calls) (later ++ since_sync calls) ≡ reads_as opening (later ++ calls)
forgotten_reads opening calls later all = sym (alike_later opening calls later all).reads

pub forgotten_leaves : (opening : List ℕ) (calls later : List Call) (image : List ℕ) → AllDone calls → MayLeave opening (later ++ calls) image ↔ MayLeave (synced_bytes opening calls) (later ++ since_sync calls) image
forgotten_leaves opening calls later image all = let both = alike_later opening calls later all in (to _ _ _ _ both image, from _ _ _ _ both image)

pub forgotten_bytes : (opening : List ℕ) (calls : List Call) (image : List ℕ) → AllDone calls → MayLeaveBytes opening calls image ↔ MayLeaveBytes (synced_bytes opening calls) (since_sync calls) image
forgotten_bytes opening calls image all = let both = alike opening calls all in (bytes_to _ _ _ _ both image, bytes_from _ _ _ _ both image)

-- from the newest sync on all moments are told as before
pub forgotten_since : (opening : List ℕ) (calls : List Call) (before now t : ℕ) (image : List ℕ) → AllDone calls → now + length (since_sync calls) ≡ before + length calls → before ≤ now → now ≤ t
    → LeftSince before opening calls t image ↔ LeftSince now (synced_bytes opening calls) (since_sync calls) t image
forgotten_since opening calls before now t image all same later le = (there, back)
  where
    there : LeftSince before opening calls t image → LeftSince now (synced_bytes opening calls) (since_sync calls) t image
    there (inl early) = absurd (omega (arith, early, later, le))
    there (inr left) = inr (left.0, omega (arith, left.1, same), bytes_to _ _ _ _ (alike_earlier opening calls left.0 all (omega (arith, left.1, same, le))) image left.2)

    back : LeftSince now (synced_bytes opening calls) (since_sync calls) t image → LeftSince before opening calls t image
    back (inl early) = absurd (omega (arith, early, le))
    back (inr left) = inr (left.0, omega (arith, left.1, same), bytes_from _ _ _ _ (alike_earlier opening calls left.0 all (omega (arith, left.1, same, le))) image left.2)

-- what a device says alike of a time its fuse says alike
pub fuse_since : (state : FuseState) (was now : ℕ → List ℕ → Type 0) (leaves_was leaves_now : List ℕ → Type 0) (t : ℕ) (image : List ℕ) → was t image ↔ now t image → ((old : List ℕ) → leaves_was old ↔ leaves_now old)
    → FuseLeftSince state was leaves_was t image ↔ FuseLeftSince state now leaves_now t image
fuse_since Sound was now leaves_was leaves_now t image since leaves = since
fuse_since (Armed left) was now leaves_was leaves_now t image since leaves = since
fuse_since Blown was now leaves_was leaves_now t image since leaves = since
fuse_since (BlownAt at n) was now leaves_was leaves_now t image since leaves = (there, back)
  where
    there : FuseLeftSince (BlownAt at n) was leaves_was t image → FuseLeftSince (BlownAt at n) now leaves_now t image
    there (inl past) = inl (since.0 past)
    there (inr torn) = inr (torn.0, (leaves torn.0).0 torn.1, torn.2, torn.3)

    back : FuseLeftSince (BlownAt at n) now leaves_now t image → FuseLeftSince (BlownAt at n) was leaves_was t image
    back (inl past) = inl (since.1 past)
    back (inr torn) = inr (torn.0, (leaves torn.0).1 torn.1, torn.2, torn.3)
