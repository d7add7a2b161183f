-- What the record of a device in memory says after one call more.
use Rattle.std.proofs.Common.{◌≡◌, ◌⊎◌, inl, inr, ℕ, zero, suc, ◌+◌, ◌≤◌, List, [], ◌∷◌, ◌++◌, length, drop, true, false, refl, sym, ap, subst, arith}
use Rattle.fkv_disk.specs.Bytes.{AreBytes}
use Rattle.fkv_disk.specs.Calls.{Call, Write, Sync, reads_as, AllDone, MayLeave}
use Rattle.fkv_disk.specs.Device.{Torn, Elapses}
use Rattle.fkv_disk.specs.Done.{call_of, calls_of, MayLeaveBytes, LeftSince}
use Rattle.fkv_disk.specs.declared.memory.DoneCall.{DoneCall}
use Rattle.fkv_disk.specs.declared.memory.DoneCall.TheVariants.{Wrote, Synced}
use Rattle.fkv_disk.specs.Stays.{reads_may_stay, reads_itself}
use Rattle.fkv_disk.proofs.Left.{torn_over, torn_over_was, torn_over_torn, torn_over_bytes}
use Rattle.fkv_disk.proofs.Images.{synced_image}

pub calls_of-push : (done : List DoneCall) (call : DoneCall) → calls_of (done ++ call ∷ []) ≡ call_of call ∷ calls_of done
calls_of-push [] call = refl
calls_of-push (first ∷ done) call = ap (λ (cs : List Call). cs ++ call_of first ∷ []) (calls_of-push done call)

-- an image after a write is a torn write over one from before it
pub write_torn : (opening : List ℕ) (before calls : List Call) (at : ℕ) (bytes image : List ℕ) → calls ≡ Write at bytes true ∷ before → AreBytes (reads_as opening before) → MayLeaveBytes opening calls image → (old : List ℕ) × MayLeaveBytes opening before old × Torn at (length bytes) old image
write_torn opening before calls at bytes image is fit left =
    let now : MayLeaveBytes opening (Write at bytes true ∷ before) image = subst (λ (cs : List Call). MayLeaveBytes opening cs image) is left in (
      torn_over opening at bytes true before image now.allowed,
      record {
        allowed = torn_over_was opening at bytes true before image now.allowed;
        are_bytes = torn_over_bytes opening at bytes true before image now.allowed now.are_bytes fit;
      },
      torn_over_torn opening at bytes true before image now.allowed,
    )

-- time goes on by one call
elapses : (forgotten : ℕ) (opening : List ℕ) (before : List Call) (call : Call) → Elapses (forgotten + length before) (forgotten + length (call ∷ before)) (LeftSince forgotten opening before) (LeftSince forgotten opening (call ∷ before)) (MayLeaveBytes opening (call ∷ before))
elapses forgotten opening before call = record { later = omega arith; nothing_else = older; keeps = newer }
  where
    newer : (t : ℕ) (image : List ℕ) → t ≤ forgotten + length before → LeftSince forgotten opening before t image → LeftSince forgotten opening (call ∷ before) t image
    newer t image le (inl early) = inl early
    newer t image le (inr left) = inr (suc left.0, omega (arith, left.1), left.2)

    older_of : (t : ℕ) (image : List ℕ) (newest : ℕ) → t + newest ≤ forgotten + length (call ∷ before) → MayLeaveBytes opening (drop newest (call ∷ before)) image → LeftSince forgotten opening before t image ⊎ MayLeaveBytes opening (call ∷ before) image
    older_of t image zero le left = inr left
    older_of t image (suc newest) le left = inl (inr (newest, omega (arith, le), left))

    older : (t : ℕ) (image : List ℕ) → t ≤ forgotten + length before → LeftSince forgotten opening (call ∷ before) t image → LeftSince forgotten opening before t image ⊎ MayLeaveBytes opening (call ∷ before) image
    older t image le (inl early) = inl (inl early)
    older t image le (inr left) = older_of t image left.0 left.1 left.2

pub elapses_push : (forgotten : ℕ) (opening : List ℕ) (before calls : List Call) (call : Call) → calls ≡ call ∷ before → Elapses (forgotten + length before) (forgotten + length calls) (LeftSince forgotten opening before) (LeftSince forgotten opening calls) (MayLeaveBytes opening calls)
elapses_push forgotten opening before calls call is = subst (λ (cs : List Call). Elapses (forgotten + length before) (forgotten + length cs) (LeftSince forgotten opening before) (LeftSince forgotten opening cs) (MayLeaveBytes opening cs)) (sym is) (elapses forgotten opening before call)

all_done-push : (calls : List Call) (done : DoneCall) → AllDone calls → AllDone (calls ++ call_of done ∷ [])
all_done-push [] (Wrote at bytes) all = tt
all_done-push [] Synced all = tt
all_done-push (Write at bytes true ∷ before) done all = all_done-push before done all
all_done-push (Write at bytes false ∷ before) done all = absurd all
all_done-push (Sync true ∷ before) done all = all_done-push before done all
all_done-push (Sync false ∷ before) done all = absurd all

pub all_done : (done : List DoneCall) → AllDone (calls_of done)
all_done [] = tt
all_done (call ∷ later) = all_done-push (calls_of later) call (all_done later)

-- after a sync a crash leaves what is read
pub synced_only : (opening : List ℕ) (done : List DoneCall) (calls : List Call) (image : List ℕ) → calls ≡ Sync true ∷ calls_of done → MayLeave opening calls image → image ≡ reads_as opening (calls_of done)
synced_only opening done calls image is left = synced_image opening (calls_of done) image (all_done done) (subst (λ (cs : List Call). MayLeave opening cs image) is left)

pub synced_no_more : (opening : List ℕ) (done : List DoneCall) (calls : List Call) (image : List ℕ) → calls ≡ Sync true ∷ calls_of done → MayLeaveBytes opening calls image → MayLeaveBytes opening (calls_of done) image
synced_no_more opening done calls image is left = record {
  allowed = subst (MayLeave opening (calls_of done)) (sym (synced_only opening done calls image is left.allowed))
      (reads_may_stay opening (calls_of done) (reads_as opening (calls_of done)) (reads_itself opening (calls_of done)));
  are_bytes = left.are_bytes;
}
