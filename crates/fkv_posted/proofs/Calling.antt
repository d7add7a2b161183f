-- How what was told of a medium goes on from call to call.
use Rattle.std.proofs.Common.{◌≡◌, ◌⊎◌, inl, inr, ℕ, zero, suc, ◌+◌, ◌-◌, ◌<◌, ◌≤◌, List, [], ◌∷◌, length, drop, Bool, true, false, refl, sym, ap, subst, ◌∙◌, arith}
use Rattle.std.specs.Prelude.{Option, Some, None}
use Rattle.std.specs.Borrow.{Bor}
use Rattle.fkv_disk.specs.Bytes.{AreBytes, byte_at, covers, written}
use Rattle.fkv_disk.specs.Calls.{Call, Write, Sync, reads_as}
use Rattle.fkv_disk.specs.Device.{Elapses, IsAfter}
use Rattle.fkv_disk.proofs.Shown.{after_failed_sync, after_sync, after_write, byte_at-written_in, byte_at-written_out, is_opened}
use Rattle.fkv_posted.specs.Outcomes.{AlwaysBytes, MayRemain, Made, Outcome, RemainsSince, calls_in}
use Rattle.fkv_posted.specs.Posting.{shown_or, told_now, with_read, with_told}
use Rattle.fkv_posted.specs.Remains.{reads_remain}
use Rattle.fkv_posted.specs.declared.outcomes.Told.{Told}
use Rattle.fkv_posted.specs.declared.outcomes.Told.TheVariants.{Piece, Read, Written, Synced, Failed}

with_read_calls : (told : Option Told) (before : List Outcome) → calls_in (with_read told before) ≡ calls_in before
with_read_calls None before = refl
with_read_calls (Some (Read at bytes)) before = refl
with_read_calls (Some (Piece at bytes)) before = refl
with_read_calls (Some Written) before = refl
with_read_calls (Some Synced) before = refl
with_read_calls (Some Failed) before = refl

-- a call is the newest one, whatever was told of it
pub called : (failures : ℕ) (told : Option Told) (before taken now : List Outcome) (call : Call) → taken ≡ with_told failures told before → now ≡ Made call ∷ taken → calls_in now ≡ call ∷ calls_in before
called failures told before taken now call took is =
    ap calls_in is ∙ ap (λ (outs : List Outcome). call ∷ calls_in outs) took ∙ ap (λ (calls : List Call). call ∷ calls) (with_read_calls (told_now failures told) before)

-- time goes on by one call
elapses : (opened : List ℕ) (before : List Call) (call : Call) → Elapses (length before) (length (call ∷ before)) (RemainsSince opened before) (RemainsSince opened (call ∷ before)) (MayRemain opened (call ∷ before))
elapses opened before call = record { later = omega arith; nothing_else = older; keeps = newer }
  where
    newer : (t : ℕ) (image : List ℕ) → t ≤ length before → RemainsSince opened before t image → RemainsSince opened (call ∷ before) t image
    newer t image le left = (suc left.0, omega (arith, left.1), left.2)

    older_of : (t : ℕ) (image : List ℕ) (newest : ℕ) → t + newest ≤ length (call ∷ before) → MayRemain opened (drop newest (call ∷ before)) image → RemainsSince opened before t image ⊎ MayRemain opened (call ∷ before) image
    older_of t image zero le left = inr left
    older_of t image (suc newest) le left = inl (newest, omega (arith, le), left)

    older : (t : ℕ) (image : List ℕ) → t ≤ length before → RemainsSince opened (call ∷ before) t image → RemainsSince opened before t image ⊎ MayRemain opened (call ∷ before) image
    older t image le left = older_of t image left.0 left.1 left.2

module _ (opened opened' : List ℕ) (before calls : List Call) (call : Call) (same : opened' ≡ opened) (is : calls ≡ call ∷ before) where
  pub elapses_by : Elapses (length before) (length calls) (RemainsSince opened before) (RemainsSince opened' calls) (MayRemain opened' calls)
  elapses_by =
      subst (λ (z : List ℕ × List Call). Elapses (length before) (length z.1) (RemainsSince opened before) (RemainsSince z.0 z.1) (MayRemain z.0 z.1)) (λ i. (sym same i, sym is i)) (elapses opened before call)

  pub always_on : AreBytes (reads_as opened (call ∷ before)) → AlwaysBytes opened before → AlwaysBytes opened' calls
  always_on now was = subst (λ (z : List ℕ × List Call). AlwaysBytes z.0 z.1) (λ i. (sym same i, sym is i)) fits
    where
      fits : AlwaysBytes opened (call ∷ before)
      fits zero = now
      fits (suc n) = was n

written_bytes : (old : List ℕ) (at : ℕ) (bytes : List ℕ) → AreBytes old → AreBytes bytes → AreBytes (written old at bytes)
written_bytes old at bytes was new i = by_cover (covers at (length bytes) i) refl
  where
    by_cover : (b : Bool) → covers at (length bytes) i ≡ b → byte_at (written old at bytes) i < 256
    by_cover true e = omega (arith, byte_at-written_in old at bytes i e, new (i - at))
    by_cover false e = omega (arith, byte_at-written_out old at bytes i e, was i)

pub write_bytes : (opened : List ℕ) (before : List Call) (at : ℕ) (bytes : List ℕ) (done : Bool) → AreBytes (reads_as opened before) → AreBytes bytes → AreBytes (reads_as opened (Write at bytes done ∷ before))
write_bytes opened before at bytes true was new = written_bytes (reads_as opened before) at bytes was new
write_bytes opened before at bytes false was new = was

module _ (opened opened' : List ℕ) (before calls : List Call) (done : Bool) (same : opened' ≡ opened) (is : calls ≡ Sync done ∷ before) where
  sync_reads : reads_as opened' calls ≡ reads_as opened before
  sync_reads = λ i. reads_as (same i) (is i)

  -- what is shown stays so
  pub sync_shows : (shown : Option (Bor (List ℕ))) → shown_or shown (reads_as opened before) ≡ reads_as opened before → shown_or shown (reads_as opened' calls) ≡ reads_as opened' calls
  sync_shows shown was = subst (λ (bytes : List ℕ). shown_or shown bytes ≡ bytes) (sym sync_reads) was

  -- a sync leaves no more than before
  pub sync_no_more : AlwaysBytes opened before → (image : List ℕ) → MayRemain opened' calls image → MayRemain opened before image
  sync_no_more fits image left = by_done done (subst (λ (z : List ℕ × List Call). MayRemain z.0 z.1 image) (λ i. (same i, is i)) left)
    where
      by_done : (its : Bool) → MayRemain opened (Sync its ∷ before) image → MayRemain opened before image
      by_done true now = subst (MayRemain opened before) (sym now.1) (reads_remain opened before fits)
      by_done false now = now

-- what was told is what a device of these calls is
pub are_of_device : (opened : List ℕ) (calls : List Call) → IsAfter opened calls (reads_as opened calls) (MayRemain opened calls)
are_of_device opened [] = is_opened opened (MayRemain opened []) (λ image left. left.1)
are_of_device opened (Write at bytes true ∷ before) =
    after_write opened before (reads_as opened before) (written (reads_as opened before) at bytes) (MayRemain opened before) (MayRemain opened (Write at bytes true ∷ before)) (are_of_device opened before) at bytes true refl (λ image left. left.1)
are_of_device opened (Write at bytes false ∷ before) =
    after_write opened before (reads_as opened before) (reads_as opened before) (MayRemain opened before) (MayRemain opened (Write at bytes false ∷ before)) (are_of_device opened before) at bytes false (omega arith, omega arith, λ i out_it. refl)
    (λ image left. left.1)
are_of_device opened (Sync true ∷ before) =
    after_sync opened before (reads_as opened before) (reads_as opened before) (MayRemain opened before) (MayRemain opened (Sync true ∷ before)) (are_of_device opened before) refl (λ image left. left.1)
are_of_device opened (Sync false ∷ before) =
    after_failed_sync opened before (reads_as opened before) (reads_as opened before) (MayRemain opened before) (MayRemain opened (Sync false ∷ before)) (are_of_device opened before) refl (λ image left. left)
