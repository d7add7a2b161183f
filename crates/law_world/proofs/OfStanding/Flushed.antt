-- What stands while the log is flushed: only its part of the image is written.
use Rattle.std.proofs.Common.{◌≡◌, ℕ, ◌<◌, ◌≤◌, List, [], ◌∷◌, length, Bool, true, false, not, ◌&&◌, refl, sym, ◌∙◌, ap, subst, arith}
use Rattle.std.specs.Prelude.{⊤}
use Rattle.fkv_base.specs.declared.shapes.Shape.{Shape}
use Rattle.fkv_record.specs.Places.{record_place}
use Rattle.fkv_disk.specs.Bytes.{written}
use Rattle.fkv_disk.specs.Calls.{Call, Write, Sync, reads_as, is_untouched, synced_end, AllDone, MayLeave}
use Rattle.fkv_disk.specs.Forgotten.{since_sync}
use Rattle.fkv_disk.proofs.Shown.{length-written, before_range, byte_at-written_out, sure_out}
use Rattle.fkv_manifest.proofs.Shown.{settled, sure_all}
use Rattle.fkv_keeper.specs.Keeping.{Finality}
use Rattle.law_world.specs.Standing.Opening.{IsBehind}
use Rattle.law_world.specs.Standing.Standing.{Standing}
use Rattle.law_world.proofs.OfStanding.Fronts.{Has, has_still, farther}

-- each of these writes lies in the log
abbrev pub AreLogWrites : Shape → List Call → Type 0
AreLogWrites shape [] = ⊤
AreLogWrites shape (Write at bytes done ∷ before) = (record_place shape 0 ≤ at) × AreLogWrites shape before
AreLogWrites shape (Sync done ∷ before) = AreLogWrites shape before

untouched_low : (shape : Shape) (calls : List Call) (i : ℕ) → AreLogWrites shape (since_sync calls) → i < record_place shape 0 → is_untouched calls i ≡ true
untouched_low shape [] i log low = refl
untouched_low shape (Write at bytes done ∷ before) i log low =
    ap (λ (c : Bool). not c && is_untouched before i) (before_range at (length bytes) i (omega (arith, log.0, low))) ∙ untouched_low shape before i log.1 low
untouched_low shape (Sync true ∷ before) i log low = refl
untouched_low shape (Sync false ∷ before) i log low = untouched_low shape before i log low

module _ (shape : Shape) (opened : List ℕ) (last : Finality) (its : Standing) where
  -- every call has succeeded, and the newest was a sync
  pub record IsCalm (calls : List Call) : Type 0 where
    pub all_done : AllDone calls
    pub synced : since_sync calls ≡ []
    pub has : Has shape last its (reads_as opened calls)

  -- every call has succeeded, and since the newest sync only the log was written
  pub record IsFlushing (calls : List Call) : Type 0 where
    pub all_done : AllDone calls
    pub log : AreLogWrites shape (since_sync calls)
    pub behind : IsBehind shape last.checkpoint (synced_end opened calls)
    pub has : Has shape last its (reads_as opened calls)

  pub calm_flushes : (calls : List Call) → IsCalm calls → IsFlushing calls
  calm_flushes calls is = record {
    all_done = is.all_done;
    log = subst (λ (s : List Call). AreLogWrites shape s) (sym is.synced) tt;
    behind = farther shape last.checkpoint (length (reads_as opened calls)) (synced_end opened calls) is.has.long (omega (arith, (settled opened calls is.all_done is.synced).end));
    has = is.has;
  }

  -- what a crash leaves
  pub flushing_left : (calls : List Call) (image : List ℕ) → IsFlushing calls → MayLeave opened calls image → Has shape last its image
  flushing_left calls image is left =
      has_still shape last its (reads_as opened calls) image (synced_end opened calls) is.has is.behind
      (farther shape last.checkpoint (synced_end opened calls) (length image) is.behind left.no_shorter)
      (λ i below low. left.kept i below (untouched_low shape calls i is.log low) (sure_all calls i is.all_done))

  pub calm_left : (calls : List Call) (image : List ℕ) → IsCalm calls → MayLeave opened calls image → Has shape last its image
  calm_left calls image is left = flushing_left calls image (calm_flushes calls is) left

  -- a write of the log
  pub flush_writes : (calls : List Call) (at : ℕ) (bytes : List ℕ) → record_place shape 0 ≤ at → IsFlushing calls → IsFlushing (Write at bytes true ∷ calls)
  flush_writes calls at bytes high is = record {
    all_done = is.all_done;
    log = (high, is.log);
    behind = is.behind;
    has =
        has_still shape last its (reads_as opened calls) (written (reads_as opened calls) at bytes) (length (reads_as opened calls)) is.has is.has.long
        (farther shape last.checkpoint (length (reads_as opened calls)) (length (written (reads_as opened calls) at bytes)) is.has.long (omega (arith, length-written (reads_as opened calls) at bytes)))
        (λ i below low. byte_at-written_out (reads_as opened calls) at bytes i (before_range at (length bytes) i (omega (arith, low, high))));
  }

  -- one that fails
  pub flush_fails : (calls : List Call) (at : ℕ) (bytes image : List ℕ) → record_place shape 0 ≤ at → IsFlushing calls → MayLeave opened (Write at bytes false ∷ calls) image → Has shape last its image
  flush_fails calls at bytes image high is left =
      has_still shape last its (reads_as opened calls) image (synced_end opened calls) is.has is.behind
      (farther shape last.checkpoint (synced_end opened calls) (length image) is.behind left.no_shorter)
      (λ i below low.
      let out = before_range at (length bytes) i (omega (arith, low, high)) in
      left.kept i below (ap (λ (c : Bool). not c && is_untouched calls i) out ∙ untouched_low shape calls i is.log low) (sure_out at bytes false calls i out ∙ sure_all calls i is.all_done))

  -- a sync, and one that fails
  pub flush_syncs : (calls : List Call) → IsFlushing calls → IsCalm (Sync true ∷ calls)
  flush_syncs calls is = record { all_done = is.all_done; synced = refl; has = is.has }

  pub sync_fails : (calls : List Call) (image : List ℕ) → IsFlushing calls → MayLeave opened (Sync false ∷ calls) image → Has shape last its image
  sync_fails calls image is left = flushing_left calls image is (record { no_shorter = left.no_shorter; no_longer = left.no_longer; kept = left.kept })
