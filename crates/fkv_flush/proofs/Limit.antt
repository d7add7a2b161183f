-- The limit is the end of whole pages that the device has.
use Rattle.std.proofs.Common.{◌≡◌, ℕ, ◌+◌, ◌/◌, min, List, [], ◌∷◌, sym, subst, arith, inl, inr, ◌∙◌}
use Rattle.std.proofs.lemmas.Bool.{cases_lt}
use Rattle.fkv_base.specs.declared.shapes.Shape.{Shape}
use Rattle.fkv_plane.specs.declared.places.Places.{Places}
use Rattle.fkv_flush.specs.GuardLevels.{levels_of}
use Rattle.fkv_flush.specs.GuardLimit.{EndsPages}
use Rattle.fkv_flush.specs.GuardWorld.{GuardWorld, GuardEvent, guard_happens, guard_run}
use Rattle.fkv_flush.specs.Guarded.{IsOpened}
use Rattle.fkv_flush.proofs.GuardSound.{IsSound}
use Rattle.fkv_flush.proofs.GuardLaw.{run_sound}
use Rattle.fkv_flush.proofs.GuardPages.{guards_limit}
use Rattle.fkv_flush.proofs.GuardStays.{same_store}
use Rattle.fkv_flush.proofs.GuardUnwritten.{limit_rises}

-- where it is raised, it is raised to the end of a page that the device has
pub happens_paged : (w : GuardWorld) (event : GuardEvent) → IsSound w → EndsPages w.now.shape (levels_of w.now.words).limit → EndsPages (guard_happens w event).now.shape (levels_of (guard_happens w event).now.words).limit
happens_paged w event sound was =
    subst (λ (shape : Shape). EndsPages shape (levels_of (guard_happens w event).now.words).limit) (sym (same_store w event).0)
    (elim (cases_lt (levels_of w.now.words).limit (levels_of (guard_happens w event).now.words).limit) [
      | inl up ↦
          let r = guards_limit w event sound up in
          let on = r.2.on_device in
          record { pages = r.0 + 1; whole = r.1; on_device = omega (arith, on) }
      | inr down ↦
          let up = limit_rises w event sound in
          let same : (levels_of (guard_happens w event).now.words).limit ≡ (levels_of w.now.words).limit = omega (arith, up, down) in
          record { pages = was.pages; whole = same ∙ was.whole; on_device = was.on_device }
    ])

pub run_paged : (w : GuardWorld) (events : List GuardEvent) → IsSound w → EndsPages w.now.shape (levels_of w.now.words).limit → EndsPages (guard_run w events).now.shape (levels_of (guard_run w events).now.words).limit
unfolding guard_run
run_paged w [] sound was = was
run_paged w (event ∷ before) sound was = happens_paged (guard_run w before) event (run_sound w before sound) (run_paged w before sound was)

-- so it is as the store is opened
pub opening_paged : (shape : Shape) (places : Places) (actors : ℕ) (words : List ℕ) (start : ℕ) → IsOpened shape places actors words start → EndsPages shape (levels_of words).limit
opening_paged shape places actors words start o = record { pages = min (start / shape.page + 2) shape.disk_pages; whole = o.limit; on_device = omega arith }
