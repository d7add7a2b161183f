-- The laws: ends never fall, and each flushed record is reached.
use Rattle.std.proofs.Common.{ℕ, ◌+◌, ◌-◌, ◌<◌, ◌≤◌, inl, inr, subst, arith, List, length}
use Rattle.std.proofs.lemmas.Bool.{cases_lt}
use Rattle.fkv_base.specs.declared.shapes.Shape.{Shape}
use Rattle.law_opening.specs.Below.fkv_core.Openings.{beginning}
use Rattle.fkv_disk.specs.Calls.{Call}
use Rattle.law_commit.specs.Below.fkv_flush.GuardFlushed.{IsSynced, stands}
use Rattle.fkv_plane.specs.declared.places.RecordWord.{RecordWord}
use Rattle.fkv_record.specs.Places.{record_place}
use Rattle.law_commit.specs.Below.fkv_world.Runs.{World, run}
use Rattle.law_commit.specs.Below.law_world.Guarded.GuardEvents as guarded
use Rattle.law_commit.specs.Below.law_world.Guarded.OpenedStore.{IsOpenedStore}
use Rattle.law_commit.specs.Below.law_world.Guarded.Shows.{guard_opening}
use Rattle.law_order.specs.Images.Left.{flushed_so_far}
use Rattle.law_order.proofs.OfImages.Reaching.{reaches, synced_longer}
use Rattle.law_order.proofs.OfImages.OpenedLong.{holds_below}
use Rattle.law_opening.specs.Log.OpeningLog.{opening_ghosts}
use Rattle.law_order.proofs.images.lengths.law_images_are_long.Goals as goal

pub returns-clause-opened : goal.returns-clause-opened
returns-clause-opened c = λ n bytes events image left.
    let least = synced_longer bytes (run (beginning n bytes) events).past.calls in
    let most = left.no_shorter in
    omega (arith, least, most)

pub returns-clause-flushed : goal.returns-clause-flushed
returns-clause-flushed c = λ o n bytes events image a store begins left from to.
    let opening : World = beginning n bytes in
    let opened : IsOpenedStore opening o.tail.0 = c.law_guard_opens.ensures o n bytes begins in
    let first = c.law_log_begins.ensures bytes o n store begins in
    let permitted = c.law_records_published.ensures.permitted opening o.tail.0 (opening_ghosts bytes o) events opened.now first.unborn (c.law_lives_change_published.ensures.published o n bytes events store begins) in
    let words : ℕ → RecordWord → ℕ = stands (guard_opening n o.tail.0) (guarded.mapped opening events) in
    let same = c.law_world_flushed_is_synced.ensures.calls opening o.tail.0 events opened in
    let synced : (other : List ℕ) → IsSynced n.shape other (run opening events).past.calls words o.tail.0 (flushed_so_far n bytes events) = λ other.
    subst (λ (calls : List Call). IsSynced n.shape other calls words o.tail.0 (flushed_so_far n bytes events)) same (c.law_world_flushed.ensures.synced opening o.tail.0 events other opened.now permitted) in
    subst (λ (s : Shape). record_place s a + 24 ≤ length image) begins.its_shape (reaches n.shape words o.tail.0 (flushed_so_far n bytes events) (run opening events).past.calls synced a from to bytes image left)

one_below : (end least : ℕ) → 1 < end → end - 1 < least → 0 < end - 1
one_below end least some low = omega (arith, some)

pub returns-clause-records : goal.returns-clause-records
returns-clause-records c = λ o n bytes events image end store begins long left some most. elim (cases_lt (end - 1) o.tail.0) [
  | inl low ↦
      let there : record_place o.shape (end - 1) + 24 ≤ length bytes = holds_below c.law_spellings_apart.ensures.shapes bytes o store long (end - 1) (one_below end o.tail.0 some low) low in
      let least = synced_longer bytes (run (beginning n bytes) events).past.calls in
      let shorter = left.no_shorter in
      omega (arith, there, least, shorter)
  | inr high ↦ returns-clause-flushed c o n bytes events image (end - 1) store begins left high (omega (arith, some, most))
]
