-- The law: nobody writes there, and what stood before is synced.
use Rattle.std.proofs.Common.{◌≡◌, ℕ, ◌+◌, ◌≤◌, sym, subst, length}
use Rattle.fkv_base.specs.declared.shapes.Shape.{Shape}
use Rattle.law_opening.specs.Below.fkv_core.Openings.{beginning}
use Rattle.fkv_disk.specs.Bytes.{bytes_at}
use Rattle.law_commit.specs.Below.fkv_flush.GuardFlushed.{IsSynced, stands}
use Rattle.fkv_plane.specs.declared.places.RecordWord.{RecordWord}
use Rattle.fkv_record.specs.Places.{record_place}
use Rattle.law_commit.specs.Below.fkv_world.Runs.{World, run}
use Rattle.law_commit.specs.Below.law_world.Guarded.GuardEvents as guarded
use Rattle.law_commit.specs.Below.law_world.Guarded.OpenedStore.{IsOpenedStore}
use Rattle.law_commit.specs.Below.law_world.Guarded.Shows.{guard_opening}
use Rattle.law_order.specs.Images.Left.{flushed_so_far}
use Rattle.law_order.proofs.OfImages.OpenedLong.{holds_below}
use Rattle.law_order.proofs.OfImages.Shows.{old_bytes}
use Rattle.law_opening.specs.Log.OpeningLog.{opening_ghosts}
use Rattle.law_order.proofs.images.records.law_images_keep_old.Goals as goal

pub returns : goal.returns
returns c = λ o n bytes events image a store begins long left some low.
    let opening : World = beginning n bytes in
    let opened : IsOpenedStore opening o.tail.0 = c.law_guard_opens.ensures o n bytes begins in
    let first = c.law_log_begins.ensures bytes o n store begins in
    let words : ℕ → RecordWord → ℕ = stands (guard_opening n o.tail.0) (guarded.mapped opening events) in
    let synced : IsSynced n.shape bytes (run opening events).past.calls words o.tail.0 (flushed_so_far n bytes events) =
    c.law_device_shows_log.ensures.synced opening o.tail.0 (opening_ghosts bytes o) events opened first.unborn (c.law_lives_change_published.ensures.published o n bytes events store begins) in
    let within : record_place n.shape a + 24 ≤ length bytes = subst (λ (s : Shape). record_place s a + 24 ≤ length bytes) (sym begins.its_shape) (holds_below c.law_spellings_apart.ensures.shapes bytes o store long a some low) in
    subst (λ (s : Shape). bytes_at image (record_place s a) 24 ≡ bytes_at bytes (record_place s a) 24) begins.its_shape
    (old_bytes n.shape bytes image (run opening events).past.calls words o.tail.0 (flushed_so_far n bytes events) a synced left low within)
