-- The law: what was flushed since the opening shows by its words, and what stood before as it was.
use Rattle.std.proofs.Common.{◌≡◌, ℕ, zero, suc, ◌+◌, ◌<◌, ◌≤◌, ◌∙◌, inl, inr, refl, sym, ap, subst, arith, length}
use Rattle.std.proofs.lemmas.Bool.{cases_lt}
use Rattle.fkv_base.specs.declared.numbers.Addr.{Addr}
use Rattle.fkv_base.specs.declared.shapes.Shape.{Shape}
use Rattle.law_opening.specs.Below.fkv_core.Openings.{beginning}
use Rattle.fkv_disk.specs.Bytes.{bytes_at}
use Rattle.law_commit.specs.Below.fkv_flush.GuardFlushed.{IsSynced, stands}
use Rattle.law_opening.specs.Below.fkv_pairs.Pairs.{log_of_store}
use Rattle.fkv_plane.specs.declared.places.RecordWord.{RecordWord}
use Rattle.fkv_record.specs.Places.{record_place}
use Rattle.law_opening.specs.Below.fkv_scan.Log as scan
use Rattle.law_commit.specs.Below.fkv_world.Runs.{World, run}
use Rattle.law_commit.specs.Below.law_world.Guarded.GuardEvents as guarded
use Rattle.law_commit.specs.Below.law_world.Guarded.OpenedStore.{IsOpenedStore}
use Rattle.law_commit.specs.Below.law_world.Guarded.Shows.{guard_opening}
use Rattle.law_order.specs.Images.Left.{flushed_so_far}
use Rattle.law_order.proofs.OfImages.OpenedLong.{holds_below}
use Rattle.law_order.specs.Images.Records.{ShowsGivenUp}
use Rattle.law_order.proofs.OfImages.Shows.{HasWords, old_bytes, passes_over, shows_counted, shows_given_up, shows_words}
use Rattle.law_log.specs.Chains.{Cell, Dropped, Logged, Published, Unborn}
use Rattle.law_log.specs.Enabled.{IsOpened}
use Rattle.law_log.specs.Ghosts.{Ghosts}
use Rattle.law_opening.specs.Log.Maps.{opening_map}
use Rattle.law_opening.specs.Log.Lives.{ghosts_beside}
use Rattle.law_opening.specs.Log.OpeningLog.{opening_ghosts}
use Rattle.law_commit.specs.Below.law_refine.Events.GhostEvents.{home_in}
use Rattle.law_order.proofs.images.records.law_images_show_log.Goals as goal

none_there : (logged : Logged) (cell : Cell) → logged ≡ Unborn → logged ≡ Published cell → ⊥
none_there logged cell none e = cc

some_addr : (a : ℕ) → (a ≡ 0 → ⊥) → 0 < a
some_addr zero other = absurd (other refl)
some_addr (suc a) other = omega arith

-- address 0 has no record, so those below the opened tail lie above it
pub returns : goal.returns
returns c = λ o n bytes events image store begins long fits left shape later.
    let opening : World = beginning n bytes in
    let opened : IsOpenedStore opening o.tail.0 = c.law_guard_opens.ensures o n bytes begins in
    let first = c.law_log_begins.ensures bytes o n store begins in
    let ghosts : Ghosts = opening_ghosts bytes o in
    let words : ℕ → RecordWord → ℕ = stands (guard_opening n o.tail.0) (guarded.mapped opening events) in
    let synced : IsSynced n.shape bytes (run opening events).past.calls words o.tail.0 (flushed_so_far n bytes events) = c.law_device_shows_log.ensures.synced opening o.tail.0 ghosts events opened first.unborn (c.law_lives_change_published.ensures.published o n bytes events store begins) in
    let shows = c.law_stands_show_log.ensures opening o.tail.0 ghosts events opened.now first.unborn first.reserves_nothing (c.law_lives_change_published.ensures.published o n bytes events store begins) in
    let headers = c.law_lives_change_published.ensures.headers o n bytes events store begins in
    let same_shape : image.shape ≡ n.shape = shape ∙ sym begins.its_shape in
    let there : (a : ℕ) → o.tail.0 ≤ a → a < flushed_so_far n bytes events → HasWords image a (words a) = λ a from to.
    ap (λ (s : Shape). bytes_at image.image (record_place s a) 24) same_shape ∙ synced.records image.image (inr left) a from to in
    let was : scan.Log = log_of_store bytes o store in
    let was_shape : was.shape ≡ o.shape = sym store.tells.shape in
    let was_begin : o.begin.0 ≡ was.begin = ap (λ (b : Addr). b.0) store.tells.begin in
    let counted = c.law_log_counted.ensures bytes o store in
    let log : IsOpened (home_in o.shape.bucket_bits) (opening_map bytes o) o.number.0 ghosts = c.law_log_opened.ensures.opened bytes o store in
    let same : (a : ℕ) → a < o.tail.0 → (ghosts_beside o n bytes events).log.cells a ≡ ghosts.log.cells a = λ a low. c.law_lives_change_published.ensures.old o n bytes events a store begins low in
    let given_up : (a : ℕ) (cell : Cell) → (ghosts_beside o n bytes events).log.cells a ≡ Dropped cell → o.tail.0 ≤ a → a < flushed_so_far n bytes events → ShowsGivenUp image a cell = λ a cell e from to.
    shows_given_up image a (words a) cell (there a from to) (headers.dropped a cell from e) in
    record {
      published = λ a cell e on to. elim (cases_lt a o.tail.0) [
        | inl low ↦
            let was_there : ghosts.log.cells a ≡ Published cell = sym (same a low) ∙ e in
            let some : 0 < a = some_addr a (λ zero_is. none_there (ghosts.log.cells a) cell (ap ghosts.log.cells zero_is ∙ log.none) was_there) in
            let within : record_place n.shape a + 24 ≤ length bytes = subst (λ (s : Shape). record_place s a + 24 ≤ length bytes) (sym begins.its_shape) (holds_below c.law_spellings_apart.ensures.shapes bytes o store long a some low) in
            let same = old_bytes n.shape bytes image.image (run opening events).past.calls words o.tail.0 (flushed_so_far n bytes events) a synced left low within in
            shows_counted o.tail.0 was image a cell (omega (arith, was_begin, later)) low (shape ∙ sym was_shape)
            (subst (λ (s : Shape). bytes_at image.image (record_place s a) 24 ≡ bytes_at bytes (record_place s a) 24) (begins.its_shape ∙ sym was_shape) same) (counted.published a cell was_there)
        | inr high ↦
            let its = shows a cell high e in
            shows_words o.tail.0 image a (words a) cell (there a high to) (headers.published a cell high e) its.key its.value (c.law_lives_fit.ensures.fit o n bytes events store begins fits a cell e)
      ];
      given_up = given_up;
      dropped = λ a cell e from to young. passes_over image a cell (given_up a cell e from to) young;
    }
