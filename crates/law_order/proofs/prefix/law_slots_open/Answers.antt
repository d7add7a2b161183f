-- By the entries of the index, which lead to where chains begin.
use Rattle.std.proofs.Common.{◌∙◌, ap, sym}
use Rattle.fkv_base.specs.declared.shapes.Shape.{Shape}
use Rattle.law_opening.specs.Below.fkv_core.Openings.{beginning}
use Rattle.law_opening.specs.Below.fkv_filling.OpeningIndex.{opening_lists}
use Rattle.fkv_plane.specs.declared.places.Places.{Places}
use Rattle.law_commit.specs.Below.fkv_world.Runs.{World, run}
use Rattle.law_commit.proofs.Below.fkv_world.Shown.{places_stay}
use Rattle.law_opening.specs.Log.OpeningLog.{opening_ghosts}
use Rattle.law_commit.specs.Below.law_refine.Index.LifeEntries.{lists_seen}
use Rattle.law_order.proofs.OfPrefix.Slots.{has_slots}
use Rattle.law_order.specs.Decided.Cut.{log_beside}
use Rattle.law_order.proofs.prefix.law_slots_open.Goals as goal

pub returns : goal.returns
returns c = λ bytes o n events image store its shape.
    let opening : World = beginning n bytes in
    let life = c.law_life_begins.ensures bytes o n store its in
    let index = c.law_world_one_entry.ensures.index opening (opening_lists o.entries.items) events life.index in
    let leads = c.law_heads.ensures.leads opening o.tail.0 (opening_lists o.entries.items) (opening_ghosts bytes o) events life.store.now life.index life.unborn life.reserves life.heads in
    let falls = c.law_lives_change_published.ensures.falls o n bytes events store its in
    let places = places_stay opening events in
    has_slots (run opening events).now (lists_seen opening (opening_lists o.entries.items) events) index.spares (log_beside o n bytes events) n.shape.bucket_bits (ap (λ (p : Places). p.buckets) places ∙ life.index.buckets) index.its_index leads falls image
    (ap (λ (p : Places). p.overflow) places ∙ (its.its_places.overflow ∙ ap (λ (s : Shape). s.overflow) (sym shape)))
