-- By `law_paper`, of a checkpoint of this life or of the opening's.
use Rattle.std.proofs.Common.{◌∙◌, ℕ, inl, inr, ap, arith, List}
use Rattle.fkv_base.specs.declared.numbers.Addr.{Addr}
use Rattle.fkv_record.specs.declared.triples.Triple.{Triple}
use Rattle.law_log.specs.Ghosts.{Log}
use Rattle.law_order.specs.Decided.Cut.{log_beside}
use Rattle.law_order.specs.OneHistory.EachLife.{Life}
use Rattle.law_commit.specs.Below.law_paper.Paper.Images.{IsCut}
use Rattle.law_commit.specs.Below.law_paper.Paper.Slots.{HasSlots}
use Rattle.law_order.specs.Recovered.Leaves.{homes_of, log_named, log_then}
use Rattle.law_order.proofs.OfRecovered.OfHolds.Holds.{begins_there, live_there, names_end, shows_from, starts_some}
use Rattle.law_order.proofs.recovered.holds.law_named_hold.Goals as goal

pub returns : goal.returns
returns c = λ o n bytes events image leaves names.
    let home : ℕ → ℕ = homes_of n in
    let log : Log = log_beside o n bytes events in
    let begins = leaves.begins in
    let store = leaves.store in
    let cut : (triples : List Triple) → IsCut (log_named names triples) log = λ triples.
    c.law_cut_opens.ensures.cut bytes o n events names.commit store begins names.begun (log_named names triples) (names_end o n bytes events image names triples) in
    let slots : (triples : List Triple) → HasSlots (log_named names triples) log = λ triples.
    c.law_slots_open.ensures bytes o n events (log_named names triples) store begins (names.shape ∙ begins.its_shape) in
    let life : Life = record { bytes = bytes; opened = o; world = n; events = events } in
    let live = c.law_live.ensures.commits life (record { store = store; begins = begins; fits = leaves.fits; few = leaves.few }) names.commit names.begun in
    elim (c.law_images_use_checkpoints.ensures o n bytes events image leaves names) [
      | inl made ↦
          c.law_paper_is_sound.ensures.named home image names.newest made.triples log made.checkpoint
          (record {
            orderly = c.law_log_in_order.ensures o n bytes events image leaves;
            shows = shows_from home o.tail.0 _ (log_named names made.triples) log (c.law_scans_start_above.ensures o n bytes events image leaves names made.newer made.triples)
                (c.law_images_show_life.ensures o n bytes events image leaves names made.triples);
            recent = made.recent;
            cut = cut made.triples;
            some_start = starts_some o n bytes events image names made.triples;
            begins = (let found = names.its in found.manifest.suits.begin.before_scan);
            live = live_there home (log_named names made.triples) names.commit log (names_end o n bytes events image names made.triples) (begins_there o n bytes events image names made.triples) live;
            old_below = made.old_below;
            triples = made.covers;
          })
          (slots made.triples)
      | inr old ↦
          let tail = ap (λ (t : Addr). t.0) store.tells.tail in
          c.law_old_paper_is_sound.ensures.named home (log_then leaves) image names.newest store.triples log old.checkpoint
          (record {
            orderly = c.law_log_in_order.ensures o n bytes events image leaves;
            shows = shows_from home o.tail.0 _ (log_named names store.triples) log (omega (arith, tail)) (c.law_images_show_life.ensures o n bytes events image leaves names store.triples);
            recent = old.recent;
            cut = cut store.triples;
            goes_on = old.goes_on;
            opened = old.opened;
            before = old.before;
            loses = old.loses;
          })
          (slots store.triples)
    ]
