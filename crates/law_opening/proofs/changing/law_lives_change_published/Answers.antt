-- The laws, by what an opened store begins with.
use Rattle.std.proofs.Common.{◌∙◌, ap, refl, subst, sym, ℕ}
use Rattle.fkv_base.specs.declared.shapes.Shape.{Shape}
use Rattle.fkv_core.specs.Openings.{beginning}
use Rattle.fkv_filling.specs.OpeningIndex.{opening_lists}
use Rattle.law_opening.specs.Log.OpeningLog.{opening_ghosts}
use Rattle.law_opening.specs.Changes.Linked.{ChainsFall}
use Rattle.law_opening.proofs.OfChanges.Falls.{opened_falls}
use Rattle.law_opening.proofs.OfChanges.Openings.{linked_log}
use Rattle.law_opening.proofs.OfLives.Warm.{warm_shows}
use Rattle.law_refine.specs.Events.GhostEvents.{home_in}
use Rattle.law_opening.proofs.changing.law_lives_change_published.Goals as goal

pub returns-clause-begins : goal.returns-clause-begins
returns-clause-begins c = λ o n bytes store world.
    let guarded = c.law_guard_opens.ensures o n bytes world in
    let first = c.law_log_begins.ensures bytes o n store world in
    let log = c.law_log_opened.ensures.opened bytes o store in
    record {
      world = record {
        goes_on = world.goes_on;
        no_history = refl;
        no_trace = refl;
        no_calls = refl;
        seats = world.seats ∙ sym world.its_places.sessions;
        keeper = guarded.now.keeper;
        sessions = λ number s found. (world.its_sessions number s found).opened;
      };
      now = guarded.now;
      some = o.some_tail;
      index = c.law_index_opens.ensures.opened o n bytes world;
      unborn = first.unborn;
      reserves = first.reserves_nothing;
      heads = c.law_log_heads.ensures bytes o n store world;
      linked = linked_log (home_in o.shape.bucket_bits) (let ghosts = opening_ghosts bytes o in ghosts.log) log.chains;
      warm = warm_shows bytes o n world store guarded.now first (c.law_log_counted.ensures bytes o store);
    }

pub returns-clause-published : goal.returns-clause-published
returns-clause-published c = λ o n bytes events store world. c.law_changes_published.ensures.published (beginning n bytes) o.tail.0 (opening_lists o.entries.items) (opening_ghosts bytes o) events (returns-clause-begins c o n bytes store world)

pub returns-clause-falls : goal.returns-clause-falls
returns-clause-falls c = λ o n bytes events store world.
    let log = c.law_log_opened.ensures.opened bytes o store in
    c.law_changes_published.ensures.falls (beginning n bytes) o.tail.0 (opening_lists o.entries.items) (opening_ghosts bytes o) events (returns-clause-begins c o n bytes store world)
    (subst (λ (bits : ℕ). ChainsFall (home_in bits) (let ghosts = opening_ghosts bytes o in ghosts.log)) (sym (ap (λ (s : Shape). s.bucket_bits) world.its_shape)) (opened_falls (home_in o.shape.bucket_bits) (let ghosts = opening_ghosts bytes o in ghosts.log) log.chains))

pub returns-clause-headers : goal.returns-clause-headers
returns-clause-headers c = λ o n bytes events store world. c.law_changes_published.ensures.headers (beginning n bytes) o.tail.0 (opening_lists o.entries.items) (opening_ghosts bytes o) events (returns-clause-begins c o n bytes store world)

pub returns-clause-old : goal.returns-clause-old
returns-clause-old c = λ o n bytes events a store world low. c.law_changes_published.ensures.old (beginning n bytes) o.tail.0 (opening_lists o.entries.items) (opening_ghosts bytes o) events a (returns-clause-begins c o n bytes store world) low
