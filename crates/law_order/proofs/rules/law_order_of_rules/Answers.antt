-- The laws, from the log beside the life to the life itself.
use Rattle.std.proofs.Common.{ℕ, subst, sym, List, [], ◌∷◌}
use Rattle.fkv_base.specs.declared.shapes.Shape.{Shape}
use Rattle.law_opening.specs.Below.fkv_core.Openings.{beginning}
use Rattle.fkv_map.specs.History.{IsLegal}
use Rattle.law_log.specs.Ghosts.{Ghosts}
use Rattle.law_log.specs.Enabled.{IsOpened}
use Rattle.law_log.specs.Trace.{OrdersCalls, ReadsAreFresh, TraceLine}
use Rattle.law_opening.specs.Log.Lives.{ghosts_beside}
use Rattle.law_opening.specs.Log.Maps.{opening_map}
use Rattle.law_opening.specs.Log.OpeningLog.{opening_ghosts}
use Rattle.law_commit.proofs.Below.law_refine.OfCalls.SameHistory.{same_history}
use Rattle.law_opening.specs.Below.fkv_opening.TheOpened.{Opened}
use Rattle.law_commit.specs.Below.fkv_world.Runs.{run}
use Rattle.law_commit.specs.Below.fkv_world.World.{Event, Now}
use Rattle.law_commit.specs.Below.law_world.Guarded.Shows.{ArePermitted}
use Rattle.law_commit.specs.Below.law_refine.Events.GhostEvents.{home_in}
use Rattle.law_commit.proofs.Below.law_refine.OfRecords.Below.{published_permitted}
use Rattle.law_order.specs.Rules.Ordered.{effects_so_far, lines_so_far}
use Rattle.law_order.proofs.OfRules.InTime.{reads_in_time}
use Rattle.law_order.proofs.OfRules.Kept.{permitted_at, same_entries}
use Rattle.law_order.proofs.OfRules.SameEntries.{fresh_by, orders_by}
use Rattle.law_order.proofs.rules.law_order_of_rules.Goals as goal

pub returns-clause-legal : goal.returns-clause-legal
returns-clause-legal c = λ bytes o n events store world rules published.
    let beside : Ghosts = ghosts_beside o n bytes events in
    let same = same_entries bytes o n events world (c.law_guard_opens.ensures o n bytes world).now (c.law_log_begins.ensures bytes o n store world) published in
    subst (IsLegal (opening_map bytes o)) (same_history beside.log.history (effects_so_far n bytes events) same) (c.law_log_beside.ensures.ordered bytes o n events store world rules).legal

pub returns-clause-ordered : goal.returns-clause-ordered
returns-clause-ordered c = λ bytes o n events store world rules published.
    let beside : Ghosts = ghosts_beside o n bytes events in
    let same = same_entries bytes o n events world (c.law_guard_opens.ensures o n bytes world).now (c.law_log_begins.ensures bytes o n store world) published in
    orders_by beside.log.history (effects_so_far n bytes events) same (lines_so_far n bytes events)
    (subst (λ (trace : List TraceLine). OrdersCalls beside.log.history trace) (c.law_log_beside.ensures.beside bytes o n events store world).trace (c.law_log_beside.ensures.ordered bytes o n events store world rules).calls_ordered)

pub returns-clause-fresh : goal.returns-clause-fresh
returns-clause-fresh c = λ bytes o n events store world rules published.
    let beside : Ghosts = ghosts_beside o n bytes events in
    let same = same_entries bytes o n events world (c.law_guard_opens.ensures o n bytes world).now (c.law_log_begins.ensures bytes o n store world) published in
    fresh_by beside.log.history (effects_so_far n bytes events) same (opening_map bytes o) (lines_so_far n bytes events)
    (subst (λ (trace : List TraceLine). ReadsAreFresh (opening_map bytes o) beside.log.history trace) (c.law_log_beside.ensures.beside bytes o n events store world).trace (c.law_log_beside.ensures.ordered bytes o n events store world rules).reads_fresh)

pub returns-clause-in_time : goal.returns-clause-in_time
returns-clause-in_time c = λ bytes o n events store world rules published.
    reads_in_time bytes o n events world (c.law_guard_opens.ensures o n bytes world).now (c.law_log_begins.ensures bytes o n store world)
    (subst (λ (shape : Shape). IsOpened (home_in shape.bucket_bits) (opening_map bytes o) o.number.0 (opening_ghosts bytes o)) (sym world.its_shape) (c.law_log_opened.ensures.opened bytes o store)) rules published

pub returns-clause-guarded : goal.returns-clause-guarded
unfolding run
returns-clause-guarded c = λ bytes o n events store world rules published.
    let opened = (c.law_guard_opens.ensures o n bytes world).now in
    let begins = c.law_log_begins.ensures bytes o n store world in
    let permitted : ArePermitted (beginning n bytes) events = published_permitted (beginning n bytes) o.tail.0 (opening_ghosts bytes o) events opened begins.unborn published in
    record {
      shows = c.law_world_is_guarded.ensures.shows (beginning n bytes) o.tail.0 events opened;
      permitted = permitted;
      writes = λ later before event whole. c.law_world_is_guarded.ensures.writes (beginning n bytes) o.tail.0 before event opened
          (permitted_at (beginning n bytes) later before event (subst (ArePermitted (beginning n bytes)) whole permitted));
      changes = λ later before event whole. c.law_world_is_guarded.ensures.changes (beginning n bytes) o.tail.0 before event opened
          (permitted_at (beginning n bytes) later before event (subst (ArePermitted (beginning n bytes)) whole permitted));
      limit = λ later before event whole. c.law_world_is_guarded.ensures.limit (beginning n bytes) o.tail.0 before event opened;
      order = c.law_world_is_guarded.ensures.order (beginning n bytes) o.tail.0 events opened;
      rises = λ later before event whole. c.law_world_is_guarded.ensures.rises (beginning n bytes) o.tail.0 before (event ∷ []) opened;
      covered = c.law_world_is_guarded.ensures.covered (beginning n bytes) o.tail.0 events opened;
      paged = c.law_world_is_guarded.ensures.paged (beginning n bytes) o.tail.0 events opened;
    }

pub returns-clause-once : goal.returns-clause-once
returns-clause-once c = λ its is.
    let n : Now = its.world in
    let bytes : List ℕ = its.bytes in
    let o : Opened = its.opened in
    let events : List Event = its.events in
    let opened = (c.law_guard_opens.ensures o n bytes is.begins).now in
    record {
      once = c.law_world_once.ensures.once (beginning n bytes) o.tail.0 events opened;
      claimed = λ later before event claim whole among. c.law_world_once.ensures.seen (beginning n bytes) o.tail.0 before event claim opened among;
      ran = λ later before event action whole among. c.law_world_once.ensures.ran (beginning n bytes) o.tail.0 before event action opened among;
    }
