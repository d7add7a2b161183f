-- The law, by those of the parts.
use Rattle.std.proofs.Common.{sym, subst}
use Rattle.fkv_base.specs.declared.shapes.Shape.{Shape}
use Rattle.fkv_core.specs.Openings.{beginning}
use Rattle.law_log.specs.Enabled.{IsOpened}
use Rattle.law_refine.specs.Events.GhostEvents.{home_in}
use Rattle.law_opening.specs.Log.Maps.{opening_map}
use Rattle.law_opening.specs.Log.OpeningLog.{opening_ghosts}
use Rattle.law_opening.proofs.OfLives.WorldOpens.{world_opens}
use Rattle.law_opening.proofs.log.law_log_beside.Goals as goal

pub returns-clause-beside : goal.returns-clause-beside
returns-clause-beside c = λ bytes o n events store world.
    let begins = c.law_log_begins.ensures bytes o n store world in
    let opened = (c.law_guard_opens.ensures o n bytes world).now in
    record {
      trace = c.law_ghost_trace.ensures (beginning n bytes) (opening_ghosts bytes o) events (world_opens o n bytes world) begins.no_trace;
      fixed = c.law_ghost_fixed.ensures (beginning n bytes) o.tail.0 (opening_ghosts bytes o) events opened begins.fixed;
      unborn = c.law_ghost_unborn.ensures (beginning n bytes) o.tail.0 (opening_ghosts bytes o) events opened begins.unborn;
      reserved = c.law_ghost_reserved.ensures.reserved (beginning n bytes) o.tail.0 (opening_ghosts bytes o) events opened begins.unborn begins.reserves_nothing;
      of_sessions = c.law_ghost_reserved.ensures.sessions (beginning n bytes) o.tail.0 (opening_ghosts bytes o) events opened begins.unborn begins.reserves_nothing;
      meet_reserved = c.law_ghost_reserved.ensures.meets (beginning n bytes) o.tail.0 (opening_ghosts bytes o) events opened begins.unborn begins.reserves_nothing;
    }

pub returns-clause-ordered : goal.returns-clause-ordered
returns-clause-ordered c = λ bytes o n events store world rules.
    let opened : IsOpened (home_in n.shape.bucket_bits) (opening_map bytes o) o.number.0 (opening_ghosts bytes o) =
    subst (λ (s : Shape). IsOpened (home_in s.bucket_bits) (opening_map bytes o) o.number.0 (opening_ghosts bytes o)) (sym world.its_shape) (c.law_log_opened.ensures.opened bytes o store) in
    record {
      legal = c.law_chains_show_content.ensures.legal _ _ _ _ _ opened rules;
      content = c.law_chains_show_content.ensures.content _ _ _ _ _ opened rules;
      versions_legal = c.law_versions_show_content.ensures.legal _ _ _ _ _ opened rules;
      versions_content = c.law_versions_show_content.ensures.content _ _ _ _ _ opened rules;
      versions_in_order = c.law_versions_show_content.ensures.order _ _ _ _ _ opened rules;
      calls_ordered = c.law_calls_in_order.ensures.orders _ _ _ _ _ opened rules;
      reads_fresh = c.law_calls_in_order.ensures.fresh _ _ _ _ _ opened rules;
    }
