-- From the log beside the life to the life's own history.
use Rattle.std.proofs.Common.{◌∙◌, ap, subst, List}
use Rattle.fkv_map.specs.History.{IsLegal, content, kept}
use Rattle.fkv_map.specs.declared.history.HistoryEntry.{HistoryEntry}
use Rattle.law_log.specs.Ghosts.{Ghosts}
use Rattle.law_opening.specs.Log.Lives.{IsOrdered, ghosts_beside}
use Rattle.law_opening.specs.Log.Maps.{opening_map}
use Rattle.law_commit.specs.Below.law_paper.Kept.{KeepsPrefix}
use Rattle.law_commit.specs.Below.law_refine.Events.GhostEvents.{home_in}
use Rattle.law_commit.proofs.Below.law_refine.OfCalls.SameHistory.{same_history}
use Rattle.law_order.specs.Rules.Ordered.{effects_so_far}
use Rattle.law_order.proofs.OfRules.Kept.{same_entries}
use Rattle.law_order.proofs.prefix.law_replays_kept.Goals as goal

pub returns-clause-pairs : goal.returns-clause-pairs
returns-clause-pairs c = λ bytes o n events image r store opened world rules published its.
    let beside : Ghosts = ghosts_beside o n bytes events in
    let ordered : IsOrdered o n bytes events = c.law_log_beside.ensures.ordered bytes o n events opened world rules in
    let same = same_history beside.log.history (effects_so_far n bytes events)
    (same_entries bytes o n events world (c.law_guard_opens.ensures o n bytes world).now (c.law_log_begins.ensures bytes o n opened world) published) in
    let newest = its.newest in
    let keeps : KeepsPrefix (home_in n.shape.bucket_bits) (opening_map bytes o) r.points.items newest.slot.number beside =
    c.law_kept.ensures (home_in n.shape.bucket_bits) (opening_map bytes o) o.number.0 r.points.items newest.slot.number beside its.since ordered.versions_content ordered.versions_legal its.split in
    c.law_join.ensures (home_in n.shape.bucket_bits) image newest r store (opening_map bytes o) beside its.values keeps
    ∙ ap (λ (history : List HistoryEntry). content (opening_map bytes o) (kept history r.points.items)) same

pub returns-clause-legal : goal.returns-clause-legal
returns-clause-legal c = λ bytes o n events image r store opened world rules published its.
    let beside : Ghosts = ghosts_beside o n bytes events in
    let ordered : IsOrdered o n bytes events = c.law_log_beside.ensures.ordered bytes o n events opened world rules in
    let same = same_history beside.log.history (effects_so_far n bytes events)
    (same_entries bytes o n events world (c.law_guard_opens.ensures o n bytes world).now (c.law_log_begins.ensures bytes o n opened world) published) in
    let newest = its.newest in
    let keeps : KeepsPrefix (home_in n.shape.bucket_bits) (opening_map bytes o) r.points.items newest.slot.number beside =
    c.law_kept.ensures (home_in n.shape.bucket_bits) (opening_map bytes o) o.number.0 r.points.items newest.slot.number beside its.since ordered.versions_content ordered.versions_legal its.split in
    subst (λ (history : List HistoryEntry). IsLegal (opening_map bytes o) (kept history r.points.items)) same keeps.legal
