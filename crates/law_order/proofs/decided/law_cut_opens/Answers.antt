-- By what an opened store's life begins with.
use Rattle.std.proofs.Common.{arith, inl, inr}
use Rattle.law_opening.specs.Below.fkv_core.Openings.{beginning}
use Rattle.law_opening.specs.Below.fkv_filling.OpeningIndex.{opening_lists}
use Rattle.law_opening.specs.Log.OpeningLog.{opening_ghosts}
use Rattle.law_order.proofs.OfDecided.Covers.{writes_cover}
use Rattle.law_order.proofs.OfDecided.Cut.{cut_so, decided_so, old_so, opened_tail}
use Rattle.law_order.proofs.OfDecided.Opens.{opens_whole}
use Rattle.law_order.proofs.OfRules.Decided.{opens_taken}
use Rattle.law_order.specs.Decided.Cut.{log_beside}
use Rattle.law_order.proofs.decided.law_cut_opens.Goals as goal

pub returns-clause-ended : goal.returns-clause-ended
returns-clause-ended c = λ bytes o n events d store its begun. c.law_commits_ended.ensures (beginning n bytes) o.tail.0 events d (c.law_ends_open.ensures bytes o n store its) begun

pub returns-clause-later : goal.returns-clause-later
returns-clause-later c = λ bytes o n events d store its begun.
    let opens = opens_whole c.law_life_begins.ensures c.law_ends_open.ensures c.law_versions_open.ensures bytes o n store its in
    c.law_commits_cut.ensures.later (beginning n bytes) o.tail.0 (opening_ghosts bytes o) events d opens begun

pub returns-clause-young : goal.returns-clause-young
returns-clause-young c = λ bytes o n events d store its begun.
    let opens = opens_whole c.law_life_begins.ensures c.law_ends_open.ensures c.law_versions_open.ensures bytes o n store its in
    c.law_commits_cut.ensures.young (beginning n bytes) o.tail.0 (opening_ghosts bytes o) events d opens begun

pub returns-clause-cut : goal.returns-clause-cut
returns-clause-cut c = λ bytes o n events d store its begun image names.
    let opens = opens_whole c.law_life_begins.ensures c.law_ends_open.ensures c.law_versions_open.ensures bytes o n store its in
    cut_so (log_beside o n bytes events) d image names (c.law_commits_cut.ensures.later (beginning n bytes) o.tail.0 (opening_ghosts bytes o) events d opens begun)
    (c.law_commits_cut.ensures.young (beginning n bytes) o.tail.0 (opening_ghosts bytes o) events d opens begun)

pub returns-clause-decided : goal.returns-clause-decided
returns-clause-decided c = λ bytes o n events d store its begun image names a from low.
    let opens = opens_whole c.law_life_begins.ensures c.law_ends_open.ensures c.law_versions_open.ensures bytes o n store its in
    let settled = c.law_commits_cut.ensures.settled (beginning n bytes) o.tail.0 (opening_ghosts bytes o) events d opens begun in
    let tail = names.tail in
    let first = opened_tail o n its in
    decided_so _ (settled a (omega (arith, from, first)) (omega (arith, low, tail)))

pub returns-clause-ends : goal.returns-clause-ends
returns-clause-ends c = λ bytes o n events older newer store its. c.law_commits_cut.ensures.ends (beginning n bytes) o.tail.0 events older newer (c.law_ends_open.ensures bytes o n store its)

pub returns-clause-old : goal.returns-clause-old
returns-clause-old c = λ bytes o n events d store its begun.
    let opens = opens_whole c.law_life_begins.ensures c.law_ends_open.ensures c.law_versions_open.ensures bytes o n store its in
    elim (c.law_commits_cut.ensures.old (beginning n bytes) o.tail.0 (opening_ghosts bytes o) events d opens begun) [
      | inl old ↦ inl (λ image a cell at is low. old_so (log_beside o n bytes events) d image a cell at old is low)
      | inr first ↦ inr first
    ]

pub returns-clause-recent : goal.returns-clause-recent
returns-clause-recent c = λ bytes o n events d store its begun.
    let opens = opens_whole c.law_life_begins.ensures c.law_ends_open.ensures c.law_versions_open.ensures bytes o n store its in
    c.law_commits_cut.ensures.recent (beginning n bytes) o.tail.0 (opening_ghosts bytes o) events d opens begun

pub returns-clause-covers : goal.returns-clause-covers
returns-clause-covers c = λ bytes o n events d store its begun full.
    let opens = opens_whole c.law_life_begins.ensures c.law_ends_open.ensures c.law_versions_open.ensures bytes o n store its in
    let life = c.law_life_begins.ensures bytes o n store its in
    elim (c.law_commits_cut.ensures.triples (beginning n bytes) o.tail.0 (opening_lists o.entries.items) (opening_ghosts bytes o) events d opens life.index life.heads (opens_taken c.law_life_begins.ensures bytes o n store its) begun full) [
      | inl spells ↦ inl (writes_cover o n bytes events d life.index.buckets (λ before. c.law_lives_change_published.ensures.falls o n bytes before store its) spells)
      | inr first ↦ inr first
    ]
