-- By the moments through which the full commit has come that made the checkpoint.
use Rattle.std.proofs.Common.{◌≡◌, inl, inr, arith, ap, sym, ◌<◌}
use Rattle.fkv_base.specs.declared.numbers.Addr.{Addr}
use Rattle.fkv_base.specs.declared.numbers.Version.{Version}
use Rattle.law_opening.specs.Below.fkv_core.Openings.{beginning}
use Rattle.law_commit.specs.Below.fkv_keeper.Checkpoint.{Checkpoint}
use Rattle.fkv_record.specs.Manifest.{SlotSaid}
use Rattle.law_opening.specs.Below.fkv_scan.Log as scan
use Rattle.law_commit.specs.BegunCommits.{BegunCommit}
use Rattle.law_order.specs.Recovered.Leaves.{log_named}
use Rattle.law_order.proofs.OfRecovered.OfShows.Firsts.{first_above, newer_checkpoint, newer_span, opened_tail}
use Rattle.law_order.proofs.recovered.shows.law_scans_start_above.Goals as goal

pub returns : goal.returns
returns c = λ o n bytes events image leaves names newer triples.
    let it : BegunCommit = names.commit in
    let its : scan.Log = log_named names triples in
    let says = names.says in
    let start : its.start ≡ it.parts.checkpoint.first.0 = ap (λ (x : SlotSaid). x.first.0) says.said in
    let life = c.law_life_begins.ensures bytes o n leaves.store leaves.begins in
    let quiet = c.law_ends_open.ensures bytes o n leaves.store leaves.begins in
    elim names.made [
      | inl made ↦
          let d : BegunCommit = made.0 in
          let by = made.2 in
          let number : it.parts.checkpoint.number.0 ≡ d.parts.checkpoint.number.0 = ap (λ (x : Checkpoint). x.number.0) (sym by.checkpoint) in
          let own : d.parts.checkpoint.number.0 ≡ d.number.0 = ap (λ (v : Version). v.0) by.own in
          let same : d.parts.checkpoint.first.0 ≡ it.parts.checkpoint.first.0 = ap (λ (x : Checkpoint). x.first.0) by.checkpoint in
          let first : d.parts.checkpoint.first.0 ≡ d.parts.first.0 = ap (λ (a : Addr). a.0) by.first in
          let later : o.number.0 < d.number.0 = omega (arith, newer, number, own) in
          elim (c.law_commits_ended.ensures (beginning n bytes) o.tail.0 events d quiet made.1) [
            | inl ended ↦
                let above = first_above (beginning n bytes) o.tail.0 events d life.store.now ended in
                let tail = opened_tail o n leaves.begins in
                omega (arith, start, same, first, above, tail)
            | inr opened ↦ absurd (newer_span o n bytes d leaves.begins later opened)
          ]
      | inr old ↦ absurd (newer_checkpoint o n it.parts.checkpoint leaves.begins newer old.0)
    ]
