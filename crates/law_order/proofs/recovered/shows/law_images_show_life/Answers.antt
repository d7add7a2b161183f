-- By what is flushed, by the commit's cut, and by what its slot loses.
use Rattle.std.proofs.Common.{◌≡◌, ◌≤◌, ◌∙◌, inl, inr, ap, arith}
use Rattle.law_opening.specs.Below.fkv_core.Openings.{beginning}
use Rattle.law_commit.specs.Below.fkv_keeper.LastCommits.{lost_written}
use Rattle.fkv_record.specs.Manifest.{SlotSaid}
use Rattle.law_opening.specs.Below.fkv_scan.Log as scan
use Rattle.law_commit.specs.BegunCommits.{BegunCommit}
use Rattle.law_commit.specs.Decided.Below.{OpensWhole}
use Rattle.law_opening.specs.Log.OpeningLog.{opening_ghosts}
use Rattle.law_order.specs.Decided.Cut.{NamesEnd}
use Rattle.law_order.specs.Recovered.Leaves.{log_named}
use Rattle.law_order.proofs.OfRecovered.OfHolds.Holds.{begins_on}
use Rattle.law_order.proofs.OfRecovered.OfShows.Shown.{newer_commit, shows_log}
use Rattle.law_order.proofs.recovered.shows.law_images_show_life.Goals as goal

pub returns : goal.returns
returns c = λ o n bytes events image leaves names triples.
    let it : BegunCommit = names.commit in
    let its : scan.Log = log_named names triples in
    let says = names.says in
    let life = c.law_life_begins.ensures bytes o n leaves.store leaves.begins in
    let log = c.law_versions_open.ensures bytes o n leaves.store leaves.begins in
    let opens : OpensWhole (beginning n bytes) o.tail.0 (opening_ghosts bytes o) = record {
      quiet = c.law_ends_open.ensures bytes o n leaves.store leaves.begins;
      unborn = log.unborn;
      decided = life.reserves;
      upto = log.upto;
    } in
    let end : NamesEnd its it = record { version = ap (λ (x : SlotSaid). x.number) says.said; tail = ap (λ (x : SlotSaid). x.end.0) says.said } in
    let lost : its.lost ≡ lost_written it.parts.lost = ap (λ (x : SlotSaid). x.lost) says.said in
    let begin : o.begin.0 ≤ its.begin = begins_on o n bytes events image names triples in
    let flushed = c.law_images_show_log.ensures o n bytes events its leaves.store leaves.begins leaves.far leaves.fits leaves.left (names.shape ∙ leaves.begins.its_shape) (omega (arith, begin)) in
    let decides = c.law_cut_opens.ensures.decided bytes o n events it leaves.store leaves.begins names.begun its end in
    let young = c.law_commits_cut.ensures.young (beginning n bytes) o.tail.0 (opening_ghosts bytes o) events it opens names.begun in
    elim (c.law_commits_lose_the_rest.ensures o n bytes events it leaves.store leaves.begins leaves.far names.begun) [
      | inl loses ↦ shows_log o n bytes events its it names.shape end lost says.fits flushed decides young loses.none
      | inr first ↦ absurd (newer_commit o n bytes it leaves.begins says.fits.newer first)
    ]
