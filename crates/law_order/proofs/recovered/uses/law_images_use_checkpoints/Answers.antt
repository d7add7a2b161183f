-- The law, by whose checkpoint the commit uses.
use Rattle.std.proofs.Common.{inl, inr, ◌≤◌, arith, ap}
use Rattle.law_commit.specs.Below.fkv_keeper.Keeping.{Finality}
use Rattle.law_commit.specs.Below.fkv_keeper.LastCommits.{lost_written}
use Rattle.law_commit.specs.Below.fkv_keeper.Checkpoint.{Checkpoint}
use Rattle.law_opening.specs.Below.fkv_newest.TheNewest.{Newest}
use Rattle.law_opening.specs.Below.fkv_opening.Faults.{HasCheckpoint}
use Rattle.law_opening.specs.Below.fkv_opening.Opened.{IsStoreOf}
use Rattle.law_opening.specs.Below.fkv_pairs.Pairs.{log_of_store}
use Rattle.fkv_record.specs.Manifest.{SlotSaid}
use Rattle.fkv_record.specs.declared.manifest_slots.ManifestSlot.{ManifestSlot}
use Rattle.law_commit.specs.BegunCommits.{BegunCommit}
use Rattle.law_order.specs.Images.Fits.{FitsLife}
use Rattle.law_order.specs.Images.Left.{flushed_so_far}
use Rattle.law_order.specs.Decided.Cut.{log_beside}
use Rattle.law_commit.specs.Below.law_paper.Paper.Old.{LosesTheRest}
use Rattle.law_order.proofs.OfImages.Areas.{opened_triples, said_area}
use Rattle.law_order.proofs.OfRecovered.OfUses.Areas.{opened_older, same_triples}
use Rattle.law_order.proofs.OfRecovered.OfUses.New.{by_cover}
use Rattle.law_order.proofs.OfRecovered.OfUses.Old.{uses_old}
use Rattle.law_order.proofs.recovered.uses.law_images_use_checkpoints.Goals as goal

pub returns : goal.returns
returns c = λ o n bytes events image leaves names.
    let it : BegunCommit = names.commit in
    let newest : Newest = names.newest in
    let slot : ManifestSlot = newest.slot in
    let store : IsStoreOf bytes o = leaves.store in
    let says = names.says in
    let fits : FitsLife o n (flushed_so_far n bytes events) it = says.fits in
    elim fits.lost [
      | inl none ↦ elim names.made [
        | inl by ↦ inl (by_cover o n bytes events image names leaves.begins none by.0 by.1 by.2
            (c.law_commits_in_turn.ensures (record { bytes = bytes; opened = o; world = n; events = events }) (record { store = store; begins = leaves.begins; fits = leaves.fits; few = leaves.few }))
            (λ older newer is also less. c.law_cut_opens.ensures.ends bytes o n events older newer store leaves.begins is also less)
            (c.law_cut_opens.ensures.covers bytes o n events by.0 store leaves.begins by.1) (c.law_cut_opens.ensures.old bytes o n events by.0 store leaves.begins by.1)
            (c.law_cut_opens.ensures.recent bytes o n events by.0 store leaves.begins by.1)
            c.law_images_hold_triples.ensures.read)
        | inr old ↦
            let same = ap (λ (x : Checkpoint). x.number.0) old.0 in
            let older = opened_older o n leaves.begins in
            let newer = none.newer in
            absurd (omega (arith, same, older, newer))
      ]
      | inr its ↦
          let later : o.tail.0 ≤ slot.end.0 = let low = fits.later in let end = ap (λ (x : SlotSaid). x.end.0) says.said in omega (arith, low, end) in
          let checkpoint : HasCheckpoint image newest store.triples =
          opened_triples o n bytes image store it newest store.checkpoint leaves.begins (said_area o n (flushed_so_far n bytes events) it newest says) names.shape its.checkpoint later
          (same_triples o n bytes events image it leaves.begins (c.law_commits_fit.ensures.each o n bytes events store leaves.begins leaves.far) its.checkpoint names.made) names.its in
          let loses : LosesTheRest (lost_written it.parts.lost) (log_of_store bytes o store) (log_beside o n bytes events) = elim (c.law_commits_lose_the_rest.ensures o n bytes events it store leaves.begins leaves.far names.begun) [
            | inl by ↦ c.law_old_opens.ensures.loses bytes o n events store leaves.begins (lost_written it.parts.lost) (by.rest its.checkpoint)
            | inr first ↦
                let same = ap (λ (x : BegunCommit). x.number.0) first in
                let was = ap (λ (f : Finality). f.number.0) leaves.begins.its_keeper.newest in
                let newer = fits.newer in
                absurd (omega (arith, same, was, newer))
          ] in
          inr (uses_old o n bytes events image leaves names its.checkpoint (λ a some low. c.law_images_keep_old.ensures o n bytes events image a store leaves.begins leaves.far leaves.left some low) checkpoint (c.law_old_opens.ensures.before bytes o n events store leaves.begins)
          (c.law_old_opens.ensures.made bytes o n events store leaves.begins) loses)
    ]
