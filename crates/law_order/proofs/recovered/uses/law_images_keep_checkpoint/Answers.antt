-- The law, by what the slot says of the checkpoint.
use Rattle.std.proofs.Common.{inl, inr, ◌≤◌, arith, ap}
use Rattle.fkv_base.specs.declared.numbers.Addr.{Addr}
use Rattle.law_opening.specs.Below.fkv_newest.TheNewest.{Newest}
use Rattle.law_opening.specs.Below.fkv_opening.Opened.{IsStoreOf}
use Rattle.fkv_record.specs.Manifest.{SlotSaid}
use Rattle.fkv_record.specs.declared.manifest_slots.ManifestSlot.{ManifestSlot}
use Rattle.law_commit.specs.BegunCommits.{BegunCommit}
use Rattle.law_order.specs.Images.Left.{flushed_so_far}
use Rattle.law_order.proofs.OfImages.Areas.{NamesArea, opened_area, opened_triples, said_area}
use Rattle.law_order.proofs.OfRecovered.OfUses.Areas.{same_triples}
use Rattle.law_order.proofs.recovered.uses.law_images_keep_checkpoint.Goals as goal

pub returns : goal.returns
returns c = λ o n bytes events image leaves read used.
    let names = read.names in
    let named = names.named in
    let it : BegunCommit = named.commit in
    let newest : Newest = read.newest in
    let slot : ManifestSlot = newest.slot in
    let store : IsStoreOf bytes o = leaves.store in
    let area : NamesArea it newest = elim read.says [
      | inl says ↦ said_area o n (flushed_so_far n bytes events) it newest says
      | inr old ↦ opened_area o n bytes store it newest leaves.begins used old.slot
    ] in
    let later : o.tail.0 ≤ slot.end.0 = elim read.says [
      | inl says ↦ let fits = says.fits in let low = fits.later in let end = ap (λ (x : SlotSaid). x.end.0) says.said in omega (arith, low, end)
      | inr old ↦ let end = ap (λ (s : ManifestSlot). s.end.0) old.slot in let tail = ap (λ (a : Addr). a.0) store.tells.tail in omega (arith, end, tail)
    ] in
    opened_triples o n bytes image store it newest store.checkpoint leaves.begins area read.shape used later
    (same_triples o n bytes events image it leaves.begins (c.law_commits_fit.ensures.each o n bytes events store leaves.begins leaves.far) used named.triples) read.its
