-- The law, by what the slot says of the checkpoint.
use Rattle.std.proofs.Common.{◌≡◌, inl, inr, ◌≤◌, ◌∙◌, arith, sym, ap, length}
use Rattle.fkv_base.specs.declared.numbers.Addr.{Addr}
use Rattle.fkv_record.specs.Places.{area_place}
use Rattle.fkv_record.specs.declared.manifest_slots.ManifestSlot.{ManifestSlot}
use Rattle.law_commit.specs.BegunCommits.{BegunCommit}
use Rattle.law_order.specs.Images.Left.{flushed_so_far}
use Rattle.law_order.specs.Images.Read.{ReadsBack}
use Rattle.law_order.proofs.OfImages.Areas.{NamesArea, area_read, opened_area, opened_triples, said_area}
use Rattle.law_order.proofs.OfImages.TripleBytes.{counted, in_list, one_triple}
use Rattle.law_order.proofs.images.held.law_images_hold_triples.Goals as goal

pub returns-clause-read : goal.returns-clause-read
returns-clause-read c = λ image n triples newest same suits.
    let slot : ManifestSlot = n.slot in
    let many : length triples ≡ slot.triples = counted image (area_place n.shape slot.area) slot.triples triples same in
    record {
      newest = newest;
      stored = record {
        many = many;
        each = λ i x e. record {
          stands = one_triple image (area_place n.shape slot.area) slot.triples triples i x same e (let low = in_list triples i x e in omega (arith, low, many));
          in_index = suits.in_index i x e;
          in_log = suits.in_log i x e;
        };
      };
      apart = suits.apart;
    }

pub returns-clause-held : goal.returns-clause-held
returns-clause-held c = λ o n bytes events image store begins long left.
    let r : ReadsBack o n bytes events store image = c.law_images_read_back.ensures.slot o n bytes events image store begins long left in
    let names = r.names in
    let named = names.named in
    let it : BegunCommit = named.commit in
    let slot : ManifestSlot = (let found = r.newest in found.slot) in
    let area : NamesArea it r.newest = elim r.says [
      | inl says ↦ said_area o n (flushed_so_far n bytes events) it r.newest says
      | inr old ↦ opened_area o n bytes store it r.newest begins (ap (λ (x : BegunCommit). x.parts.checkpoint) old.is) old.slot
    ] in
    let later : o.tail.0 ≤ slot.end.0 = elim r.says [
      | inl says ↦ let fits = says.fits in let low = fits.later in let end = ap (λ x. x.end.0) says.said in omega (arith, low, end)
      | inr old ↦ let end = ap (λ (s : ManifestSlot). s.end.0) old.slot in let tail = ap (λ (a : Addr). a.0) store.tells.tail in omega (arith, end, tail)
    ] in
    let read = area_read n it r.newest image area r.shape in
    record {
      read = r;
      held = elim named.triples [
        | inl made ↦ inl (made.0, made.1, (let by = made.2 in record { full = by.full; own = by.own; first = by.first; checkpoint = by.checkpoint; triples = by.triples ∙ sym read }))
        | inr old ↦ inr (opened_triples o n bytes image store it r.newest store.checkpoint begins area r.shape old.0 later
            old.1 r.its)
      ];
    }
