-- The triples with which the store was opened, in an image whose newest slot names their checkpoint.
use Rattle.std.proofs.Common.{◌≡◌, ℕ, ◌+◌, ◌*◌, ◌^◌, ◌<◌, ◌≤◌, ◌∙◌, arith, refl, sym, ap, subst, List}
use Rattle.fkv_base.specs.declared.numbers.Addr.{Addr}
use Rattle.fkv_base.specs.declared.shapes.Shape.{Shape}
use Rattle.law_opening.specs.Below.fkv_core.Openings.{IsOpeningWorld}
use Rattle.fkv_disk.specs.Bytes.{bytes_at}
use Rattle.law_commit.specs.Below.fkv_keeper.Keeping.{Finality}
use Rattle.law_commit.specs.Below.fkv_keeper.LastCommits.{area_number}
use Rattle.law_commit.specs.Below.fkv_keeper.Checkpoint.{Checkpoint}
use Rattle.law_opening.specs.Below.fkv_newest.Newest.{IsNewestOf}
use Rattle.law_opening.specs.Below.fkv_newest.TheNewest.{Newest}
use Rattle.law_opening.specs.Below.fkv_opening.Faults.{HasCheckpoint}
use Rattle.law_opening.specs.Below.fkv_opening.Opened.{IsStoreOf}
use Rattle.law_opening.specs.Below.fkv_opening.TheOpened.{Opened}
use Rattle.fkv_record.specs.Manifest.{SlotSaid}
use Rattle.fkv_record.specs.Places.{area_place}
use Rattle.fkv_record.specs.declared.manifest_slots.ManifestSlot.{ManifestSlot}
use Rattle.law_commit.specs.Below.fkv_world.World.{Now}
use Rattle.law_commit.specs.BegunCommits.{BegunCommit}
use Rattle.law_order.specs.Images.Held.{area_bytes}
use Rattle.law_order.specs.Images.Read.{SaysCommit}
use Rattle.law_commit.specs.Below.law_world.Standing.Standing.{triples_in}
use Rattle.law_order.proofs.OfImages.Kept.{part_same, same_area}
use Rattle.law_order.proofs.OfImages.TripleBytes.{in_list}

-- ---- what a slot says of a checkpoint: where its triples lie, and how many
pub record NamesArea (c : BegunCommit) (newest : Newest) : Type 0 where
  pub area : (let s = newest.slot in s.area ≡ area_number c.parts.checkpoint.area)
  pub triples : (let s = newest.slot in s.triples ≡ c.parts.checkpoint.triples)

-- as the keeper writes it
pub said_area : (o : Opened) (n : Now) (flushed : ℕ) (c : BegunCommit) (newest : Newest) → SaysCommit o n flushed c newest → NamesArea c newest
said_area o n flushed c newest says = record { area = ap (λ (x : SlotSaid). x.area) says.said; triples = ap (λ (x : SlotSaid). x.triples) says.said }

-- and as the store was opened with it
pub opened_area : (o : Opened) (n : Now) (bytes : List ℕ) (store : IsStoreOf bytes o) (c : BegunCommit) (newest : Newest) → IsOpeningWorld o n → c.parts.checkpoint ≡ n.keeper.last.checkpoint → newest.slot ≡ (let was = store.newest in was.slot) → NamesArea c newest
opened_area o n bytes store c newest begins used slot =
    let its : c.parts.checkpoint ≡ (let last = n.keeper.last in last.checkpoint) = used in
    let area : area_number c.parts.checkpoint.area ≡ o.checkpoint.area =
    ap (λ (x : Checkpoint). area_number x.area) its ∙ (ap (λ (last : Finality). area_number last.checkpoint.area) begins.its_keeper.newest ∙ same_area o.checkpoint.area o.two_areas) in
    let triples : c.parts.checkpoint.triples ≡ o.checkpoint.triples = ap (λ (x : Checkpoint). x.triples) its ∙ ap (λ (last : Finality). last.checkpoint.triples) begins.its_keeper.newest in
    record {
      area = ap (λ (s : ManifestSlot). s.area) slot ∙ (sym store.tells.area ∙ sym area);
      triples = ap (λ (s : ManifestSlot). s.triples) slot ∙ (sym store.tells.triples ∙ sym triples);
    }

-- so the area that it names has the bytes of the checkpoint's triples
pub area_read : (n : Now) (c : BegunCommit) (newest : Newest) (image : List ℕ) → NamesArea c newest → newest.shape ≡ n.shape → area_bytes image newest ≡ triples_in n.shape image c.parts.checkpoint
area_read n c newest image names shape =
    let slot : ManifestSlot = newest.slot in
    ap (λ (s : Shape). bytes_at image (area_place s slot.area) (16 * slot.triples)) shape
    ∙ (ap (λ (a : ℕ). bytes_at image (area_place n.shape a) (16 * slot.triples)) names.area ∙ ap (λ (t : ℕ). bytes_at image (area_place n.shape (area_number c.parts.checkpoint.area)) (16 * t)) names.triples)

-- ---- the opened triples are read back where their bytes stand as they were
pub opened_triples : (o : Opened) (n : Now) (bytes image : List ℕ) (store : IsStoreOf bytes o) (c : BegunCommit) (newest : Newest) (its : (let was = store.newest in HasCheckpoint bytes was store.triples)) → IsOpeningWorld o n → NamesArea c newest → newest.shape ≡ n.shape
    → c.parts.checkpoint ≡ n.keeper.last.checkpoint → o.tail.0 ≤ (let s = newest.slot in s.end.0) → triples_in n.shape image c.parts.checkpoint ≡ triples_in n.shape bytes c.parts.checkpoint → IsNewestOf image newest → HasCheckpoint image newest store.triples
opened_triples o n bytes image store c newest its begins names shape used later stand found =
    let was : Newest = store.newest in
    let slot : ManifestSlot = newest.slot in
    let old : ManifestSlot = was.slot in
    let same : area_bytes image newest ≡ triples_in n.shape bytes c.parts.checkpoint = area_read n c newest image names shape ∙ stand in
    let then : NamesArea c was = opened_area o n bytes store c was begins used refl in
    let shape_was : was.shape ≡ n.shape = sym store.tells.shape ∙ sym begins.its_shape in
    let before : area_bytes bytes was ≡ triples_in n.shape bytes c.parts.checkpoint = area_read n c was bytes then shape_was in
    let place : area_place newest.shape slot.area ≡ area_place was.shape old.area =
    ap (λ (s : Shape). area_place s slot.area) (shape ∙ sym shape_was) ∙ ap (λ (a : ℕ). area_place was.shape a) (names.area ∙ sym then.area) in
    let count : slot.triples ≡ old.triples = names.triples ∙ sym then.triples in
    let here : bytes_at image (area_place was.shape old.area) (16 * old.triples) ≡ bytes_at bytes (area_place was.shape old.area) (16 * old.triples) =
    ap (λ (at : ℕ). bytes_at image at (16 * old.triples)) (sym place) ∙ (ap (λ (m : ℕ). bytes_at image (area_place newest.shape slot.area) (16 * m)) (sym count) ∙ (same ∙ sym before)) in
    let stored = its.stored in
    let many = stored.many in
    let tail : o.tail.0 ≡ old.end.0 = ap (λ (a : Addr). a.0) store.tells.tail in
    record {
      newest = found;
      stored = record {
        many = many ∙ sym count;
        each = λ i x e.
            let low = in_list store.triples i x e in
            let one = stored.each i x e in
            let leads = one.in_log in
            record {
              stands = one.stands ∙ (sym (part_same image bytes (area_place was.shape old.area) (16 * old.triples) (16 * i) 16 here (omega (arith, low, many))) ∙ ap (λ (at : ℕ). bytes_at image (at + 16 * i) 16) (sym place));
              in_index = subst (λ (s : Shape). x.bucket < 2 ^ s.bucket_bits) (shape_was ∙ sym shape) one.in_index;
              in_log = omega (arith, leads, tail, later);
            };
      };
      apart = its.apart;
    }
