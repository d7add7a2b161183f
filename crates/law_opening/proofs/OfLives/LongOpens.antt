-- The bytes of a store that is long end behind what its keeper is told of.
use Rattle.std.proofs.Common.{◌≡◌, ◌∙◌, ap, sym, refl, subst, arith, ℕ, zero, suc, ◌+◌, ◌*◌, ◌<◌, ◌≤◌, List, length, Option, Some}
use Rattle.std.specs.Prelude.{IsSome}
use Rattle.fkv_base.specs.declared.shapes.Shape.{Shape}
use Rattle.fkv_core.specs.Openings.{area_numbered, newest_commit}
use Rattle.fkv_creating.specs.Long.{IsLong}
use Rattle.law_refine.specs.Below.fkv_keeper.LastCommits.{area_number}
use Rattle.law_refine.specs.Below.fkv_manifest.Newest.{slot_in}
use Rattle.law_paper.specs.Below.fkv_newest.Newest.{IsNewestOf, ShowSame, slot_place}
use Rattle.law_paper.specs.Below.fkv_newest.TheNewest.{Newest}
use Rattle.law_paper.proofs.Below.fkv_newest.Shown.{one_index, told_alike}
use Rattle.law_paper.specs.Below.fkv_opening.Opened.{IsStoreOf}
use Rattle.law_paper.specs.Below.fkv_opening.TheOpened.{Opened}
use Rattle.fkv_record.specs.Layout.{shape_bytes}
use Rattle.fkv_record.specs.Manifest.{manifest_bytes}
use Rattle.fkv_record.specs.Places.{area_place}
use Rattle.fkv_record.specs.declared.formats.Format.{Format}
use Rattle.fkv_record.specs.declared.manifest_slots.ManifestSlot.{ManifestSlot}
use Rattle.fkv_record.proofs.Shown.{manifest_apart}
use Rattle.law_opening.specs.Lives.Reaching.{ReachesFar}
use Rattle.law_refine.specs.Below.law_world.Standing.Opening.{IsBehind}
use Rattle.fkv_words.specs.Fields.{SpellsApart}

same_area : (area : ℕ) → area < 2 → area_number (area_numbered area) ≡ area
same_area zero small = refl
same_area (suc zero) small = refl
same_area (suc (suc area)) small = absurd (omega (arith, small))

-- An image has one newest slot.
module _ (bytes : List ℕ) (one other : Newest) (first : IsNewestOf bytes one) (second : IsNewestOf bytes other) where
  same_index : one.index ≡ other.index
  same_index = one_index one.index other.index (sym first.in_force ∙ second.in_force)

  same_bytes : manifest_bytes (one.format, one.slot) ≡ manifest_bytes (other.format, other.slot)
  same_bytes =
      first.manifest.stands ∙ ap (λ (index : ℕ). Some (slot_in bytes (slot_place index))) same_index ∙ sym second.manifest.stands

  same_slot : one.slot ≡ other.slot
  same_slot =
      let some = first.manifest.stands in
      let same : ◌≡◌ {A = Format × ManifestSlot} (one.format, one.slot) (other.format, other.slot) = manifest_apart (one.format, one.slot) (other.format, other.slot) (subst (λ (o : Option (List ℕ)). IsSome o) (sym some) refl) same_bytes in
      ap (λ (p : Format × ManifestSlot). p.1) same

-- where the slot that it names is long
behind : (bytes : List ℕ) (shape : Shape) (slot : ManifestSlot) (o : Opened) → IsLong bytes shape slot → shape ≡ o.shape → o.checkpoint.triples ≡ slot.triples → o.checkpoint.area ≡ slot.area
    → IsBehind o.shape (newest_commit o).checkpoint (length bytes)
behind bytes shape slot o long same triples area = record {
  slots = long.slots;
  triples = λ k below.
      let reaches : area_place shape slot.area + 16 * slot.triples ≤ length bytes = long.triples (omega (arith, below, triples)) in
      let place : area_place shape slot.area ≡ area_place o.shape (area_number (area_numbered o.checkpoint.area)) =
      ap (λ (s : Shape). area_place s slot.area) same ∙ ap (λ (a : ℕ). area_place o.shape a) (sym area ∙ sym (same_area o.checkpoint.area o.two_areas)) in
      omega (arith, reaches, place, below, triples);
}

pub long_opens : SpellsApart shape_bytes → (bytes : List ℕ) (o : Opened) → ReachesFar bytes → IsStoreOf bytes o → IsBehind o.shape (newest_commit o).checkpoint (length bytes)
long_opens apart bytes o far store =
    let n : Newest = far.newest in
    let its : IsNewestOf bytes store.newest = store.checkpoint.newest in
    let slot : n.slot ≡ store.newest.slot = same_slot bytes n store.newest far.its its in
    let shape : n.shape ≡ o.shape = apart n.shape store.newest.shape (far.its.block ∙ sym its.block) ∙ sym store.tells.shape in
    behind bytes n.shape n.slot o far.long shape
    (store.tells.triples ∙ ap (λ (s : ManifestSlot). s.triples) (sym slot))
    (store.tells.area ∙ ap (λ (s : ManifestSlot). s.area) (sym slot))

-- another image that shows the same, and is as long, reaches as far
pub reaches_alike : (image other : List ℕ) → ShowSame image other → length other ≡ length image → ReachesFar image → ReachesFar other
reaches_alike image other same long far =
    let was = far.long in
    record {
      newest = far.newest;
      its = told_alike image other same far.newest far.its;
      long = record {
        slots = (let least = was.slots in omega (arith, least, long));
        records = λ some. (let least = was.records some in omega (arith, least, long));
        triples = λ some. (let least = was.triples some in omega (arith, least, long));
      };
    }
