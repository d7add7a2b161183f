-- The law, by the slot that fits its life, or by the opened one.
use Rattle.std.proofs.Common.{◌≡◌, inl, inr, ℕ, ◌+◌, ◌-◌, ◌*◌, ◌%◌, ◌<◌, ◌≤◌, ◌∙◌, arith, refl, sym, ap, subst, length}
use Rattle.std.specs.Prelude.{Some}
use Rattle.fkv_base.specs.declared.shapes.Shape.{Shape}
use Rattle.law_opening.specs.Below.fkv_core.Openings.{beginning}
use Rattle.law_opening.specs.Below.fkv_creating.Long.{IsLong}
use Rattle.law_commit.specs.Below.fkv_keeper.Keeping.{Finality}
use Rattle.law_commit.specs.Below.fkv_keeper.LastCommits.{area_number, slot_place}
use Rattle.law_commit.specs.Below.fkv_manifest.Newest as manifest
use Rattle.law_commit.specs.Below.fkv_manifest.Newest.{slot_in}
use Rattle.law_opening.specs.Below.fkv_newest.Manifest.{Suits}
use Rattle.law_opening.specs.Below.fkv_newest.Newest.{HasShape}
use Rattle.law_opening.specs.Below.fkv_newest.TheNewest.{Newest}
use Rattle.fkv_record.specs.Manifest.{newest_format}
use Rattle.fkv_record.specs.Places.{area_place, record_place}
use Rattle.fkv_record.specs.declared.manifest_slots.ManifestSlot.{ManifestSlot}
use Rattle.law_commit.specs.Below.fkv_world.Runs.{World}
use Rattle.law_commit.specs.BegunCommits.{BegunCommit}
use Rattle.law_commit.specs.Below.law_world.Guarded.OpenedStore.{IsOpenedStore}
use Rattle.law_order.specs.Images.Fits.{FitsLife, NamesFit}
use Rattle.law_order.specs.Images.Left.{flushed_so_far}
use Rattle.law_order.specs.Images.Opened.{HasSlot, named_in, newest_in}
use Rattle.law_order.specs.Images.Read.{ReadsBack}
use Rattle.law_order.proofs.OfImages.EndsFlushed.{on_device}
use Rattle.law_order.proofs.OfImages.Kept.{newest_kept}
use Rattle.law_order.proofs.OfImages.LostOpened.{opened_lost}
use Rattle.law_order.proofs.OfImages.OpenedLong.{long_for, longer}
use Rattle.law_order.proofs.OfImages.SlotSaid.{slot_read, suits_so}
use Rattle.law_opening.specs.Lives.OpenedFrom.{IsOpenedFrom}
use Rattle.law_commit.proofs.Below.law_world.OfStanding.SlotPlaces.{place_by_parity}
use Rattle.law_commit.specs.Below.law_world.Standing.Opening.{IsBehind}
use Rattle.law_order.proofs.images.read.law_images_read_back.Goals as goal

pub returns-clause-slot : goal.returns-clause-slot
returns-clause-slot c = λ o n bytes events image store begins long left.
    let opening : World = beginning n bytes in
    let opened : IsOpenedStore opening o.tail.0 = c.law_guard_opens.ensures o n bytes begins in
    let flushed : ℕ = flushed_so_far n bytes events in
    let order = c.law_world_is_guarded.ensures.order opening o.tail.0 events opened.now in
    let paged = c.law_world_is_guarded.ensures.paged opening o.tail.0 events opened.now in
    let on_disk : flushed ≤ n.shape.disk_pages * n.shape.page =
    on_device _ _ _ _ _ paged.pages n.shape.page n.shape.disk_pages order.flushed_below order.safe_below order.read_only_below order.tail_below paged.whole paged.on_device in
    let names : NamesFit o n bytes events image = c.law_commits_fit.ensures.named o n bytes events image store begins long left in
    let named = names.named in
    let it : BegunCommit = named.commit in
    elim names.slot [
      | inl written ↦
          let fits : FitsLife o n flushed it = written.1 in
          let number = ap (λ (last : Finality). last.checkpoint.number) begins.its_keeper.newest in
          let first = ap (λ (last : Finality). last.checkpoint.first) begins.its_keeper.newest in
          let slot : ManifestSlot = slot_read o n flushed it fits begins.its_shape begins.its_keeper.in_hand number first named.fit on_disk in
          let here : Suits n.shape (it.number.0 % 2) (newest_format slot) slot = suits_so o n flushed it fits begins.its_shape begins.its_keeper.in_hand number first named.fit on_disk (opened_lost bytes o store) in
          let suits : Suits o.shape (it.number.0 % 2) (newest_format slot) slot = subst (λ (s : Shape). Suits s (it.number.0 % 2) (newest_format slot) slot) begins.its_shape here in
          let place = place_by_parity it.number in
          let has : HasSlot image (it.number.0 % 2) slot = record {
            in_force = named.in_force ∙ ap (λ (at : ℕ). Some at) place;
            bytes = ap (λ (at : ℕ). slot_in image at) (sym place) ∙ written.0;
          } in
          record {
            names = names;
            newest = named_in image o.shape (it.number.0 % 2) slot suits;
            its = c.law_images_name_their_commit.ensures o n bytes events image (it.number.0 % 2) slot suits store begins long left has;
            shape = sym begins.its_shape;
            says = inl (record { said = refl; fits = fits });
          }
      | inr old ↦
          let from : IsOpenedFrom bytes o n = record { store = store; world = begins; long = c.law_long_opens.ensures.behind bytes o long store } in
          let told = c.law_told_opens.ensures bytes o n from in
          let block : HasShape image (let was = store.newest in was.shape) = subst (λ (s : Shape). HasShape image s) store.tells.shape (c.law_images_keep_their_shape.ensures o n bytes events image store begins long left) in
          let in_image : manifest.newest image ≡ Some (slot_place n.keeper.last.number) = named.in_force ∙ ap (λ (x : BegunCommit). Some (slot_place x.number)) old.0 in
          let same : slot_in image (slot_place n.keeper.last.number) ≡ slot_in bytes (slot_place n.keeper.last.number) = ap (λ (x : BegunCommit). slot_in image (slot_place x.number)) (sym old.0) ∙ old.1 in
          record {
            names = names;
            newest = newest_in image store.newest;
            its = newest_kept bytes image store.newest store.triples store.checkpoint block (slot_place n.keeper.last.number) told.in_force in_image same;
            shape = sym store.tells.shape ∙ sym begins.its_shape;
            says = inr (record { is = old.0; was = refl; slot = refl });
          }
    ]

-- the last byte of the triples lies below the end
triples_end : (place triples size : ℕ) → ((k : ℕ) → k < 16 * triples → place + k < size) → 0 < triples → place + 16 * triples ≤ size
triples_end place triples size behind some = let last = behind (16 * triples - 1) (omega (arith, some)) in omega (arith, last, some)

pub returns-clause-far : goal.returns-clause-far
returns-clause-far c = λ o n bytes events image store begins long left.
    let r : ReadsBack o n bytes events store image = returns-clause-slot c o n bytes events image store begins long left in
    let names = r.names in
    let named = names.named in
    let it : BegunCommit = named.commit in
    let slot : ManifestSlot = (let found = r.newest in found.slot) in
    elim r.says [
      | inl says ↦
          let behind : IsBehind n.shape it.parts.checkpoint (length image) = named.behind in
          let end : slot.end.0 ≡ it.parts.end.0 = ap (λ x. x.end.0) says.said in
          let triples : slot.triples ≡ it.parts.checkpoint.triples = ap (λ x. x.triples) says.said in
          let area : slot.area ≡ area_number it.parts.checkpoint.area = ap (λ x. x.area) says.said in
          let fits = says.fits in
          let low = fits.is_flushed in
          let its : IsLong image n.shape slot = record {
            slots = behind.slots;
            records = λ some. subst (λ (s : Shape). record_place s (slot.end.0 - 1) + 24 ≤ length image) (sym begins.its_shape)
                (c.law_images_are_long.ensures.records o n bytes events image slot.end.0 store begins long left some (omega (arith, end, low)));
            triples = λ some. subst (λ (m : ℕ). area_place n.shape slot.area + 16 * m ≤ length image) (sym triples)
                (subst (λ (a : ℕ). area_place n.shape a + 16 * it.parts.checkpoint.triples ≤ length image) (sym area)
                (triples_end (area_place n.shape (area_number it.parts.checkpoint.area)) it.parts.checkpoint.triples (length image) behind.triples (omega (arith, some, triples))));
          } in
          record { newest = r.newest; its = r.its; long = subst (λ (s : Shape). IsLong image s slot) (sym r.shape) its }
      | inr old ↦
          let was : Newest = store.newest in
          let whole : IsLong bytes was.shape was.slot = long_for c.law_spellings_apart.ensures.shapes bytes was long store.checkpoint.newest in
          let its : IsLong image was.shape was.slot = longer bytes image was.shape was.slot (c.law_images_are_long.ensures.opened n bytes events image left) whole in
          let shape : was.shape ≡ (let found = r.newest in found.shape) = sym store.tells.shape ∙ (sym begins.its_shape ∙ sym r.shape) in
          record { newest = r.newest; its = r.its; long = subst (λ (s : Shape). IsLong image s slot) shape (subst (λ (x : ManifestSlot). IsLong image was.shape x) (sym old.slot) its) }
    ]
