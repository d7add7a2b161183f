-- What the front of an image tells of its newest slot.
use Rattle.std.proofs.Common.{◌≡◌, ◌⊎◌, inl, inr, ℕ, ◌<◌, List, Option, Some, None, refl, sym, ap, subst, ◌∙◌, arith}
use Rattle.fkv_base.specs.declared.shapes.Shape.{Shape}
use Rattle.fkv_words.specs.Fields.{Reads}
use Rattle.fkv_manifest.specs.Newest.{slot_in, newer, newest}
use Rattle.fkv_record.specs.declared.formats.Format.{Format}
use Rattle.fkv_record.specs.declared.manifest_slots.ManifestSlot.{ManifestSlot}
use Rattle.fkv_record.specs.Layout.{shape_bytes}
use Rattle.fkv_record.specs.Manifest.{manifest_bytes}
use Rattle.fkv_record.specs.Places.{open_number}
use Rattle.fkv_newest.specs.declared.heads.Head.{Head}
use Rattle.fkv_newest.specs.Heads.{IsHeadOf, slot_of}
use Rattle.fkv_newest.specs.Manifest.{Suits}
use Rattle.fkv_newest.specs.Newest.{HasShape, slot_place, IsNewest, IsStore, IsManifestFault}

some_is : {A : Type 0} (x y : A) → Some x ≡ Some y → x ≡ y
some_is x y is = cc

module _ (image : List ℕ) (head : Head) (is_head : IsHeadOf image head) where
  newest_here : newer (open_number head.slot_0) (open_number head.slot_1) ≡ newest image
  newest_here =
      ap (λ (s : List ℕ). newer (open_number s) (open_number head.slot_1)) is_head.slot_0
      ∙ ap (λ (s : List ℕ). newer (open_number (slot_in image 512)) (open_number s)) is_head.slot_1

  pub open_0 : open_number head.slot_0 ≡ open_number (slot_in image 512)
  open_0 = ap (λ (s : List ℕ). open_number s) is_head.slot_0

  pub open_1 : open_number head.slot_1 ≡ open_number (slot_in image 1024)
  open_1 = ap (λ (s : List ℕ). open_number s) is_head.slot_1

  pub in_force : (index : ℕ) → newer (open_number head.slot_0) (open_number head.slot_1) ≡ Some (slot_place index) → IsNewest image index
  in_force index is = sym newest_here ∙ is

  pub all_closed : newer (open_number head.slot_0) (open_number head.slot_1) ≡ None → IsStore image → ⊥
  all_closed closed store = (let off : None ≡ Some (slot_place store.index) = sym closed ∙ newest_here ∙ store.in_force in cc)

  pub shape_here : (shape : Shape) (read : Option Shape) → Reads shape_bytes head.block read → read ≡ Some shape → HasShape image shape
  shape_here shape read reads is = (reads shape).0 is ∙ is_head.block

  pub no_shape : (read : Option Shape) → Reads shape_bytes head.block read → read ≡ None → IsStore image → ⊥
  no_shape read reads none store = (let off : None ≡ Some store.shape = sym none ∙ (reads store.shape).1 (store.block ∙ sym is_head.block) in cc)

  slot_here : (index : ℕ) → index < 2 → slot_of head index ≡ slot_in image (slot_place index)
  slot_here index small = by_index (place_of index small)
    where
      place_of : (place : ℕ) → place < 2 → (place ≡ 0) ⊎ (place ≡ 1)
      place_of place low = grind arith

      by_index : (index ≡ 0) ⊎ (index ≡ 1) → slot_of head index ≡ slot_in image (slot_place index)
      by_index (inl first) = subst (λ i. slot_of head i ≡ slot_in image (slot_place i)) (sym first) is_head.slot_0
      by_index (inr second) = subst (λ i. slot_of head i ≡ slot_in image (slot_place i)) (sym second) is_head.slot_1

  module _ (index : ℕ) (small : index < 2) (read : Option (Format × ManifestSlot)) (reads : Reads manifest_bytes (Some (slot_of head index)) read) where
    pub slot_stands : (format : Format) (slot : ManifestSlot) → read ≡ Some (format, slot) → manifest_bytes (format, slot) ≡ Some (slot_in image (slot_place index))
    slot_stands format slot is = (reads (format, slot)).0 is ∙ ap (λ (b : List ℕ). Some b) (slot_here index small)

    found : (format : Format) (slot : ManifestSlot) → manifest_bytes (format, slot) ≡ Some (slot_in image (slot_place index)) → read ≡ Some (format, slot)
    found format slot stands = (reads (format, slot)).1 (stands ∙ ap (λ (b : List ℕ). Some b) (sym (slot_here index small)))

    module _ (shape : Shape) (block : HasShape image shape) (newest : IsNewest image index) where
      pub no_slot : read ≡ None → IsManifestFault image index
      no_slot none = record {
        shape = shape;
        block = block;
        in_force = newest;
        here = λ format slot is. (let off : None ≡ Some (format, slot) = sym none ∙ found format slot is.stands in cc);
      }

      pub unsuited : (format : Format) (slot : ManifestSlot) → read ≡ Some (format, slot) → (Suits shape index format slot → ⊥) → IsManifestFault image index
      unsuited format slot is off = record {
        shape = shape;
        block = block;
        in_force = newest;
        here = λ other_format other_slot its.
            let same : (format, slot) ≡ (other_format, other_slot) = some_is (format, slot) (other_format, other_slot) (sym is ∙ found other_format other_slot its.stands) in
            off (subst (λ (p : Format × ManifestSlot). Suits shape index p.0 p.1) (sym same) its.suits);
      }

pub none_is : (o : Option (Format × ManifestSlot)) → ((x : Format × ManifestSlot) → o ≡ Some x → ⊥) → o ≡ None
none_is None no_one = refl
none_is (Some x) no_one = absurd (no_one x refl)

pub numbers_told : (head : Head) (first second : Option ℕ) (told : Option ℕ) → first ≡ open_number head.slot_0 → second ≡ open_number head.slot_1 → newer first second ≡ told
    → newer (open_number head.slot_0) (open_number head.slot_1) ≡ told
numbers_told head first second told is_first is_second is = sym (ap (λ (n : Option ℕ). newer n second) is_first ∙ ap (λ (n : Option ℕ). newer (open_number head.slot_0) n) is_second) ∙ is
