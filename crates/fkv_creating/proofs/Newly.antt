-- The image of a new store is told as new.
use Rattle.std.proofs.Common.{◌≡◌, ℕ, zero, suc, ◌*◌, ◌≤◌, List, ◌∷◌, ◌++◌, length, drop, refl, sym, ◌∙◌, ap, arith}
use Rattle.std.specs.Prelude.{Option, Some, None, replicate, if◌then◌else◌, ◌==◌}
use Rattle.std.specs.Int.{w64, from_le_bytes, to_le_bytes}
use Rattle.std.proofs.lemmas.List.{get_or_append_left}
use Rattle.std.proofs.lemmas.List.Concat.{flat_map-cons}
use Rattle.fkv_base.specs.declared.shapes.Shape.{Shape}
use Rattle.fkv_disk.specs.Bytes.{byte_at, bytes_at}
use Rattle.fkv_manifest.specs.Kept.{IsSlotOf}
use Rattle.fkv_manifest.specs.Newest.{slot_in, newer, newest}
use Rattle.fkv_manifest.proofs.Shown.{newest_spelled}
use Rattle.fkv_newest.specs.declared.newest_slots.Newest.{Newest}
use Rattle.fkv_newest.specs.Newest.{IsNewestOf, slot_place}
use Rattle.fkv_record.specs.declared.formats.Format.TheVariants.{Third}
use Rattle.fkv_record.specs.declared.manifest_slots.ManifestSlot.{ManifestSlot}
use Rattle.fkv_record.specs.Layout.{shape_bytes, shape_text, size_numbers}
use Rattle.fkv_record.specs.Manifest.{manifest_bytes, newest_bytes, newest_numbers, said_in, SlotSaid}
use Rattle.fkv_record.specs.Numbers.{spelled}
use Rattle.fkv_record.specs.Places.{open_number, number_at}
use Rattle.fkv_record.proofs.Shown.{shape_numbered, length-spelled}
use Rattle.fkv_creating.specs.Created.{IsNew, SparesRest, laid}
use Rattle.fkv_creating.specs.Long.{IsLong}
use Rattle.fkv_creating.proofs.Laying.{zeros_at, IsSlot, laid_block, laid_slot, laid_closed, laid_spares}

zero_in : (i : ℕ) → 1 ≤ i → byte_at (to_le_bytes w64 165) i ≡ 0
zero_in zero some = absurd (omega (arith, some))
zero_in (suc i) some = ap (λ (s : List ℕ). byte_at s (suc i)) (let e : to_le_bytes w64 165 ≡ 165 ∷ replicate 7 0 = refl in e) ∙ zeros_at 7 i

rest_of : SlotSaid → List ℕ
rest_of s = drop 1 (newest_numbers s)

split : (s : SlotSaid) → newest_bytes s ≡ to_le_bytes w64 165 ++ spelled (rest_of s)
unfolding newest_bytes rest_of
split s = flat_map-cons (to_le_bytes w64) 165 (rest_of s)

named : (x : ManifestSlot) → IsSlotOf x.number (newest_bytes (said_in x))
named x = newest_spelled (said_in x) x.number_fits x.points.few_sessions x.lost.few_ranges

is_slot : (x : ManifestSlot) → IsSlot (newest_bytes (said_in x))
is_slot x = record {
  whole = (named x).whole;
  gate = (named x).is_open;
  gap = λ i some few. ap (λ (s : List ℕ). byte_at s i) (split (said_in x)) ∙ get_or_append_left (to_le_bytes w64 165) (spelled (rest_of (said_in x))) 0 i few ∙ zero_in i some;
}

opened : (bytes : List ℕ) → byte_at bytes 0 ≡ 165 → open_number bytes ≡ Some (number_at bytes 8)
opened bytes gate = ap (λ (b : ℕ). if b == 165 then Some (number_at bytes 8) else None) gate

closed : (bytes : List ℕ) → byte_at bytes 0 ≡ 0 → open_number bytes ≡ None
closed bytes gate = ap (λ (b : ℕ). if b == 165 then Some (number_at bytes 8) else None) gate

pub long_block : (shape : Shape) → length (shape_bytes shape) ≡ 64
long_block shape = ap length (shape_numbered.same shape) ∙ length-spelled (from_le_bytes w64 (shape_text shape) ∷ size_numbers shape) ∙ ap (λ (n : ℕ). 8 * n) (shape_numbered.len shape)

module _ (old : List ℕ) (n : Newest) (shape : Shape) (new : IsNew shape n) where
  block : List ℕ
  block = shape_bytes shape

  slot : List ℕ
  slot = newest_bytes (said_in n.slot)

  image : List ℕ
  image = laid old block slot

  many_block : length block ≡ 64
  unfolding block
  many_block = long_block shape

  its_slot : IsSlot slot
  unfolding slot
  its_slot = is_slot n.slot

  first_open : open_number (slot_in image 512) ≡ Some 0
  unfolding image slot block
  first_open =
      ap open_number (laid_slot old block slot many_block its_slot) ∙ opened slot (its_slot.gate)
      ∙ ap (λ (m : ℕ). Some m) ((named n.slot).names ∙ new.slot.number)

  second_closed : open_number (slot_in image 1024) ≡ None
  unfolding image slot block
  second_closed = closed (slot_in image 1024) (laid_closed old block slot many_block its_slot)

  in_force : newest image ≡ Some (slot_place n.index)
  in_force =
      ap (λ (x : Option ℕ). newer x (open_number (slot_in image 1024))) first_open
      ∙ ap (λ (y : Option ℕ). newer (Some 0) y) second_closed
      ∙ ap (λ (i : ℕ). Some (slot_place i)) (sym new.index)

  stands : Some slot ≡ manifest_bytes (Third, n.slot) → manifest_bytes (n.format, n.slot) ≡ Some (slot_in image (slot_place n.index))
  unfolding image slot block
  stands spelled_so =
      ap (λ f. manifest_bytes (f, n.slot)) new.format ∙ sym spelled_so
      ∙ ap (λ (s : List ℕ). Some s) (sym (laid_slot old block slot many_block its_slot))
      ∙ ap (λ (i : ℕ). Some (slot_in image (slot_place i))) (sym new.index)

  has_block : shape_bytes n.shape ≡ bytes_at image 0 64
  unfolding image slot block
  has_block = ap shape_bytes new.its_shape ∙ sym (laid_block old block slot many_block its_slot)

  pub newest_told : Some (newest_bytes (said_in n.slot)) ≡ manifest_bytes (Third, n.slot) → IsNewestOf (laid old (shape_bytes shape) (newest_bytes (said_in n.slot))) n
  unfolding image slot block
  newest_told spelled_so = record {
    block = has_block;
    in_force = in_force;
    manifest = record { stands = stands spelled_so; suits = n.fits };
    open_0 = new.open_0 ∙ sym first_open;
    open_1 = new.open_1 ∙ sym second_closed;
  }

  pub spared : SparesRest old (laid old (shape_bytes shape) (newest_bytes (said_in n.slot)))
  unfolding slot block
  spared = laid_spares old block slot many_block its_slot

  pub is_long : IsLong (laid old (shape_bytes shape) (newest_bytes (said_in n.slot))) n.shape n.slot
  is_long = record {
    slots = omega (arith, spared.end);
    records = λ some. absurd (omega (arith, some, new.slot.end));
    triples = λ some. absurd (omega (arith, some, new.slot.triples));
  }
