-- The image of a renewed store is told as renewed.
use Rattle.std.proofs.Common.{◌≡◌, ℕ, zero, suc, ◌<◌, ◌+◌, ◌*◌, ◌≤◌, List, ◌∷◌, ◌++◌, length, drop, refl, sym, ◌∙◌, ap, arith}
use Rattle.std.specs.Prelude.{Option, Some, None, replicate, if◌then◌else◌, ◌==◌}
use Rattle.std.specs.Int.{w64, from_le_bytes, to_le_bytes}
use Rattle.std.specs.List.{flat_map}
use Rattle.std.proofs.lemmas.List.{get_or_append_left}
use Rattle.std.proofs.lemmas.List.Concat.{flat_map-cons}
use Rattle.fkv_base.specs.declared.numbers.Key.{Key}
use Rattle.fkv_base.specs.declared.numbers.Serial.{Serial}
use Rattle.fkv_base.specs.declared.numbers.Value.{Value}
use Rattle.fkv_base.specs.declared.shapes.Shape.{Shape}
use Rattle.fkv_disk.specs.Bytes.{byte_at, bytes_at}
use Rattle.fkv_manifest.specs.Kept.{IsSlotOf}
use Rattle.fkv_manifest.specs.Newest.{slot_in, newer, newest}
use Rattle.fkv_manifest.proofs.Shown.{newest_spelled}
use Rattle.fkv_creating.specs.Long.{IsLong}
use Rattle.fkv_newest.specs.declared.newest_slots.Newest.{Newest}
use Rattle.fkv_newest.specs.Newest.{IsNewestOf, slot_place}
use Rattle.fkv_record.specs.declared.formats.Format.TheVariants.{Third}
use Rattle.fkv_record.specs.declared.manifest_slots.ManifestSlot.{ManifestSlot}
use Rattle.fkv_record.specs.declared.records.Record.{Record}
use Rattle.fkv_record.specs.Layout.{record_bytes, shape_bytes, shape_text, size_numbers}
use Rattle.fkv_record.specs.Manifest.{manifest_bytes, newest_bytes, newest_numbers, said_in, SlotSaid}
use Rattle.fkv_record.specs.Numbers.{spelled}
use Rattle.fkv_record.specs.Places.{open_number, number_at, record_place}
use Rattle.fkv_record.proofs.Shown.{shape_numbered, length-spelled}
use Rattle.fkv_renewing.specs.Images.{AreStored, IsCleared, IsRenewed, filled}
use Rattle.fkv_renewing.proofs.Laying.{zeros_at, IsSlot, filled_block, filled_slot, filled_closed, filled_log, filled_long}
use Rattle.fkv_renewing.proofs.Logged.{long_log}

zero_in : (i : ℕ) → 1 ≤ i → byte_at (to_le_bytes w64 165) i ≡ 0
zero_in zero some = absurd (omega (arith, some))
zero_in (suc i) some = ap (λ (s : List ℕ). byte_at s (suc i)) (let e : to_le_bytes w64 165 ≡ 165 ∷ replicate 7 0 = refl in e) ∙ zeros_at 7 i

rest_of : SlotSaid → List ℕ
rest_of s = drop 1 (newest_numbers s)

split : (s : SlotSaid) → newest_bytes s ≡ to_le_bytes w64 165 ++ spelled (rest_of s)
unfolding newest_bytes rest_of
split s = flat_map-cons (to_le_bytes w64) 165 (rest_of s)

named : (x : ManifestSlot) → IsSlotOf x.number (newest_bytes (said_in x))
named x = newest_spelled (said_in x) x.number_fits x.points.few_sessions x.lost.few_ranges

pub is_slot : (x : ManifestSlot) → IsSlot (newest_bytes (said_in x))
is_slot x = record {
  whole = (named x).whole;
  gate = (named x).is_open;
  gap = λ i some few. ap (λ (s : List ℕ). byte_at s i) (split (said_in x)) ∙ get_or_append_left (to_le_bytes w64 165) (spelled (rest_of (said_in x))) 0 i few ∙ zero_in i some;
}

opened : (bytes : List ℕ) → byte_at bytes 0 ≡ 165 → open_number bytes ≡ Some (number_at bytes 8)
opened bytes gate = ap (λ (b : ℕ). if b == 165 then Some (number_at bytes 8) else None) gate

closed : (bytes : List ℕ) → byte_at bytes 0 ≡ 0 → open_number bytes ≡ None
closed bytes gate = ap (λ (b : ℕ). if b == 165 then Some (number_at bytes 8) else None) gate

pub long_block : (shape : Shape) → length (shape_bytes shape) ≡ 64
long_block shape = ap length (shape_numbered.same shape) ∙ length-spelled (from_le_bytes w64 (shape_text shape) ∷ size_numbers shape) ∙ ap (λ (n : ℕ). 8 * n) (shape_numbered.len shape)

pub behind_front : (shape : Shape) → 1536 ≤ record_place shape 1
behind_front shape = omega arith

module _ (old : List ℕ) (n : Newest) (shape : Shape) (points : List Serial) (pairs : List (Key × Value)) (records : List Record) (renewed : IsRenewed shape points pairs n) (clear : IsCleared old) where
  block : List ℕ
  block = shape_bytes shape

  slot : List ℕ
  slot = newest_bytes (said_in n.slot)

  log : List ℕ
  log = flat_map record_bytes records

  place : ℕ
  place = record_place shape 1

  image : List ℕ
  image = filled old block place log slot

  many_block : length block ≡ 64
  unfolding block
  many_block = long_block shape

  its_slot : IsSlot slot
  unfolding slot
  its_slot = is_slot n.slot

  behind : 1536 ≤ place
  unfolding place
  behind = behind_front shape

  first_closed : open_number (slot_in image 512) ≡ None
  unfolding image
  first_closed = closed (slot_in image 512) (filled_closed old block place log slot many_block its_slot behind clear)

  second_open : open_number (slot_in image 1024) ≡ Some 1
  unfolding image slot
  second_open =
      ap open_number (filled_slot old block place log slot many_block its_slot behind clear) ∙ opened slot (its_slot.gate)
      ∙ ap (λ (m : ℕ). Some m) ((named n.slot).names ∙ renewed.slot.number)

  in_force : newest image ≡ Some (slot_place n.index)
  in_force =
      ap (λ (x : Option ℕ). newer x (open_number (slot_in image 1024))) first_closed
      ∙ ap (λ (y : Option ℕ). newer None y) second_open
      ∙ ap (λ (i : ℕ). Some (slot_place i)) (sym renewed.index)

  stands : Some slot ≡ manifest_bytes (Third, n.slot) → manifest_bytes (n.format, n.slot) ≡ Some (slot_in image (slot_place n.index))
  unfolding image
  stands spelled_so =
      ap (λ f. manifest_bytes (f, n.slot)) renewed.format ∙ sym spelled_so
      ∙ ap (λ (s : List ℕ). Some s) (sym (filled_slot old block place log slot many_block its_slot behind clear))
      ∙ ap (λ (i : ℕ). Some (slot_in image (slot_place i))) (sym renewed.index)

  has_block : shape_bytes n.shape ≡ bytes_at image 0 64
  unfolding image block
  has_block = ap shape_bytes renewed.its_shape ∙ sym (filled_block old block place log slot many_block its_slot behind clear)

  pub newest_told : Some (newest_bytes (said_in n.slot)) ≡ manifest_bytes (Third, n.slot) → IsNewestOf (filled old (shape_bytes shape) (record_place shape 1) (flat_map record_bytes records) (newest_bytes (said_in n.slot))) n
  unfolding image slot block place log
  newest_told spelled_so = record {
    block = has_block;
    in_force = in_force;
    manifest = record { stands = stands spelled_so; suits = n.fits };
    open_0 = renewed.open_0 ∙ sym first_closed;
    open_1 = renewed.open_1 ∙ sym second_open;
  }

  pub are_stored : AreStored (filled old (shape_bytes shape) (record_place shape 1) (flat_map record_bytes records) (newest_bytes (said_in n.slot))) shape records
  unfolding slot block place log
  are_stored i x is =
      filled_log old block place log slot many_block its_slot behind clear records refl i x is
      ∙ ap (λ (at : ℕ). bytes_at (filled old block place log slot) at 24) (let e : record_place shape 1 + 24 * i ≡ record_place shape (i + 1) = omega arith in e)

  pub is_long : length records ≡ length pairs → IsLong (filled old (shape_bytes shape) (record_place shape 1) (flat_map record_bytes records) (newest_bytes (said_in n.slot))) shape n.slot
  unfolding slot block place log
  is_long many =
      let reach = filled_long old block place log slot many_block its_slot behind clear in
      record {
        slots = reach.0;
        records = λ some.
            let some_log : 0 < length log = omega (arith, long_log records, many, some, renewed.slot.end) in
            omega (arith, reach.1 some_log, long_log records, many, renewed.slot.end);
        triples = λ some. absurd (omega (arith, some, renewed.slot.triples));
      }
