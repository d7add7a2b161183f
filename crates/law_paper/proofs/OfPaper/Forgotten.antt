-- An image that agrees but at bytes that count for nothing shows recovery the same.
use Rattle.std.proofs.Common.{◌≡◌, ℕ, zero, suc, ◌+◌, ◌*◌, ◌<◌, ◌≤◌, Bool, true, false, Option, Some, None, List, ap, ◌∙◌, arith}
use Rattle.std.specs.Prelude.{if◌then◌else◌, nat_le}
use Rattle.fkv_base.specs.declared.shapes.Shape.{Shape}
use Rattle.fkv_disk.specs.Bytes.{byte_at, bytes_at}
use Rattle.fkv_disk.proofs.Shown.{byte_at-bytes_at, is_listed, length-bytes_at}
use Rattle.fkv_manifest.specs.Newest.{newer, slot_in}
use Rattle.fkv_newest.specs.Newest.{IsNewestOf, ShowSame, slot_place}
use Rattle.fkv_newest.specs.declared.newest_slots.Newest.{Newest}
use Rattle.fkv_opening.specs.Alike.{Agree, ShareLog}
use Rattle.fkv_opening.proofs.Shown.{Apart, same_shape, same_slot}
use Rattle.fkv_record.specs.Places.{area_place, most_triples, open_number, record_place}
use Rattle.fkv_record.specs.declared.manifest_slots.ManifestSlot.{ManifestSlot}
use Rattle.law_paper.specs.Paper.Forgotten.{AgreeFrom}

-- the bytes of a range are the same where each of them is
range_same : (xs ys : List ℕ) (at n : ℕ) → ((i : ℕ) → at ≤ i → i < at + n → byte_at xs i ≡ byte_at ys i) → bytes_at xs at n ≡ bytes_at ys at n
range_same xs ys at n each = is_listed (bytes_at xs at n) n _ (length-bytes_at xs at n) (λ k below. byte_at-bytes_at xs at n k below ∙ each (at + k) (omega arith) (omega (arith, below)))

-- the newest slot is one of the two
place_low : (first second : Option ℕ) (place : ℕ) → newer first second ≡ Some place → place ≤ 1024
place_low None None place is = absurd (cc)
place_low (Some n) None place is = (let same : 512 ≡ place = cc in omega (arith, same))
place_low None (Some n) place is = (let same : 1024 ≡ place = cc in omega (arith, same))
place_low (Some n) (Some m) place is = by_test (nat_le m n) is
  where
    by_test : (t : Bool) → Some (if t then 512 else 1024) ≡ Some place → place ≤ 1024
    by_test true its = (let same : 512 ≡ place = cc in omega (arith, same))
    by_test false its = (let same : 1024 ≡ place = cc in omega (arith, same))

-- the triples of an area end where the records begin
area_low : (most area i : ℕ) → area < 2 → i < most → 1536 + 16 * most * area + 16 * i + 16 ≤ 1536 + 16 * most * 2 + 24 * 0
area_low most zero i few low = omega (arith, low)
area_low most (suc zero) i few low = omega (arith, low)
area_low most (suc (suc n)) i few low = absurd (omega (arith, few))

module _ (apart : Apart) (image other : List ℕ) (agree : AgreeFrom image other) where
  -- ---- below the areas all is the same
  low_same : (i : ℕ) → i < 1536 → byte_at image i ≡ byte_at other i
  low_same i low = agree.same i (λ gone. let at = gone.from_on in omega (arith, at, low))

  front_same : (at n : ℕ) → at + n ≤ 1536 → bytes_at image at n ≡ bytes_at other at n
  front_same at n low = range_same image other at n (λ i from under. low_same i (omega (arith, under, low)))

  show_same : ShowSame image other
  show_same = record {
    block = front_same 0 64 (omega arith);
    open_0 = ap open_number (front_same 512 512 (omega arith));
    open_1 = ap open_number (front_same 1024 512 (omega arith));
    slot = λ index is. front_same (slot_place index) 512 (let low = place_low (open_number (slot_in image 512)) (open_number (slot_in image 1024)) (slot_place index) is in omega (arith, low));
  }

  -- ---- behind a newest slot too, but below its begin
  module _ (n : Newest) (its : IsNewestOf image n) where
    its_shape : (gone : Newest) → IsNewestOf image gone → n.shape ≡ gone.shape
    its_shape gone is = same_shape apart image n gone its is

    its_slot : (gone : Newest) → IsNewestOf image gone → n.slot ≡ gone.slot
    its_slot gone is = same_slot apart image n gone its is

    before : (i : ℕ) → i < record_place n.shape 0 → byte_at image i ≡ byte_at other i
    before i low = agree.same i (λ gone.
        let from = gone.from_on in
        let same = ap (λ (s : Shape). record_place s 0) (its_shape gone.newest gone.its) in
        omega (arith, from, same, low))

    behind : (i : ℕ) → record_place n.shape n.slot.begin.0 ≤ i → byte_at image i ≡ byte_at other i
    behind i from = agree.same i (λ gone.
        let low = gone.below in
        let shape = ap (λ (s : Shape). record_place s n.slot.begin.0) (its_shape gone.newest gone.its) in
        let slot = ap (λ (s : ManifestSlot). record_place (let m = gone.newest in m.shape) s.begin.0) (its_slot gone.newest gone.its) in
        omega (arith, low, shape, slot, from))

    share_log : ShareLog n image other
    share_log = record {
      triples = λ i low.
          let has = its.manifest.suits.checkpoint in
          let few = has.few in
          let end = area_low (most_triples n.shape) n.slot.area i has.area (omega (arith, low, few)) in
          range_same image other (area_place n.shape n.slot.area + 16 * i) 16 (λ j from under. before j (omega (arith, under, end)));
      records = λ a from low. range_same image other (record_place n.shape a) 24 (λ j on under. behind j (omega (arith, on, from)));
    }

  pub agree_from : Agree image other
  agree_from = record { front = show_same; behind = share_log }
