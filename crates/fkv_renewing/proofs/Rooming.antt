-- The homes that have an address are those of the pairs, and whichever way they are listed they take as many overflow buckets.
use Rattle.std.proofs.Common.{◌≡◌, ℕ, ◌+◌, ◌-◌, ◌*◌, ◌≤◌, ◌^◌, List, [], length, Option, Some, None, refl, ap, subst, ◌∙◌, arith}
use Rattle.std.specs.Prelude.{slice_get, unwrap_or, Contains, IsSome}
use Rattle.std.specs.List.{flat_map}
use Rattle.std.specs.Ordering.{nat_cmp}
use Rattle.std.specs.BTreeMap.{BTreeMap, IsOrdered, get, keys}
use Rattle.std.proofs.lemmas.Cmp.{nat_cmp_total}
use Rattle.std.proofs.lemmas.List.Kept.{AllPairs-from_increasing}
use Rattle.std.proofs.lemmas.Map.Keys.{IsStrictlyIncreasing-from_sorted}
use Rattle.std.proofs.lemmas.Map.Lookups.{exact_unsigned}
use Rattle.std.proofs.lemmas.Map.Views.{btree_map_contains_key_iff}
use Rattle.std.proofs.lemmas.Option.{slice_get_within}
use Rattle.fkv_base.specs.declared.numbers.Key.{Key}
use Rattle.fkv_base.specs.declared.numbers.Value.{Value}
use Rattle.fkv_base.specs.declared.shapes.Shape.{Shape}
use Rattle.fkv_disk.specs.Bytes.{bytes_at, written}
use Rattle.fkv_record.specs.declared.records.Record.{Record}
use Rattle.fkv_record.specs.Layout.{record_bytes}
use Rattle.fkv_record.specs.Places.{record_place}
use Rattle.fkv_room.specs.Room.{taken}
use Rattle.fkv_room.proofs.Shown.{same_taken}
use Rattle.fkv_scan.specs.Log.{Log}
use Rattle.fkv_scan.proofs.Shown.{some_of}
use Rattle.fkv_words.specs.Fields.{SpellsApart}
use Rattle.fkv_renewing.specs.Logs.{IsRenewedLog}
use Rattle.fkv_renewing.specs.Records.{AreLatest, AreRecords, IsLastOf, key_home}
use Rattle.fkv_renewing.specs.Room.{AreHomesOf, HasSlots}
use Rattle.fkv_renewing.proofs.Holding.{are_homes}
use Rattle.fkv_renewing.proofs.Laying.{log_written, stored_in}
use Rattle.fkv_renewing.proofs.Listed.{contained, contains}

some_if : (o : Option ℕ) → (o ≡ None → ⊥) → IsSome o
some_if None off = absurd (off refl)
some_if (Some a) off = refl

module _ (bits : ℕ) (pairs : List (Key × Value)) (latest : BTreeMap ℕ ℕ) (are : AreLatest bits pairs (length pairs) (get nat_cmp latest)) where
  has_pair : (h : ℕ) → IsSome (get nat_cmp latest h) → (pair : Key × Value) × Contains pairs pair × (key_home bits pair.0 ≡ h)
  has_pair h some =
      let found = some_of (get nat_cmp latest h) some in
      let last : IsLastOf bits pairs (length pairs) h found.0 = subst (λ (o : Option ℕ). IsLastOf bits pairs (length pairs) h (unwrap_or o 0)) found.1 (are.last h) in
      let here = last.here (are.some h found.0 found.1) in
      (here.0, contains pairs (found.0 - 1) here.0 here.1, here.2)

  has_address : (pair : Key × Value) → Contains pairs pair → IsSome (get nat_cmp latest (key_home bits pair.0))
  has_address pair has =
      let place = contained pairs pair has in
      let h = key_home bits pair.0 in
      some_if (get nat_cmp latest h) (λ none.
      let last : IsLastOf bits pairs (length pairs) h 0 = subst (λ (o : Option ℕ). IsLastOf bits pairs (length pairs) h (unwrap_or o 0)) none (are.last h) in
      last.none_above place.0 pair (omega arith) (slice_get_within pairs place.0 pair place.1) place.1 refl)

  pub keys_are_homes : IsOrdered nat_cmp latest → AreHomesOf bits pairs (keys latest)
  keys_are_homes ordered = record {
    once = λ i j d less low equal. let rises = AllPairs-from_increasing (keys latest) (IsStrictlyIncreasing-from_sorted (keys latest) ordered) i j d less low in omega (arith, rises, equal);
    all = λ h. (
      (λ has. has_pair h ((btree_map_contains_key_iff nat_cmp_total exact_unsigned latest h).1 has)),
      (λ is. (btree_map_contains_key_iff nat_cmp_total exact_unsigned latest h).0 (subst (λ (k : ℕ). IsSome (get nat_cmp latest k)) is.2 (has_address is.0 is.1))),
    );
  }

module _ (spelled : SpellsApart record_bytes) (shape : Shape) (pairs : List (Key × Value)) (records : List Record) (are : AreRecords shape.bucket_bits pairs records) where
  bytes : List ℕ
  bytes = flat_map record_bytes records

  image : List ℕ
  image = written [] (record_place shape 1) bytes

  log : Log
  log = record { image = image; shape = shape; version = 1; oldest = 1; begin = 1; start = 1; tail = length pairs + 1; lost = []; triples = [] }

  stand : (i : ℕ) (x : Record) → slice_get records i ≡ Some x → record_bytes x ≡ bytes_at image (record_place shape (i + 1)) 24
  unfolding image bytes
  stand i x is =
      stored_in image (record_place shape 1) bytes records (log_written [] (record_place shape 1) bytes) refl i x is
      ∙ ap (λ (at : ℕ). bytes_at image at 24) (let e : record_place shape 1 + 24 * i ≡ record_place shape (i + 1) = omega arith in e)

  is_log : IsRenewedLog log pairs records
  unfolding log
  is_log = record { version = refl; oldest = omega arith; begin = refl; start = refl; tail = refl; lost = refl; triples = refl; are_records = are; stand = stand }

  one_taken : (xs ys : List ℕ) → AreHomesOf shape.bucket_bits pairs xs → AreHomesOf shape.bucket_bits pairs ys → (b : ℕ) → taken xs b ≡ taken ys b
  unfolding log
  one_taken xs ys first second b = same_taken log xs ys (are_homes spelled log pairs records is_log xs first) (are_homes spelled log pairs records is_log ys second) b

  -- where the homes of one list don't find room, those of no list do
  pub no_slots : (homes : List ℕ) → AreHomesOf shape.bucket_bits pairs homes → (taken homes (2 ^ shape.bucket_bits) ≤ shape.overflow → ⊥) → HasSlots shape pairs → ⊥
  no_slots homes of full slots =
      full (omega (arith, one_taken homes slots.homes of slots.are_homes (2 ^ shape.bucket_bits), slots.enough))
