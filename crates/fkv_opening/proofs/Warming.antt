-- What memory has of the records as a store opens.
use Rattle.std.proofs.Common.{◌≡◌, ◌∙◌, ℕ, ◌+◌, ◌*◌, ◌/◌, ◌%◌, ◌^◌, ◌<◌, ◌≤◌, List, ap, arith}
use Rattle.std.specs.Prelude.{min}
use Rattle.std.proofs.Math.Nat.{div-add-mod, min-le_left, mul-le-mul_right}
use Rattle.fkv_base.specs.declared.shapes.Shape.{Shape}
use Rattle.fkv_disk.specs.Bytes.{bytes_at}
use Rattle.fkv_record.specs.Begin.{from_or_none}
use Rattle.fkv_record.specs.Places.{number_at, record_place}
use Rattle.fkv_marks.specs.Marks.{mark}
use Rattle.fkv_opening.specs.declared.opened_store.Opened.{Opened}
use Rattle.fkv_opening.specs.Warm.{IsWarm, record_word}

-- the room that is open reaches no further than the ring behind the log's end
pub room_in_ring : (shape : Shape) (tail : ℕ) → min (tail / shape.page + 2) shape.disk_pages * shape.page ≤ tail + shape.frames * shape.page
room_in_ring shape tail =
    let q : ℕ = tail / shape.page in
    let mutable = shape.limits.some_mutable in
    let frames = shape.limits.some_read_only in
    let two : 2 ≤ shape.frames = omega (arith, mutable, frames) in
    let parts : shape.page * q + tail % shape.page ≡ tail = div-add-mod tail shape.page in
    let most : min (q + 2) shape.disk_pages * shape.page ≤ (q + 2) * shape.page = mul-le-mul_right shape.page (min-le_left (q + 2) shape.disk_pages) in
    let ring : 2 * shape.page ≤ shape.frames * shape.page = mul-le-mul_right shape.page two in
    let wide : (q + 2) * shape.page ≡ shape.page * q + 2 * shape.page = omega arith in
    omega (arith, most, ring, wide, parts)

-- memory that has no record has what it is to have
pub nothing_warm : (image : List ℕ) (o : Opened) → o.tail.0 ≤ o.warm.0 → IsWarm image o
nothing_warm image o cold = record {
  header = λ a above below. absurd (omega (arith, cold, above, below));
  key = λ a above below. absurd (omega (arith, cold, above, below));
  value = λ a above below. absurd (omega (arith, cold, above, below));
}

-- images that agree on the records have the same words of them
pub warm_on : (i j : List ℕ) (o : Opened) → ((a : ℕ) → o.begin.0 ≤ a → a < o.tail.0 → bytes_at i (record_place o.shape a) 24 ≡ bytes_at j (record_place o.shape a) 24) → IsWarm i o → IsWarm j o
warm_on i j o same warm = record {
  header = λ a above below. warm.header a above below ∙ ap (λ (word : ℕ). from_or_none o.begin.0 (word % 2 ^ 48) + mark o.number.0 * 2 ^ 48) (word a 0 above below);
  key = λ a above below. warm.key a above below ∙ word a 1 above below;
  value = λ a above below. warm.value a above below ∙ word a 2 above below;
}
  where
    word : (a k : ℕ) → o.warm.0 ≤ a → a < o.tail.0 → record_word i o.shape a k ≡ record_word j o.shape a k
    word a k above below = let some = o.warm_from_begin in ap (λ (bytes : List ℕ). number_at bytes (8 * k)) (same a (omega (arith, some, above)) below)
