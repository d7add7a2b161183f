-- What lies elsewhere in an image reads as before.
use Rattle.std.proofs.Common.{◌≡◌, ◌⊎◌, inl, inr, ℕ, ◌+◌, ◌*◌, ◌<◌, ◌≤◌, List, length, ◌∙◌, ap, arith}
use Rattle.fkv_base.specs.declared.shapes.Shape.{Shape}
use Rattle.fkv_record.specs.Places.{most_triples, area_place, record_place}
use Rattle.fkv_disk.specs.Bytes.{byte_at, bytes_at}
use Rattle.fkv_disk.proofs.Shown.{is_listed, byte_at-bytes_at, length-bytes_at}
use Rattle.fkv_manifest.specs.Committing.{CommitWriter}
use Rattle.fkv_manifest.specs.Kept.{AreTheSlots, AreTheAreas, IsElsewhere, SparesRest, LiesIn, SparesStore}

-- a range that is spared
pub range_spared : (w : CommitWriter) (bytes image : List ℕ) → SparesRest w bytes image → (from n : ℕ) → from + n ≤ length bytes
    → ((i : ℕ) → from ≤ i → i < from + n → IsElsewhere w i) → bytes_at image from n ≡ bytes_at bytes from n
range_spared w bytes image spares from n fits elsewhere =
    is_listed (bytes_at image from n) n (λ k. byte_at bytes (from + k)) (length-bytes_at image from n)
    (λ k below. byte_at-bytes_at image from n k below ∙ spares.same (from + k) (omega (arith, below, fits)) (elsewhere (from + k) (omega arith) (omega (arith, below))))

module _ (shape : Shape) (w : CommitWriter) (other area other_area : ℕ) (lies : LiesIn shape w other area other_area) where
  abbrev room : ℕ
  room = 16 * most_triples shape

  places : ((w.area ≡ 1536) × (area_place shape other_area ≡ 1536 + room)) ⊎ ((w.area ≡ 1536 + room) × (area_place shape other_area ≡ 1536))
  places = by_area lies.areas
    where
      none : area_place shape 0 ≡ 1536
      none = omega arith

      one : area_place shape 1 ≡ 1536 + room
      one = omega arith

      by_area : AreTheAreas area other_area → ((w.area ≡ 1536) × (area_place shape other_area ≡ 1536 + room)) ⊎ ((w.area ≡ 1536 + room) × (area_place shape other_area ≡ 1536))
      by_area (inl first) = inl (lies.triples_at ∙ ap (λ (a : ℕ). area_place shape a) first.0 ∙ none, ap (λ (a : ℕ). area_place shape a) first.1 ∙ one)
      by_area (inr second) = inr (lies.triples_at ∙ ap (λ (a : ℕ). area_place shape a) second.0 ∙ one, ap (λ (a : ℕ). area_place shape a) second.1 ∙ none)

  top : w.gate.place + 512 ≤ 1536
  top = by_slot lies.slots
    where
      by_slot : AreTheSlots w.gate.place other → w.gate.place + 512 ≤ 1536
      by_slot (inl first) = omega (arith, first.0)
      by_slot (inr second) = omega (arith, second.0)

  bottom : 512 ≤ w.gate.place
  bottom = by_slot lies.slots
    where
      by_slot : AreTheSlots w.gate.place other → 512 ≤ w.gate.place
      by_slot (inl first) = omega (arith, first.0)
      by_slot (inr second) = omega (arith, second.0)

  behind : 1536 ≤ w.area
  behind = by_place places
    where
      by_place : ((w.area ≡ 1536) × (area_place shape other_area ≡ 1536 + room)) ⊎ ((w.area ≡ 1536 + room) × (area_place shape other_area ≡ 1536)) → 1536 ≤ w.area
      by_place (inl first) = omega (arith, first.0)
      by_place (inr second) = omega (arith, second.0)

  -- the shape block
  block_elsewhere : (i : ℕ) → i < 512 → IsElsewhere w i
  block_elsewhere i below = (inl (omega (arith, below, bottom)), inl (omega (arith, below, behind)))

  -- the area of the last checkpoint
  area_elsewhere : (i : ℕ) → area_place shape other_area ≤ i → i < area_place shape other_area + room → IsElsewhere w i
  area_elsewhere i above below = by_place places
    where
      by_place : ((w.area ≡ 1536) × (area_place shape other_area ≡ 1536 + room)) ⊎ ((w.area ≡ 1536 + room) × (area_place shape other_area ≡ 1536)) → IsElsewhere w i
      by_place (inl first) = (inr (omega (arith, above, first.1, top)), inr (omega (arith, above, first.0, first.1, lies.room)))
      by_place (inr second) = (inr (omega (arith, above, second.1, top)), inl (omega (arith, below, second.0, second.1)))

  -- the log
  log_elsewhere : (i : ℕ) → record_place shape 0 ≤ i → IsElsewhere w i
  log_elsewhere i above = by_place places
    where
      by_place : ((w.area ≡ 1536) × (area_place shape other_area ≡ 1536 + room)) ⊎ ((w.area ≡ 1536 + room) × (area_place shape other_area ≡ 1536)) → IsElsewhere w i
      by_place (inl first) = (inr (omega (arith, above, top)), inr (omega (arith, above, first.0, lies.room)))
      by_place (inr second) = (inr (omega (arith, above, top)), inr (omega (arith, above, second.0, lies.room)))

  pub store_spared : (bytes image : List ℕ) → SparesRest w bytes image → SparesStore shape other_area bytes image
  store_spared bytes image spares = record {
    block = λ n small fits. range_spared w bytes image spares 0 n (omega (arith, fits)) (λ i above below. block_elsewhere i (omega (arith, below, small)));
    triples = λ n small fits. range_spared w bytes image spares (area_place shape other_area) n fits (λ i above below. area_elsewhere i above (omega (arith, below, small)));
    records = λ addr fits. range_spared w bytes image spares (record_place shape addr) 24 fits (λ i above below. log_elsewhere i (omega (arith, above)));
  }
