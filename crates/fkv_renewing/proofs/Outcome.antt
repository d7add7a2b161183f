-- What the image of a renewal is, and one whose gates are closed.
use Rattle.std.proofs.Common.{◌≡◌, ◌≢◌, ◌≤◌, inl, inr, ℕ, Bool, false, List, Option, Some, None, refl, sym, ◌∙◌, ap, subst, arith}
use Rattle.std.specs.Prelude.{◌==◌, if◌then◌else◌, replicate, Result, Ok, Err, IsErr}
use Rattle.std.specs.Result.{IsErrAnd}
use Rattle.std.specs.List.{flat_map}
use Rattle.std.proofs.lemmas.Bool.Decides.{nat_tests}
use Rattle.fkv_base.specs.declared.numbers.Key.{Key}
use Rattle.fkv_base.specs.declared.numbers.Serial.{Serial}
use Rattle.fkv_base.specs.declared.numbers.Value.{Value}
use Rattle.fkv_base.specs.declared.shapes.Shape.{Shape}
use Rattle.fkv_disk.specs.Bytes.{byte_at, written}
use Rattle.fkv_disk.specs.Device.{AtEachMoment, after}
use Rattle.fkv_disk.proofs.Shown.{byte_at-bytes_at}
use Rattle.fkv_manifest.specs.Newest.{slot_in, newer, newest}
use Rattle.fkv_creating.specs.Long.{IsLong}
use Rattle.fkv_creating.specs.Moments.{IsClearedFront, IsTornInFront}
use Rattle.fkv_newest.specs.declared.newest_slots.Newest.{Newest}
use Rattle.fkv_newest.specs.Newest.{IsStore, slot_place}
use Rattle.fkv_opening.proofs.Shown.{Apart}
use Rattle.fkv_record.proofs.Shown.{third_spelled}
use Rattle.fkv_record.specs.declared.formats.Format.TheVariants.{Third}
use Rattle.fkv_record.specs.Layout.{record_bytes, shape_bytes}
use Rattle.fkv_record.specs.Manifest.{manifest_bytes, newest_bytes, said_in}
use Rattle.fkv_record.specs.Places.{open_number, number_at, record_place}
use Rattle.fkv_renewing.specs.Images.{IsCleared, IsRenewed, IsShutOrFilled, filled}
use Rattle.fkv_renewing.specs.Moments.{ClearsFirst, IsNoneOrRenewal}
use Rattle.fkv_renewing.specs.Records.{HasBytes}
use Rattle.fkv_renewing.specs.Renewed.{AreSomePairs, IsRenewal}
use Rattle.fkv_renewing.specs.Room.{HasSlots}
use Rattle.fkv_renewing.proofs.Laying.{cleared_by}
use Rattle.fkv_renewing.proofs.Moving.{weaker}
use Rattle.fkv_renewing.proofs.Newly.{are_stored, behind_front, is_long, newest_told}
use Rattle.fkv_renewing.proofs.Recovered.{is_renewal}

closed_by : (bytes : List ℕ) → byte_at bytes 0 ≢ 165 → open_number bytes ≡ None
closed_by bytes shut = ap (λ t. if t then Some (number_at bytes 8) else None) (let off : (byte_at bytes 0 == 165) ≡ false = grind (arith, nat_tests, shut) in off)

none_some : (place : ℕ) → ◌≡◌ {A = Option ℕ} None (Some place) → ⊥
none_some place is = cc

shut_none : (image : List ℕ) → byte_at image 512 ≢ 165 → byte_at image 1024 ≢ 165 → newest image ≡ None
shut_none image gate_0 gate_1 =
    ap (λ x. newer x (open_number (slot_in image 1024))) (closed_by (slot_in image 512) (subst (λ b. b ≢ 165) (sym (byte_at-bytes_at image 512 512 0 (omega arith))) gate_0))
    ∙ ap (newer None) (closed_by (slot_in image 1024) (subst (λ b. b ≢ 165) (sym (byte_at-bytes_at image 1024 512 0 (omega arith))) gate_1))

no_store : (image : List ℕ) → byte_at image 512 ≢ 165 → byte_at image 1024 ≢ 165 → IsStore image → ⊥
no_store image gate_0 gate_1 store = none_some (slot_place store.index) (sym (shut_none image gate_0 gate_1) ∙ store.in_force)

-- what is written over a cleared front, as the calls before it give it
module _ (apart : Apart) (shape : Shape) (points its_points : List Serial) (pairs : List (Key × Value)) (n : Newest) (before old block log its_log slot : List ℕ) (place : ℕ) (the_points : its_points ≡ points)
    (renewed_so : IsRenewed shape its_points pairs n) (the_log : log ≡ its_log) (has_so : HasBytes shape.bucket_bits pairs its_log) (slots : HasSlots shape pairs) (its_front : old ≡ written before 0 (replicate 1536 0)) (its_block : block ≡ shape_bytes shape)
    (its_place : place ≡ record_place shape 1) (its_slot : slot ≡ newest_bytes (said_in n.slot)) (some : AreSomePairs pairs) where
  renewed : IsRenewed shape points pairs n
  renewed = subst (λ (ps : List Serial). IsRenewed shape ps pairs n) the_points renewed_so

  has : HasBytes shape.bucket_bits pairs log
  has = subst (λ (l : List ℕ). HasBytes shape.bucket_bits pairs l) (sym the_log) has_so

  clear : IsCleared old
  clear = subst IsCleared (sym its_front) (cleared_by before)

  spelled_so : Some (newest_bytes (said_in n.slot)) ≡ manifest_bytes (Third, n.slot)
  spelled_so = third_spelled n.slot renewed.slot.begin

  pub renewal : IsRenewal shape points pairs (filled old block place log slot)
  renewal =
      let image = filled old (shape_bytes shape) (record_place shape 1) (flat_map record_bytes has.0) (newest_bytes (said_in n.slot)) in
      let long : IsLong image n.shape n.slot = subst (λ (x : Shape). IsLong image x n.slot) (sym renewed.its_shape) (is_long old n shape points pairs has.0 renewed clear has.1.many) in
      let base : IsRenewal shape points pairs image =
      is_renewal apart image shape points pairs has.0 n renewed (newest_told old n shape points pairs has.0 renewed clear spelled_so) has.1 (are_stored old n shape points pairs has.0 renewed clear) slots long some in
      subst (λ (b : List ℕ). IsRenewal shape points pairs (filled old b place log slot)) (sym its_block)
      (subst (λ (at : ℕ). IsRenewal shape points pairs (filled old (shape_bytes shape) at log slot)) (sym its_place)
      (subst (λ (bytes : List ℕ). IsRenewal shape points pairs (filled old (shape_bytes shape) (record_place shape 1) log bytes)) (sym its_slot)
      (subst (λ (bytes : List ℕ). IsRenewal shape points pairs (filled old (shape_bytes shape) (record_place shape 1) bytes (newest_bytes (said_in n.slot)))) (sym has.2) base)))

  -- no store's, or the renewed one's
  none_or_renewal : (image : List ℕ) → IsShutOrFilled old block place log slot image → IsNoneOrRenewal shape points pairs image
  none_or_renewal image (inl shut) = inl (no_store image shut.0 shut.1)
  none_or_renewal image (inr is) = inr (subst (λ (bytes : List ℕ). IsRenewal shape points pairs bytes) (sym is) renewal)

  -- after the front is cleared, and filled
  pub clears_first : {D : Type 0} (seen : D → List ℕ) (may_leave : D → List ℕ → Type 0) (moment : D → ℕ) (left_since : D → ℕ → List ℕ → Type 0) (refuses : D → ℕ → Bool) (first cleared new : D) → refuses cleared ≡ after 2 (refuses first)
      → IsClearedFront seen may_leave first cleared → AtEachMoment moment left_since first cleared (IsTornInFront (may_leave first))
      → (1536 ≤ place → IsCleared old → AtEachMoment moment left_since cleared new (IsShutOrFilled old block place log slot)) → ClearsFirst seen may_leave moment left_since refuses shape points pairs first new
  clears_first seen may_leave moment left_since refuses first cleared new calls front so_far rest = record {
    cleared = cleared;
    calls = calls;
    front = front;
    until_then = so_far;
    from_then = weaker none_or_renewal (rest (subst (λ (at : ℕ). 1536 ≤ at) (sym its_place) (behind_front shape)) clear);
  }

pub failed_too : {T E : Type 0} (r : Result T E) (P : E → Type 0) → IsErrAnd r P → IsErr r
failed_too (Ok x) P is = absurd is
failed_too (Err e) P is = refl
