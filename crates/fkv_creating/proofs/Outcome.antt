-- An image whose gates are closed is no store's.
use Rattle.std.proofs.Common.{◌≡◌, ◌≢◌, inl, inr, ℕ, false, List, Option, Some, None, refl, sym, ◌∙◌, ap, subst, arith}
use Rattle.std.specs.Prelude.{◌==◌, if◌then◌else◌, Result, Ok, Err, IsErr, IfErr}
use Rattle.std.specs.Result.{IsErrAnd}
use Rattle.std.proofs.lemmas.Bool.Decides.{nat_tests}
use Rattle.fkv_base.specs.declared.shapes.Shape.{Shape}
use Rattle.fkv_disk.specs.Bytes.{byte_at}
use Rattle.fkv_disk.proofs.Shown.{byte_at-bytes_at}
use Rattle.fkv_manifest.specs.Newest.{slot_in, newer, newest}
use Rattle.fkv_newest.specs.declared.newest_slots.Newest.{Newest}
use Rattle.fkv_newest.specs.Newest.{IsStore, IsNewestOf, slot_place}
use Rattle.fkv_record.specs.Places.{open_number, number_at}
use Rattle.fkv_creating.specs.Created.{IsNew}
use Rattle.fkv_creating.specs.Long.{IsLong}
use Rattle.fkv_creating.specs.Filled.{IsShut, IsShutOrFilled, filled}
use Rattle.fkv_creating.specs.Moments.{IsNoneOrNew}

closed_by : (bytes : List ℕ) → byte_at bytes 0 ≢ 165 → open_number bytes ≡ None
closed_by bytes shut = ap (λ t. if t then Some (number_at bytes 8) else None) (let off : (byte_at bytes 0 == 165) ≡ false = grind (arith, nat_tests, shut) in off)

none_some : (place : ℕ) → ◌≡◌ {A = Option ℕ} None (Some place) → ⊥
none_some place is = cc

shut_none : (image : List ℕ) → IsShut image → newest image ≡ None
shut_none image shut =
    ap (λ x. newer x (open_number (slot_in image 1024))) (closed_by (slot_in image 512) (subst (λ b. b ≢ 165) (sym (byte_at-bytes_at image 512 512 0 (omega arith))) shut.gate_0))
    ∙ ap (newer None) (closed_by (slot_in image 1024) (subst (λ b. b ≢ 165) (sym (byte_at-bytes_at image 1024 512 0 (omega arith))) shut.gate_1))

no_store : (image : List ℕ) → IsShut image → IsStore image → ⊥
no_store image shut store = none_some (slot_place store.index) (sym (shut_none image shut) ∙ store.in_force)

-- no store's, or the new one's
pub none_or_new : (old block slot : List ℕ) (shape : Shape) (n : Newest) → IsNew shape n → IsNewestOf (filled old block slot) n → IsLong (filled old block slot) n.shape n.slot → (image : List ℕ) → IsShutOrFilled old block slot image
    → IsNoneOrNew shape image
none_or_new old block slot shape n new told long image (inl shut) = inl (no_store image shut)
none_or_new old block slot shape n new told long image (inr is) = inr (n, new, subst (λ bytes. IsNewestOf bytes n) (sym is) told, subst (λ bytes. IsLong bytes n.shape n.slot) (sym is) long)

pub failed_too : {T E : Type 0} (r : Result T E) (P : E → Type 0) → IsErrAnd r P → IsErr r
failed_too (Ok x) P is = absurd is
failed_too (Err e) P is = refl

-- what holds of each fault holds of the one that is answered
pub each_fault : {T E : Type 0} (r : Result T E) (P : E → Type 0) → ((e : E) → P e) → IfErr r P
each_fault (Ok x) P each = tt
each_fault (Err e) P each = each e
