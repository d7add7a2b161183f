-- The world of an opened store is one in which no latch is held.
use Rattle.std.proofs.Common.{◌≡◌, ◌∙◌, ap, sym, subst, arith, ℕ, ◌+◌, ◌-◌, ◌*◌, ◌/◌, ◌%◌, ◌^◌, ◌<◌, ◌≤◌, true}
use Rattle.std.proofs.Math.Nat.{div-add-mod}
use Rattle.std.proofs.lemmas.Bool.Decides.{nat_tests}
use Rattle.fkv_base.specs.declared.shapes.Shape.{Shape}
use Rattle.fkv_latch.specs.LatchWorld.{has_latch}
use Rattle.fkv_latch.specs.Latching.{one_share}
use Rattle.fkv_plane.specs.Asked.{word_at}
use Rattle.fkv_plane.specs.Places.{bucket_place}
use Rattle.law_paper.specs.Below.fkv_opening.TheOpened.{Opened}
use Rattle.law_refine.specs.Below.fkv_world.World.{Now}
use Rattle.fkv_core.specs.Openings.{IsOpeningWorld}
use Rattle.law_refine.specs.Latches.Shows.{IsOpened}
use Rattle.law_opening.proofs.OfLives.GuardOpens.{enough, its_keeper_opens}
use Rattle.law_opening.proofs.OfLives.IndexOpens.{index_of}

-- a bucket's last word is its link, and nothing above it
latch_free : (o : Opened) (n : Now) → IsOpeningWorld o n → (place : ℕ) → has_latch n.places place ≡ true → word_at n.words place < one_share
latch_free o n its place latch =
    let start : ℕ = 24 + 16 * n.places.sessions in
    let at : ℕ = place - start in
    let bounds : (start ≤ place) × (place < start + 8 * n.places.buckets) × (at % 8 ≡ 7) = grind (arith, nat_tests, latch) in
    let b : ℕ = at / 8 in
    let parts : 8 * b + at % 8 ≡ at = div-add-mod at 8 in
    let low_place = bounds.0 in
    let high_place = bounds.1 in
    let last = bounds.2 in
    let here : bucket_place n.places b 7 ≡ place = omega (arith, parts, last, low_place) in
    subst (λ (at_place : ℕ). word_at n.words at_place < one_share) here ((index_of o n its).no_latches b (omega (arith, parts, last, high_place, low_place)))

pub latches_open : (o : Opened) (n : Now) → IsOpeningWorld o n → IsOpened n
latches_open o n its =
    let store = its.its_places in
    record {
      latches = record { enough_words = enough o n its; free = λ place latch. latch_free o n its place latch };
      buckets = store.buckets ∙ ap (λ (shape : Shape). 2 ^ shape.bucket_bits) (sym its.its_shape);
      seats = its.seats ∙ sym store.sessions;
      sessions = λ number s got. (its.its_sessions number s got).opened;
      served = ap (λ (shape : Shape). shape.sessions) its.its_shape ∙ sym store.sessions;
      finished = its.its_keeper.its_sessions ∙ ap (λ (shape : Shape). shape.sessions) (sym its.its_shape);
      keeper = its_keeper_opens o n its;
    }
