-- Two `Places` of as many sessions, buckets, overflow buckets and records are one: their masks are of one ring.
use Rattle.std.proofs.Common.{◌≡◌, ◌∙◌, sym, ap, ℕ, ◌%◌, ◌<◌, ◌≤◌}
use Rattle.std.proofs.Math.Bridge.{le_prop}
use Rattle.std.proofs.Math.Nat.{ℕ_set}
use Rattle.std.proofs.lemmas.Nat.{and_comm}
use Rattle.std.specs.Int.Bits.{bit_and, and_self}
use Rattle.fkv_base.specs.Limits.{max_sessions, max_buckets, max_overflow, max_ring}
use Rattle.fkv_base.specs.declared.shapes.Shape.{Shape}
use Rattle.fkv_keeper.specs.NewKeepers.{ArePlacesOfStore}
use Rattle.fkv_plane.specs.declared.places.Places.{Places}
use Rattle.fkv_words.proofs.Shown.{same_made}

masked_both : (p q : Places) → p.ring ≡ q.ring → p.ring_mask ≡ bit_and p.ring_mask q.ring_mask
masked_both p q same = sym (and_self p.ring_mask) ∙ p.masks p.ring_mask ∙ ap (λ (n : ℕ). p.ring_mask % n) same ∙ sym (q.masks p.ring_mask)

same_mask : (p q : Places) → p.ring ≡ q.ring → p.ring_mask ≡ q.ring_mask
same_mask p q same = masked_both p q same ∙ and_comm p.ring_mask q.ring_mask ∙ sym (masked_both q p (sym same))

pub same_places : (p q : Places) → p.sessions ≡ q.sessions → p.buckets ≡ q.buckets → p.overflow ≡ q.overflow → p.ring ≡ q.ring → p ≡ q
same_places p q s b o r =
    let m : p.ring_mask ≡ q.ring_mask = same_mask p q r in
    let parts : ◌≡◌ {A = ℕ × ℕ × ℕ × ℕ × ℕ} (p.sessions, p.buckets, p.overflow, p.ring, p.ring_mask) (q.sessions, q.buckets, q.overflow, q.ring, q.ring_mask) = cc in
    same_made {A = ℕ × ℕ × ℕ × ℕ × ℕ}
    {P = λ t. (t.0 ≤ max_sessions) × (t.1 ≤ max_buckets) × (t.2 ≤ max_overflow) × (0 < t.3) × ((a : ℕ) → bit_and a t.4 ≡ a % t.3) × (t.3 ≤ max_ring)}
    (λ t h. record { sessions = t.0; buckets = t.1; overflow = t.2; ring = t.3; ring_mask = t.4; few_sessions = h.0; few_buckets = h.1; few_overflow = h.2; some_ring = h.3; masks = h.4; small_ring = h.5 })
    (λ t. hlevel (le_prop, ℕ_set))
    (p.sessions, p.buckets, p.overflow, p.ring, p.ring_mask) (q.sessions, q.buckets, q.overflow, q.ring, q.ring_mask)
    (p.few_sessions, p.few_buckets, p.few_overflow, p.some_ring, p.masks, p.small_ring) (q.few_sessions, q.few_buckets, q.few_overflow, q.some_ring, q.masks, q.small_ring) parts

-- so the places of a store are one
pub one_store : (shape : Shape) (p q : Places) → ArePlacesOfStore shape p → ArePlacesOfStore shape q → p ≡ q
one_store shape p q its of = same_places p q (its.sessions ∙ sym of.sessions) (its.buckets ∙ sym of.buckets) (its.overflow ∙ sym of.overflow) (its.ring ∙ sym of.ring)
