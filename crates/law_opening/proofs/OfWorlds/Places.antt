-- Where the words of a store of any shape lie.
use Rattle.std.proofs.Common.{ℕ, ◌-◌, ◌*◌, ◌^◌, ◌<◌, ◌≤◌, lit<, refl, arith}
use Rattle.std.proofs.Math.Nat.{mul-le-mul, pow-le-pow_right}
use Rattle.std.specs.Prelude.{IsTrue}
use Rattle.fkv_base.specs.Limits.{is_ring_size, max_bucket_bits, max_buckets, max_frames, max_page, max_ring, min_frames, min_page}
use Rattle.fkv_base.specs.declared.shapes.Shape.{Shape}
use Rattle.fkv_base.proofs.Shown.{powers_multiply, remainder_is_mask, ring_between, ring_size_is_power}
use Rattle.fkv_plane.specs.declared.places.Places.{Places}
use Rattle.law_refine.specs.Below.fkv_keeper.NewKeepers.{ArePlacesOfStore}

few_buckets : (bits : ℕ) → bits ≤ max_bucket_bits → 2 ^ bits ≤ max_buckets
few_buckets bits few =
    let most : 2 ^ bits ≤ 2 ^ 24 = pow-le-pow_right (lit< tt) few in
    omega (arith, most)

small_ring : (page frames : ℕ) → IsTrue (is_ring_size page min_page max_page) → IsTrue (is_ring_size frames min_frames max_frames) → frames * page ≤ max_ring
small_ring page frames its_page its_frames =
    let most : frames * page ≤ 4096 * 65536 = mul-le-mul (ring_between frames min_frames max_frames its_frames).1 (ring_between page min_page max_page its_page).1 in
    omega (arith, most)

some_ring : (page frames : ℕ) → IsTrue (is_ring_size page min_page max_page) → IsTrue (is_ring_size frames min_frames max_frames) → 0 < frames * page
some_ring page frames its_page its_frames =
    let least : 2 * 4 ≤ frames * page = mul-le-mul (ring_between frames min_frames max_frames its_frames).0 (ring_between page min_page max_page its_page).0 in
    omega (arith, least)

pub places_of : Shape → Places
places_of shape = record {
  sessions = shape.sessions;
  buckets = 2 ^ shape.bucket_bits;
  overflow = shape.overflow;
  ring = shape.frames * shape.page;
  ring_mask = shape.frames * shape.page - 1;
  few_sessions = shape.limits.few_sessions;
  few_buckets = few_buckets shape.bucket_bits shape.limits.few_buckets;
  few_overflow = shape.limits.few_overflow;
  some_ring = some_ring shape.page shape.frames shape.limits.page_size shape.limits.ring_size;
  masks = λ a. remainder_is_mask a (shape.frames * shape.page) (powers_multiply shape.frames shape.page (ring_size_is_power shape.frames min_frames max_frames shape.limits.ring_size) (ring_size_is_power shape.page min_page max_page shape.limits.page_size));
  small_ring = small_ring shape.page shape.frames shape.limits.page_size shape.limits.ring_size;
}

pub places_fit : (shape : Shape) → ArePlacesOfStore shape (places_of shape)
unfolding places_of
places_fit shape = record { sessions = refl; buckets = refl; overflow = refl; ring = refl }
