-- The sizes of a shape are small.
use Rattle.std.proofs.Common.{arith}
use Rattle.fkv_base.proofs.Shown.{ring_size_is_power, powers_multiply, remainder_is_mask}
use Rattle.fkv_plane.proofs.Sizes.{few_buckets, ring_small, ring_some}
use Rattle.fkv_plane.proofs.places.Places.of.Goals as goal

pub invariant_of-result : goal.invariant_of-result
invariant_of-result c =
    let limits = c.args.shape.now.limits in
    record {
      few_sessions = omega (arith, limits.few_sessions);
      few_buckets = few_buckets _ limits.few_buckets;
      few_overflow = omega (arith, limits.few_sessions, limits.few_overflow);
      some_ring = ring_some _ _ limits.page_size limits.ring_size;
      masks = λ a. remainder_is_mask a _ (powers_multiply _ _ (ring_size_is_power _ _ _ limits.ring_size) (ring_size_is_power _ _ _ limits.page_size));
      small_ring = ring_small _ _ limits.page_size limits.ring_size;
    }
