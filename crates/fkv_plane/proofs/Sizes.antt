-- How large the parts of a shape can be.
use Rattle.std.proofs.Common.{◌≡◌, ℕ, ◌*◌, ◌^◌, ◌%◌, ◌<◌, ◌≤◌, lit<, arith}
use Rattle.std.specs.Prelude.{IsTrue}
use Rattle.std.proofs.Math.Nat.{mul-le-mul, pow-le-pow_right}
use Rattle.fkv_base.specs.Limits.{max_bucket_bits, max_buckets, is_ring_size, min_page, max_page, min_frames, max_frames, max_ring}
use Rattle.fkv_base.proofs.Shown.{ring_between}

pub few_buckets : (bits : ℕ) → bits ≤ max_bucket_bits → 1 * 2 ^ bits % 2 ^ 64 ≤ max_buckets
few_buckets bits h =
    let p : 2 ^ bits ≤ 2 ^ 24 = pow-le-pow_right (lit< tt) h in
    grind (arith, p)

pub buckets_power : (bits : ℕ) → bits ≤ max_bucket_bits → 1 * 2 ^ bits % 2 ^ 64 ≡ 2 ^ bits
buckets_power bits h =
    let p : 2 ^ bits ≤ 2 ^ 24 = pow-le-pow_right (lit< tt) h in
    grind (arith, p)

pub ring_small : (page frames : ℕ) → IsTrue (is_ring_size page min_page max_page) → IsTrue (is_ring_size frames min_frames max_frames) → frames * page ≤ max_ring
ring_small page frames p f =
    let h : frames * page ≤ 4096 * 65536 = mul-le-mul (ring_between frames min_frames max_frames f).1 (ring_between page min_page max_page p).1 in
    omega arith

pub ring_some : (page frames : ℕ) → IsTrue (is_ring_size page min_page max_page) → IsTrue (is_ring_size frames min_frames max_frames) → 0 < frames * page
ring_some page frames p f =
    let h : 2 * 4 ≤ frames * page = mul-le-mul (ring_between frames min_frames max_frames f).0 (ring_between page min_page max_page p).0 in
    omega arith
