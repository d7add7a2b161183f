-- What other crates may cite: a size of the ring is a power of two within its bounds, so places in it are found by masks.
use Rattle.std.proofs.Common.{◌≡◌, ℕ, ◌+◌, ◌-◌, ◌*◌, ◌/◌, ◌%◌, ◌^◌, ◌≤◌, zero, suc, lit<, refl, arith, sym, ◌∙◌, Bool, true, false}
use Rattle.std.specs.Prelude.{IsTrue, ◌&&◌, ◌==◌, nat_le}
use Rattle.std.specs.Int.{is_power_of_two, IsPowerOfTwo}
use Rattle.std.specs.Int.Count.{ones, ones_step}
use Rattle.std.specs.Int.Bits.{bit_and}
use Rattle.std.proofs.Math.Nat.{pow-succ', pow-le-pow_right}
use Rattle.std.proofs.lemmas.Nat.{zero_from_ones, ones_le_self, and_mask, pow-add}
use Rattle.std.proofs.lemmas.Bool.{leb-true}
use Rattle.std.proofs.lemmas.Bool.Decides.{nat_tests}
use Rattle.fkv_base.specs.Limits.{max_bucket_bits, max_buckets, max_overflow, most_slots, is_ring_size}

-- by the lowest binary digit: where it is 0 the half has one digit too, and else nothing is left
by_digit : (n : ℕ) → ones n ≡ 1 → (ones (n / 2) ≡ 1 → IsPowerOfTwo (n / 2)) → (even : Bool) → (n % 2 == 0) ≡ even → IsPowerOfTwo n
by_digit n one half true e =
    let low : n % 2 ≡ 0 = grind (arith, nat_tests, e) in
    let power = half (omega (arith, ones_step n, one, low)) in
    (suc power.0, (let twice : n ≡ 2 * 2 ^ power.0 = omega (arith, power.1, low) in twice ∙ sym (pow-succ' 2 power.0)))
by_digit n one half false e =
    let low : n % 2 ≡ 1 = grind (arith, nat_tests, e) in
    let none = zero_from_ones (n / 2) (omega (arith, ones_step n, one, low)) in
    (0, omega (arith, none, low))

one_digit : (d n : ℕ) → n ≤ d → ones n ≡ 1 → IsPowerOfTwo n
one_digit zero n few one = (0, omega (arith, ones_le_self n, one, few))
one_digit (suc d) n few one = by_digit n one (λ half. one_digit d (n / 2) (omega (arith, few)) half) (n % 2 == 0) refl

tested : (power low high : Bool) → IsTrue (power && low && high) → (power ≡ true) × (low ≡ true) × (high ≡ true)
tested true true true t = (refl, refl, refl)
tested true true false t = cc
tested true false true t = cc
tested true false false t = cc
tested false low high t = cc

pub ring_between : (size least most : ℕ) → IsTrue (is_ring_size size least most) → (least ≤ size) × (size ≤ most)
ring_between size least most t =
    let r = tested _ (nat_le least size) (nat_le size most) t in
    (leb-true least size r.1, leb-true size most r.2)

pub ring_size_is_power : (size least most : ℕ) → IsTrue (is_ring_size size least most) → IsPowerOfTwo size
ring_size_is_power size least most t =
    let power : is_power_of_two size ≡ true = (tested _ (nat_le least size) (nat_le size most) t).0 in
    one_digit size size (omega arith) (grind (arith, nat_tests, power))

-- the product of two is one too
pub powers_multiply : (m n : ℕ) → IsPowerOfTwo m → IsPowerOfTwo n → IsPowerOfTwo (m * n)
powers_multiply m n a b = (a.0 + b.0, (let e : m * n ≡ 2 ^ a.0 * 2 ^ b.0 = rw (a.1, b.1) refl in e ∙ sym (pow-add 2 a.0 b.0)))

-- the remainder by a power of two is a mask
pub remainder_is_mask : (a size : ℕ) → IsPowerOfTwo size → bit_and a (size - 1) ≡ a % size
remainder_is_mask a size power = rw power.1 (and_mask a power.0)

-- the buckets and their slots are no more than there may be
pub buckets_few : (bits : ℕ) → bits ≤ max_bucket_bits → 2 ^ bits ≤ max_buckets
buckets_few bits few = let most : 2 ^ bits ≤ 2 ^ max_bucket_bits = pow-le-pow_right (lit< tt) few in omega (arith, most)

pub slots_few : (bits overflow : ℕ) → bits ≤ max_bucket_bits → overflow ≤ max_overflow → 7 * (2 ^ bits + overflow) ≤ most_slots
slots_few bits overflow few few_overflow = omega (arith, buckets_few bits few, few_overflow)
