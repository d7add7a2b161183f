-- A number below a power of two has nothing from that bit on.
use Rattle.std.proofs.Common.{◌≡◌, ℕ, ◌^◌, ◌<◌, ◌≤◌, ◌/◌, ◌%◌, arith}
use Rattle.std.proofs.Math.Nat.{pow-le-pow_right, mod-eq_of_lt, div-eq_of_lt}

below_pow : (n k : ℕ) → n < 2 ^ 64 → 64 ≤ k → n < 2 ^ k
below_pow n k h le = let p : 2 ^ 64 ≤ 2 ^ k = pow-le-pow_right {n = 2} (omega arith) le in omega arith

pub rem_all : (n k : ℕ) → n < 2 ^ 64 → 64 ≤ k → n % 2 ^ k ≡ n
rem_all n k h le = mod-eq_of_lt (below_pow n k h le)

pub div_none : (n k : ℕ) → n < 2 ^ 64 → 64 ≤ k → n / 2 ^ k ≡ 0
div_none n k h le = div-eq_of_lt (below_pow n k h le)
