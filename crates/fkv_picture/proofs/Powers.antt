-- Powers of two.
use Rattle.std.proofs.Common.{ℕ, ◌^◌, ◌≤◌, arith, lit<}
use Rattle.std.proofs.Math.Nat.{pow-le-pow_right}

pub power_some : (bits : ℕ) → 1 ≤ 2 ^ bits
power_some bits =
    let low : 0 ≤ bits = omega arith in
    let least : 2 ^ 0 ≤ 2 ^ bits = pow-le-pow_right (lit< tt) low in omega (arith, least)

pub power_few : (bits : ℕ) → bits ≤ 24 → 2 ^ bits ≤ 16777216
power_few bits few = let most : 2 ^ bits ≤ 2 ^ 24 = pow-le-pow_right (lit< tt) few in omega (arith, most)

pub squares_few : (bits : ℕ) → bits ≤ 10 → 2 ^ bits ≤ 1024
squares_few bits few = let most : 2 ^ bits ≤ 2 ^ 10 = pow-le-pow_right (lit< tt) few in omega (arith, most)
