-- Places in an image fit in 64 bits.
use Rattle.std.proofs.Common.{ℕ, ◌*◌, ◌≤◌, arith}
use Rattle.std.proofs.Math.Nat.{mul-le-mul}
use Rattle.fkv_base.specs.Limits.{most_slots}

pub area_fits : (triples area : ℕ) → triples ≤ most_slots → area ≤ 2 → 16 * triples * area ≤ 16 * most_slots * 2
area_fits triples area few low =
    let most : 16 * triples ≤ 16 * most_slots = omega (arith, few) in mul-le-mul most low
