-- Of versions that are near, marks tell which is which.
use Rattle.std.proofs.Common.{◌≡◌, ℕ, ◌+◌, ◌^◌, ◌<◌, ◌≤◌, arith, refl, Bool, true, false}
use Rattle.std.specs.Prelude.{not, nat_lt}
use Rattle.std.proofs.lemmas.Bool.Decides.{nat_tests}
use Rattle.fkv_base.specs.declared.numbers.Version.{Version}
use Rattle.fkv_marks.specs.Marks.{mark}
use Rattle.law_local.specs.Below.fkv_ops.Trying.{is_marked}

-- two that are one apart at most
pub near_told : (v w : ℕ) → 0 < v → w ≤ v + 1 → v ≤ w + 1 → mark w ≡ mark v → w ≡ v
unfolding mark
near_told v w some up down same = omega (arith, some, up, down, same)

-- one of 13 bits, and another that isn't past the next one
pub small_told : (v w : ℕ) → 0 < v → v < 2 ^ 13 → w ≤ v + 1 → mark w ≡ mark v → w ≡ v
unfolding mark
small_told v w some small up same = omega (arith, some, small, up, same)

-- a version that is its own mark has 13 bits
pub unmarked_small : (version : Version) → not (is_marked version) ≡ true → version.0 < 2 ^ 13
unmarked_small version own = by_test (nat_lt 8191 version.0) refl own
  where
    by_test : (b : Bool) → nat_lt 8191 version.0 ≡ b → not b ≡ true → version.0 < 2 ^ 13
    by_test true e own = cc
    by_test false e own = let low : version.0 ≤ 8191 = grind (arith, nat_tests, e) in omega (arith, low)
