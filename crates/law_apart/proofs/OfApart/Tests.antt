-- What a test says, by what it comes to.
use Rattle.std.proofs.Common.{◌≡◌, ℕ, ◌<◌, ◌≤◌, arith, refl, eqb-true, Bool, true, false}
use Rattle.std.specs.Prelude.{◌==◌, ◌&&◌, not, nat_le, nat_lt}
use Rattle.std.proofs.lemmas.Bool.Decides.{nat_tests}

pub lt_true : (a b : ℕ) → nat_lt a b ≡ true → a < b
lt_true a b e = grind (arith, nat_tests, e)

pub lt_false : (a b : ℕ) → nat_lt a b ≡ false → b ≤ a
lt_false a b e = grind (arith, nat_tests, e)

pub le_false : (a b : ℕ) → nat_le a b ≡ false → b < a
le_false a b e = grind (arith, nat_tests, e)

pub eq_true : (a b : ℕ) → (a == b) ≡ true → a ≡ b
eq_true a b e = eqb-true a b e

pub some_where : (a : ℕ) → (a == 0) ≡ false → 0 < a
some_where a e = grind (arith, nat_tests, e)

pub test_true : (a b : ℕ) → a ≡ b → (a == b) ≡ true
test_true a b same = grind (arith, nat_tests, same)

-- a fact against its contrary
pub not_both : {X : Type 0} → (b : Bool) → b ≡ true → b ≡ false → X
not_both true e f = cc
not_both false e f = cc

pub both_true : (a b c : Bool) → a ≡ true → b ≡ true → (a && b && not c) ≡ false → c ≡ true
both_true true true true one other e = refl
both_true true true false one other e = cc
both_true true false c one other e = cc
both_true false b c one other e = cc

pub waits_so : (has wait : Bool) → has ≡ true → (has && not wait) ≡ false → wait ≡ true
waits_so true true one e = refl
waits_so true false one e = cc
waits_so false wait one e = cc
