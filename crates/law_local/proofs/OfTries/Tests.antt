-- What a test says, by what it comes to.
use Rattle.std.proofs.Common.{◌≡◌, ◌⊎◌, inl, inr, refl, ℕ, ◌<◌, ◌≤◌, arith, Bool, true, false, eqb-true}
use Rattle.std.specs.Prelude.{◌≢◌, ◌==◌, ◌||◌, nat_lt, nat_le}
use Rattle.std.proofs.lemmas.Bool.Decides.{nat_tests}

pub lt_true : (a b : ℕ) → nat_lt a b ≡ true → a < b
lt_true a b e = grind (arith, nat_tests, e)

pub lt_false : (a b : ℕ) → nat_lt a b ≡ false → b ≤ a
lt_false a b e = grind (arith, nat_tests, e)

pub le_true : (a b : ℕ) → nat_le a b ≡ true → a ≤ b
le_true a b e = grind (arith, nat_tests, e)

pub le_false : (a b : ℕ) → nat_le a b ≡ false → b < a
le_false a b e = grind (arith, nat_tests, e)

pub eq_true : (a b : ℕ) → (a == b) ≡ true → a ≡ b
eq_true a b e = eqb-true a b e

pub eq_false : (a b : ℕ) → (a == b) ≡ false → a ≢ b
eq_false a b e = λ same. absurd (grind (arith, nat_tests, e, same))

pub test_false : (a b : ℕ) → a ≢ b → (a == b) ≡ false
test_false a b other = grind (arith, nat_tests)

pub test_true : (a b : ℕ) → a ≡ b → (a == b) ≡ true
test_true a b same = grind (arith, nat_tests)

pub some_where : (a : ℕ) → (a == 0) ≡ false → 0 < a
some_where a e = grind (arith, nat_tests, e)

pub either : (a b : Bool) → (a || b) ≡ true → (a ≡ true) ⊎ (b ≡ true)
either true b e = inl refl
either false b e = inr e

-- a fact against its contrary
pub not_both : {X : Type 0} → (b : Bool) → b ≡ true → b ≡ false → X
not_both true e f = cc
not_both false e f = cc
