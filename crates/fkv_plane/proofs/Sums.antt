-- What a machine has left together with the one inside it.
use Rattle.std.proofs.Common.{◌≡◌, ℕ, zero, suc, ◌+◌, ◌<◌, ◌≤◌, refl, sym, ◌∙◌, arith, true, false}
use Rattle.fkv_plane.specs.declared.asks.Ask.{Ask}
use Rattle.fkv_plane.specs.declared.asks.Ask.TheVariants.{Done}
use Rattle.fkv_plane.specs.Passing.{passed, is_done}
use Rattle.fkv_plane.specs.AsksLeft.{AsksWhereLeft, sum_left}
use Rattle.fkv_plane.proofs.AsksPassed.{passed_done}

pub never : {X : Type 0} → true ≡ false → X
never e = cc

pub none : {X : Type 0} → 0 < 0 → X
none h = let no : ⊥ = omega (arith, h) in absurd no

-- at an end none are left
pub done_left : {A : Type 0} (answer : A) → AsksWhereLeft 0 (Done answer)
done_left answer = (never, none)

pub none_left : {A : Type 0} (left : ℕ) (ask : Ask A) → AsksWhereLeft left ask → is_done ask ≡ true → left ≡ 0
none_left zero ask its end = refl
none_left (suc n) ask its end = never (sym end ∙ its.1 (omega arith))

pub some_inside : (inside behind : ℕ) → 0 < sum_left inside behind → 0 < inside
unfolding sum_left
some_inside zero behind some = some
some_inside (suc inside) behind some = omega arith

pub some_sum : (inside behind : ℕ) → 0 < inside → 0 < sum_left inside behind
unfolding sum_left
some_sum zero behind some = some
some_sum (suc inside) behind some = omega arith

-- the outer machine passes on what the inner one asks
pub passed_left : {A B : Type 0} (inside behind : ℕ) (ask : Ask A) (told : B) → AsksWhereLeft inside ask → AsksWhereLeft (sum_left inside behind) (passed ask told)
passed_left inside behind ask told its =
    (λ e. some_sum inside behind (its.0 (sym (passed_done ask told) ∙ e)), λ some. passed_done ask told ∙ its.1 (some_inside inside behind some))

pub passed_alone : {A B : Type 0} (left : ℕ) (ask : Ask A) (told : B) → AsksWhereLeft left ask → AsksWhereLeft left (passed ask told)
passed_alone left ask told its = (λ e. its.0 (sym (passed_done ask told) ∙ e), λ some. passed_done ask told ∙ its.1 some)

pub sum_most : (inside behind : ℕ) → sum_left inside behind ≤ inside + behind
unfolding sum_left
sum_most zero behind = omega arith
sum_most (suc inside) behind = omega arith

pub sum_whole : (inside behind : ℕ) → 0 < inside → sum_left inside behind ≡ inside + behind
unfolding sum_left
sum_whole zero behind some = none some
sum_whole (suc inside) behind some = refl

-- fewer are left where the inner machine has fewer, and where it has ended and what may come behind it begins
pub inside_fewer : (inside old behind : ℕ) → inside < old → sum_left inside behind < sum_left old behind
unfolding sum_left
inside_fewer inside zero behind fewer = omega (arith, fewer)
inside_fewer zero (suc old) behind fewer = omega arith
inside_fewer (suc inside) (suc old) behind fewer = omega (arith, fewer)

pub behind_fewer : (left old behind : ℕ) → 0 < old → left ≤ behind → left < sum_left old behind
unfolding sum_left
behind_fewer left zero behind some few = omega (arith, some)
behind_fewer left (suc old) behind some few = omega (arith, few)
