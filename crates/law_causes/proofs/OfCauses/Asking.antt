-- What is passed on by a machine that goes on, and what stays among what was told.
use Rattle.std.proofs.Common.{◌≡◌, ℕ, refl, inl, inr, ap, List, true, false}
use Rattle.std.specs.Prelude.{[], ◌∷◌, ◌++◌}
use Rattle.fkv_plane.specs.declared.asks.Ask.{Ask}
use Rattle.fkv_plane.specs.declared.asks.Ask.TheVariants.{Load, Store, Swap, Cas, Add, Max, Put, Take, Done}
use Rattle.fkv_plane.specs.Passing.{passed, is_done}
use Rattle.fkv_epoch.specs.Once.{Among}
use Rattle.fkv_commit.specs.Exchanges.{Exchange, exchanged}

-- what is passed on is the same exchange
pub passed_told : {A B : Type 0} (ask : Ask A) (other : B) (reply : ℕ) (told : List Exchange) → exchanged (passed ask other) reply told ≡ exchanged ask reply told
unfolding passed exchanged
passed_told (Load place) other reply told = refl
passed_told (Store place new) other reply told = refl
passed_told (Swap place new) other reply told = refl
passed_told (Cas place old new) other reply told = refl
passed_told (Add place k) other reply told = refl
passed_told (Max place k) other reply told = refl
passed_told (Put slot action) other reply told = refl
passed_told (Take slot) other reply told = refl
passed_told (Done its) other reply told = refl

-- a machine that goes on passes on an ask
pub passed_on : {A B : Type 0} (ask : Ask A) (other : B) → is_done ask ≡ false → is_done (passed ask other) ≡ false
unfolding passed
passed_on (Load place) other e = refl
passed_on (Store place new) other e = refl
passed_on (Swap place new) other e = refl
passed_on (Cas place old new) other e = refl
passed_on (Add place k) other e = refl
passed_on (Max place k) other e = refl
passed_on (Put slot action) other e = refl
passed_on (Take slot) other e = refl
passed_on (Done its) other e = cc

-- and isn't at an end
pub not_done : {A : Type 0} (ask : Ask A) (its : A) → is_done ask ≡ false → ask ≡ Done its → ⊥
not_done (Done it) its on e = let clash : true ≡ false = on in absurd (cc)
not_done ask its on e = let clash : false ≡ true = ap is_done e in absurd (cc)

-- what was told before stays before
pub told_behind : {A : Type 0} (ask : Ask A) (reply : ℕ) (told before : List Exchange) → exchanged ask reply (told ++ before) ≡ exchanged ask reply told ++ before
unfolding exchanged
told_behind (Done its) reply told before = refl
told_behind ask reply told before = refl

pub among_first : {X : Type 0} (x : X) (xs ys : List X) → Among x xs → Among x (xs ++ ys)
among_first x [] ys h = absurd h
among_first x (y ∷ xs) ys (inl same) = inl same
among_first x (y ∷ xs) ys (inr rest) = inr (among_first x xs ys rest)

-- at its end a machine tells what was said
pub passed_alone : {A B : Type 0} (ask : Ask A) (other its : B) → passed ask other ≡ Done its → other ≡ its
unfolding passed
passed_alone (Done it) other its e = cc
passed_alone ask other its e = cc
