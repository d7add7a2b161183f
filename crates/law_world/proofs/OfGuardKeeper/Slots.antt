-- What asks nothing of a slot has nothing settled.
use Rattle.std.proofs.Common.{◌≡◌, ℕ, List, [], ◌∷◌, ◌⊎◌, inl, inr, suc, zero, refl, ap, Bool, true, false}
use Rattle.std.specs.Prelude.{Option, None, slice_set}
use Rattle.fkv_plane.specs.declared.actions.Action.{Action}
use Rattle.fkv_plane.specs.declared.asks.Ask.{Ask}
use Rattle.fkv_plane.specs.declared.asks.Ask.TheVariants.{Load, Store, Swap, Cas, Add, Max, Put, Take, Done}
use Rattle.fkv_plane.specs.Passing.{passed}
use Rattle.fkv_plane.specs.Plane.{action_at}
use Rattle.law_world.specs.GuardKeeper.Settled.{settled, actions_settled, is_of_slot}

pub settled_stays : {S A : Type 0} (next : S → ℕ → S) (gets : S → Option Action → S) (actions : List (Option Action)) (s : S) (ask : Ask A) → is_of_slot ask ≡ false → settled next gets actions s ask ≡ s
settled_stays next gets actions s (Put slot action) e = cc
settled_stays next gets actions s (Take slot) e = cc
settled_stays next gets actions s ask e = refl

pub actions_stay : {A : Type 0} (actions : List (Option Action)) (ask : Ask A) → is_of_slot ask ≡ false → actions_settled actions ask ≡ actions
actions_stay actions (Put slot action) e = cc
actions_stay actions (Take slot) e = cc
actions_stay actions ask e = refl

pub passed_slot : {A B : Type 0} (ask : Ask A) (answer : B) → is_of_slot (passed ask answer) ≡ is_of_slot ask
unfolding passed
passed_slot (Load place) answer = refl
passed_slot (Store place new) answer = refl
passed_slot (Swap place new) answer = refl
passed_slot (Cas place old new) answer = refl
passed_slot (Add place k) answer = refl
passed_slot (Max place k) answer = refl
passed_slot (Put slot action) answer = refl
passed_slot (Take slot) answer = refl
passed_slot (Done inner) answer = refl

-- an empty slot that is emptied stays as it is
pub emptied : (actions : List (Option Action)) (slot : ℕ) → action_at actions slot ≡ None → slice_set actions slot None ≡ actions
emptied [] slot e = refl
emptied (its ∷ rest) zero e = let same : its ≡ None = e in rw same refl
emptied (its ∷ rest) (suc slot) e = ap (λ more. its ∷ more) (emptied rest slot e)

-- a test is met or not
pub truth : (b : Bool) → (b ≡ true) ⊎ (b ≡ false)
truth true = inl refl
truth false = inr refl
