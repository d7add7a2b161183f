-- Lists that grow at the front, and the places in them.
use Rattle.std.proofs.Common.{◌≡◌, ◌⊎◌, inl, inr, ℕ, List, [], ◌∷◌, ◌++◌, refl, sym, ap, subst, true, false, Bool, true≢false}
use Rattle.law_log.specs.Trace.{Effect, IsIn, HasUpdate}

pub in_more : {X : Type 0} → (it : X) (newer older : List X) → IsIn it older → IsIn it (newer ++ older)
in_more it [] older is_in = is_in
in_more it (x ∷ newer) older is_in = inr (in_more it newer older is_in)

pub in_place : {X : Type 0} → (it : X) (all newer older : List X) → all ≡ newer ++ it ∷ older → IsIn it all
in_place it all newer older is = subst (IsIn it) (sym is) (in_more it newer (it ∷ older) (inl refl))

-- what stands behind a place stands in the list
pub in_behind : {X : Type 0} → (it x : X) (all newer older : List X) → all ≡ newer ++ x ∷ older → IsIn it older → IsIn it all
in_behind it x all newer older is is_in = subst (IsIn it) (sym is) (in_more it newer (x ∷ older) (inr is_in))

pub has_more : (newer older : List Effect) (session serial : ℕ) → HasUpdate older session serial → HasUpdate (newer ++ older) session serial
has_more newer older session serial has = record { effect = has.effect; is_in = in_more has.effect newer older has.is_in; its_session = has.its_session; its_serial = has.its_serial }

is_some_list : {X : Type 0} → List X → Bool
is_some_list [] = false
is_some_list (x ∷ rest) = true

-- a place in a list is its front, or a place of the rest
pub record IsFront {X : Type 0} (x y : X) (rest newer older : List X) : Type 0 where
  pub none_newer : newer ≡ []
  pub its : x ≡ y
  pub all_older : rest ≡ older

pub record IsBehind {X : Type 0} (x y : X) (rest newer older : List X) : Type 0 where
  pub fewer : List X
  pub newer_is : newer ≡ x ∷ fewer
  pub place : rest ≡ fewer ++ y ∷ older

pub place_of : {X : Type 0} → (x y : X) (rest newer older : List X) → x ∷ rest ≡ newer ++ y ∷ older → IsFront x y rest newer older ⊎ IsBehind x y rest newer older
place_of x y rest [] older is = inl (record { none_newer = refl; its = cc; all_older = cc })
place_of x y rest (z ∷ fewer) older is = inr (record { fewer = fewer; newer_is = ap (λ w. w ∷ fewer) (sym (first is)); place = behind is })
  where
    first : x ∷ rest ≡ z ∷ fewer ++ y ∷ older → x ≡ z
    first same = cc

    behind : x ∷ rest ≡ z ∷ fewer ++ y ∷ older → rest ≡ fewer ++ y ∷ older
    behind same = cc

pub no_place : {X : Type 0} → (y : X) (newer older : List X) → [] ≡ newer ++ y ∷ older → ⊥
unfolding is_some_list
no_place y [] older is = true≢false (ap is_some_list (sym is))
no_place y (z ∷ newer) older is = true≢false (ap is_some_list (sym is))
