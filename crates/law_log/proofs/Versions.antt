-- Chains down which versions never rise: where none is later than a version, its newest records are the newest of all.
use Rattle.std.proofs.Common.{◌≡◌, inl, inr, ℕ, ◌≤◌, ◌∙◌, Bool, true, false, cond, List, [], ◌∷◌, refl, sym, subst, arith, true≢false}
use Rattle.std.specs.Prelude.{◌&&◌, nat_eq, nat_le}
use Rattle.std.proofs.lemmas.Bool.Decides.{nat_tests}
use Rattle.law_log.specs.Trace.{IsIn}
use Rattle.law_log.specs.Chains.{Logged, version_at, has_key, has_key_in, has_key_upto, first_such, NoneLater, VersionsFall}

pub has_in : (version key : ℕ) (logged : Logged) → has_key_in version key logged ≡ true → (has_key key logged ≡ true) × (version_at logged ≡ version)
has_in version key logged is = (both (has_key key logged) (nat_eq (version_at logged) version) is, its (has_key key logged) (version_at logged) version is)
  where
    both : (a b : Bool) → (a && b) ≡ true → a ≡ true
    both a b both_are = grind (arith, both_are)

    its : (a : Bool) (n k : ℕ) → (a && nat_eq n k) ≡ true → n ≡ k
    its a n k both_are = grind (arith, nat_tests, both_are)

pub in_has : (version key : ℕ) (logged : Logged) → has_key key logged ≡ true → version_at logged ≡ version → has_key_in version key logged ≡ true
in_has version key logged has its = rw (has, its) (same version)
  where
    same : (n : ℕ) → (true && nat_eq n n) ≡ true
    same n = grind (arith, nat_tests)

pub has_upto : (version key : ℕ) (logged : Logged) → has_key_upto version key logged ≡ true → (has_key key logged ≡ true) × (version_at logged ≤ version)
has_upto version key logged is = (both (has_key key logged) (nat_le (version_at logged) version) is, its (has_key key logged) (version_at logged) version is)
  where
    both : (a b : Bool) → (a && b) ≡ true → a ≡ true
    both a b both_are = grind (arith, both_are)

    its : (a : Bool) (n k : ℕ) → (a && nat_le n k) ≡ true → n ≤ k
    its a n k both_are = grind (arith, nat_tests, both_are)

-- where none is later, the records up to a version are all
pub upto_is_all : (version n key : ℕ) (cells : ℕ → Logged) (chain : List ℕ) → NoneLater cells chain version → version ≤ n → first_such (has_key_upto n key) cells chain ≡ first_such (has_key key) cells chain
upto_is_all version n key cells [] none below = refl
upto_is_all version n key cells (a ∷ older) none below =
    rw (passes (has_key key (cells a)) (version_at (cells a)) version n (none a (inl refl)) below, upto_is_all version n key cells older (λ b is_in. none b (inr is_in)) below) refl
  where
    passes : (has : Bool) (v w n : ℕ) → v ≤ w → w ≤ n → (has && nat_le v n) ≡ has
    passes has v w n low high = grind (arith, nat_tests, low, high)

-- the first record of a key, where one of it is of the latest version
pub latest_is_first : (version key b : ℕ) (cells : ℕ → Logged) (chain : List ℕ) → NoneLater cells chain version → VersionsFall cells chain → IsIn b chain → has_key_in version key (cells b) ≡ true
    → first_such (has_key_in version key) cells chain ≡ first_such (has_key key) cells chain
latest_is_first version key b cells [] none falls is_in has = refl
latest_is_first version key b cells (a ∷ older) none falls is_in has =
    by_test (has_key key (cells a)) (nat_eq (version_at (cells a)) version) refl refl (λ older_in. latest_is_first version key b cells older (λ c c_in. none c (inr c_in)) falls.1 older_in has) is_in
  where
    its : (has_key key (cells b) ≡ true) × (version_at (cells b) ≡ version)
    its = has_in version key (cells b) has

    not_here : (t u : Bool) → has_key key (cells a) ≡ t → nat_eq (version_at (cells a)) version ≡ u → (t && u) ≡ false → a ≡ b → ⊥
    not_here t u is_t is_u fails here = true≢false (sym (subst (λ i. has_key_in version key (cells i) ≡ true) (sym here) has) ∙ rw (is_t, is_u) fails)

    equal : (w v n : ℕ) → w ≡ n → w ≤ v → v ≤ n → nat_eq v n ≡ true
    equal w v n same low high = grind (arith, nat_tests, same, low, high)

    latest : IsIn b older → nat_eq (version_at (cells a)) version ≡ true
    latest older_in = equal (version_at (cells b)) (version_at (cells a)) version its.1 (falls.0 b older_in) (none a (inl refl))

    by_test : (t u : Bool) → has_key key (cells a) ≡ t → nat_eq (version_at (cells a)) version ≡ u → (IsIn b older → first_such (has_key_in version key) cells older ≡ first_such (has_key key) cells older)
        → IsIn b (a ∷ older) → cond (t && u) a (first_such (has_key_in version key) cells older) ≡ cond t a (first_such (has_key key) cells older)
    by_test true true is_t is_u rest b_in = refl
    by_test true false is_t is_u rest (inl here) = absurd (not_here true false is_t is_u refl here)
    by_test true false is_t is_u rest (inr older_in) = absurd (true≢false (sym (latest older_in) ∙ is_u))
    by_test false u is_t is_u rest (inl here) = absurd (not_here false u is_t is_u refl here)
    by_test false u is_t is_u rest (inr older_in) = rest older_in

-- versions go on falling where they stay
pub falls_same : (cells cells' : ℕ → Logged) (chain : List ℕ) → ((a : ℕ) → IsIn a chain → version_at (cells' a) ≡ version_at (cells a)) → VersionsFall cells chain → VersionsFall cells' chain
falls_same cells cells' [] same falls = tt
falls_same cells cells' (a ∷ older) same falls = (
  λ b is_in. subst (λ v. v ≤ version_at (cells' a)) (sym (same b (inr is_in))) (subst (λ v. version_at (cells b) ≤ v) (sym (same a (inl refl))) (falls.0 b is_in)),
  falls_same cells cells' older (λ b is_in. same b (inr is_in)) falls.1,
)
