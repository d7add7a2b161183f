-- Down a chain of addresses.
use Rattle.std.proofs.Common.{◌≡◌, ◌≢◌, ◌⊎◌, inl, inr, ⊎_elim, ℕ, zero, suc, ◌<◌, ◌≤◌, Bool, true, false, Some, List, [], ◌∷◌, refl, sym, ap, subst, ◌∙◌, arith}
use Rattle.std.specs.Prelude.{◌||◌, nat_eq}
use Rattle.std.proofs.lemmas.Bool.Decides.{nat_tests}
use Rattle.law_paper.proofs.Below.fkv_chains.Shown.{along_some}
use Rattle.law_paper.specs.Below.fkv_chains.Along.{IsAlong, here, on}
use Rattle.law_log.specs.Chains.{Logged, head_of}
use Rattle.law_log.specs.Enabled.{IsLinked, previous_of}
use Rattle.law_log.specs.Trace.{IsIn}
use Rattle.fkv_record.specs.declared.records.Record.{Record}
use Rattle.law_paper.specs.Below.fkv_scan.Log.{Log}
use Rattle.law_paper.specs.Below.fkv_scan.Records.{Stands, next_of}
use Rattle.law_opening.specs.Log.OpeningLog.{chain_down, is_in}

-- ---- its shape
pub down_none : (leads : ℕ → ℕ) (most : ℕ) → chain_down leads most 0 ≡ []
unfolding chain_down
down_none leads zero = refl
down_none leads (suc most) = refl

pub down_some : (leads : ℕ → ℕ) (most a : ℕ) → a ≢ 0 → chain_down leads (suc most) a ≡ a ∷ chain_down leads most (leads a)
unfolding chain_down
down_some leads most a some = let off : nat_eq a 0 ≡ false = grind (arith, nat_tests) in rw off refl

pub zero_or : (a : ℕ) → (a ≡ 0) ⊎ (a ≢ 0)
zero_or zero = inl refl
zero_or (suc a) = inr (λ is. omega (arith, is))

-- it begins at the address
pub down_head : (leads : ℕ → ℕ) (most a : ℕ) → a ≤ most → head_of (chain_down leads most a) ≡ a
unfolding chain_down
down_head leads zero a low = omega (arith, low)
down_head leads (suc most) a low = ⊎_elim
    (λ none. ap (λ (n : ℕ). head_of (chain_down leads (suc most) n)) none ∙ sym none)
    (λ some. ap head_of (down_some leads most a some))
    (zero_or a)

-- an address of the list is some
pub down_in_some : (leads : ℕ → ℕ) (most a b : ℕ) → IsIn b (chain_down leads most a) → b ≢ 0
unfolding chain_down
down_in_some leads zero a b has = absurd has
down_in_some leads (suc most) a b has = ⊎_elim
    (λ none. absurd (subst (λ (chain : List ℕ). IsIn b chain) (ap (chain_down leads (suc most)) none ∙ down_none leads (suc most)) has))
    (λ some. ⊎_elim
    (λ same. subst (λ (n : ℕ). n ≢ 0) same some)
    (λ rest. down_in_some leads most (leads a) b rest)
    (subst (λ (chain : List ℕ). IsIn b chain) (down_some leads most a some) has))
    (zero_or a)

-- ---- the test
pub in_is : (a : ℕ) (chain : List ℕ) → IsIn a chain → is_in a chain ≡ true
unfolding is_in
in_is a [] has = absurd has
in_is a (b ∷ older) (inl same) = let own : nat_eq b a ≡ true = grind (arith, nat_tests) in rw own refl
in_is a (b ∷ older) (inr rest) = by_test (nat_eq b a) (in_is a older rest)
  where
    by_test : (t : Bool) → is_in a older ≡ true → (t || is_in a older) ≡ true
    by_test true is = refl
    by_test false is = is

pub is_there : (a : ℕ) (chain : List ℕ) → is_in a chain ≡ true → IsIn a chain
unfolding is_in
is_there a [] is = absurd (cc)
is_there a (b ∷ older) is = by_test (nat_eq b a) refl (is_there a older) is
  where
    by_test : (t : Bool) → nat_eq b a ≡ t → (is_in a older ≡ true → IsIn a older) → (t || is_in a older) ≡ true → IsIn a (b ∷ older)
    by_test true same rest is = inl (grind (arith, nat_tests))
    by_test false same rest is = inr (rest is)

-- ---- along the records of an image
-- where the list leads as the records do, and all of these lead downwards
pub record Leads (log : Log) (leads : ℕ → ℕ) (a : ℕ) : Type 0 where
  pub held : Record
  pub stands : Stands log a held
  pub its : leads a ≡ next_of log held
  pub falls : leads a < a

abbrev pub AllLead : Log → (ℕ → ℕ) → ℕ → Type 0
AllLead log leads a = (b : ℕ) → IsAlong log a b → Leads log leads b

module _ (log : Log) (leads : ℕ → ℕ) where
  -- and so from the next one on
  next_lead : (a : ℕ) → a ≢ 0 → AllLead log leads a → AllLead log leads (leads a)
  next_lead a some all b along =
      let this = all a (here a some) in
      all b (on a b this.held some this.stands (subst (λ (n : ℕ). IsAlong log n b) this.its along))

  pub in_along : (most a b : ℕ) → AllLead log leads a → IsIn b (chain_down leads most a) → IsAlong log a b
  unfolding chain_down
  in_along zero a b all has = absurd has
  in_along (suc most) a b all has = ⊎_elim
      (λ none. absurd (subst (λ (chain : List ℕ). IsIn b chain) (ap (chain_down leads (suc most)) none ∙ down_none leads (suc most)) has))
      (λ some. ⊎_elim
      (λ same. subst (λ (n : ℕ). IsAlong log a n) same (here a some))
      (λ rest.
      let this = all a (here a some) in
      on a b this.held some this.stands (subst (λ (n : ℕ). IsAlong log n b) this.its (in_along most (leads a) b (next_lead a some all) rest)))
      (subst (λ (chain : List ℕ). IsIn b chain) (down_some leads most a some) has))
      (zero_or a)

  pub along_in : ((c : ℕ) (x y : Record) → Stands log c x → Stands log c y → x ≡ y) → (most a b : ℕ) → a ≤ most → AllLead log leads a → IsAlong log a b → IsIn b (chain_down leads most a)
  along_in one zero a b low all along = absurd (along_some log a b along (omega (arith, low)))
  along_in one (suc most) a b low all (here _ some) = subst (λ (chain : List ℕ). IsIn a chain) (sym (down_some leads most a some)) (inl refl)
  along_in one (suc most) a b low all (on _ _ x some stands rest) =
      let this = all a (here a some) in
      let its : leads a ≡ next_of log x = this.its ∙ ap (λ (y : Record). next_of log y) (one a this.held x this.stands stands) in
      let falls = this.falls in
      subst (λ (chain : List ℕ). IsIn b chain) (sym (down_some leads most a some))
      (inr (along_in one most (leads a) b (omega (arith, falls, low)) (next_lead a some all) (subst (λ (n : ℕ). IsAlong log n b) (sym its) rest)))

  -- records that stand in a log so are linked there
  pub down_linked : (cells : ℕ → Logged) (most a : ℕ) → a ≤ most → AllLead log leads a → ((b : ℕ) → IsAlong log a b → previous_of (cells b) ≡ Some (leads b)) → IsLinked cells (chain_down leads most a)
  unfolding chain_down
  down_linked cells zero a low all stand = tt
  down_linked cells (suc most) a low all stand = ⊎_elim
      (λ none. subst (λ (chain : List ℕ). IsLinked cells chain) (sym (ap (chain_down leads (suc most)) none ∙ down_none leads (suc most))) tt)
      (λ some.
      let this = all a (here a some) in
      let falls = this.falls in
      let head : head_of (chain_down leads most (leads a)) ≡ leads a = down_head leads most (leads a) (omega (arith, falls, low)) in
      subst (λ (chain : List ℕ). IsLinked cells chain) (sym (down_some leads most a some)) (
        stand a (here a some) ∙ ap Some (sym head),
        omega (arith, head, falls),
        down_linked cells most (leads a) (omega (arith, falls, low)) (next_lead a some all)
            (λ b along. stand b (on a b this.held some this.stands (subst (λ (n : ℕ). IsAlong log n b) this.its along))),
      ))
      (zero_or a)
