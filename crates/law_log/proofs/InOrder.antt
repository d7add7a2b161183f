-- Of each home effects come in the order of their versions: its chain has a record of each version that took effect, and none of a later one than the next.
use Rattle.std.proofs.Common.{◌≡◌, inl, inr, ℕ, ◌≤◌, ◌∙◌, ◌∷◌, sym, ap, subst}
use Rattle.fkv_map.specs.Map.{Map}
use Rattle.law_log.specs.Trace.{Effect, IsIn}
use Rattle.law_log.specs.Chains.{version_at, IsWithin}
use Rattle.law_log.specs.Ghosts.{Log}
use Rattle.law_log.specs.Enabled.{NoneAbove}
use Rattle.law_log.specs.Laws.{AreInOrder, home_of}
use Rattle.law_log.proofs.Lists.{place_of}
use Rattle.law_log.proofs.Held.{Held, Grows, not_unborn, version_stays}

-- a record of this version stands in the chain of the home
pub record HasVersion (log : Log) (h version : ℕ) : Type 0 where
  pub at : ℕ
  pub is_in : IsIn at (log.chains h)
  pub its : version_at (log.cells at) ≡ version

pub record HeldInOrder (home : ℕ → ℕ) (log : Log) : Type 0 where
  pub in_order : AreInOrder home log.history
  pub in_chain : (effect : Effect) → IsIn effect log.history → HasVersion log (home_of home effect) effect.version

still_in : (home : ℕ → ℕ) (m : Map) (log log' : Log) → Held home m log → Grows home m log log' → (h a : ℕ) → IsIn a (log.chains h) → IsIn a (log'.chains h)
still_in home m log log' held grows h a is_in = by_place (grows.chains h a (inr is_in)).1
  where
    by_place : IsWithin a (log'.chains h) → IsIn a (log'.chains h)
    by_place (inl zero_is) = let its = held.chains.in_chain h a is_in in absurd (not_unborn (log.cells a) its.cell its.its (ap log.cells zero_is ∙ held.none))
    by_place (inr still) = still

still_has : (home : ℕ → ℕ) (m : Map) (log log' : Log) → Held home m log → Grows home m log log' → (h version : ℕ) → HasVersion log h version → HasVersion log' h version
still_has home m log log' held grows h version has = record {
  at = has.at;
  is_in = still_in home m log log' held grows h has.at has.is_in;
  its = version_stays home m log log' held.chains grows h has.at has.is_in ∙ has.its;
}

-- where the history stays
pub still_in_order : (home : ℕ → ℕ) (m : Map) (log log' : Log) → Held home m log → Grows home m log log' → log'.history ≡ log.history → HeldInOrder home log → HeldInOrder home log'
still_in_order home m log log' held grows same known = record {
  in_order = subst (AreInOrder home) (sym same) known.in_order;
  in_chain = λ effect is_in. still_has home m log log' held grows (home_of home effect) effect.version (known.in_chain effect (subst (IsIn effect) same is_in));
}

-- with one more effect, of a version than which none is later in its chain
pub one_more_in_order : (home : ℕ → ℕ) (m : Map) (log log' : Log) → Held home m log → Grows home m log log' → (effect : Effect) → log'.history ≡ effect ∷ log.history → NoneAbove log (home_of home effect) effect.version
    → HasVersion log' (home_of home effect) effect.version → HeldInOrder home log → HeldInOrder home log'
one_more_in_order home m log log' held grows effect longer none_above has known = record {
  in_order = subst (AreInOrder home) (sym longer) (λ newer older it earlier is is_in same. elim (place_of effect it log.history newer older is) [
    | inl front ↦ at_front it earlier front.its (subst (IsIn earlier) (sym front.all_older) is_in) same
    | inr behind ↦ known.in_order behind.fewer older it earlier behind.place is_in same
  ]);
  in_chain = λ it is_in. elim (subst (IsIn it) longer is_in) [
    | inl same ↦ subst (λ e. HasVersion log' (home_of home e) e.version) same has
    | inr older ↦ still_has home m log log' held grows (home_of home it) it.version (known.in_chain it older)
  ];
}
  where
    at_front : (it earlier : Effect) → effect ≡ it → IsIn earlier log.history → home_of home earlier ≡ home_of home it → earlier.version ≤ it.version
    at_front it earlier is is_in same =
        let its = known.in_chain earlier is_in in
        subst (λ v. v ≤ it.version) its.its
        (subst (λ e. version_at (log.cells its.at) ≤ e.version) is
        (none_above its.at (subst (λ h. IsIn its.at (log.chains h)) (same ∙ ap (home_of home) (sym is)) its.is_in)))
