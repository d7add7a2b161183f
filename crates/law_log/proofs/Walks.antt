-- Going down a chain by what its records lead to: what stands first of a key stays the same on the way.
use Rattle.std.proofs.Common.{◌≡◌, ◌≢◌, inl, inr, ℕ, ◌<◌, ◌∙◌, true, false, Some, List, [], ◌∷◌, refl, sym, ap, subst, arith}
use Rattle.law_log.specs.Trace.{IsIn}
use Rattle.law_log.specs.Chains.{Cell, Logged, Published, has_key, head_of, chain_from, first_such, IsWithin}
use Rattle.law_log.specs.Ghosts.{Log, first_from, newest_of}
use Rattle.law_log.specs.Enabled.{AreChains, IsLinked, previous_of}
use Rattle.law_log.proofs.Chains.{own_number, from_head, from_else, head_within, first_else, first_there}

-- all addresses of a chain lie below what leads to it
pub all_below : (cells : ℕ → Logged) (b : ℕ) (chain : List ℕ) → head_of chain < b → IsLinked cells chain → (a : ℕ) → IsIn a chain → a < b
all_below cells b [] low linked a is_in = absurd is_in
all_below cells b (c ∷ older) low linked a (inl same) = subst (λ i. i < b) same low
all_below cells b (c ∷ older) low linked a (inr is_in) = all_below cells b older (lower (head_of older) c b linked.1 low) linked.2 a is_in
  where
    lower : (x y z : ℕ) → x < y → y < z → x < z
    lower x y z low high = omega (arith, low, high)

-- the chain from one of its addresses on: it begins there, and goes on from what the record leads to
pub record BeginsAt (cells : ℕ → Logged) (chain : List ℕ) (a : ℕ) : Type 0 where
  pub older : List ℕ
  pub begins : chain_from a chain ≡ a ∷ older
  pub leads : previous_of (cells a) ≡ Some (head_of older)
  pub goes_on : chain_from (head_of older) chain ≡ older
  pub within : IsWithin (head_of older) chain

above_all : (cells : ℕ → Logged) (b : ℕ) (chain : List ℕ) → head_of chain < b → IsLinked cells chain → (a : ℕ) → IsWithin a chain → b ≢ a
above_all cells b chain low linked a (inl none) = λ same. not_below (head_of chain) b low (same ∙ none)
  where
    not_below : (x y : ℕ) → x < y → y ≡ 0 → ⊥
    not_below x y low none = omega (arith, low, none)
above_all cells b chain low linked a (inr is_in) = λ same. not_below a b (all_below cells b chain low linked a is_in) same
  where
    not_below : (x y : ℕ) → x < y → y ≡ x → ⊥
    not_below x y low same = omega (arith, low, same)

longer : (a b : ℕ) (chain : List ℕ) → IsWithin a chain → IsWithin a (b ∷ chain)
longer a b chain (inl none) = inl none
longer a b chain (inr is_in) = inr (inr is_in)

pub begins_at : (cells : ℕ → Logged) (chain : List ℕ) → IsLinked cells chain → (a : ℕ) → IsIn a chain → BeginsAt cells chain a
begins_at cells [] linked a is_in = absurd is_in
begins_at cells (b ∷ rest) linked a (inl same) = subst (BeginsAt cells (b ∷ rest)) same (record {
  older = rest;
  begins = rw (own_number b) refl;
  leads = linked.0;
  goes_on = from_else (head_of rest) b rest (above_all cells b rest linked.1 linked.2 (head_of rest) (head_within rest)) ∙ from_head rest;
  within = longer (head_of rest) b rest (head_within rest);
})
begins_at cells (b ∷ rest) linked a (inr is_in) =
    let its = begins_at cells rest linked.2 a is_in in
    record {
      older = its.older;
      begins = from_else a b rest (above_all cells b rest linked.1 linked.2 a (inr is_in)) ∙ its.begins;
      leads = its.leads;
      goes_on = from_else (head_of its.older) b rest (above_all cells b rest linked.1 linked.2 (head_of its.older) its.within) ∙ its.goes_on;
      within = longer (head_of its.older) b rest its.within;
    }

-- ---- what stands first of a key
-- from where the chain begins it is the newest
pub first_from_head : (home : ℕ → ℕ) (log : Log) (key : ℕ) → first_from home log key (head_of (log.chains (home key))) ≡ newest_of home log key
first_from_head home log key = ap (first_such (has_key key) log.cells) (from_head (log.chains (home key)))

-- from 0 on there is none
from_none : (cells : ℕ → Logged) (chain : List ℕ) → IsLinked cells chain → chain_from 0 chain ≡ []
from_none cells [] linked = refl
from_none cells (a ∷ older) linked = from_else 0 a older (above_all cells a older linked.1 linked.2 0 (inl refl)) ∙ from_none cells older linked.2

pub first_from_none : (home : ℕ → ℕ) (log : Log) (key : ℕ) → AreChains home log → first_from home log key 0 ≡ 0
first_from_none home log key chains = ap (first_such (has_key key) log.cells) (from_none log.cells (log.chains (home key)) (chains.linked (home key)))

-- from a record of the key on it is that one
pub first_from_own : (home : ℕ → ℕ) (log : Log) (key a : ℕ) → AreChains home log → IsIn a (log.chains (home key)) → has_key key (log.cells a) ≡ true → first_from home log key a ≡ a
first_from_own home log key a chains is_in own =
    let its = begins_at log.cells (log.chains (home key)) (chains.linked (home key)) a is_in in
    ap (first_such (has_key key) log.cells) its.begins ∙ first_there (has_key key) log.cells a its.older own

-- from another one on it is what stands first from what that leads to
pub record LeadsOn (home : ℕ → ℕ) (log : Log) (key a : ℕ) (cell : Cell) : Type 0 where
  pub same : first_from home log key a ≡ first_from home log key cell.previous
  pub within : IsWithin cell.previous (log.chains (home key))

pub leads_on : (home : ℕ → ℕ) (log : Log) (key a : ℕ) (cell : Cell) → AreChains home log → IsIn a (log.chains (home key)) → log.cells a ≡ Published cell → has_key key (log.cells a) ≡ false → LeadsOn home log key a cell
leads_on home log key a cell chains is_in is other =
    let its = begins_at log.cells (log.chains (home key)) (chains.linked (home key)) a is_in in
    let next : head_of its.older ≡ cell.previous = the_next (head_of its.older) cell.previous (sym its.leads ∙ ap previous_of is) in
    record {
      same = ap (first_such (has_key key) log.cells) its.begins ∙ first_else (has_key key) log.cells a its.older other
          ∙ ap (first_such (has_key key) log.cells) (sym its.goes_on) ∙ ap (first_from home log key) next;
      within = subst (λ b. IsWithin b (log.chains (home key))) next its.within;
    }
  where
    the_next : (x y : ℕ) → Some x ≡ Some y → x ≡ y
    the_next x y same = cc
