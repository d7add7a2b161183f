-- The log of an opened store leads to published records alone.
use Rattle.std.proofs.Common.{◌≡◌, inl, inr, ℕ, ◌∙◌, refl, sym, ap, subst, List, [], ◌∷◌}
use Rattle.std.specs.Prelude.{Some}
use Rattle.law_log.specs.Chains.{Cell, Logged, Published, head_of}
use Rattle.law_log.specs.Enabled.{AreChains, IsLinked, previous_of}
use Rattle.law_log.specs.Ghosts.{Log}
use Rattle.law_log.specs.Trace.{IsIn}
use Rattle.law_refine.specs.Events.Published.{IsPublished}
use Rattle.law_opening.specs.Changes.Linked.{IsLed, IsLinkedLog}

-- each record of a chain is published
abbrev AllPublished : Log → List ℕ → Type 0
AllPublished log chain = (a : ℕ) → IsIn a chain → IsPublished (log.cells a)

head_led : (log : Log) (chain : List ℕ) → AllPublished log chain → IsLed log (head_of chain)
head_led log [] there = inl refl
head_led log (a ∷ older) there = inr (there a (inl refl))

previous_is : (logged : Logged) (cell : Cell) (next : ℕ) → logged ≡ Published cell → previous_of logged ≡ Some next → next ≡ cell.previous
previous_is logged cell next e is = let same : Some cell.previous ≡ Some next = sym (ap previous_of e) ∙ is in cc

chain_leads : (log : Log) (chain : List ℕ) (a : ℕ) (cell : Cell) → AllPublished log chain → IsLinked log.cells chain → IsIn a chain → log.cells a ≡ Published cell → IsLed log cell.previous
chain_leads log [] a cell there linked has e = absurd has
chain_leads log (b ∷ older) a cell there linked (inl same) e =
    subst (IsLed log) (previous_is (log.cells b) cell (head_of older) (ap log.cells same ∙ e) linked.0) (head_led log older (λ c has. there c (inr has)))
chain_leads log (b ∷ older) a cell there linked (inr rest) e = chain_leads log older a cell (λ c has. there c (inr has)) linked.2 rest e

pub linked_log : (home : ℕ → ℕ) (log : Log) → AreChains home log → IsLinkedLog log
linked_log home log chains = record {
  begins = λ h. head_led log (log.chains h) (all h);
  leads = λ a cell e. chain_leads log (log.chains (home cell.key)) a cell (all (home cell.key)) (chains.linked (home cell.key)) (chains.its_chain a cell e) e;
}
  where
    all : (h : ℕ) → AllPublished log (log.chains h)
    all h = λ a has. let its = chains.in_chain h a has in subst IsPublished (sym its.its) tt
