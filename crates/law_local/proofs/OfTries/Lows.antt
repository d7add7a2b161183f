-- Down a chain what stands first lies no higher than where one begins.
use Rattle.std.proofs.Common.{◌≡◌, inl, inr, ℕ, ◌≤◌, Bool, true, false, cond, List, [], ◌∷◌, refl, arith}
use Rattle.std.specs.Prelude.{nat_eq}
use Rattle.law_log.specs.Trace.{IsIn}
use Rattle.law_log.specs.Chains.{Logged, head_of, chain_from, has_key}
use Rattle.law_log.specs.Ghosts.{Log, first_from}
use Rattle.law_log.specs.Enabled.{AreChains, IsLinked, IsFixed}
use Rattle.law_log.proofs.Shown.{IsFirst, first_is}
use Rattle.law_local.specs.Tries.OnWay.{ComesBelow}
use Rattle.law_local.proofs.OfTries.Tests.{eq_true}

linked_from : (cells : ℕ → Logged) (a : ℕ) (chain : List ℕ) → IsLinked cells chain → IsLinked cells (chain_from a chain)
linked_from cells a [] linked = tt
linked_from cells a (b ∷ older) linked = by_test (nat_eq b a) (linked_from cells a older linked.2)
  where
    by_test : (t : Bool) → IsLinked cells (chain_from a older) → IsLinked cells (cond t (b ∷ older) (chain_from a older))
    by_test true rest = linked
    by_test false rest = rest

begins_low : (a : ℕ) (chain : List ℕ) → head_of (chain_from a chain) ≤ a
begins_low a [] = omega arith
begins_low a (b ∷ older) = by_test (nat_eq b a) refl (begins_low a older)
  where
    by_test : (t : Bool) → nat_eq b a ≡ t → head_of (chain_from a older) ≤ a → head_of (cond t (b ∷ older) (chain_from a older)) ≤ a
    by_test true e rest = let same = eq_true b a e in omega (arith, same)
    by_test false e rest = rest

falls_from : (cells : ℕ → Logged) (chain : List ℕ) → IsLinked cells chain → (a : ℕ) → IsIn a chain → a ≤ head_of chain
falls_from cells [] linked a is_in = absurd is_in
falls_from cells (b ∷ older) linked a (inl same) = omega (arith, same)
falls_from cells (b ∷ older) linked a (inr is_in) = let rest = falls_from cells older linked.2 a is_in in let low = linked.1 in omega (arith, rest, low)

pub first_low : (home : ℕ → ℕ) (log : Log) (key a : ℕ) → AreChains home log → first_from home log key a ≤ a
first_low home log key a chains = by_first (first_from home log key a) (first_is (has_key key) log.cells (chain_from a (log.chains (home key))))
  where
    by_first : (x : ℕ) → IsFirst (has_key key) log.cells (chain_from a (log.chains (home key))) x → x ≤ a
    by_first x (inl none) = omega (arith, none)
    by_first x (inr some) =
        let low = begins_low a (log.chains (home key)) in
        let falls = falls_from log.cells (chain_from a (log.chains (home key))) (linked_from log.cells a (log.chains (home key)) (chains.linked (home key))) x some.0 in
        omega (arith, low, falls)

-- what stands first from a record below what is fixed is fixed
pub fixed_below : (home : ℕ → ℕ) (log : Log) (key from to low : ℕ) → AreChains home log → ComesBelow home log key from to low → low ≤ log.fixed → IsFixed log (first_from home log key from)
fixed_below home log key from to low chains comes fixed =
    let same = comes.way.same in
    let first = first_low home log key to chains in
    let below = comes.below in
    omega (arith, same, first, below, fixed)
