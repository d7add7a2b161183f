-- Where one is down a chain, step by step, and that it stays so as the log grows.
use Rattle.std.proofs.Common.{◌≡◌, ◌≢◌, inl, inr, ℕ, ◌<◌, ◌≤◌, ◌∙◌, List, [], ◌∷◌, Some, zero, suc, refl, sym, ap, subst, arith}
use Rattle.fkv_map.specs.Map.{Map}
use Rattle.law_log.specs.Trace.{IsIn}
use Rattle.law_log.specs.Chains.{Cell, Logged, Published, value_at, version_at, has_key, head_of, IsWithin}
use Rattle.law_log.specs.Ghosts.{Log, first_from}
use Rattle.law_log.specs.Enabled.{AreChains, IsFixed, IsLinked, StandsStill, previous_of}
use Rattle.law_log.proofs.Shown.{Held, Grows, first_stays, fixed_stays, head_within, first_from_none, first_from_own, leads_on, not_unborn}
use Rattle.law_local.specs.Tries.OnWay.{IsOnWay, ComesBelow, FindsNone, IsFoundAt, IsOrderly}
use Rattle.law_local.proofs.OfTries.Tests.{test_true, test_false}

-- ---- down the chain
-- what is not 0 stands in the chain
pub in_chain : (a : ℕ) (chain : List ℕ) → IsWithin a chain → 0 < a → IsIn a chain
in_chain a chain (inl none) some = absurd (not_none a none some)
  where
    not_none : (n : ℕ) → n ≡ 0 → 0 < n → ⊥
    not_none n e some = omega (arith, e, some)
in_chain a chain (inr is_in) some = is_in

-- a record leads to a lower address
pub linked_low : (cells : ℕ → Logged) (chain : List ℕ) → IsLinked cells chain → (a : ℕ) (cell : Cell) → IsIn a chain → cells a ≡ Published cell → cell.previous < a
linked_low cells [] linked a cell is_in is = absurd is_in
linked_low cells (b ∷ older) linked a cell (inl same) is = subst (λ n. cell.previous < n) same (subst (λ n. n < b) (sym (the_next cell.previous (head_of older) (sym (ap previous_of (ap cells same ∙ is)) ∙ linked.0))) linked.1)
  where
    the_next : (x y : ℕ) → Some x ≡ Some y → x ≡ y
    the_next x y e = cc
linked_low cells (b ∷ older) linked a cell (inr is_in) is = linked_low cells older linked.2 a cell is_in is

-- a published record isn't at 0
pub some_there : (home : ℕ → ℕ) (m : Map) (log : Log) (at : ℕ) (cell : Cell) → Held home m log → log.cells at ≡ Published cell → 0 < at
some_there home m log at cell held its = by_number at refl
  where
    by_number : (n : ℕ) → at ≡ n → 0 < n
    by_number zero e = absurd (not_unborn (log.cells 0) cell (ap log.cells (sym e) ∙ its) held.none)
    by_number (suc n) e = omega arith

pub stays_there : (home : ℕ → ℕ) (log : Log) (key at : ℕ) → IsWithin at (log.chains (home key)) → IsOnWay home log key at at
stays_there home log key at within = record { begins = within; within = within; same = refl }

-- where the chain begins
pub from_start : (home : ℕ → ℕ) (log : Log) (key at : ℕ) → at ≡ head_of (log.chains (home key)) → IsOnWay home log key at at
from_start home log key at starts = stays_there home log key at (subst (λ a. IsWithin a (log.chains (home key))) (sym starts) (head_within (log.chains (home key))))

pub none_at_end : (home : ℕ → ℕ) (log : Log) (key from : ℕ) → AreChains home log → IsOnWay home log key from 0 → FindsNone home log key from
none_at_end home log key from chains way = record { begins = way.begins; none = way.same ∙ first_from_none home log key chains }

pub none_from_none : (home : ℕ → ℕ) (log : Log) (key : ℕ) → AreChains home log → FindsNone home log key 0
none_from_none home log key chains = record { begins = inl refl; none = first_from_none home log key chains }

-- behind a record of another key one goes on to what it leads to
pub goes_on : (home : ℕ → ℕ) (log : Log) (key from at : ℕ) (cell : Cell) → AreChains home log → IsOnWay home log key from at → 0 < at → log.cells at ≡ Published cell → cell.key ≢ key → IsOnWay home log key from cell.previous
goes_on home log key from at cell chains way some its other =
    let next = leads_on home log key at cell chains (in_chain at (log.chains (home key)) way.within some) its (ap (has_key key) its ∙ test_false cell.key key other) in
    record { begins = way.begins; within = next.within; same = way.same ∙ next.same }

-- a record of the key is found there
pub is_found : (home : ℕ → ℕ) (log : Log) (key from at : ℕ) (cell : Cell) → AreChains home log → IsOnWay home log key from at → 0 < at → log.cells at ≡ Published cell → cell.key ≡ key → IsFoundAt home log key from at cell.version
is_found home log key from at cell chains way some its own = record {
  begins = way.begins;
  first = way.same ∙ first_from_own home log key at chains (in_chain at (log.chains (home key)) way.within some) (ap (has_key key) its ∙ test_true cell.key key own);
  cell = cell;
  its = its;
  its_key = own;
  its_version = refl;
}

-- ---- as the log grows
pub within_grows : (home : ℕ → ℕ) (m : Map) (log log' : Log) (h a : ℕ) → Grows home m log log' → IsWithin a (log.chains h) → IsWithin a (log'.chains h)
within_grows home m log log' h a grows within = (grows.chains h a within).1

pub first_grows : (home : ℕ → ℕ) (m : Map) (log log' : Log) (key a : ℕ) → Held home m log → Grows home m log log' → IsWithin a (log.chains (home key)) → first_from home log' key a ≡ first_from home log key a
first_grows home m log log' key a held grows within = first_stays home m log log' held.chains grows key a within

pub fixed_grows : (home : ℕ → ℕ) (m : Map) (log log' : Log) (a : ℕ) → Grows home m log log' → IsFixed log a → IsFixed log' a
fixed_grows home m log log' a grows fixed = below a log.fixed log'.fixed fixed grows.fixed
  where
    below : (x y z : ℕ) → x < y → y ≤ z → x < z
    below x y z low high = omega (arith, low, high)

pub low_grows : (home : ℕ → ℕ) (m : Map) (log log' : Log) (a : ℕ) → Grows home m log log' → a ≤ log.fixed → a ≤ log'.fixed
low_grows home m log log' a grows low = below a log.fixed log'.fixed low grows.fixed
  where
    below : (x y z : ℕ) → x ≤ y → y ≤ z → x ≤ z
    below x y z low high = omega (arith, low, high)

pub way_grows : (home : ℕ → ℕ) (m : Map) (log log' : Log) (key from to : ℕ) → Held home m log → Grows home m log log' → IsOnWay home log key from to → IsOnWay home log' key from to
way_grows home m log log' key from to held grows way = record {
  begins = within_grows home m log log' (home key) from grows way.begins;
  within = within_grows home m log log' (home key) to grows way.within;
  same = first_grows home m log log' key from held grows way.begins ∙ way.same ∙ sym (first_grows home m log log' key to held grows way.within);
}

pub below_grows : (home : ℕ → ℕ) (m : Map) (log log' : Log) (key from to low : ℕ) → Held home m log → Grows home m log log' → ComesBelow home log key from to low → ComesBelow home log' key from to low
below_grows home m log log' key from to low held grows comes = record { way = way_grows home m log log' key from to held grows comes.way; some = comes.some; below = comes.below }

pub none_grows : (home : ℕ → ℕ) (m : Map) (log log' : Log) (key from : ℕ) → Held home m log → Grows home m log log' → FindsNone home log key from → FindsNone home log' key from
none_grows home m log log' key from held grows finds = record {
  begins = within_grows home m log log' (home key) from grows finds.begins;
  none = first_grows home m log log' key from held grows finds.begins ∙ finds.none;
}

pub found_grows : (home : ℕ → ℕ) (m : Map) (log log' : Log) (key from at version : ℕ) → Held home m log → Grows home m log log' → IsFoundAt home log key from at version → IsFoundAt home log' key from at version
found_grows home m log log' key from at version held grows found =
    let stays = grows.published at found.cell found.its in
    record {
      begins = within_grows home m log log' (home key) from grows found.begins;
      first = first_grows home m log log' key from held grows found.begins ∙ found.first;
      cell = record found.cell { value = stays.value };
      its = stays.still;
      its_key = found.its_key;
      its_version = found.its_version;
    }

-- a published record that stands still does so on
pub still_grows : (home : ℕ → ℕ) (m : Map) (log log' : Log) (at version : ℕ) (cell : Cell) → Grows home m log log' → log.cells at ≡ Published cell → StandsStill log at version → StandsStill log' at version
still_grows home m log log' at version cell grows its (inl fixed) = inl (fixed_grows home m log log' at grows fixed)
still_grows home m log log' at version cell grows its (inr older) = inr (subst (λ v. v < version) (ap version_at its ∙ sym (ap version_at (grows.published at cell its).still)) older)

-- what is fixed keeps its value
pub value_grows : (home : ℕ → ℕ) (m : Map) (log log' : Log) (key from : ℕ) → Held home m log → Grows home m log log' → IsWithin from (log.chains (home key)) → IsFixed log (first_from home log key from)
    → value_at (log'.cells (first_from home log' key from)) ≡ value_at (log.cells (first_from home log key from))
value_grows home m log log' key from held grows within fixed = fixed_stays home m log log' held.chains held.none grows key from within fixed

-- what rows rest on holds at each moment
pub orderly : (home : ℕ → ℕ) (m : Map) (log : Log) → Held home m log → IsOrderly home log
orderly home m log held = record { chains = held.chains; none = held.none; some_fixed = held.some_fixed }
