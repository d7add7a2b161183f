-- A read whose value is settled: the first record of its key from where it goes is fixed. It keeps the value while it doesn't search again.
use Rattle.std.proofs.Common.{◌≡◌, ◌≢◌, ℕ, ◌<◌, ◌≤◌, ◌∙◌, Bool, true, false, Option, List, [], ◌∷◌, ◌++◌, refl, sym, ap, subst, inl, inr, arith}
use Rattle.std.specs.Prelude.{⊤, cond, map, nat_eq}
use Rattle.std.proofs.lemmas.Bool.Decides.{nat_tests}
use Rattle.fkv_map.specs.Map.{Map}
use Rattle.fkv_map.specs.declared.operations.Op.{Op}
use Rattle.law_commit.specs.Below.fkv_ops.Requests.{is_read}
use Rattle.law_commit.specs.Below.law_local.Tries.OnWay.{ComesBelow}
use Rattle.law_log.specs.Chains.{IsWithin, Logged, chain_from, first_such, has_key, head_of, value_at}
use Rattle.law_log.specs.Enabled.{AreChains, AreEnabled, IsEnabled, IsFixed, IsLineEnabled, IsLinked, IsOpened}
use Rattle.law_log.specs.Ghosts.{Called, FindsEntry, Ghosts, GhostEvent, HasValue, Log, NotCalled, Reading, TakesValue, Tells, Reserves, Publishes, Drops, Changes, Fixes, Walks, first_from, found, ghosts_after, ghost_run, log_after, read_called, took}
use Rattle.law_log.specs.Trace.{Effect, TraceLine, CallsRead}
use Rattle.law_log.proofs.Shown.{Grows, Held, at_one, first_stays, fixed_stays, log_steps, run_held, set_else}
use Rattle.law_order.proofs.OfReads.Touched.{AllTouch, IsItsRead, touches}

-- ---- settled
-- the value of the first record of the key from the address, which is fixed
pub record IsSettledAt (home : ℕ → ℕ) (log : Log) (key a : ℕ) (value : Option ℕ) : Type 0 where
  pub begins : IsWithin a (log.chains (home key))
  pub fixed : IsFixed log (first_from home log key a)
  pub its_value : value_at (log.cells (first_from home log key a)) ≡ value

-- a read goes from such an address, or has the value by now
pub data IsSettled (home : ℕ → ℕ) (log : Log) (key : ℕ) (seen : List Effect) (value : Option ℕ) (reading : Reading) : Type 0 where
  Goes : (a : ℕ) → reading ≡ Walks key seen a → IsSettledAt home log key a value → IsSettled home log key seen value reading
  Has : reading ≡ HasValue key seen value → IsSettled home log key seen value reading

-- ---- below what is fixed
-- a chain falls, so what stands first in it lies no higher than where it begins
first_high : (test : Logged → Bool) (cells : ℕ → Logged) (chain : List ℕ) → IsLinked cells chain → first_such test cells chain ≤ head_of chain
first_high test cells [] linked = omega arith
first_high test cells (a ∷ older) linked = by_test (test (cells a)) (first_high test cells older linked.2)
  where
    by_test : (t : Bool) → first_such test cells older ≤ head_of older → cond t a (first_such test cells older) ≤ a
    by_test true rest = omega arith
    by_test false rest = let low = linked.1 in omega (arith, rest, low)

first_behind : (test : Logged → Bool) (cells : ℕ → Logged) (a : ℕ) (chain : List ℕ) → IsLinked cells chain → first_such test cells (chain_from a chain) ≤ a
first_behind test cells a [] linked = omega arith
first_behind test cells a (b ∷ older) linked = by_test (nat_eq b a) refl (first_behind test cells a older linked.2)
  where
    by_test : (t : Bool) → nat_eq b a ≡ t → first_such test cells (chain_from a older) ≤ a → first_such test cells (cond t (b ∷ older) (chain_from a older)) ≤ a
    by_test true e rest = let same : b ≡ a = grind (arith, nat_tests, e) in let high = first_high test cells (b ∷ older) linked in omega (arith, same, high)
    by_test false e rest = rest

-- so it is fixed, where the way from an address comes to a record below what is fixed
pub fixed_from : (home : ℕ → ℕ) (log : Log) (key from to low : ℕ) → AreChains home log → ComesBelow home log key from to low → low ≤ log.fixed → IsFixed log (first_from home log key from)
fixed_from home log key from to low chains comes high =
    let same = comes.way.same in
    let first = first_behind (has_key key) log.cells to (log.chains (home key)) (chains.linked (home key)) in
    let below = comes.below in
    omega (arith, same, first, below, high)

-- ---- as the log grows
fixed_on : (a b c : ℕ) → a < b → b ≤ c → a < c
fixed_on a b c low high = omega (arith, low, high)

settled_at : (home : ℕ → ℕ) (m : Map) (log after : Log) (key a : ℕ) (value : Option ℕ) → Held home m log → Grows home m log after → IsSettledAt home log key a value → IsSettledAt home after key a value
settled_at home m log after key a value held grows its = record {
  begins = (grows.chains (home key) a its.begins).1;
  fixed =
      subst (IsFixed after) (sym (first_stays home m log after held.chains grows key a its.begins))
      (fixed_on (first_from home log key a) log.fixed after.fixed its.fixed grows.fixed);
  its_value = fixed_stays home m log after held.chains held.none grows key a its.begins its.fixed ∙ its.its_value;
}

settled_grows : (home : ℕ → ℕ) (m : Map) (log after : Log) (key : ℕ) (seen : List Effect) (value : Option ℕ) (reading : Reading) → Held home m log → Grows home m log after → IsSettled home log key seen value reading
    → IsSettled home after key seen value reading
settled_grows home m log after key seen value reading held grows (Goes a is at) = Goes a is (settled_at home m log after key a value held grows at)
settled_grows home m log after key seen value reading held grows (Has is) = Has is

-- ---- by an event
-- it is no search of this read
abbrev pub spares : ℕ → GhostEvent → Type 0
spares reader (FindsEntry other) = other ≢ reader
spares reader event = ⊤

abbrev pub AllSpare : ℕ → List GhostEvent → Type 0
AllSpare reader [] = ⊤
AllSpare reader (event ∷ before) = spares reader event × AllSpare reader before

taken_settled : (home : ℕ → ℕ) (log : Log) (key : ℕ) (seen : List Effect) (value : Option ℕ) (reading : Reading) → IsSettled home log key seen value reading → IsSettled home log key seen value (took home log reading)
taken_settled home log key seen value reading (Goes a is at) = Has (ap (took home log) is ∙ ap (HasValue key seen) at.its_value)
taken_settled home log key seen value reading (Has is) = Has (ap (took home log) is)

was_called : (home : ℕ → ℕ) (log : Log) (key : ℕ) (seen : List Effect) (value : Option ℕ) (reading : Reading) → reading ≡ NotCalled → IsSettled home log key seen value reading → ⊥
was_called home log key seen value reading none (Goes a is at) = let clash : NotCalled ≡ Walks key seen a = sym none ∙ is in cc
was_called home log key seen value reading none (Has is) = let clash : NotCalled ≡ HasValue key seen value = sym none ∙ is in cc

line_settled : (home : ℕ → ℕ) (g : Ghosts) (line : TraceLine) (key : ℕ) (seen : List Effect) (value : Option ℕ) (reader : ℕ) → IsLineEnabled g line → IsSettled home g.log key seen value (g.reads reader)
    → IsSettled home g.log key seen value (read_called g.log.history line g.reads reader)
line_settled home g (CallsRead own k) key seen value reader enabled its = elim (at_one g.reads own (Called k g.log.history) reader) [
  | inl here ↦ absurd (was_called home g.log key seen value (g.reads reader) (ap g.reads here.0 ∙ enabled) its)
  | inr apart ↦ subst (IsSettled home g.log key seen value) (sym apart.1) its
]
line_settled home g line key seen value reader enabled its = its

reads_settled : (home : ℕ → ℕ) (g : Ghosts) (event : GhostEvent) (key : ℕ) (seen : List Effect) (value : Option ℕ) (reader : ℕ) → IsEnabled home g event → spares reader event
    → IsSettled home g.log key seen value (g.reads reader) → IsSettled home (log_after home g.log event) key seen value (g.reads reader)
    → IsSettled home (log_after home g.log event) key seen value ((ghosts_after home g event).reads reader)
unfolding ghosts_after
reads_settled home g (Tells line) key seen value reader enabled spared was its = line_settled home g line key seen value reader enabled its
reads_settled home g (FindsEntry own) key seen value reader enabled spared was its =
    subst (IsSettled home g.log key seen value) (sym (set_else g.reads own (found home g.log (g.reads own)) reader (λ same. spared (sym same)))) its
reads_settled home g (TakesValue own) key seen value reader enabled spared was its = elim (at_one g.reads own (took home g.log (g.reads own)) reader) [
  | inl here ↦ subst (IsSettled home g.log key seen value) (sym (here.1 ∙ ap (λ n. took home g.log (g.reads n)) (sym here.0))) (taken_settled home g.log key seen value (g.reads reader) its)
  | inr apart ↦ subst (IsSettled home g.log key seen value) (sym apart.1) its
]
reads_settled home g (Reserves a entry cell) key seen value reader enabled spared was its = its
reads_settled home g (Publishes a) key seen value reader enabled spared was its = its
reads_settled home g (Drops a) key seen value reader enabled spared was its = its
reads_settled home g (Changes a entry) key seen value reader enabled spared was its = its
reads_settled home g (Fixes a) key seen value reader enabled spared was its = its

event_settled : (home : ℕ → ℕ) (m : Map) (g : Ghosts) (event : GhostEvent) (key : ℕ) (seen : List Effect) (value : Option ℕ) (reader : ℕ) → Held home m g.log → IsEnabled home g event → spares reader event
    → IsSettled home g.log key seen value (g.reads reader) → IsSettled home (log_after home g.log event) key seen value ((ghosts_after home g event).reads reader)
event_settled home m g event key seen value reader held enabled spared its =
    reads_settled home g event key seen value reader enabled spared its
    (settled_grows home m g.log (log_after home g.log event) key seen value (g.reads reader) held (log_steps home m g event held enabled).grows its)

-- and by each of these
pub run_settled : (home : ℕ → ℕ) (m : Map) (version : ℕ) (opening : Ghosts) (events before : List GhostEvent) (key : ℕ) (seen : List Effect) (value : Option ℕ) (reader : ℕ) → IsOpened home m version opening
    → AreEnabled home opening (events ++ before) → AllSpare reader events → IsSettled home (ghost_run home opening before).log key seen value ((ghost_run home opening before).reads reader)
    → IsSettled home (ghost_run home opening (events ++ before)).log key seen value ((ghost_run home opening (events ++ before)).reads reader)
unfolding ghost_run ghosts_after AreEnabled
run_settled home m version opening [] before key seen value reader opened enabled spared its = its
run_settled home m version opening (event ∷ events) before key seen value reader opened enabled spared its =
    event_settled home m (ghost_run home opening (events ++ before)) event key seen value reader (run_held home m version opening (events ++ before) opened enabled.0) enabled.1 spared.0
    (run_settled home m version opening events before key seen value reader opened enabled.0 spared.1 its)

-- ---- what spares it
pub both_spare : (reader : ℕ) (later before : List GhostEvent) → AllSpare reader later → AllSpare reader before → AllSpare reader (later ++ before)
both_spare reader [] before one other = other
both_spare reader (event ∷ later) before one other = (one.0, both_spare reader later before one.1 other)

pub spare_behind : (reader : ℕ) (later : List GhostEvent) (event : GhostEvent) (before : List GhostEvent) → AllSpare reader (later ++ event ∷ before) → AllSpare reader before
spare_behind reader [] event before all = all.1
spare_behind reader (it ∷ later) event before all = spare_behind reader later event before all.1

pub lines_spare : (reader : ℕ) (lines : List TraceLine) → AllSpare reader (map Tells lines)
lines_spare reader [] = tt
lines_spare reader (line ∷ rest) = (tt, lines_spare reader rest)

-- what touches but another read
pub touch_spares : (op : Op) (own reader : ℕ) (events : List GhostEvent) → (is_read op ≡ true → own ≢ reader) → AllTouch (IsItsRead op own) events → AllSpare reader events
touch_spares op own reader [] other all = tt
touch_spares op own reader (event ∷ before) other all = (by_event event all.0, touch_spares op own reader before other all.1)
  where
    by_event : (event : GhostEvent) → touches (IsItsRead op own) event → spares reader event
    by_event (FindsEntry it) its = λ same. other its.0 (sym its.1 ∙ same)
    by_event event its = tt
