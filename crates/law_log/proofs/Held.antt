-- What holds of a log at each moment, what a step leaves to others (Grows), and the facts that it keeps.
use Rattle.std.proofs.Common.{◌≡◌, ◌⊎◌, inl, inr, ℕ, ◌<◌, ◌≤◌, ◌∙◌, Bool, true, false, Option, List, ◌++◌, refl, sym, ap, subst, arith, true≢false}
use Rattle.fkv_map.specs.declared.history.HistoryEntry.{HistoryEntry}
use Rattle.fkv_map.specs.Map.{Map}
use Rattle.fkv_map.specs.History.{IsLegal}
use Rattle.fkv_map.specs.Keys.{value_applied, reply_from}
use Rattle.law_log.specs.Trace.{Effect, history_of, value_in, IsIn}
use Rattle.law_log.specs.Chains.{Cell, Logged, Unborn, Reserved, Published, value_at, version_at, has_key, chain_from, first_such, IsWithin, VersionsFall}
use Rattle.law_log.specs.Ghosts.{Log, first_from, newest_in, shown}
use Rattle.law_log.specs.Enabled.{AreChains, IsFixed, StandsStill, IsMade}
use Rattle.law_log.proofs.Versions.{falls_same}
use Rattle.law_log.proofs.Chains.{first_same, first_is, IsFirst, in_from, same_number}

-- ---- what holds of a log
pub record Held (home : ℕ → ℕ) (m : Map) (log : Log) : Type 0 where
  pub chains : AreChains home log
  pub none : log.cells 0 ≡ Unborn
  pub some_fixed : 0 < log.fixed
  pub falls : (h : ℕ) → VersionsFall log.cells (log.chains h)
  -- a record that may still change in place is the newest of its key and its version
  pub newest : (a : ℕ) (cell : Cell) → log.cells a ≡ Published cell → (newest_in home log cell.version cell.key ≡ a) ⊎ IsFixed log a
  pub shows : (key : ℕ) → shown home log key ≡ value_in m log.history key
  pub legal : IsLegal m (history_of log.history)
  pub made : (a : ℕ) (entry : HistoryEntry) (cell : Cell) → log.cells a ≡ Reserved entry cell → (cell.previous < a) × IsMade home log entry cell

-- ---- what a step leaves to others
-- A published record stays, with its key, its version and what it leads to; and its value stays too, or is the content's now, where it wasn't fixed.
pub record StaysPublished (m : Map) (log log' : Log) (a : ℕ) (cell : Cell) : Type 0 where
  pub value : Option ℕ
  pub still : log'.cells a ≡ Published (record cell { value = value })
  pub kept : (value ≡ cell.value) ⊎ ((log.fixed ≤ a) × (value ≡ value_in m log'.history cell.key))

pub record Grows (home : ℕ → ℕ) (m : Map) (log log' : Log) : Type 0 where
  pub published : (a : ℕ) (cell : Cell) → log.cells a ≡ Published cell → StaysPublished m log log' a cell
  pub none : log'.cells 0 ≡ Unborn
  pub chains : (h a : ℕ) → IsWithin a (log.chains h) → (chain_from a (log'.chains h) ≡ chain_from a (log.chains h)) × IsWithin a (log'.chains h)
  pub fixed : log.fixed ≤ log'.fixed
  pub newer : List Effect
  pub longer : log'.history ≡ newer ++ log.history

-- ---- words on what an address has
pub is_published : Logged → Bool
is_published (Published cell) = true
is_published logged = false

pub not_reserved : (logged : Logged) (cell other : Cell) (entry : HistoryEntry) → logged ≡ Published cell → logged ≡ Reserved entry other → ⊥
unfolding is_published
not_reserved logged cell other entry is was = true≢false (ap is_published (sym is ∙ was))

pub not_unborn : (logged : Logged) (cell : Cell) → logged ≡ Published cell → logged ≡ Unborn → ⊥
unfolding is_published
not_unborn logged cell is was = true≢false (ap is_published (sym is ∙ was))

pub key_there : (key : ℕ) (logged : Logged) (cell : Cell) → logged ≡ Published cell → has_key key logged ≡ true → cell.key ≡ key
key_there key logged cell is has = same_number cell.key key (sym (ap (has_key key) is) ∙ has)

-- ---- what a step keeps
-- a test that doesn't look at values
abbrev pub IsBlind : (Logged → Bool) → Type 0
IsBlind test = (cell : Cell) (value : Option ℕ) → test (Published (record cell { value = value })) ≡ test (Published cell)

-- a record of a chain passes it as before, and has the version that it had
pub test_stays : (home : ℕ → ℕ) (m : Map) (log log' : Log) → AreChains home log → Grows home m log log' → (test : Logged → Bool) → IsBlind test → (h a : ℕ) → IsIn a (log.chains h)
    → test (log'.cells a) ≡ test (log.cells a)
test_stays home m log log' chains grows test blind h a is_in =
    let its = chains.in_chain h a is_in in
    let stays = grows.published a its.cell its.its in
    ap test stays.still ∙ blind its.cell stays.value ∙ sym (ap test its.its)

pub version_stays : (home : ℕ → ℕ) (m : Map) (log log' : Log) → AreChains home log → Grows home m log log' → (h a : ℕ) → IsIn a (log.chains h) → version_at (log'.cells a) ≡ version_at (log.cells a)
version_stays home m log log' chains grows h a is_in =
    let its = chains.in_chain h a is_in in
    ap version_at (grows.published a its.cell its.its).still ∙ sym (ap version_at its.its)

pub falls_along : (home : ℕ → ℕ) (m : Map) (log log' : Log) → AreChains home log → Grows home m log log' → (h : ℕ) → VersionsFall log.cells (log.chains h) → VersionsFall log'.cells (log.chains h)
falls_along home m log log' chains grows h falls = falls_same log.cells log'.cells (log.chains h) (λ a is_in. version_stays home m log log' chains grows h a is_in) falls

abbrev pub ArePartOf : Log → ℕ → List ℕ → Type 0
ArePartOf log h chain = (a : ℕ) → IsIn a chain → IsIn a (log.chains h)

pub first_along : (home : ℕ → ℕ) (m : Map) (log log' : Log) → AreChains home log → Grows home m log log' → (test : Logged → Bool) → IsBlind test → (h : ℕ) (chain : List ℕ) → ArePartOf log h chain
    → first_such test log'.cells chain ≡ first_such test log.cells chain
first_along home m log log' chains grows test blind h chain part =
    first_same test log.cells log'.cells chain (λ a is_in. test_stays home m log log' chains grows test blind h a (part a is_in))

-- the value at a place stays, or is the content's now, where it isn't fixed
abbrev pub KeepsValue : Map → Log → Log → ℕ → ℕ → Type 0
KeepsValue m log log' key a = (value_at (log'.cells a) ≡ value_at (log.cells a)) ⊎ ((log.fixed ≤ a) × (value_at (log'.cells a) ≡ value_in m log'.history key))

pub value_along : (home : ℕ → ℕ) (m : Map) (log log' : Log) → AreChains home log → log.cells 0 ≡ Unborn → Grows home m log log' → (key : ℕ) (chain : List ℕ) (a : ℕ) → ArePartOf log (home key) chain → IsFirst (has_key key) log.cells chain a
    → KeepsValue m log log' key a
value_along home m log log' chains none grows key chain a part (inl zero_is) =
    inl (ap (λ i. value_at (log'.cells i)) zero_is ∙ ap value_at grows.none ∙ sym (ap value_at none) ∙ ap (λ i. value_at (log.cells i)) (sym zero_is))
value_along home m log log' chains none grows key chain a part (inr some) =
    let its = chains.in_chain (home key) a (part a some.0) in
    let stays = grows.published a its.cell its.its in
    let its_key = key_there key (log.cells a) its.cell its.its some.1 in
    elim stays.kept [
      | inl same ↦ inl (ap value_at stays.still ∙ same ∙ sym (ap value_at its.its))
      | inr now ↦ inr (now.0, ap value_at stays.still ∙ now.1 ∙ ap (λ k. value_in m log'.history k) its_key)
    ]

part_from : (home : ℕ → ℕ) (log : Log) (key a : ℕ) → ArePartOf log (home key) (chain_from a (log.chains (home key)))
part_from home log key a b is_in = in_from a b (log.chains (home key)) is_in

pub first_stays : (home : ℕ → ℕ) (m : Map) (log log' : Log) → AreChains home log → Grows home m log log' → (key a : ℕ) → IsWithin a (log.chains (home key)) → first_from home log' key a ≡ first_from home log key a
first_stays home m log log' chains grows key a within =
    ap (first_such (has_key key) log'.cells) (grows.chains (home key) a within).0
    ∙ first_along home m log log' chains grows (has_key key) (λ cell value. refl) (home key) (chain_from a (log.chains (home key))) (part_from home log key a)

-- what is shown from an address on stays, or is the content's now
pub shown_stays : (home : ℕ → ℕ) (m : Map) (log log' : Log) → AreChains home log → log.cells 0 ≡ Unborn → Grows home m log log' → (key a : ℕ) → IsWithin a (log.chains (home key))
    → (value_at (log'.cells (first_from home log' key a)) ≡ value_at (log.cells (first_from home log key a)))
    ⊎ ((log.fixed ≤ first_from home log key a) × (value_at (log'.cells (first_from home log' key a)) ≡ value_in m log'.history key))
shown_stays home m log log' chains none grows key a within =
    let same = ap (λ i. value_at (log'.cells i)) (first_stays home m log log' chains grows key a within) in
    elim (value_along home m log log' chains none grows key (chain_from a (log.chains (home key))) (first_from home log key a) (part_from home log key a) (first_is (has_key key) log.cells (chain_from a (log.chains (home key))))) [
      | inl kept ↦ inl (same ∙ kept)
      | inr now ↦ inr (now.0, same ∙ now.1)
    ]

-- what is fixed keeps its value
pub fixed_stays : (home : ℕ → ℕ) (m : Map) (log log' : Log) → AreChains home log → log.cells 0 ≡ Unborn → Grows home m log log' → (key a : ℕ) → IsWithin a (log.chains (home key)) → IsFixed log (first_from home log key a)
    → value_at (log'.cells (first_from home log' key a)) ≡ value_at (log.cells (first_from home log key a))
fixed_stays home m log log' chains none grows key a within fixed = elim (shown_stays home m log log' chains none grows key a within) [
  | inl kept ↦ kept
  | inr now ↦ absurd (not_both (first_from home log key a) log.fixed now.0 fixed)
]
  where
    not_both : (a b : ℕ) → b ≤ a → a < b → ⊥
    not_both a b high low = omega (arith, high, low)

-- what a record is made of stays, where the value stays that it was made of
pub made_stays : (home : ℕ → ℕ) (m : Map) (log log' : Log) → AreChains home log → log.cells 0 ≡ Unborn → Grows home m log log' → (entry : HistoryEntry) (cell : Cell)
    → value_at (log'.cells (first_from home log cell.key cell.previous)) ≡ value_at (log.cells (first_from home log cell.key cell.previous)) → IsMade home log entry cell → IsMade home log' entry cell
made_stays home m log log' chains none grows entry cell kept made =
    let chain = chain_from cell.previous (log.chains (home cell.key)) in
    let x = first_from home log cell.key cell.previous in
    let stays = first_stays home m log log' chains grows cell.key cell.previous made.leads in
    let same : value_at (log'.cells (first_from home log' cell.key cell.previous)) ≡ value_at (log.cells x) = ap (λ i. value_at (log'.cells i)) stays ∙ kept in
    record {
      its_key = made.its_key;
      leads = (grows.chains (home cell.key) cell.previous made.leads).1;
      still = subst (λ a. StandsStill log' a cell.version) (sym stays) (elim made.still [
        | inl fixed ↦ inl (below x log.fixed log'.fixed fixed grows.fixed)
        | inr older ↦ inr (subst (λ v. v < cell.version) (sym (version_of_first x (part_from home log cell.key cell.previous) (first_is (has_key cell.key) log.cells chain))) older)
      ]);
      its_value = made.its_value ∙ ap (λ v. value_applied v entry.op) (sym same);
      its_reply = made.its_reply ∙ ap (λ v. reply_from v entry.op) (sym same);
    }
  where
    below : (a b c : ℕ) → a < b → b ≤ c → a < c
    below a b c low high = omega (arith, low, high)

    version_of_first : (a : ℕ) → ArePartOf log (home cell.key) (chain_from cell.previous (log.chains (home cell.key))) → IsFirst (has_key cell.key) log.cells (chain_from cell.previous (log.chains (home cell.key))) a
        → version_at (log'.cells a) ≡ version_at (log.cells a)
    version_of_first a part (inl zero_is) = ap (λ i. version_at (log'.cells i)) zero_is ∙ ap version_at grows.none ∙ sym (ap version_at none) ∙ ap (λ i. version_at (log.cells i)) (sym zero_is)
    version_of_first a part (inr some) = version_stays home m log log' chains grows (home cell.key) a (part a some.0)

-- where it was made of a fixed record, nothing more is asked
pub made_of_fixed_stays : (home : ℕ → ℕ) (m : Map) (log log' : Log) → AreChains home log → log.cells 0 ≡ Unborn → Grows home m log log' → (entry : HistoryEntry) (cell : Cell)
    → IsFixed log (first_from home log cell.key cell.previous) → IsMade home log entry cell → IsMade home log' entry cell × IsFixed log' (first_from home log' cell.key cell.previous)
made_of_fixed_stays home m log log' chains none grows entry cell fixed made =
    let stays = first_stays home m log log' chains grows cell.key cell.previous made.leads in (
      made_stays home m log log' chains none grows entry cell
          (ap (λ i. value_at (log'.cells i)) (sym stays) ∙ fixed_stays home m log log' chains none grows cell.key cell.previous made.leads fixed) made,
      subst (IsFixed log') (sym stays) (below (first_from home log cell.key cell.previous) log.fixed log'.fixed fixed grows.fixed),
    )
  where
    below : (a b c : ℕ) → a < b → b ≤ c → a < c
    below a b c low high = omega (arith, low, high)
