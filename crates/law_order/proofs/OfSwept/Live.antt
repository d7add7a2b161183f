-- A log that does without its records below where a sweep began does without those below its end, once the sweep has passed them all.
use Rattle.std.proofs.Common.{◌≡◌, ℕ, ◌<◌, ◌≤◌, ◌∙◌, inl, inr, refl, sym, ap, subst, arith, Bool, true, false, true≢false, cond, List, [], ◌∷◌}
use Rattle.std.specs.Prelude.{nat_eq}
use Rattle.std.proofs.lemmas.Bool.{cases_lt}
use Rattle.std.proofs.lemmas.Bool.Decides.{nat_tests}
use Rattle.fkv_sweep.specs.Sweeping.{Sweeper}
use Rattle.fkv_sweep.specs.SweptLogs.{StandsAbove, Swept}
use Rattle.law_commit.specs.Below.law_refine.Events.GhostEvents.{home_in}
use Rattle.law_log.specs.Begins.{Live}
use Rattle.law_log.specs.Chains.{Cell, Logged, Unborn, Published, value_at, has_key, head_of, first_such}
use Rattle.law_log.specs.Enabled.{AreChains, IsLinked}
use Rattle.law_log.specs.Ghosts.{Log, newest_of}
use Rattle.law_log.specs.Trace.{IsIn}
use Rattle.law_log.proofs.Shown.{first_is}
use Rattle.law_order.specs.Swept.Logs.{standing_at, swept_log}
use Rattle.law_order.proofs.OfSwept.Logs.{in_trace, is_of_key, none_shown}

-- ---- addresses fall along a chain, so the first record that passes a test lies at or above each other that does
lower : (cells : ℕ → Logged) (b : ℕ) (chain : List ℕ) → head_of chain < b → IsLinked cells chain → (a : ℕ) → IsIn a chain → a < b
lower cells b [] low linked a is_in = absurd is_in
lower cells b (c ∷ older) low linked a (inl same) = subst (λ i. i < b) same low
lower cells b (c ∷ older) low linked a (inr is_in) = lower cells b older (let under = linked.1 in omega (arith, under, low)) linked.2 a is_in

pub first_upto : (test : Logged → Bool) (cells : ℕ → Logged) (chain : List ℕ) → IsLinked cells chain → (a : ℕ) → IsIn a chain → test (cells a) ≡ true → a ≤ first_such test cells chain
first_upto test cells [] linked a is_in passes = absurd is_in
first_upto test cells (b ∷ older) linked a is_in passes = by_test (test (cells b)) refl is_in (λ later. first_upto test cells older linked.2 a later passes)
  where
    by_test : (t : Bool) → test (cells b) ≡ t → IsIn a (b ∷ older) → (IsIn a older → a ≤ first_such test cells older) → a ≤ cond t b (first_such test cells older)
    by_test true is (inl same) rest = omega (arith, same)
    by_test true is (inr later) rest = let under = lower cells b older linked.1 linked.2 a later in omega (arith, under)
    by_test false is (inl same) rest = absurd (true≢false (sym passes ∙ ap (λ i. test (cells i)) (sym same) ∙ is))
    by_test false is (inr later) rest = rest later

-- ---- a key whose newest record lies below the sweep's end has none above it
is_key : (n k : ℕ) → nat_eq n k ≡ true → n ≡ k
is_key n k is = grind (arith, nat_tests)

has_own : (key : ℕ) (logged : Logged) (cell : Cell) → logged ≡ Published cell → cell.key ≡ key → has_key key logged ≡ true
has_own key logged cell e same = ap (has_key key) e ∙ (let own : nat_eq cell.key key ≡ true = grind (arith, nat_tests, same) in own)

module _ (s : Sweeper) (log : Log) (chains : AreChains (home_in s.shape.bucket_bits) log) (none : log.cells 0 ≡ Unborn) where
  abbrev H : ℕ → ℕ
  H = home_in s.shape.bucket_bits

  -- one that stands above is no newer than the newest
  newest_above : (key : ℕ) → StandsAbove s.shape.bucket_bits s.to.0 (swept_log log) (record { 0 = key }) → s.to.0 ≤ newest_of H log key
  newest_above key above =
      let is_in : IsIn above.addr (log.chains (H key)) = in_trace above.addr (log.chains (H key)) above.in_chain in
      let its = is_of_key log (record { 0 = key }) above.addr above.its_key in
      let passes : has_key key (log.cells above.addr) ≡ true = has_own key (log.cells above.addr) its.cell its.its its.same in
      let upto = first_upto (has_key key) log.cells (log.chains (H key)) (chains.linked (H key)) above.addr is_in passes in
      let over = above.above in
      omega (arith, upto, over)

  pub live_swept : s.at.0 ≡ s.to.0 → Swept s (swept_log log) → Live s.from.0 H log → Live s.to.0 H log
  live_swept done passed live key = elim (live key) [
    | inr absent ↦ inr absent
    | inl on ↦ elim (first_is (has_key key) log.cells (log.chains (H key))) [
      | inl nowhere ↦ inr (ap (λ n. value_at (log.cells n)) nowhere ∙ ap value_at none)
      | inr some ↦ elim (cases_lt (newest_of H log key) s.to.0) [
        | inr high ↦ inl high
        | inl low ↦
            let its = chains.in_chain (H key) (newest_of H log key) some.0 in
            let same : its.cell.key ≡ key = is_key its.cell.key key (sym (ap (has_key key) its.its) ∙ some.1) in
            elim (passed (newest_of H log key) _ on (omega (arith, low, done)) (ap standing_at its.its)) [
              | inl gone ↦ inr (ap value_at its.its ∙ none_shown its.cell.value gone)
              | inr above ↦ inl (newest_above key (subst (λ (n : ℕ). StandsAbove s.shape.bucket_bits s.to.0 (swept_log log) (record { 0 = n })) same above))
            ]
      ]
    ]
  ]
