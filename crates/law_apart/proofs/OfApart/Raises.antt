-- Which events of the log bring a later version into a chain: a record that is published, and nothing else.
use Rattle.std.proofs.Common.{◌≡◌, ◌⊎◌, inl, inr, ℕ, ◌<◌, ◌≤◌, refl, sym, ap, ◌∙◌, subst, arith, List, [], ◌∷◌}
use Rattle.fkv_map.specs.declared.history.HistoryEntry.{HistoryEntry}
use Rattle.law_log.specs.Chains.{Cell, Dropped, Logged, Published, Reserved, Unborn, version_at}
use Rattle.law_log.specs.Enabled.{AreChains}
use Rattle.law_log.specs.Ghosts.{Changes, Drops, FindsEntry, Fixes, GhostEvent, Log, Publishes, Reserves, TakesValue, Tells, changed, changed_by, dropped, log_after, published, set_at}
use Rattle.law_log.specs.Trace.{IsIn}
use Rattle.law_log.proofs.Shown.{at_one, not_reserved}
use Rattle.law_apart.specs.Apart.Rows.{RaisesNone}

-- ---- chains that stay
stays_so : (log log' : Log) (h w : ℕ) → log'.chains ≡ log.chains → ((a : ℕ) → w < version_at (log'.cells a) → w < version_at (log.cells a)) → RaisesNone log log' h w
stays_so log log' h w same keeps a is_in high = (a, subst (λ (chains : ℕ → List ℕ). IsIn a (chains h)) same is_in, keeps a high)

pub same_raises : (log : Log) (h w : ℕ) → RaisesNone log log h w
same_raises log h w a is_in high = (a, is_in, high)

pub then_raises : (log between after : Log) (h w : ℕ) → RaisesNone log between h w → RaisesNone between after h w → RaisesNone log after h w
then_raises log between after h w one other a is_in high = let was = other a is_in high in one was.0 was.1 was.2

-- a cell that is set is of no later version than the one before
set_low : (cells : ℕ → Logged) (b : ℕ) (x : Logged) (a w : ℕ) → (w < version_at x → w < version_at (cells b)) → w < version_at (set_at cells b x a) → w < version_at (cells a)
set_low cells b x a w lower high = elim (at_one cells b x a) [
  | inl here ↦
      let is = ap version_at here.1 in
      let at : w < version_at x = omega (arith, high, is) in
      subst (λ (i : ℕ). w < version_at (cells i)) (sym here.0) (lower at)
  | inr there ↦ let is = ap version_at there.1 in omega (arith, high, is)
]

none_below : {X : Type 0} (w : ℕ) → w < 0 → X
none_below w high = absurd (omega (arith, high))

dropped_raises : (log : Log) (b h w : ℕ) (logged : Logged) → RaisesNone log (dropped log b logged) h w
dropped_raises log b h w (Reserved entry cell) = stays_so log (dropped log b (Reserved entry cell)) h w refl (λ a high. set_low log.cells b (Dropped cell) a w (λ low. none_below w low) high)
dropped_raises log b h w Unborn = same_raises log h w
dropped_raises log b h w (Published cell) = same_raises log h w
dropped_raises log b h w (Dropped cell) = same_raises log h w

changed_raises : (log : Log) (b h w : ℕ) (entry : HistoryEntry) (logged : Logged) → log.cells b ≡ logged → RaisesNone log (changed log b entry logged) h w
changed_raises log b h w entry (Published cell) its =
    stays_so log (changed log b entry (Published cell)) h w refl (λ a high. set_low log.cells b (Published (changed_by entry cell)) a w (λ low. let is = ap version_at its in omega (arith, low, is)) high)
changed_raises log b h w entry Unborn its = same_raises log h w
changed_raises log b h w entry (Reserved other cell) its = same_raises log h w
changed_raises log b h w entry (Dropped cell) its = same_raises log h w

-- ---- a record that is published
-- if it is of a later version, its home has one already
abbrev pub StandsAlready : Log → ℕ → ℕ → Type 0
StandsAlready log h w = (b : ℕ) × IsIn b (log.chains h) × (w < version_at (log.cells b))

published_cell : (home : ℕ → ℕ) (log : Log) (b h w a : ℕ) (entry : HistoryEntry) (cell : Cell) → AreChains home log → log.cells b ≡ Reserved entry cell → IsIn a (log.chains h) → w < version_at (set_at log.cells b (Published cell) a) → StandsAlready log h w
published_cell home log b h w a entry cell chains its is_in high = elim (at_one log.cells b (Published cell) a) [
  | inl here ↦
      let there = chains.in_chain h a is_in in
      absurd (not_reserved (log.cells a) there.cell cell entry there.its (ap log.cells here.0 ∙ its))
  | inr other ↦ let is = ap version_at other.1 in (a, is_in, omega (arith, high, is))
]

reserved_raises : (home : ℕ → ℕ) (log : Log) (b h w : ℕ) (entry : HistoryEntry) (cell : Cell) → AreChains home log → log.cells b ≡ Reserved entry cell → (home cell.key ≡ h → w < cell.version → StandsAlready log h w)
    → RaisesNone log (published home log b (Reserved entry cell)) h w
reserved_raises home log b h w entry cell chains its already a is_in high = elim (at_one log.chains (home cell.key) (b ∷ log.chains (home cell.key)) h) [
  | inl here ↦ of_home here.0 (subst (IsIn a) here.1 is_in)
  | inr other ↦ published_cell home log b h w a entry cell chains its (subst (IsIn a) other.1 is_in) high
]
  where
    new_there : b ≡ a → set_at log.cells b (Published cell) a ≡ Published cell
    new_there e = elim (at_one log.cells b (Published cell) a) [ inl at ↦ at.1 | inr not_at ↦ absurd (not_at.0 (sym e)) ]

    of_home : h ≡ home cell.key → IsIn a (b ∷ log.chains (home cell.key)) → StandsAlready log h w
    of_home same (inl here) = let is = ap version_at (new_there here) in already (sym same) (omega (arith, high, is))
    of_home same (inr older) = published_cell home log b h w a entry cell chains its (subst (λ (i : ℕ). IsIn a (log.chains i)) (sym same) older) high

published_raises : (home : ℕ → ℕ) (log : Log) (b h w : ℕ) (logged : Logged) → AreChains home log → log.cells b ≡ logged
    → ((entry : HistoryEntry) (cell : Cell) → logged ≡ Reserved entry cell → home cell.key ≡ h → w < cell.version → StandsAlready log h w) → RaisesNone log (published home log b logged) h w
published_raises home log b h w (Reserved entry cell) chains its already = reserved_raises home log b h w entry cell chains its (already entry cell refl)
published_raises home log b h w Unborn chains its already = same_raises log h w
published_raises home log b h w (Published cell) chains its already = same_raises log h w
published_raises home log b h w (Dropped cell) chains its already = same_raises log h w

-- ---- each event
pub event_raises : (home : ℕ → ℕ) (log : Log) (event : GhostEvent) (h w : ℕ) → AreChains home log
    → ((b : ℕ) (entry : HistoryEntry) (cell : Cell) → event ≡ Publishes b → log.cells b ≡ Reserved entry cell → home cell.key ≡ h → w < cell.version → StandsAlready log h w) → RaisesNone log (log_after home log event) h w
event_raises home log (Publishes b) h w chains already = published_raises home log b h w (log.cells b) chains refl (λ entry cell its. already b entry cell refl its)
event_raises home log (Reserves b entry cell) h w chains already =
    stays_so log (log_after home log (Reserves b entry cell)) h w refl (λ a high. set_low log.cells b (Reserved entry cell) a w (λ low. none_below w low) high)
event_raises home log (Drops b) h w chains already = dropped_raises log b h w (log.cells b)
event_raises home log (Changes b entry) h w chains already = changed_raises log b h w entry (log.cells b) refl
event_raises home log (Fixes b) h w chains already = stays_so log (log_after home log (Fixes b)) h w refl (λ a high. high)
event_raises home log (Tells line) h w chains already = same_raises log h w
event_raises home log (FindsEntry reader) h w chains already = same_raises log h w
event_raises home log (TakesValue reader) h w chains already = same_raises log h w
