-- The records of a log fit in words if what is made fits for operations that fit, and all that has taken effect does.
use Rattle.std.proofs.Common.{ℕ, ◌<◌, ◌≤◌, inl, inr, sym, subst, List, [], ◌∷◌, ◌++◌}
use Rattle.std.specs.Prelude.{⊤}
use Rattle.fkv_map.specs.Fits.{OpFits}
use Rattle.fkv_map.specs.declared.history.HistoryEntry.{HistoryEntry}
use Rattle.law_opening.proofs.OfChanges.OfFits.Numbers.{applied_fits}
use Rattle.law_opening.specs.Changes.Fits.{CellFits}
use Rattle.law_log.proofs.Shown.{at_one}
use Rattle.law_log.specs.Chains.{Cell, Logged, Reserved, Published, Dropped}
use Rattle.law_log.specs.Ghosts.{Log, Ghosts, GhostEvent, Tells, FindsEntry, TakesValue, Reserves, Publishes, Drops, Changes, Fixes, set_at, published, dropped, changed, changed_by, log_after, ghosts_after, ghost_run}
use Rattle.law_refine.proofs.OfRecords.LogHeaders.{AllFall, falls_at}
use Rattle.law_refine.specs.Calls.Calls.{entries_of}

-- ---- what has taken effect
abbrev pub AllOpsFit : List HistoryEntry → Type 0
AllOpsFit [] = ⊤
AllOpsFit (entry ∷ before) = OpFits entry.op × AllOpsFit before

abbrev pub HistoryFits : Log → Type 0
HistoryFits log = AllOpsFit (entries_of log.history)

-- ---- what is made
-- a record that is made for an operation that fits is one that fits
abbrev pub makes_fit : GhostEvent → Type 0
makes_fit (Reserves a entry cell) = OpFits entry.op → CellFits cell
makes_fit event = ⊤

abbrev pub AllMakeFit : List GhostEvent → Type 0
AllMakeFit [] = ⊤
AllMakeFit (event ∷ before) = makes_fit event × AllMakeFit before

pub both_make : (later before : List GhostEvent) → AllMakeFit later → AllMakeFit before → AllMakeFit (later ++ before)
both_make [] before one other = other
both_make (event ∷ later) before one other = (one.0, both_make later before one.1 other)

-- ---- the records
-- each fits, and from one address on each leads below itself
abbrev pub IsCellOk : ℕ → ℕ → Cell → Type 0
IsCellOk start a cell = CellFits cell × (start ≤ a → cell.previous < a)

abbrev pub LoggedOk : ℕ → ℕ → Logged → Type 0
LoggedOk start a (Published cell) = IsCellOk start a cell
LoggedOk start a (Reserved entry cell) = (OpFits entry.op → CellFits cell) × (start ≤ a → cell.previous < a)
LoggedOk start a logged = ⊤

abbrev pub LogOk : ℕ → Log → Type 0
LogOk start log = (a : ℕ) → LoggedOk start a (log.cells a)

put_ok : (start : ℕ) (cells : ℕ → Logged) (b : ℕ) (x : Logged) → ((a : ℕ) → LoggedOk start a (cells a)) → LoggedOk start b x → (a : ℕ) → LoggedOk start a (set_at cells b x a)
put_ok start cells b x was ok a = elim (at_one cells b x a) [
  | inl here ↦ subst (LoggedOk start a) (sym here.1) (subst (λ (i : ℕ). LoggedOk start i x) (sym here.0) ok)
  | inr there ↦ subst (LoggedOk start a) (sym there.1) (was a)
]

publish_ok : (home : ℕ → ℕ) (start : ℕ) (log : Log) (b : ℕ) (logged : Logged) → LoggedOk start b logged → HistoryFits (published home log b logged) → LogOk start log → LogOk start (published home log b logged)
publish_ok home start log b (Reserved entry cell) ok fits was = put_ok start log.cells b (Published cell) was (ok.0 fits.0, ok.1)
publish_ok home start log b logged ok fits was = was

drop_ok : (start : ℕ) (log : Log) (b : ℕ) (logged : Logged) → LogOk start log → LogOk start (dropped log b logged)
drop_ok start log b (Reserved entry cell) was = put_ok start log.cells b (Dropped cell) was tt
drop_ok start log b logged was = was

change_ok : (start : ℕ) (log : Log) (b : ℕ) (entry : HistoryEntry) (logged : Logged) → LoggedOk start b logged → HistoryFits (changed log b entry logged) → LogOk start log → LogOk start (changed log b entry logged)
change_ok start log b entry (Published cell) ok fits was = put_ok start log.cells b (Published (changed_by entry cell)) was ((ok.0.0, applied_fits cell.value entry.op ok.0.1 fits.0), ok.1)
change_ok start log b entry logged ok fits was = was

one_ok : (home : ℕ → ℕ) (start : ℕ) (log : Log) (event : GhostEvent) → makes_fit event → falls_at event → HistoryFits (log_after home log event) → LogOk start log → LogOk start (log_after home log event)
one_ok home start log (Reserves b entry cell) makes falls fits was = put_ok start log.cells b (Reserved entry cell) was (makes, λ high. falls)
one_ok home start log (Publishes b) makes falls fits was = publish_ok home start log b (log.cells b) (was b) fits was
one_ok home start log (Drops b) makes falls fits was = drop_ok start log b (log.cells b) was
one_ok home start log (Changes b entry) makes falls fits was = change_ok start log b entry (log.cells b) (was b) fits was
one_ok home start log (Tells line) makes falls fits was = was
one_ok home start log (FindsEntry reader) makes falls fits was = was
one_ok home start log (TakesValue reader) makes falls fits was = was
one_ok home start log (Fixes b) makes falls fits was = was

-- what had taken effect before an event has so behind it
published_before : (home : ℕ → ℕ) (log : Log) (b : ℕ) (logged : Logged) → HistoryFits (published home log b logged) → HistoryFits log
published_before home log b (Reserved entry cell) fits = fits.1
published_before home log b logged fits = fits

dropped_before : (log : Log) (b : ℕ) (logged : Logged) → HistoryFits (dropped log b logged) → HistoryFits log
dropped_before log b (Reserved entry cell) fits = fits
dropped_before log b logged fits = fits

changed_before : (log : Log) (b : ℕ) (entry : HistoryEntry) (logged : Logged) → HistoryFits (changed log b entry logged) → HistoryFits log
changed_before log b entry (Published cell) fits = fits.1
changed_before log b entry logged fits = fits

one_before : (home : ℕ → ℕ) (log : Log) (event : GhostEvent) → HistoryFits (log_after home log event) → HistoryFits log
one_before home log (Publishes b) fits = published_before home log b (log.cells b) fits
one_before home log (Drops b) fits = dropped_before log b (log.cells b) fits
one_before home log (Changes b entry) fits = changed_before log b entry (log.cells b) fits
one_before home log (Reserves b entry cell) fits = fits
one_before home log (Tells line) fits = fits
one_before home log (FindsEntry reader) fits = fits
one_before home log (TakesValue reader) fits = fits
one_before home log (Fixes b) fits = fits

pub behind_ok : (home : ℕ → ℕ) (start : ℕ) (g : Ghosts) (later before : List GhostEvent) → AllMakeFit later → AllFall later → HistoryFits (ghost_run home g (later ++ before)).log → LogOk start (ghost_run home g before).log
    → LogOk start (ghost_run home g (later ++ before)).log
unfolding ghost_run ghosts_after
behind_ok home start g [] before makes falls fits was = was
behind_ok home start g (event ∷ later) before makes falls fits was =
    let log : Log = (ghost_run home g (later ++ before)).log in
    one_ok home start log event makes.0 falls.0 fits (behind_ok home start g later before makes.1 falls.1 (one_before home log event fits) was)
