-- How an event of the log leaves it shown by the words that stand.
use Rattle.std.proofs.Common.{◌≡◌, ◌≢◌, ℕ, ◌≤◌, ◌∙◌, inl, inr, sym, subst, List, [], ◌∷◌, ◌++◌}
use Rattle.fkv_map.specs.declared.history.HistoryEntry.{HistoryEntry}
use Rattle.law_log.specs.Chains.{Cell, Logged, Reserved, Published, Dropped}
use Rattle.law_log.specs.Ghosts.{Log, Ghosts, GhostEvent, Reserves, Publishes, Drops, Changes, set_at, published, dropped, changed, changed_by, log_after, ghosts_after, ghost_run}
use Rattle.law_log.proofs.Shown.{at_one}
use Rattle.law_refine.specs.Events.Effects.{is_quiet, AreQuiet}
use Rattle.law_refine.specs.Records.Cells.{ShowsCell, StandsShowLog}
use Rattle.law_refine.proofs.OfRecords.AppendRows.{Standing}

pub published_cell : (one other : Cell) → Published one ≡ Published other → one ≡ other
published_cell one other e = cc

-- ---- where no record is published or changed, what is published was
set_was : (cells : ℕ → Logged) (b a : ℕ) (x : Logged) (cell : Cell) → ((its : Cell) → x ≡ Published its → ⊥) → set_at cells b x a ≡ Published cell → cells a ≡ Published cell
set_was cells b a x cell other e = elim (at_one cells b x a) [
  | inl here ↦ absurd (other cell (sym here.1 ∙ e))
  | inr there ↦ sym there.1 ∙ e
]

dropped_was : (log : Log) (b a : ℕ) (logged : Logged) (cell : Cell) → (dropped log b logged).cells a ≡ Published cell → log.cells a ≡ Published cell
dropped_was log b a (Reserved entry its) cell e = set_was log.cells b a (Dropped its) cell (λ it same. cc) e
dropped_was log b a logged cell e = e

quiet_was : (home : ℕ → ℕ) (log : Log) (event : GhostEvent) (a : ℕ) (cell : Cell) → is_quiet event → (log_after home log event).cells a ≡ Published cell → log.cells a ≡ Published cell
quiet_was home log (Reserves b entry its) a cell quiet e = set_was log.cells b a (Reserved entry its) cell (λ it same. cc) e
quiet_was home log (Drops b) a cell quiet e = dropped_was log b a (log.cells b) cell e
quiet_was home log (Publishes b) a cell quiet e = absurd quiet
quiet_was home log (Changes b entry) a cell quiet e = absurd quiet
quiet_was home log event a cell quiet e = e

pub quiet_run : (home : ℕ → ℕ) (g : Ghosts) (events : List GhostEvent) (a : ℕ) (cell : Cell) → AreQuiet events → (ghost_run home g events).log.cells a ≡ Published cell → g.log.cells a ≡ Published cell
unfolding ghost_run ghosts_after
quiet_run home g [] a cell quiet e = e
quiet_run home g (event ∷ before) a cell quiet e = quiet_run home g before a cell quiet.1 (quiet_was home (ghost_run home g before).log event a cell quiet.0 e)

-- ---- so it stays shown
pub quiet_shows : (home : ℕ → ℕ) (start : ℕ) (stands : Standing) (log : Log) (event : GhostEvent) → is_quiet event → StandsShowLog start stands log → StandsShowLog start stands (log_after home log event)
quiet_shows home start stands log event quiet shows = λ a cell above e. shows a cell above (quiet_was home log event a cell quiet e)

pub quiet_behind : (home : ℕ → ℕ) (start : ℕ) (stands : Standing) (g : Ghosts) (later before : List GhostEvent) → AreQuiet later → StandsShowLog start stands (ghost_run home g before).log → StandsShowLog start stands (ghost_run home g (later ++ before)).log
unfolding ghost_run ghosts_after
quiet_behind home start stands g [] before quiet shows = shows
quiet_behind home start stands g (event ∷ later) before quiet shows = quiet_shows home start stands (ghost_run home g (later ++ before)).log event quiet.0 (quiet_behind home start stands g later before quiet.1 shows)

-- the other records are shown
abbrev pub OthersShow : ℕ → Standing → Log → ℕ → Type 0
OthersShow start stands log a = (b : ℕ) (cell : Cell) → b ≢ a → start ≤ b → log.cells b ≡ Published cell → ShowsCell (stands b) cell

set_shows : (start : ℕ) (stands : Standing) (log : Log) (a : ℕ) (new : Cell) (b : ℕ) (cell : Cell) → OthersShow start stands log a → ShowsCell (stands a) new → start ≤ b → set_at log.cells a (Published new) b ≡ Published cell → ShowsCell (stands b) cell
set_shows start stands log a new b cell others shows above e = elim (at_one log.cells a (Published new) b) [
  | inl here ↦
      let its : new ≡ cell = published_cell new cell (sym here.1 ∙ e) in
      subst (λ (x : ℕ). ShowsCell (stands x) cell) (sym here.0) (subst (λ (c : Cell). ShowsCell (stands a) c) its shows)
  | inr there ↦ others b cell there.0 above (sym there.1 ∙ e)
]

-- a record changes in place
pub change_shows : (start : ℕ) (stands : Standing) (log : Log) (a : ℕ) (entry : HistoryEntry) (cell : Cell) (logged : Logged) → logged ≡ Published cell → OthersShow start stands log a → ShowsCell (stands a) (changed_by entry cell)
    → StandsShowLog start stands (changed log a entry logged)
change_shows start stands log a entry cell logged e others shows =
    subst (λ (x : Logged). StandsShowLog start stands (changed log a entry x)) (sym e) (λ b its above is. set_shows start stands log a (changed_by entry cell) b its others shows above is)

-- and one is published
pub publish_shows : (home : ℕ → ℕ) (start : ℕ) (stands : Standing) (log : Log) (a : ℕ) (entry : HistoryEntry) (cell : Cell) (logged : Logged) → logged ≡ Reserved entry cell → OthersShow start stands log a → ShowsCell (stands a) cell
    → StandsShowLog start stands (published home log a logged)
publish_shows home start stands log a entry cell logged e others shows =
    subst (λ (x : Logged). StandsShowLog start stands (published home log a x)) (sym e) (λ b its above is. set_shows start stands log a cell b its others shows above is)
