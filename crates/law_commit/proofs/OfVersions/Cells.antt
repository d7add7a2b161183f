-- What the log's events make of the versions of its records: a record that is there keeps its version, and one that is new is of the version for which its
-- address was taken.
use Rattle.std.proofs.Common.{◌≡◌, ◌⊎◌, inl, inr, ℕ, ◌<◌, ◌≤◌, ◌∙◌, List, [], ◌∷◌, ◌++◌, refl, arith, ap, sym, subst}
use Rattle.std.specs.Prelude.{Option, Some}
use Rattle.fkv_map.specs.declared.history.HistoryEntry.{HistoryEntry}
use Rattle.law_log.specs.Chains.{Cell, Logged, Unborn, Reserved, Published, Dropped}
use Rattle.law_log.specs.Ghosts.{Log, Ghosts, GhostEvent, Tells, FindsEntry, TakesValue, Reserves, Publishes, Drops, Changes, Fixes, set_at, changed, changed_by, dropped, published, log_after, ghosts_after, ghost_run}
use Rattle.law_log.proofs.Shown.{at_one}
use Rattle.law_refine.proofs.OfEvents.Below.{AreAbove}
use Rattle.law_commit.specs.Versions.Cells.{AllReserve, made_in}

-- ---- one event
set_made : (cells : ℕ → Logged) (b : ℕ) (x : Logged) (a : ℕ) → made_in x ≡ made_in (cells b) → made_in (set_at cells b x a) ≡ made_in (cells a)
set_made cells b x a same = elim (at_one cells b x a) [
  | inl here ↦ ap made_in here.1 ∙ (same ∙ ap (λ (i : ℕ). made_in (cells i)) (sym here.0))
  | inr there ↦ ap made_in there.1
]

published_made : (home : ℕ → ℕ) (log : Log) (b : ℕ) (logged : Logged) (a : ℕ) → log.cells b ≡ logged → made_in ((published home log b logged).cells a) ≡ made_in (log.cells a)
published_made home log b (Reserved entry cell) a its = set_made log.cells b (Published cell) a (sym (ap made_in its))
published_made home log b Unborn a its = refl
published_made home log b (Published cell) a its = refl
published_made home log b (Dropped cell) a its = refl

dropped_made : (log : Log) (b : ℕ) (logged : Logged) (a : ℕ) → log.cells b ≡ logged → made_in ((dropped log b logged).cells a) ≡ made_in (log.cells a)
dropped_made log b (Reserved entry cell) a its = set_made log.cells b (Dropped cell) a (sym (ap made_in its))
dropped_made log b Unborn a its = refl
dropped_made log b (Published cell) a its = refl
dropped_made log b (Dropped cell) a its = refl

changed_made : (log : Log) (b : ℕ) (entry : HistoryEntry) (logged : Logged) (a : ℕ) → log.cells b ≡ logged → made_in ((changed log b entry logged).cells a) ≡ made_in (log.cells a)
changed_made log b entry (Published cell) a its = set_made log.cells b (Published (changed_by entry cell)) a (sym (ap made_in its))
changed_made log b entry Unborn a its = refl
changed_made log b entry (Reserved other cell) a its = refl
changed_made log b entry (Dropped cell) a its = refl

-- the event takes the address for a record of this version
abbrev pub Takes : GhostEvent → ℕ → Option ℕ → Type 0
Takes (Reserves b entry cell) a made = (a ≡ b) × (made ≡ Some cell.version)
Takes event a made = ⊥

taken_made : (cells : ℕ → Logged) (b : ℕ) (entry : HistoryEntry) (cell : Cell) (a : ℕ)
    → (made_in (set_at cells b (Reserved entry cell) a) ≡ made_in (cells a)) ⊎ Takes (Reserves b entry cell) a (made_in (set_at cells b (Reserved entry cell) a))
taken_made cells b entry cell a = elim (at_one cells b (Reserved entry cell) a) [
  | inl here ↦ inr (here.0, ap made_in here.1)
  | inr there ↦ inl (ap made_in there.1)
]

pub one_made : (home : ℕ → ℕ) (log : Log) (event : GhostEvent) (a : ℕ)
    → (made_in ((log_after home log event).cells a) ≡ made_in (log.cells a)) ⊎ Takes event a (made_in ((log_after home log event).cells a))
one_made home log (Reserves b entry cell) a = taken_made log.cells b entry cell a
one_made home log (Publishes b) a = inl (published_made home log b (log.cells b) a refl)
one_made home log (Drops b) a = inl (dropped_made log b (log.cells b) a refl)
one_made home log (Changes b entry) a = inl (changed_made log b entry (log.cells b) a refl)
one_made home log (Tells line) a = inl refl
one_made home log (FindsEntry reader) a = inl refl
one_made home log (TakesValue reader) a = inl refl
one_made home log (Fixes b) a = inl refl

-- ---- where addresses are taken for records of such versions
some_one : (v w : ℕ) → Some v ≡ Some w → v ≡ w
some_one v w e = cc

takes_so : (P : ℕ → Type 0) (event : GhostEvent) (a : ℕ) (made : Option ℕ) (version : ℕ) → AllReserve P (event ∷ []) → Takes event a made → made ≡ Some version → P version
takes_so P (Reserves b entry cell) a made version all takes its = subst P (some_one cell.version version (sym takes.1 ∙ its)) all.0
takes_so P (Publishes b) a made version all takes its = absurd takes
takes_so P (Drops b) a made version all takes its = absurd takes
takes_so P (Changes b entry) a made version all takes its = absurd takes
takes_so P (Tells line) a made version all takes its = absurd takes
takes_so P (FindsEntry reader) a made version all takes its = absurd takes
takes_so P (TakesValue reader) a made version all takes its = absurd takes
takes_so P (Fixes b) a made version all takes its = absurd takes

-- a record is as it was before these events, or of such a version
pub made_so : (P : ℕ → Type 0) (home : ℕ → ℕ) (g : Ghosts) (later before : List GhostEvent) (a version : ℕ) → AllReserve P later → made_in ((ghost_run home g (later ++ before)).log.cells a) ≡ Some version
    → (made_in ((ghost_run home g before).log.cells a) ≡ Some version) ⊎ P version
unfolding ghost_run ghosts_after
made_so P home g [] before a version all its = inl its
made_so P home g (event ∷ later) before a version all its = elim (one_made home (ghost_run home g (later ++ before)).log event a) [
  | inl same ↦ made_so P home g later before a version all.1 (sym same ∙ its)
  | inr takes ↦ inr (takes_so P event a _ version (all.0, tt) takes its)
]

-- ---- where they are taken above
not_above : (bound a b : ℕ) → bound ≤ b → a < bound → a ≡ b → ⊥
not_above bound a b high low same = omega (arith, high, low, same)

takes_none : (bound a : ℕ) (event : GhostEvent) (made : Option ℕ) → AreAbove bound (event ∷ []) → a < bound → Takes event a made → ⊥
takes_none bound a (Reserves b entry cell) made above low takes = not_above bound a b above.0 low takes.0
takes_none bound a (Publishes b) made above low takes = takes
takes_none bound a (Drops b) made above low takes = takes
takes_none bound a (Changes b entry) made above low takes = takes
takes_none bound a (Tells line) made above low takes = takes
takes_none bound a (FindsEntry reader) made above low takes = takes
takes_none bound a (TakesValue reader) made above low takes = takes
takes_none bound a (Fixes b) made above low takes = takes

-- a record below is as it was before
pub kept_made : (bound : ℕ) (home : ℕ → ℕ) (g : Ghosts) (later before : List GhostEvent) (a : ℕ) → AreAbove bound later → a < bound
    → made_in ((ghost_run home g (later ++ before)).log.cells a) ≡ made_in ((ghost_run home g before).log.cells a)
unfolding ghost_run ghosts_after
kept_made bound home g [] before a above low = refl
kept_made bound home g (event ∷ later) before a above low = elim (one_made home (ghost_run home g (later ++ before)).log event a) [
  | inl same ↦ same ∙ kept_made bound home g later before a above.1 low
  | inr takes ↦ absurd (takes_none bound a event _ (above.0, tt) low takes)
]
