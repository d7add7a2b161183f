-- What stays as a home gets no later version stays along the events of the log that a step is.
use Rattle.std.proofs.Common.{◌≡◌, ℕ, ◌<◌, ◌∙◌, ap, List, [], ◌∷◌, ◌++◌}
use Rattle.fkv_map.specs.declared.history.HistoryEntry.{HistoryEntry}
use Rattle.fkv_map.specs.Map.{Map}
use Rattle.std.specs.Prelude.{Option}
use Rattle.law_apart.specs.Apart.Rows.{RaisesNone}
use Rattle.law_apart.proofs.OfApart.Raises.{StandsAlready, event_raises}
use Rattle.law_log.specs.Chains.{Cell, Reserved}
use Rattle.law_log.specs.Enabled.{AreEnabled}
use Rattle.law_log.specs.Enabled as order
use Rattle.law_log.specs.Ghosts.{Changes, Drops, FindsEntry, Fixes, GhostEvent, Ghosts, Log, Publishes, Reserves, TakesValue, Tells, ghost_run, ghosts_after, log_after}
use Rattle.law_log.proofs.Shown.{Grows, Held, log_steps, run_held}
use Rattle.law_commit.specs.Below.law_refine.Events.Effects.{AreQuiet, Behind, ByRecord, InPlace, PublishesIt, Quietly, Stepped, TakesEffect, is_quiet}
use Rattle.law_commit.specs.Below.law_refine.Events.Reservations.{Reservation}

-- what a step publishes at this home is of no later version than this, or its home has one already
abbrev pub PublishesApart : (ℕ → ℕ) → Stepped → Log → ℕ → ℕ → Type 0
PublishesApart home its_step log h w =
    (its : Reservation) (entry : HistoryEntry) (cell : Cell) → PublishesIt its_step its → log.cells its.addr ≡ Reserved entry cell → home cell.key ≡ h → w < cell.version → StandsAlready log h w

quiet_not : (event : GhostEvent) (b : ℕ) → is_quiet event → event ≡ Publishes b → ⊥
quiet_not (Publishes a) b quiet e = quiet
quiet_not (Changes a entry) b quiet e = quiet
quiet_not (Tells line) b quiet e = cc
quiet_not (FindsEntry reader) b quiet e = cc
quiet_not (TakesValue reader) b quiet e = cc
quiet_not (Reserves a entry cell) b quiet e = cc
quiet_not (Drops a) b quiet e = cc
quiet_not (Fixes a) b quiet e = cc

module _ (home : ℕ → ℕ) (m : Map) (number : ℕ) (g : Ghosts) (opened : order.IsOpened home m number g) where
  abbrev log_then : List GhostEvent → Log
  log_then events = (ghost_run home g events).log

  -- P stays as the log grows where S gives that this home gets no later version than w
  module _ (P : Log → Type 0) (S : Type 0) (h w : ℕ) (grows : (log log' : Log) → Held home m log → Grows home m log log' → (S → RaisesNone log log' h w) → P log → P log') where
    one_on : (event : GhostEvent) (before : List GhostEvent) → AreEnabled home g (event ∷ before)
        → (S → (b : ℕ) (entry : HistoryEntry) (cell : Cell) → event ≡ Publishes b → (log_then before).cells b ≡ Reserved entry cell → home cell.key ≡ h → w < cell.version → StandsAlready (log_then before) h w)
        → P (log_then before) → P (log_then (event ∷ before))
    unfolding AreEnabled ghosts_after ghost_run
    one_on event before enabled already its =
        let held : Held home m (log_then before) = run_held home m number g before opened enabled.0 in
        let steps = log_steps home m (ghost_run home g before) event held enabled.1 in
        grows (log_then before) (log_after home (log_then before) event) held steps.grows (λ s. event_raises home (log_then before) event h w held.chains (already s)) its

    quiet_on : (event : GhostEvent) (before : List GhostEvent) → is_quiet event → AreEnabled home g (event ∷ before) → P (log_then before) → P (log_then (event ∷ before))
    quiet_on event before quiet enabled its = one_on event before enabled (λ s b entry cell e. absurd (quiet_not event b quiet e)) its

    quiet_along : (later before : List GhostEvent) → AreQuiet later → AreEnabled home g (later ++ before) → P (log_then before) → P (log_then (later ++ before))
    unfolding AreEnabled
    quiet_along [] before quiet enabled its = its
    quiet_along (event ∷ later) before quiet enabled its = quiet_on event (later ++ before) quiet.0 enabled (quiet_along later before quiet.1 enabled.0 its)

    pub takes_along : (its_step : Stepped) (later before : List GhostEvent) (made : Option HistoryEntry) → TakesEffect its_step later made → AreEnabled home g (later ++ before) → (S → PublishesApart home its_step (log_then before) h w)
        → P (log_then before) → P (log_then (later ++ before))
    unfolding AreEnabled
    takes_along its_step later before made (Quietly events quiet) enabled apart its = quiet_along later before quiet enabled its
    takes_along its_step (event ∷ later) before made (Behind other quiet takes) enabled apart its = quiet_on event (later ++ before) quiet enabled (takes_along its_step later before made takes enabled.0 apart its)
    takes_along its_step later before made (InPlace a entry changes) enabled apart its = one_on (Changes a entry) before enabled (λ s b other cell e. let clash : Changes a entry ≡ Publishes b = e in cc) its
    takes_along its_step later before made (ByRecord it publishes) enabled apart its =
        one_on (Publishes it.addr) before enabled (λ s b entry cell e there. let same : it.addr ≡ b = cc in apart s it entry cell publishes (subst_at same there)) its
      where
        subst_at : {b : ℕ} {entry : HistoryEntry} {cell : Cell} → it.addr ≡ b → (log_then before).cells b ≡ Reserved entry cell → (log_then before).cells it.addr ≡ Reserved entry cell
        subst_at same there = ap (log_then before).cells same ∙ there
