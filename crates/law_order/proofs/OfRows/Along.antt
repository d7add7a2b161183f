-- What a request that waits and an attempt know stays along the log's events of one event of a life.
use Rattle.std.proofs.Common.{ℕ, List, [], ◌∷◌, ◌++◌}
use Rattle.std.specs.Prelude.{Option}
use Rattle.fkv_map.specs.declared.history.HistoryEntry.{HistoryEntry}
use Rattle.fkv_map.specs.Map.{Map}
use Rattle.law_log.specs.Ghosts.{Changes, Log, Ghosts, GhostEvent, Publishes, log_after, ghosts_after, ghost_run}
use Rattle.law_log.specs.Enabled as order
use Rattle.law_log.specs.Enabled.{AreEnabled}
use Rattle.law_log.proofs.Shown.{Held, log_steps, run_held}
use Rattle.law_commit.specs.Below.fkv_ops.Seen.{Seen}
use Rattle.law_commit.specs.Below.fkv_pending.PendingRequest.{PendingRequest}
use Rattle.law_commit.specs.Below.fkv_pending.Attempting.{AttemptState}
use Rattle.law_commit.specs.Below.law_local.Tries.AttemptRows.{AttemptKnows, KeepsForAttempt, PendingKnows}
use Rattle.law_commit.proofs.Below.law_local.OfTries.AttemptGrows.{attempt_grows, pending_grows}
use Rattle.law_order.proofs.OfRows.Changed.{AllChange}
use Rattle.law_order.proofs.OfRows.Kept.{IsNoChange, quiet_no_change, still_keeps}
use Rattle.law_commit.specs.Below.law_refine.Events.Effects.{AreQuiet, Behind, ByRecord, InPlace, Quietly, Stepped, TakesEffect}

-- what is enabled after a list is enabled before it
module _ (home : ℕ → ℕ) (m : Map) (number : ℕ) (g : Ghosts) (opened : order.IsOpened home m number g) where
  -- the log behind these events
  abbrev log_then : List GhostEvent → Log
  log_then events = (ghost_run home g events).log

  pub pending_along : (pending : PendingRequest) (seen : Seen) (later before : List GhostEvent) → AreEnabled home g (later ++ before) → PendingKnows home (ghost_run home g before).log pending seen → PendingKnows home (ghost_run home g (later ++ before)).log pending seen
  unfolding AreEnabled ghosts_after ghost_run
  pending_along pending seen [] before enabled knows = knows
  pending_along pending seen (event ∷ later) before enabled knows =
      let held : Held home m (log_then (later ++ before)) = run_held home m number g (later ++ before) opened enabled.0 in
      let steps = log_steps home m (ghost_run home g (later ++ before)) event held enabled.1 in
      pending_grows home m (log_then (later ++ before)) (log_after home (log_then (later ++ before)) event) pending seen held steps.grows (pending_along pending seen later before enabled.0 knows)

  -- of an attempt so it is where no change in place touches what it copies
  module _ (a : AttemptState) where
    change_along : (at : ℕ) (entry : HistoryEntry) (before : List GhostEvent) → AreEnabled home g (Changes at entry ∷ before) → KeepsForAttempt home (log_then before) (log_after home (log_then before) (Changes at entry)) a a.step
        → AttemptKnows home (log_then before) a → AttemptKnows home (log_then (Changes at entry ∷ before)) a
    unfolding AreEnabled ghosts_after ghost_run
    change_along at entry before enabled keeps knows =
        let held : Held home m (log_then before) = run_held home m number g before opened enabled.0 in
        let steps = log_steps home m (ghost_run home g before) (Changes at entry) held enabled.1 in
        attempt_grows home m (log_then before) (log_after home (log_then before) (Changes at entry)) a held steps.grows keeps knows

    still_along : (event : GhostEvent) (before : List GhostEvent) → IsNoChange event → AreEnabled home g (event ∷ before) → AttemptKnows home (log_then before) a → AttemptKnows home (log_then (event ∷ before)) a
    unfolding AreEnabled ghosts_after ghost_run
    still_along event before none enabled knows =
        let held : Held home m (log_then before) = run_held home m number g before opened enabled.0 in
        let steps = log_steps home m (ghost_run home g before) event held enabled.1 in
        attempt_grows home m (log_then before) (log_after home (log_then before) event) a held steps.grows (still_keeps home m (ghost_run home g before) event a held steps.grows none enabled.1) knows

    quiet_along : (later before : List GhostEvent) → AreQuiet later → AreEnabled home g (later ++ before) → AttemptKnows home (log_then before) a → AttemptKnows home (log_then (later ++ before)) a
    unfolding AreEnabled
    quiet_along [] before quiet enabled knows = knows
    quiet_along (event ∷ later) before quiet enabled knows = still_along event (later ++ before) (quiet_no_change event quiet.0) enabled (quiet_along later before quiet.1 enabled.0 knows)

    pub attempt_along : (P : ℕ → Type 0) (its_step : Stepped) (later before : List GhostEvent) (made : Option HistoryEntry) → TakesEffect its_step later made → AllChange P later → AreEnabled home g (later ++ before)
        → ((at : ℕ) (entry : HistoryEntry) → P at → KeepsForAttempt home (log_then before) (log_after home (log_then before) (Changes at entry)) a a.step)
        → AttemptKnows home (log_then before) a → AttemptKnows home (log_then (later ++ before)) a
    unfolding AreEnabled
    attempt_along P its_step later before made (Quietly events quiet) changes enabled keeps knows = quiet_along later before quiet enabled knows
    attempt_along P its_step (event ∷ later) before made (Behind other quiet takes) changes enabled keeps knows =
        still_along event (later ++ before) (quiet_no_change event quiet) enabled (attempt_along P its_step later before made takes changes.1 enabled.0 keeps knows)
    attempt_along P its_step later before made (InPlace at entry is) changes enabled keeps knows = change_along at entry before enabled (keeps at entry changes.0) knows
    attempt_along P its_step later before made (ByRecord its publishes) changes enabled keeps knows = still_along (Publishes its.addr) before tt enabled knows
