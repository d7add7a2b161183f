-- A chain gets only records that were being made. So below where all is decided it has what it had.
use Rattle.std.proofs.Common.{◌≡◌, ◌⊎◌, inl, inr, ℕ, ◌<◌, ◌≤◌, ◌∙◌, List, [], ◌∷◌, ◌++◌, refl, arith, ap, subst, sym}
use Rattle.std.specs.Prelude.{◌↔◌}
use Rattle.std.proofs.lemmas.List.{append-nil}
use Rattle.fkv_map.specs.declared.history.HistoryEntry.{HistoryEntry}
use Rattle.law_refine.specs.Below.fkv_world.Runs.{World, run}
use Rattle.law_refine.specs.Below.fkv_world.World.{Event}
use Rattle.law_refine.specs.Below.law_world.Guarded.Shows as guard
use Rattle.law_log.specs.Chains.{Cell, Logged, Unborn, Reserved, Published, Dropped}
use Rattle.law_log.specs.Ghosts.{Log, Ghosts, GhostEvent, Tells, FindsEntry, TakesValue, Reserves, Publishes, Drops, Changes, Fixes, changed, dropped, ghost_run, ghosts_after, log_after, published}
use Rattle.law_log.specs.Trace.{IsIn}
use Rattle.law_refine.specs.Events.GhostEvents.{ghost_events, home_in, life_ghosts, mapped, serials_in}
use Rattle.law_refine.specs.Events.Reserved.{ReservesNothing, tail_at}
use Rattle.law_refine.proofs.OfEvents.Below.{AreAbove, event_above}
use Rattle.law_commit.specs.Decided.Cells.{DecidedBelow}
use Rattle.law_commit.proofs.OfCopied.Covers.{life_grown}
use Rattle.law_commit.proofs.OfDecided.Chained.{was_in}
use Rattle.law_commit.proofs.OfDecided.Lives.{stays_decided, tails_rise}
use Rattle.law_commit.proofs.OfDecided.Undecided.{was_reserved}

-- ---- a chain has only what it had, and records that were being made
record IsMaking (logged : Logged) : Type 0 where
  entry : HistoryEntry
  cell : Cell
  is : logged ≡ Reserved entry cell

published_chained : (home : ℕ → ℕ) (log : Log) (b : ℕ) (logged : Logged) (h a : ℕ) → log.cells b ≡ logged → IsIn a ((published home log b logged).chains h) → IsIn a (log.chains h) ⊎ IsMaking (log.cells a)
published_chained home log b (Reserved entry cell) h a its is_in = elim (was_in log.chains (home cell.key) b (b ∷ log.chains (home cell.key)) h a refl is_in) [
  | inl same ↦ inr (record { entry = entry; cell = cell; is = ap log.cells same ∙ its })
  | inr was ↦ inl was
]
published_chained home log b Unborn h a its is_in = inl is_in
published_chained home log b (Published cell) h a its is_in = inl is_in
published_chained home log b (Dropped cell) h a its is_in = inl is_in

dropped_chained : (log : Log) (b : ℕ) (logged : Logged) (h a : ℕ) → IsIn a ((dropped log b logged).chains h) → IsIn a (log.chains h)
dropped_chained log b (Reserved entry cell) h a is_in = is_in
dropped_chained log b Unborn h a is_in = is_in
dropped_chained log b (Published cell) h a is_in = is_in
dropped_chained log b (Dropped cell) h a is_in = is_in

changed_chained : (log : Log) (b : ℕ) (by : HistoryEntry) (logged : Logged) (h a : ℕ) → IsIn a ((changed log b by logged).chains h) → IsIn a (log.chains h)
changed_chained log b by (Published cell) h a is_in = is_in
changed_chained log b by Unborn h a is_in = is_in
changed_chained log b by (Reserved entry cell) h a is_in = is_in
changed_chained log b by (Dropped cell) h a is_in = is_in

one_chained : (home : ℕ → ℕ) (log : Log) (event : GhostEvent) (h a : ℕ) → IsIn a ((log_after home log event).chains h) → IsIn a (log.chains h) ⊎ IsMaking (log.cells a)
one_chained home log (Publishes b) h a is_in = published_chained home log b (log.cells b) h a refl is_in
one_chained home log (Drops b) h a is_in = inl (dropped_chained log b (log.cells b) h a is_in)
one_chained home log (Changes b by) h a is_in = inl (changed_chained log b by (log.cells b) h a is_in)
one_chained home log (Reserves b entry cell) h a is_in = inl is_in
one_chained home log (Tells line) h a is_in = inl is_in
one_chained home log (FindsEntry reader) h a is_in = inl is_in
one_chained home log (TakesValue reader) h a is_in = inl is_in
one_chained home log (Fixes b) h a is_in = inl is_in

-- so below where all is decided it has what it had
run_chained : (home : ℕ → ℕ) (g : Ghosts) (bound : ℕ) (later before : List GhostEvent) (h a : ℕ) → AreAbove bound later → a < bound → DecidedBelow bound (ghost_run home g before).log → IsIn a ((ghost_run home g (later ++ before)).log.chains h)
    → IsIn a ((ghost_run home g before).log.chains h)
unfolding ghost_run ghosts_after
run_chained home g bound [] before h a above low decided is_in = is_in
run_chained home g bound (event ∷ later) before h a above low decided is_in = elim (one_chained home (ghost_run home g (later ++ before)).log event h a is_in) [
  | inl was ↦ run_chained home g bound later before h a above.1 low decided was
  | inr making ↦ absurd (decided a making.entry making.cell low (was_reserved home g bound later before a making.entry making.cell above.1 low making.is))
]

module _ (opening : World) (start : ℕ) (ghosts : Ghosts) (guarded : guard.IsOpened opening.now start) (bound : ℕ) where
  high_stays : (later before : List Event) → bound ≤ tail_at (run opening before).now → bound ≤ tail_at (run opening (later ++ before)).now
  high_stays later before high = let up = tails_rise opening start later before guarded in omega (arith, high, up)

  pub life_chained : (later before : List Event) (h a : ℕ) → bound ≤ tail_at (run opening before).now → a < bound → DecidedBelow bound (life_ghosts opening ghosts before).log → IsIn a ((life_ghosts opening ghosts (later ++ before)).log.chains h)
      → IsIn a ((life_ghosts opening ghosts before).log.chains h)
  unfolding mapped
  life_chained [] before h a high low decided is_in = is_in
  life_chained (event ∷ later) before h a high low decided is_in =
      life_chained later before h a high low decided
      (run_chained (home_in opening.now.shape.bucket_bits) ghosts bound (ghost_events (serials_in opening.now) (run opening (later ++ before)) event) (mapped opening (later ++ before)) h a
      (event_above opening start bound (later ++ before) event guarded (high_stays later before high)) low (stays_decided opening start ghosts later before bound guarded high decided) is_in)

-- ---- what the chains had as the life began
pub keeps_old : (opening : World) (start : ℕ) (ghosts : Ghosts) (events : List Event) (h a : ℕ) → guard.IsOpened opening.now start → ReservesNothing ghosts → a < tail_at opening.now
    → IsIn a ((life_ghosts opening ghosts events).log.chains h) ↔ IsIn a (ghosts.log.chains h)
unfolding mapped ghost_run run
keeps_old opening start ghosts events h a guarded free low = (
  λ is_in.
      life_chained opening start ghosts guarded (tail_at opening.now) events [] h a (omega arith) low (λ b entry cell under e. free b entry cell e)
      (subst (λ (e : List Event). IsIn a ((life_ghosts opening ghosts e).log.chains h)) (sym (append-nil events)) is_in),
  λ is_in. subst (λ (e : List Event). IsIn a ((life_ghosts opening ghosts e).log.chains h)) (append-nil events) (life_grown opening ghosts events [] a h is_in),
)
