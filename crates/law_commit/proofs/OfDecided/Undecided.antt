-- A record that is being made lies at or above the tail of its session's view. So below what each live session has seen as tail all is decided.
use Rattle.std.proofs.Common.{◌≡◌, ℕ, ◌<◌, ◌≤◌, ◌⊎◌, ◌∙◌, inl, inr, List, [], ◌∷◌, ◌++◌, refl, ap, sym, subst, arith, Bool, true, false}
use Rattle.std.specs.Prelude.{Some, slice_get, nat_lt}
use Rattle.std.proofs.lemmas.Bool.Decides.{nat_tests}
use Rattle.fkv_epoch.proofs.Shown.{some_same}
use Rattle.fkv_map.specs.declared.history.HistoryEntry.{HistoryEntry}
use Rattle.law_refine.specs.Below.fkv_log.TheInvalidating.{Invalidating}
use Rattle.law_refine.specs.Below.fkv_log.TheInvalidating.TheVariants as invalidating
use Rattle.law_refine.specs.Below.fkv_ops.TheAppending.{Appending}
use Rattle.law_refine.specs.Below.fkv_ops.TheAppending.TheVariants as appending
use Rattle.law_refine.specs.Below.fkv_ops.TheTrying.{Trying}
use Rattle.law_refine.specs.Below.fkv_ops.TheTrying.TheVariants as trying
use Rattle.law_refine.specs.Below.fkv_ops.Appending.{AppendState}
use Rattle.law_refine.specs.Below.fkv_ops.Trying.{TryState}
use Rattle.law_refine.specs.Below.fkv_pending.TheAttempting.{Attempting}
use Rattle.law_refine.specs.Below.fkv_pending.TheAttempting.TheVariants as attempting
use Rattle.law_refine.specs.Below.fkv_pending.PendingRequest.{PendingRequest}
use Rattle.law_refine.specs.Below.fkv_pending.Attempting.{AttemptState}
use Rattle.law_refine.specs.Below.fkv_session.Sitting.{Sitting}
use Rattle.law_refine.specs.Below.fkv_session.Sitting.TheVariants as sitting
use Rattle.law_refine.specs.Below.fkv_session.Sessions.{SessionState}
use Rattle.law_refine.specs.Below.fkv_world.Runs.{World, run}
use Rattle.law_refine.specs.Below.fkv_world.World.{Event}
use Rattle.law_log.specs.Chains.{Cell, Logged, Unborn, Reserved, Published, Dropped}
use Rattle.law_log.specs.Ghosts.{Log, Ghosts, GhostEvent, Tells, FindsEntry, TakesValue, Reserves, Publishes, Drops, Changes, Fixes, changed, changed_by, dropped, ghost_run, ghosts_after, log_after, published, set_at}
use Rattle.law_log.proofs.Shown.{at_one}
use Rattle.law_refine.specs.Below.law_world.Guarded.Shows as guard
use Rattle.law_refine.specs.Events.Appends.{NewRecord}
use Rattle.law_refine.specs.Events.GhostEvents.{ghost_events, home_in, life_ghosts, mapped, serials_in}
use Rattle.law_refine.specs.Events.Reservations.{Reservation, append_reserves, attempt_reserves, invalidate_reserves, try_reserves}
use Rattle.law_refine.specs.Events.Reserved.{IsOfSession, IsUnbornFrom, ReservesNothing, sitting_reserves, tail_at}
use Rattle.law_refine.proofs.OfEvents.Below.{AreAbove, event_above}
use Rattle.law_refine.proofs.OfEvents.ReservedLife.{life_sessions}
use Rattle.law_commit.specs.Views.{Sight, sight_in}
use Rattle.law_commit.proofs.OfDecided.Attempting.{IsAttempt, attempt_sight, tails_behind}

-- ---- whose reservation it is
append_by : (a : AppendState) (made : NewRecord) (step : Appending) (its : Reservation) → append_reserves a made step ≡ Some its → its.entry ≡ made.entry
append_by a made (appending.Ended told) its e = cc
append_by a made appending.Reserves its e = cc
append_by a made (appending.Fills addr) its e = ap (λ (r : Reservation). r.entry) (sym (some_same _ its e))
append_by a made (appending.Publishes addr) its e = ap (λ (r : Reservation). r.entry) (sym (some_same _ its e))
append_by a made appending.Invalidates its e = by_step a.invalidating e
  where
    by_step : (step : Invalidating) → invalidate_reserves a made step ≡ Some its → its.entry ≡ made.entry
    by_step invalidating.AtRest e = cc
    by_step (invalidating.StoresHeader addr header) e = ap (λ (r : Reservation). r.entry) (sym (some_same _ its e))

try_by : (number : ℕ) (pending : PendingRequest) (t : TryState) (step : Trying) (its : Reservation) → try_reserves number pending t step ≡ Some its → its.entry.session ≡ number
try_by number pending t (trying.Appends made) its e = ap (λ (x : HistoryEntry). x.session) (append_by t.append _ t.append.step its e)
try_by number pending t step its e = cc

attempt_by : (number : ℕ) (a : AttemptState) (step : Attempting) (its : Reservation) → attempt_reserves number a step ≡ Some its → its.entry.session ≡ number
attempt_by number a attempting.Tries its e = try_by number a.pending a.trial a.trial.step its e
attempt_by number a step its e = cc

-- a session that has reserved an address attempts something, and the entry is its own
pub record Reserver (number : ℕ) (step : Sitting) (its : Reservation) : Type 0 where
  pub session : its.entry.session ≡ number
  pub attempts : IsAttempt step

pub sitting_by : (number : ℕ) (s : SessionState) (step : Sitting) (its : Reservation) → sitting_reserves number s step ≡ Some its → Reserver number step its
sitting_by number s (sitting.Attempts has_shifted) its e = record { session = attempt_by number s.attempt s.attempt.step its e; attempts = tt }
sitting_by number s (sitting.Polls index) its e = record { session = attempt_by number s.attempt s.attempt.step its e; attempts = tt }
sitting_by number s step its e = cc

-- ---- below where addresses are taken no record is begun
set_reserved : (cells : ℕ → Logged) (b : ℕ) (x : Logged) (a : ℕ) (entry : HistoryEntry) (cell : Cell) → (x ≡ Reserved entry cell → ⊥) → set_at cells b x a ≡ Reserved entry cell → cells a ≡ Reserved entry cell
set_reserved cells b x a entry cell other its = elim (at_one cells b x a) [
  | inl here ↦ absurd (other (sym here.1 ∙ its))
  | inr there ↦ sym there.1 ∙ its
]

published_reserved : (home : ℕ → ℕ) (log : Log) (b : ℕ) (logged : Logged) (a : ℕ) (entry : HistoryEntry) (cell : Cell) → (published home log b logged).cells a ≡ Reserved entry cell → log.cells a ≡ Reserved entry cell
published_reserved home log b (Reserved its made) a entry cell e = set_reserved log.cells b (Published made) a entry cell (λ same. cc) e
published_reserved home log b Unborn a entry cell e = e
published_reserved home log b (Published made) a entry cell e = e
published_reserved home log b (Dropped made) a entry cell e = e

dropped_reserved : (log : Log) (b : ℕ) (logged : Logged) (a : ℕ) (entry : HistoryEntry) (cell : Cell) → (dropped log b logged).cells a ≡ Reserved entry cell → log.cells a ≡ Reserved entry cell
dropped_reserved log b (Reserved its made) a entry cell e = set_reserved log.cells b (Dropped made) a entry cell (λ same. cc) e
dropped_reserved log b Unborn a entry cell e = e
dropped_reserved log b (Published made) a entry cell e = e
dropped_reserved log b (Dropped made) a entry cell e = e

changed_reserved : (log : Log) (b : ℕ) (by : HistoryEntry) (logged : Logged) (a : ℕ) (entry : HistoryEntry) (cell : Cell) → (changed log b by logged).cells a ≡ Reserved entry cell → log.cells a ≡ Reserved entry cell
changed_reserved log b by (Published made) a entry cell e = set_reserved log.cells b (Published (changed_by by made)) a entry cell (λ same. cc) e
changed_reserved log b by Unborn a entry cell e = e
changed_reserved log b by (Reserved other made) a entry cell e = e
changed_reserved log b by (Dropped made) a entry cell e = e

taken_above : (cells : ℕ → Logged) (bound b : ℕ) (x : Logged) (a : ℕ) (entry : HistoryEntry) (cell : Cell) → bound ≤ b → a < bound → set_at cells b x a ≡ Reserved entry cell → cells a ≡ Reserved entry cell
taken_above cells bound b x a entry cell high low its = elim (at_one cells b x a) [
  | inl here ↦ let same = here.0 in absurd (omega (arith, high, low, same))
  | inr there ↦ sym there.1 ∙ its
]

one_reserved : (home : ℕ → ℕ) (log : Log) (bound : ℕ) (event : GhostEvent) (a : ℕ) (entry : HistoryEntry) (cell : Cell) → AreAbove bound (event ∷ []) → a < bound → (log_after home log event).cells a ≡ Reserved entry cell
    → log.cells a ≡ Reserved entry cell
one_reserved home log bound (Reserves b its made) a entry cell above low e = taken_above log.cells bound b (Reserved its made) a entry cell above.0 low e
one_reserved home log bound (Publishes b) a entry cell above low e = published_reserved home log b (log.cells b) a entry cell e
one_reserved home log bound (Drops b) a entry cell above low e = dropped_reserved log b (log.cells b) a entry cell e
one_reserved home log bound (Changes b by) a entry cell above low e = changed_reserved log b by (log.cells b) a entry cell e
one_reserved home log bound (Tells line) a entry cell above low e = e
one_reserved home log bound (FindsEntry reader) a entry cell above low e = e
one_reserved home log bound (TakesValue reader) a entry cell above low e = e
one_reserved home log bound (Fixes b) a entry cell above low e = e

pub was_reserved : (home : ℕ → ℕ) (g : Ghosts) (bound : ℕ) (later before : List GhostEvent) (a : ℕ) (entry : HistoryEntry) (cell : Cell) → AreAbove bound later → a < bound → (ghost_run home g (later ++ before)).log.cells a ≡ Reserved entry cell
    → (ghost_run home g before).log.cells a ≡ Reserved entry cell
unfolding ghost_run ghosts_after
was_reserved home g bound [] before a entry cell above low e = e
was_reserved home g bound (event ∷ later) before a entry cell above low e =
    was_reserved home g bound later before a entry cell above.1 low (one_reserved home (ghost_run home g (later ++ before)).log bound event a entry cell (above.0, tt) low e)

-- so it was one before an event, if it lies below the tail as it was then
pub was_making : (opening : World) (start : ℕ) (ghosts : Ghosts) (before : List Event) (event : Event) (bound a : ℕ) (entry : HistoryEntry) (cell : Cell) → guard.IsOpened opening.now start → bound ≤ tail_at (run opening before).now → a < bound
    → (life_ghosts opening ghosts (event ∷ before)).log.cells a ≡ Reserved entry cell → (life_ghosts opening ghosts before).log.cells a ≡ Reserved entry cell
unfolding mapped
was_making opening start ghosts before event bound a entry cell opened high low e =
    was_reserved (home_in opening.now.shape.bucket_bits) ghosts bound (ghost_events (serials_in opening.now) (run opening before) event) (mapped opening before) a entry cell (event_above opening start bound before event opened high) low e

-- ---- a record that is being made
cases_low : (a b : ℕ) → (a < b) ⊎ (b ≤ a)
cases_low a b = by_test (nat_lt a b) refl
  where
    by_test : (c : Bool) → nat_lt a b ≡ c → (a < b) ⊎ (b ≤ a)
    by_test true e = inl (grind (arith, nat_tests, e))
    by_test false e = inr (grind (arith, nat_tests, e))

above_tail : (view tail a : ℕ) → view ≤ tail → tail ≤ a → view ≤ a
above_tail view tail a one other = omega (arith, one, other)

pub making_above : (opening : World) (start : ℕ) (ghosts : Ghosts) (events : List Event) (first : SessionState) (a : ℕ) (entry : HistoryEntry) (cell : Cell) → guard.IsOpened opening.now start → IsUnbornFrom (tail_at opening.now) ghosts → ReservesNothing ghosts
    → slice_get opening.now.sessions entry.session ≡ Some first → (life_ghosts opening ghosts events).log.cells a ≡ Reserved entry cell → (sight_in opening entry.session first events).view.tail ≤ a
unfolding mapped ghost_run
making_above opening start ghosts [] first a entry cell opened none free found e = absurd (free a entry cell e)
making_above opening start ghosts (event ∷ before) first a entry cell opened none free found e = elim (cases_low a (tail_at (run opening before).now)) [
  | inl low ↦
      let was = was_making opening start ghosts before event (tail_at (run opening before).now) a entry cell opened (omega arith) low e in
      let of_it : IsOfSession (run opening before).now a entry cell = life_sessions opening start ghosts before opened none free a entry cell was in
      let by = sitting_by of_it.number of_it.has.state of_it.has.state.step of_it.its of_it.has.reserved in
      let number : of_it.number ≡ entry.session = sym by.session ∙ ap (λ (x : HistoryEntry). x.session) of_it.its_entry in
      let there = subst (λ (i : ℕ). slice_get (run opening before).now.sessions i ≡ Some of_it.has.state) number of_it.has.found in
      let same = attempt_sight opening start before event entry.session first of_it.has.state opened found there by.attempts in
      subst (λ (x : Sight). x.view.tail ≤ a) (sym same) (making_above opening start ghosts before first a entry cell opened none free found was)
  | inr high ↦
      above_tail (sight_in opening entry.session first (event ∷ before)).view.tail (tail_at (run opening before).now) a (tails_behind opening start entry.session first before event opened found).view high
]
