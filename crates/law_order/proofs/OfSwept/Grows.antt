-- The log of a sweep grows as the log of the order law does, from a moment on at which all below the sweep's end is over.
use Rattle.std.proofs.Common.{◌≡◌, ℕ, ◌<◌, ◌≤◌, ◌∙◌, inl, inr, refl, sym, ap, subst, arith, List, [], ◌∷◌, ◌++◌}
use Rattle.fkv_map.specs.declared.history.HistoryEntry.{HistoryEntry}
use Rattle.fkv_map.specs.Map.{Map}
use Rattle.fkv_sweep.specs.SweptLogs as swept
use Rattle.fkv_sweep.specs.SweptLogs.{SweptLog}
use Rattle.law_commit.specs.Below.law_refine.Events.GhostEvents.{home_number}
use Rattle.law_log.specs.Begins.{IsOver, StaysFromThere, TakesAbove, TakeAbove}
use Rattle.law_log.specs.Chains.{Cell, Logged, Unborn, Reserved, Published, Dropped}
use Rattle.law_log.specs.Enabled.{AreEnabled, IsChangeEnabled, IsEnabled, IsOpened}
use Rattle.law_log.specs.Ghosts.{Changes, Drops, FindsEntry, Fixes, GhostEvent, Ghosts, Log, Publishes, Reserves, TakesValue, Tells, changed, changed_by, dropped, ghost_run, ghosts_after, log_after, published, set_at}
use Rattle.law_log.specs.Trace.{IsIn}
use Rattle.law_log.proofs.Shown.{Grows, Held, at_one, log_steps, not_unborn, run_held}
use Rattle.law_order.specs.Swept.Logs.{standing_at, swept_log}
use Rattle.law_order.proofs.OfSwept.Logs.{has_key_at, in_swept, in_trace, is_of_key}

-- ---- a log has grown since itself, and since each log that another has grown since
pub grown_same : (to : ℕ) (log : SweptLog) → swept.Grows to log log
grown_same to log = record { old = λ a cell low e. e; keys = λ a key on has. has; chains = λ home a is_in. is_in }

pub grown_on : (to : ℕ) (first before after : SweptLog) → swept.Grows to first before → swept.Grows to before after → swept.Grows to first after
grown_on to first before after one other = record {
  old = λ a cell low e. one.old a cell low (other.old a cell low e);
  keys = λ a key on has. other.keys a key on (one.keys a key on has);
  chains = λ home a is_in. other.chains home a (one.chains home a is_in);
}

-- ---- one event: what is being made lies at or above the end, so nothing comes to stand below it
upwards : (a b c : ℕ) → a ≤ b → b ≤ c → a ≤ c
upwards a b c low high = omega (arith, low, high)

-- at one address at most another record stands
set_same : (cells : ℕ → Logged) (i : ℕ) (new : Logged) (a : ℕ) → (a ≡ i → standing_at new ≡ standing_at (cells i)) → standing_at (set_at cells i new a) ≡ standing_at (cells a)
set_same cells i new a same = elim (at_one cells i new a) [
  | inl here ↦ ap standing_at here.1 ∙ same here.0 ∙ ap (λ n. standing_at (cells n)) (sym here.0)
  | inr other ↦ ap standing_at other.1
]

set_above : (to : ℕ) (cells : ℕ → Logged) (i : ℕ) (new : Logged) (a : ℕ) → to ≤ i → a < to → standing_at (set_at cells i new a) ≡ standing_at (cells a)
set_above to cells i new a over low = set_same cells i new a (λ here. absurd (omega (arith, here, over, low)))

module _ (home : ℕ → ℕ) (to : ℕ) where
  abbrev SameBelow : Log → Log → Type 0
  SameBelow before after = (a : ℕ) → a < to → standing_at (after.cells a) ≡ standing_at (before.cells a)

  abbrev AreReservedAbove : Log → Type 0
  AreReservedAbove log = (a : ℕ) (entry : HistoryEntry) (cell : Cell) → log.cells a ≡ Reserved entry cell → to ≤ a

  published_same : (log : Log) (i : ℕ) (logged : Logged) → log.cells i ≡ logged → AreReservedAbove log → SameBelow log (published home log i logged)
  published_same log i (Reserved entry cell) its above a low = set_above to log.cells i (Published cell) a (above i entry cell its) low
  published_same log i Unborn its above a low = refl
  published_same log i (Published cell) its above a low = refl
  published_same log i (Dropped cell) its above a low = refl

  dropped_same : (log : Log) (i : ℕ) (logged : Logged) → log.cells i ≡ logged → SameBelow log (dropped log i logged)
  dropped_same log i (Reserved entry cell) its a low = set_same log.cells i (Dropped cell) a (λ here. sym (ap standing_at its))
  dropped_same log i Unborn its a low = refl
  dropped_same log i (Published cell) its a low = refl
  dropped_same log i (Dropped cell) its a low = refl

  changed_same : (g : Ghosts) (i : ℕ) (entry : HistoryEntry) (logged : Logged) → to ≤ g.log.fixed → IsChangeEnabled home g i entry logged → SameBelow g.log (changed g.log i entry logged)
  changed_same g i entry (Published cell) fixed enabled a low = set_above to g.log.cells i (Published (changed_by entry cell)) a (upwards to g.log.fixed i fixed enabled.0.not_fixed) low
  changed_same g i entry Unborn fixed enabled a low = refl
  changed_same g i entry (Reserved other cell) fixed enabled a low = refl
  changed_same g i entry (Dropped cell) fixed enabled a low = refl

  event_same : (g : Ghosts) (event : GhostEvent) → IsEnabled home g event → IsOver to g.log → SameBelow g.log (log_after home g.log event)
  event_same g (Tells line) enabled over a low = refl
  event_same g (FindsEntry reader) enabled over a low = refl
  event_same g (TakesValue reader) enabled over a low = refl
  event_same g (Reserves i entry cell) enabled over a low = set_same g.log.cells i (Reserved entry cell) a (λ here. sym (ap standing_at enabled.0))
  event_same g (Publishes i) enabled over a low = published_same g.log i (g.log.cells i) refl over.none_reserved a low
  event_same g (Drops i) enabled over a low = dropped_same g.log i (g.log.cells i) refl a low
  event_same g (Changes i entry) enabled over a low = changed_same g i entry (g.log.cells i) over.fixed enabled a low
  event_same g (Fixes i) enabled over a low = refl

  -- what was published keeps its key, and chains grow
  grown_by : (m : Map) (before after : Log) → Held home m before → Grows home m before after → SameBelow before after → swept.Grows to (swept_log before) (swept_log after)
  grown_by m before after held grows same = record {
    old = λ a cell low e. sym (same a low) ∙ e;
    keys = λ a key on has.
        let its = is_of_key before key a has in
        let stays = grows.published a its.cell its.its in
        has_key_at after key a _ stays.still its.same;
    chains = λ at a is_in. still_in (home_number at) a (in_trace a (before.chains (home_number at)) is_in);
  }
    where
      still_in : (h a : ℕ) → IsIn a (before.chains h) → swept.IsIn a (after.chains h)
      still_in h a is_in = elim (grows.chains h a (inr is_in)).1 [
        | inr later ↦ in_swept a (after.chains h) later
        | inl nowhere ↦
            let its = held.chains.in_chain h a is_in in
            absurd (not_unborn (before.cells a) its.cell its.its (ap before.cells nowhere ∙ held.none))
      ]

  -- ---- what is over stays so
  reserved_then : (cells : ℕ → Logged) (i : ℕ) (new : Logged) → ((a : ℕ) (entry : HistoryEntry) (cell : Cell) → cells a ≡ Reserved entry cell → to ≤ a) → ((entry : HistoryEntry) (cell : Cell) → new ≡ Reserved entry cell → to ≤ i)
      → (a : ℕ) (entry : HistoryEntry) (cell : Cell) → set_at cells i new a ≡ Reserved entry cell → to ≤ a
  reserved_then cells i new before now a entry cell is = elim (at_one cells i new a) [
    | inl here ↦ subst (λ n. to ≤ n) (sym here.0) (now entry cell (sym here.1 ∙ is))
    | inr other ↦ before a entry cell (sym other.1 ∙ is)
  ]

  none_published : (i : ℕ) (cell : Cell) (entry : HistoryEntry) (other : Cell) → Published cell ≡ Reserved entry other → to ≤ i
  none_published i cell entry other same = absurd (cc)

  none_dropped : (i : ℕ) (cell : Cell) (entry : HistoryEntry) (other : Cell) → Dropped cell ≡ Reserved entry other → to ≤ i
  none_dropped i cell entry other same = absurd (cc)

  published_over : (log : Log) (i : ℕ) (logged : Logged) → AreReservedAbove log → AreReservedAbove (published home log i logged)
  published_over log i (Reserved entry cell) over = reserved_then log.cells i (Published cell) over (none_published i cell)
  published_over log i Unborn over = over
  published_over log i (Published cell) over = over
  published_over log i (Dropped cell) over = over

  dropped_over : (log : Log) (i : ℕ) (logged : Logged) → AreReservedAbove log → AreReservedAbove (dropped log i logged)
  dropped_over log i (Reserved entry cell) over = reserved_then log.cells i (Dropped cell) over (none_dropped i cell)
  dropped_over log i Unborn over = over
  dropped_over log i (Published cell) over = over
  dropped_over log i (Dropped cell) over = over

  changed_over : (log : Log) (i : ℕ) (entry : HistoryEntry) (logged : Logged) → AreReservedAbove log → AreReservedAbove (changed log i entry logged)
  changed_over log i entry (Published cell) over = reserved_then log.cells i (Published (changed_by entry cell)) over (none_published i (changed_by entry cell))
  changed_over log i entry Unborn over = over
  changed_over log i entry (Reserved other cell) over = over
  changed_over log i entry (Dropped cell) over = over

  reserved_over : (log : Log) (event : GhostEvent) → TakesAbove to event → AreReservedAbove log → AreReservedAbove (log_after home log event)
  reserved_over log (Tells line) takes over = over
  reserved_over log (FindsEntry reader) takes over = over
  reserved_over log (TakesValue reader) takes over = over
  reserved_over log (Reserves i entry cell) takes over = reserved_then log.cells i (Reserved entry cell) over (λ other its same. takes)
  reserved_over log (Publishes i) takes over = published_over log i (log.cells i) over
  reserved_over log (Drops i) takes over = dropped_over log i (log.cells i) over
  reserved_over log (Changes i entry) takes over = changed_over log i entry (log.cells i) over
  reserved_over log (Fixes i) takes over = over

  pub event_over : (m : Map) (g : Ghosts) (event : GhostEvent) → Held home m g.log → IsEnabled home g event → TakesAbove to event → IsOver to g.log → IsOver to (log_after home g.log event)
  event_over m g event held enabled takes over = record {
    fixed = upwards to g.log.fixed _ over.fixed (log_steps home m g event held enabled).grows.fixed;
    none_reserved = reserved_over g.log event takes over.none_reserved;
  }

  pub event_grows : (m : Map) (g : Ghosts) (event : GhostEvent) → Held home m g.log → IsEnabled home g event → IsOver to g.log → swept.Grows to (swept_log g.log) (swept_log (log_after home g.log event))
  event_grows m g event held enabled over = grown_by m g.log (log_after home g.log event) held (log_steps home m g event held enabled).grows (event_same g event enabled over)

-- ---- a whole run
module _ (home : ℕ → ℕ) (m : Map) (version : ℕ) (opening : Ghosts) (to : ℕ) (opened : IsOpened home m version opening) (before : List GhostEvent) where
  abbrev now : List GhostEvent → Log
  now later = (ghost_run home opening (later ++ before)).log

  pub run_over : (later : List GhostEvent) → AreEnabled home opening (later ++ before) → TakeAbove to later → IsOver to (now []) → IsOver to (now later)
  unfolding ghosts_after ghost_run AreEnabled
  run_over [] enabled take over = over
  run_over (event ∷ later) enabled take over =
      event_over home to m (ghost_run home opening (later ++ before)) event (run_held home m version opening (later ++ before) opened enabled.0) enabled.1 take.0 (run_over later enabled.0 take.1 over)

  pub run_grows : (later : List GhostEvent) → AreEnabled home opening (later ++ before) → TakeAbove to later → IsOver to (now []) → swept.Grows to (swept_log (now [])) (swept_log (now later))
  unfolding ghosts_after ghost_run AreEnabled
  run_grows [] enabled take over = grown_same to (swept_log (now []))
  run_grows (event ∷ later) enabled take over =
      grown_on to (swept_log (now [])) (swept_log (now later)) (swept_log (now (event ∷ later))) (run_grows later enabled.0 take.1 over)
      (event_grows home to m (ghost_run home opening (later ++ before)) event (run_held home m version opening (later ++ before) opened enabled.0) enabled.1 (run_over later enabled.0 take.1 over))

-- so what a log has grown since it goes on to have grown since
pub stays_grown : (first : SweptLog) → StaysFromThere (λ to home log. swept.Grows to first (swept_log log))
stays_grown first = λ home m version opening later before to opened enabled over take grown.
    grown_on to first (swept_log (ghost_run home opening before).log) (swept_log (ghost_run home opening (later ++ before)).log) grown (run_grows home m version opening to opened before later enabled take over)
