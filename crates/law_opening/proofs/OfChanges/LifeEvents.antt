-- So it is with each event of a life: addresses lie above what their records lead to, and what the store was opened with stays.
use Rattle.std.proofs.Common.{◌≡◌, ◌≢◌, inl, inr, ℕ, ◌<◌, ◌≤◌, ◌∙◌, refl, sym, ap, subst, arith, Bool, true, false, List, [], ◌∷◌, ◌++◌}
use Rattle.std.specs.Prelude.{◌==◌, map, if◌then◌else◌, Option, Some, None, slice_get}
use Rattle.std.proofs.lemmas.Bool.{cases_lt}
use Rattle.law_refine.specs.Below.fkv_flush.GuardFlushed.{stands}
use Rattle.fkv_map.specs.declared.history.HistoryEntry.{HistoryEntry}
use Rattle.law_refine.specs.Below.fkv_session.Sessions.{SessionState, Seat, session_ask}
use Rattle.law_refine.specs.Below.fkv_world.Runs.{World, happens, run}
use Rattle.law_refine.specs.Below.fkv_world.World.{Event, Moves, seat_at}
use Rattle.law_refine.proofs.Below.fkv_world.Shown.{same_seat}
use Rattle.law_refine.specs.Below.law_world.Guarded.GuardEvents as guarded
use Rattle.law_refine.specs.Below.law_world.Guarded.Shows.{guard_opening}
use Rattle.law_refine.specs.Below.law_local.Sessions.Inputs.{AttemptsSo}
use Rattle.law_log.specs.Chains.{Cell, Logged, Unborn, Reserved, Published, Dropped}
use Rattle.law_log.specs.Ghosts.{Log, Ghosts, GhostEvent, Tells, FindsEntry, TakesValue, Reserves, Publishes, Drops, Changes, Fixes, published, dropped, changed, changed_by, log_after, ghosts_after, ghost_run}
use Rattle.law_log.specs.Trace.{TraceLine}
use Rattle.law_log.proofs.Shown.{set_else}
use Rattle.law_refine.specs.Events.GhostEvents.{fixed_ghosts, ghost_events, home_in, life_ghosts, mapped, moved_ghosts, own_ghosts, safe_at, serials_in, traced_by}
use Rattle.law_refine.specs.Events.Lines.{lines_added}
use Rattle.law_refine.specs.Events.Published.{IsPublished}
use Rattle.law_refine.specs.Events.Reserved.{tail_at}
use Rattle.law_refine.specs.Records.Headers.{HeadersShowLog}
use Rattle.law_refine.proofs.OfEvents.Below.{AreAbove, event_above, is_above}
use Rattle.law_refine.proofs.OfEvents.Fixed.{life_rises}
use Rattle.law_refine.proofs.OfEvents.Unborn.{ghost_unborn}
use Rattle.law_refine.proofs.OfRecords.FrameOwners.{above_opening}
use Rattle.law_refine.proofs.OfRecords.Life.{headers_show}
use Rattle.law_refine.proofs.OfRecords.LogHeaders.{AllFall, falls_at}
use Rattle.law_opening.specs.Changes.Laws.{BeginsLinked}
use Rattle.law_opening.specs.Changes.Linked.{IsLed}
use Rattle.law_opening.proofs.OfChanges.Events.{AllSo, both_so, is_so, step_so}
use Rattle.law_opening.proofs.OfChanges.Life.{SessionKnown, life_holds}
use Rattle.law_opening.proofs.OfChanges.OfSessions.Attempting.{life_attempts}

-- ---- events
told_so : (low high : ℕ) (lines : List TraceLine) → AllSo low high (map Tells lines)
told_so low high [] = tt
told_so low high (line ∷ rest) = (tt, told_so low high rest)

fixed_so : (low high before safe : ℕ) → AllSo low high (fixed_ghosts before safe)
fixed_so low high before safe = by_test (safe == before)
  where
    by_test : (c : Bool) → AllSo low high (if c then [] else Fixes safe ∷ [])
    by_test true = tt
    by_test false = (tt, tt)

one_falls : (low high : ℕ) (event : GhostEvent) → is_so low high event → is_above high event → falls_at event
one_falls low high (Reserves a entry cell) so above = omega (arith, so, above)
one_falls low high event so above = tt

all_fall : (low high : ℕ) (events : List GhostEvent) → AllSo low high events → AreAbove high events → AllFall events
all_fall low high [] so above = tt
all_fall low high (event ∷ before) so above = (one_falls low high event so.0 above.0, all_fall low high before so.1 above.1)

both_fall : (later before : List GhostEvent) → AllFall later → AllFall before → AllFall (later ++ before)
both_fall [] before one other = other
both_fall (event ∷ later) before one other = (one.0, both_fall later before one.1 other)

unborn_not : (logged : Logged) → logged ≡ Unborn → IsPublished logged → ⊥
unborn_not logged e there = subst IsPublished e there

module _ (opening : World) (start : ℕ) (lists : ℕ → List ℕ) (ghosts : Ghosts) (begins : BeginsLinked opening start lists ghosts) where
  tail_above : (before : List Event) → start ≤ tail_at (run opening before).now
  unfolding run
  tail_above before =
      let rises = (life_rises opening start [] before begins.now).tail in
      let first = begins.now.words.tail in
      omega (arith, rises, first)

  led_below : (before : List Event) (a : ℕ) → IsLed (life_ghosts opening ghosts before).log a → a < tail_at (run opening before).now
  led_below before a (inl none) = let tail = tail_above before in let some = begins.some in omega (arith, tail, some, none)
  led_below before a (inr there) = elim (cases_lt a (tail_at (run opening before).now)) [
    | inl low ↦ low
    | inr high ↦ absurd (unborn_not ((life_ghosts opening ghosts before).log.cells a) (ghost_unborn opening start ghosts before begins.now begins.unborn a high) there)
  ]

  moved_so : (before : List Event) (number : ℕ) (found : Option SessionState) → slice_get (run opening before).now.sessions number ≡ found → AllSo start (tail_at (run opening before).now) (moved_ghosts (run opening before) number found)
  moved_so before number None e = tt
  moved_so before number (Some s) e =
      let w : World = run opening before in
      let log : Log = (life_ghosts opening ghosts before).log in
      let known : SessionKnown log s = (life_holds opening start lists ghosts before begins).known number s e in
      let so : AttemptsSo (seat_at w.now number) s = subst (λ (k : Seat). AttemptsSo k s) (sym (same_seat opening before number)) (life_attempts opening before number s begins.world e) in
      step_so start (tail_at w.now) log (led_below before) (seat_at w.now number) w.past.trace s w.now.words (session_ask (seat_at w.now number) s)
      (λ a changes. above_opening opening start before number s a begins.now e changes)
      known.attempted

  own_so : (before : List Event) (event : Event) → AllSo start (tail_at (run opening before).now) (own_ghosts (run opening before) event)
  own_so before (Moves number) = moved_so before number (slice_get (run opening before).now.sessions number) refl
  own_so before event = tt

  event_so : (before : List Event) (event : Event) → AllSo start (tail_at (run opening before).now) (ghost_events (serials_in opening.now) (run opening before) event)
  unfolding ghost_events
  event_so before event = by_test w.now.crashed
    where
      w : World
      w = run opening before

      high : ℕ
      high = tail_at w.now

      lines : List TraceLine
      lines = lines_added (serials_in opening.now) w.past.trace (traced_by w event)

      by_test : (c : Bool) → AllSo start high (if c then [] else map Tells lines ++ (fixed_ghosts (safe_at w.now) (safe_at (happens w event).now) ++ own_ghosts w event))
      by_test true = tt
      by_test false =
          both_so start high (map Tells lines) (fixed_ghosts (safe_at w.now) (safe_at (happens w event).now) ++ own_ghosts w event) (told_so start high lines)
          (both_so start high (fixed_ghosts (safe_at w.now) (safe_at (happens w event).now)) (own_ghosts w event) (fixed_so start high (safe_at w.now) (safe_at (happens w event).now)) (own_so before event))

  -- ---- addresses lie above what their records lead to
  pub life_falls : (events : List Event) → AllFall (mapped opening events)
  unfolding mapped
  life_falls [] = tt
  life_falls (event ∷ before) =
      let its : List GhostEvent = ghost_events (serials_in opening.now) (run opening before) event in
      let high : ℕ = tail_at (run opening before).now in
      both_fall its (mapped opening before) (all_fall start high its (event_so before event) (event_above opening start high before event begins.now (omega arith))) (life_falls before)

  pub life_headers : (events : List Event) → HeadersShowLog start (stands (guard_opening opening.now start) (guarded.mapped opening events)) (life_ghosts opening ghosts events).log
  life_headers events = headers_show opening start ghosts events begins.now begins.unborn begins.reserves (life_holds opening start lists ghosts events begins).published (life_falls events)

-- ---- and what lies below the opening stays
other_place : (bound a b : ℕ) → bound ≤ b → a < bound → a ≢ b
other_place bound a b above low = λ same. omega (arith, above, low, same)

publish_low : (home : ℕ → ℕ) (log : Log) (b a : ℕ) (logged : Logged) → log.cells b ≡ logged → ((entry : HistoryEntry) (cell : Cell) → log.cells a ≡ Reserved entry cell → ⊥) → (published home log b logged).cells a ≡ log.cells a
publish_low home log b a (Reserved entry cell) its free = set_else log.cells b (Published cell) a (λ same. free entry cell (ap log.cells same ∙ its))
publish_low home log b a logged its free = refl

drop_low : (log : Log) (b a : ℕ) (logged : Logged) → log.cells b ≡ logged → ((entry : HistoryEntry) (cell : Cell) → log.cells a ≡ Reserved entry cell → ⊥) → (dropped log b logged).cells a ≡ log.cells a
drop_low log b a (Reserved entry cell) its free = set_else log.cells b (Dropped cell) a (λ same. free entry cell (ap log.cells same ∙ its))
drop_low log b a logged its free = refl

change_low : (log : Log) (b a : ℕ) (entry : HistoryEntry) (logged : Logged) → a ≢ b → (changed log b entry logged).cells a ≡ log.cells a
change_low log b a entry (Published cell) other = set_else log.cells b (Published (changed_by entry cell)) a other
change_low log b a entry logged other = refl

one_low : (home : ℕ → ℕ) (log : Log) (bound high a : ℕ) (event : GhostEvent) → is_above bound event → is_so bound high event → a < bound → ((entry : HistoryEntry) (cell : Cell) → log.cells a ≡ Reserved entry cell → ⊥) → (log_after home log event).cells a ≡ log.cells a
one_low home log bound high a (Reserves b entry cell) above so low free = set_else log.cells b (Reserved entry cell) a (other_place bound a b above low)
one_low home log bound high a (Publishes b) above so low free = publish_low home log b a (log.cells b) refl free
one_low home log bound high a (Drops b) above so low free = drop_low log b a (log.cells b) refl free
one_low home log bound high a (Changes b entry) above so low free = change_low log b a entry (log.cells b) (other_place bound a b so low)
one_low home log bound high a (Tells line) above so low free = refl
one_low home log bound high a (FindsEntry reader) above so low free = refl
one_low home log bound high a (TakesValue reader) above so low free = refl
one_low home log bound high a (Fixes b) above so low free = refl

behind_low : (home : ℕ → ℕ) (first : Ghosts) (bound high a : ℕ) (later before : List GhostEvent) → AreAbove bound later → AllSo bound high later → a < bound → ((entry : HistoryEntry) (cell : Cell) → first.log.cells a ≡ Reserved entry cell → ⊥)
    → (ghost_run home first before).log.cells a ≡ first.log.cells a → (ghost_run home first (later ++ before)).log.cells a ≡ first.log.cells a
unfolding ghost_run ghosts_after
behind_low home first bound high a [] before above so low free was = was
behind_low home first bound high a (event ∷ later) before above so low free was =
    let here = behind_low home first bound high a later before above.1 so.1 low free was in
    one_low home (ghost_run home first (later ++ before)).log bound high a event above.0 so.0 low (λ entry cell e. free entry cell (sym here ∙ e)) ∙ here

pub life_low : (opening : World) (start : ℕ) (lists : ℕ → List ℕ) (ghosts : Ghosts) (events : List Event) (a : ℕ) → BeginsLinked opening start lists ghosts → a < start → (life_ghosts opening ghosts events).log.cells a ≡ ghosts.log.cells a
unfolding mapped ghost_run
life_low opening start lists ghosts [] a begins low = refl
life_low opening start lists ghosts (event ∷ before) a begins low =
    behind_low (home_in opening.now.shape.bucket_bits) ghosts start (tail_at (run opening before).now) a (ghost_events (serials_in opening.now) (run opening before) event) (mapped opening before)
    (event_above opening start start before event begins.now (tail_above opening start lists ghosts begins before)) (event_so opening start lists ghosts begins before event) low (begins.reserves a)
    (life_low opening start lists ghosts before a begins low)
