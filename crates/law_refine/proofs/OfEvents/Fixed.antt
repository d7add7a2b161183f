-- Beside a life the log has fixed what lies below the safe read-only offset.
use Rattle.std.proofs.Common.{◌≡◌, ℕ, ◌≤◌, ◌∙◌, refl, sym, ap, subst, arith, Bool, true, false, List, [], ◌∷◌, ◌++◌}
use Rattle.std.specs.Prelude.{map, max, ◌==◌, if◌then◌else◌}
use Rattle.std.proofs.lemmas.Bool.Decides.{nat_tests}
use Rattle.law_log.specs.Chains.{Logged, Reserved, Published}
use Rattle.law_log.specs.Ghosts.{Log, Ghosts, GhostEvent, Tells, FindsEntry, TakesValue, Reserves, Publishes, Drops, Changes, Fixes, published, dropped, changed, log_after, ghosts_after, ghost_run}
use Rattle.law_log.specs.Trace.{TraceLine}
use Rattle.fkv_map.specs.declared.history.HistoryEntry.{HistoryEntry}
use Rattle.law_world.specs.Below.fkv_flush.GuardLevels.{levels_of, Rises}
use Rattle.law_world.specs.Below.fkv_flush.GuardWorld.{GuardWorld}
use Rattle.law_world.proofs.Below.fkv_flush.Shown.{events_calm}
use Rattle.law_world.specs.Below.fkv_world.Runs.{World, happens, run}
use Rattle.law_world.specs.Below.fkv_world.World.{Event}
use Rattle.law_world.proofs.Below.fkv_world.Shown.{is_over}
use Rattle.law_world.specs.Guarded.GuardEvents as guard
use Rattle.law_world.specs.Guarded.Shows.{IsOpened, seen_by_guard}
use Rattle.law_world.proofs.OfGuarded.Outer.{later_write_outer}
use Rattle.law_world.proofs.OfGuarded.Worlds.{life_shows, run_shows}
use Rattle.law_refine.specs.Events.GhostEvents.{home_in, own_ghosts, safe_at, fixed_ghosts, traced_by, serials_in, ghost_events, mapped, life_ghosts}
use Rattle.law_refine.specs.Events.Lines.{lines_added}
use Rattle.law_refine.proofs.OfEvents.Own.{AreOwn, own_own}

-- what an event fixes, and what a list of them does
abbrev fixes : ℕ → GhostEvent → ℕ
fixes fixed (Fixes a) = max fixed a
fixes fixed event = fixed

abbrev pub fixed_by : List GhostEvent → ℕ → ℕ
fixed_by [] fixed = fixed
fixed_by (event ∷ before) fixed = fixes (fixed_by before fixed) event

published_fixed : (home : ℕ → ℕ) (log : Log) (a : ℕ) (logged : Logged) → (published home log a logged).fixed ≡ log.fixed
published_fixed home log a (Reserved entry cell) = refl
published_fixed home log a logged = refl

dropped_fixed : (log : Log) (a : ℕ) (logged : Logged) → (dropped log a logged).fixed ≡ log.fixed
dropped_fixed log a (Reserved entry cell) = refl
dropped_fixed log a logged = refl

changed_fixed : (log : Log) (a : ℕ) (entry : HistoryEntry) (logged : Logged) → (changed log a entry logged).fixed ≡ log.fixed
changed_fixed log a entry (Published cell) = refl
changed_fixed log a entry logged = refl

one_fixes : (home : ℕ → ℕ) (log : Log) (event : GhostEvent) → (log_after home log event).fixed ≡ fixes log.fixed event
one_fixes home log (Publishes a) = published_fixed home log a (log.cells a)
one_fixes home log (Drops a) = dropped_fixed log a (log.cells a)
one_fixes home log (Changes a entry) = changed_fixed log a entry (log.cells a)
one_fixes home log (Tells line) = refl
one_fixes home log (FindsEntry reader) = refl
one_fixes home log (TakesValue reader) = refl
one_fixes home log (Reserves a entry cell) = refl
one_fixes home log (Fixes a) = refl

run_fixed : (home : ℕ → ℕ) (g : Ghosts) (events : List GhostEvent) → (ghost_run home g events).log.fixed ≡ fixed_by events g.log.fixed
unfolding ghost_run ghosts_after
run_fixed home g [] = refl
run_fixed home g (event ∷ before) = one_fixes home (ghost_run home g before).log event ∙ ap (λ (fixed : ℕ). fixes fixed event) (run_fixed home g before)

-- lists of events
fixed_behind : (later before : List GhostEvent) (fixed : ℕ) → fixed_by (later ++ before) fixed ≡ fixed_by later (fixed_by before fixed)
fixed_behind [] before fixed = refl
fixed_behind (event ∷ later) before fixed = ap (λ (x : ℕ). fixes x event) (fixed_behind later before fixed)

told_fixed : (lines : List TraceLine) (fixed : ℕ) → fixed_by (map Tells lines) fixed ≡ fixed
told_fixed [] fixed = refl
told_fixed (line ∷ rest) fixed = told_fixed rest fixed

own_fixed : (events : List GhostEvent) (fixed : ℕ) → AreOwn events → fixed_by events fixed ≡ fixed
own_fixed [] fixed own = refl
own_fixed (FindsEntry reader ∷ before) fixed own = own_fixed before fixed own.1
own_fixed (TakesValue reader ∷ before) fixed own = own_fixed before fixed own.1
own_fixed (Reserves a entry cell ∷ before) fixed own = own_fixed before fixed own.1
own_fixed (Publishes a ∷ before) fixed own = own_fixed before fixed own.1
own_fixed (Drops a ∷ before) fixed own = own_fixed before fixed own.1
own_fixed (Changes a entry ∷ before) fixed own = own_fixed before fixed own.1
own_fixed (Tells line ∷ before) fixed own = absurd own.0
own_fixed (Fixes a ∷ before) fixed own = absurd own.0

raised_fixed : (before safe : ℕ) → before ≤ safe → fixed_by (fixed_ghosts before safe) before ≡ safe
raised_fixed before safe low = by_test (safe == before) refl
  where
    by_test : (c : Bool) → (safe == before) ≡ c → fixed_by (if c then [] else Fixes safe ∷ []) before ≡ safe
    by_test true e = grind (arith, nat_tests, e)
    by_test false e = omega (arith, low)

-- ---- an event
event_fixed : (first : ℕ → ℕ) (w : World) (event : Event) → safe_at w.now ≤ safe_at (happens w event).now → fixed_by (ghost_events first w event) (safe_at w.now) ≡ safe_at (happens w event).now
unfolding ghost_events
event_fixed first w event rises = by_test w.now.crashed (λ e. ap (λ (x : World). safe_at x.now) (is_over w event e))
  where
    lines : List TraceLine
    lines = lines_added first w.past.trace (traced_by w event)

    fresh : List GhostEvent
    fresh = fixed_ghosts (safe_at w.now) (safe_at (happens w event).now)

    by_test : (c : Bool) → (c ≡ true → safe_at (happens w event).now ≡ safe_at w.now)
        → fixed_by (if c then [] else map Tells lines ++ (fresh ++ own_ghosts w event)) (safe_at w.now) ≡ safe_at (happens w event).now
    by_test true same = sym (same refl)
    by_test false same =
        fixed_behind (map Tells lines) (fresh ++ own_ghosts w event) (safe_at w.now)
        ∙ (told_fixed lines (fixed_by (fresh ++ own_ghosts w event) (safe_at w.now))
        ∙ (fixed_behind fresh (own_ghosts w event) (safe_at w.now)
        ∙ (ap (fixed_by fresh) (own_fixed (own_ghosts w event) (safe_at w.now) (own_own w event))
        ∙ raised_fixed (safe_at w.now) (safe_at (happens w event).now) rises)))

-- ---- and a life, in which the guard lets no offset fall
pub life_rises : (opening : World) (start : ℕ) (before later : List Event) → IsOpened opening.now start → Rises (levels_of (run opening before).now.words) (levels_of (run (run opening before) later).now.words)
life_rises opening start before later opened =
    let b : World = run opening before in
    let w : GuardWorld = seen_by_guard opening start before in
    let shows = life_shows opening start before opened in
    let there = run_shows b later w (later_write_outer opening start before later opened) shows in
    let calm = events_calm w (guard.mapped b later) shows.sound in
    let so = subst (λ (words : List ℕ). Rises (levels_of w.now.words) (levels_of words)) there.words calm.offsets in
    subst (λ (words : List ℕ). Rises (levels_of words) (levels_of (run b later).now.words)) shows.words so

event_rises : (opening : World) (start : ℕ) (before : List Event) (event : Event) → IsOpened opening.now start → safe_at (run opening before).now ≤ safe_at (happens (run opening before) event).now
unfolding run
event_rises opening start before event opened = (life_rises opening start before (event ∷ []) opened).safe_read_only

life_fixed : (opening : World) (start : ℕ) (events : List Event) → IsOpened opening.now start → fixed_by (mapped opening events) (safe_at opening.now) ≡ safe_at (run opening events).now
unfolding mapped run
life_fixed opening start [] opened = refl
life_fixed opening start (event ∷ before) opened =
    fixed_behind (ghost_events (serials_in opening.now) (run opening before) event) (mapped opening before) (safe_at opening.now)
    ∙ (ap (fixed_by (ghost_events (serials_in opening.now) (run opening before) event)) (life_fixed opening start before opened)
    ∙ event_fixed (serials_in opening.now) (run opening before) event (event_rises opening start before event opened))

pub ghost_fixed : (opening : World) (start : ℕ) (ghosts : Ghosts) (events : List Event) → IsOpened opening.now start → ghosts.log.fixed ≡ safe_at opening.now
    → (life_ghosts opening ghosts events).log.fixed ≡ safe_at (run opening events).now
ghost_fixed opening start ghosts events opened same =
    run_fixed (home_in opening.now.shape.bucket_bits) ghosts (mapped opening events) ∙ (ap (fixed_by (mapped opening events)) same ∙ life_fixed opening start events opened)
