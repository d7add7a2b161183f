-- The log's trace beside a life is the life's trace, line by line.
use Rattle.std.proofs.Common.{◌≡◌, ℕ, ◌∙◌, refl, sym, ap, Bool, true, false, List, [], ◌∷◌, ◌++◌, append-nil, append_assoc}
use Rattle.std.specs.Prelude.{length, map, if◌then◌else◌, ◌==◌}
use Rattle.law_log.specs.Ghosts.{Ghosts, GhostEvent, Tells, FindsEntry, TakesValue, Reserves, Publishes, Drops, Changes, Fixes, trace_after, ghosts_after, ghost_run}
use Rattle.law_log.specs.Trace.{TraceLine}
use Rattle.law_world.specs.Runs.Added.{told_at, begun_by, ended_by}
use Rattle.law_world.specs.Below.fkv_world.Past.{Traced}
use Rattle.law_world.specs.Below.fkv_world.Runs.{World, happens, run}
use Rattle.law_world.specs.Below.fkv_world.World.{Event}
use Rattle.law_world.proofs.OfRuns.Added.{trace_so}
use Rattle.law_refine.specs.Events.GhostEvents.{own_ghosts, safe_at, fixed_ghosts, traced_by, serials_in, ghost_events, mapped, home_in, life_ghosts}
use Rattle.law_refine.specs.Events.Lines.{event_lines, lines_of, lines_added}
use Rattle.law_refine.proofs.OfEvents.Own.{AreOwn, own_own}

-- the lines that a list of events tells
abbrev pub lines_in : List GhostEvent → List TraceLine
lines_in [] = []
lines_in (event ∷ before) = trace_after (lines_in before) event

-- ---- a run's trace
one_more : (event : GhostEvent) (before tail : List TraceLine) → trace_after (before ++ tail) event ≡ trace_after before event ++ tail
one_more (Tells line) before tail = refl
one_more event before tail = refl

pub run_trace : (home : ℕ → ℕ) (g : Ghosts) (events : List GhostEvent) → (ghost_run home g events).trace ≡ lines_in events ++ g.trace
unfolding ghost_run ghosts_after
run_trace home g [] = refl
run_trace home g (event ∷ before) = ap (λ (trace : List TraceLine). trace_after trace event) (run_trace home g before) ∙ one_more event (lines_in before) g.trace

-- ---- lines of lists
one_line : (event : GhostEvent) (later earlier : List TraceLine) → trace_after (later ++ earlier) event ≡ trace_after later event ++ earlier
one_line = one_more

pub lines_behind : (later before : List GhostEvent) → lines_in (later ++ before) ≡ lines_in later ++ lines_in before
lines_behind [] before = refl
lines_behind (event ∷ later) before = ap (λ (lines : List TraceLine). trace_after lines event) (lines_behind later before) ∙ one_more event (lines_in later) (lines_in before)

pub told_lines : (lines : List TraceLine) → lines_in (map Tells lines) ≡ lines
told_lines [] = refl
told_lines (line ∷ rest) = ap (λ (x : List TraceLine). line ∷ x) (told_lines rest)

-- ---- what machines do tells nothing
own_lines : (events : List GhostEvent) → AreOwn events → lines_in events ≡ []
own_lines [] own = refl
own_lines (FindsEntry reader ∷ before) own = own_lines before own.1
own_lines (TakesValue reader ∷ before) own = own_lines before own.1
own_lines (Reserves a entry cell ∷ before) own = own_lines before own.1
own_lines (Publishes a ∷ before) own = own_lines before own.1
own_lines (Drops a ∷ before) own = own_lines before own.1
own_lines (Changes a entry ∷ before) own = own_lines before own.1
own_lines (Tells line ∷ before) own = absurd own.0
own_lines (Fixes a ∷ before) own = absurd own.0

fixed_lines : (before safe : ℕ) (events : List GhostEvent) → AreOwn events → lines_in (fixed_ghosts before safe ++ events) ≡ []
fixed_lines before safe events own = by_test (safe == before)
  where
    by_test : (c : Bool) → lines_in ((if c then [] else Fixes safe ∷ []) ++ events) ≡ []
    by_test true = own_lines events own
    by_test false = own_lines events own

-- ---- an event tells what it adds to the trace
told_alive : (first : ℕ → ℕ) (w : World) (event : Event) (lines : List TraceLine) → lines_in (map Tells lines ++ (fixed_ghosts (safe_at w.now) (safe_at (happens w event).now) ++ own_ghosts w event)) ≡ lines
told_alive first w event lines =
    let fixes : List GhostEvent = fixed_ghosts (safe_at w.now) (safe_at (happens w event).now) in
    lines_behind (map Tells lines) (fixes ++ own_ghosts w event)
    ∙ (ap (λ (x : List TraceLine). lines_in (map Tells lines) ++ x) (fixed_lines (safe_at w.now) (safe_at (happens w event).now) (own_ghosts w event) (own_own w event))
    ∙ (append-nil (lines_in (map Tells lines)) ∙ told_lines lines))

nothing_traced : (w : World) (event : Event) → w.now.crashed ≡ true → traced_by w event ≡ []
nothing_traced w event e = ap (λ (c : Bool). told_at (length (happens w event).past.history) (if c then [] else ended_by w.now (happens w event).now event ++ begun_by w.now event)) e

told_here : (first : ℕ → ℕ) (w : World) (event : Event) → lines_in (ghost_events first w event) ≡ lines_added first w.past.trace (traced_by w event)
unfolding ghost_events lines_added
told_here first w event = by_test w.now.crashed (nothing_traced w event)
  where
    by_test : (c : Bool) → (c ≡ true → traced_by w event ≡ [])
        → lines_in (if c then [] else map Tells (lines_added first w.past.trace (traced_by w event)) ++ (fixed_ghosts (safe_at w.now) (safe_at (happens w event).now) ++ own_ghosts w event)) ≡ lines_added first w.past.trace (traced_by w event)
    by_test true none = sym (ap (lines_added first w.past.trace) (none refl))
    by_test false none = told_alive first w event (lines_added first w.past.trace (traced_by w event))

-- ---- and the trace's lines are these, event by event
pub split_lines : (first : ℕ → ℕ) (added before : List Traced) → lines_of first (added ++ before) ≡ lines_added first before added ++ lines_of first before
unfolding lines_of lines_added
split_lines first [] before = refl
split_lines first (it ∷ earlier) before =
    ap (λ (x : List TraceLine). event_lines first (earlier ++ before) it.its ++ x) (split_lines first earlier before)
    ∙ sym (append_assoc (event_lines first (earlier ++ before) it.its) (lines_added first before earlier) (lines_of first before))

life_lines : (opening : World) (events : List Event) → opening.past.trace ≡ [] → lines_in (mapped opening events) ≡ lines_of (serials_in opening.now) (run opening events).past.trace
unfolding mapped run lines_of
life_lines opening [] none = sym (ap (lines_of (serials_in opening.now)) none)
life_lines opening (event ∷ before) none =
    let first : ℕ → ℕ = serials_in opening.now in
    let w : World = run opening before in
    lines_behind (ghost_events first w event) (mapped opening before)
    ∙ (ap (λ (x : List TraceLine). x ++ lines_in (mapped opening before)) (told_here first w event)
    ∙ (ap (λ (x : List TraceLine). lines_added first w.past.trace (traced_by w event) ++ x) (life_lines opening before none)
    ∙ (sym (split_lines first (traced_by w event) w.past.trace)
    ∙ sym (ap (lines_of first) (trace_so w event)))))

pub ghost_trace : (opening : World) (ghosts : Ghosts) (events : List Event) → opening.past.trace ≡ [] → ghosts.trace ≡ []
    → (life_ghosts opening ghosts events).trace ≡ lines_of (serials_in opening.now) (run opening events).past.trace
ghost_trace opening ghosts events none untold =
    run_trace (home_in opening.now.shape.bucket_bits) ghosts (mapped opening events)
    ∙ (ap (λ (x : List TraceLine). lines_in (mapped opening events) ++ x) untold
    ∙ (append-nil (lines_in (mapped opening events)) ∙ life_lines opening events none))
