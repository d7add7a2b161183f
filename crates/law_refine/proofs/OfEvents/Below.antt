-- Below where the records ended as the store was opened, the log stays: records are taken at the tail alone, and those that were there are fixed.
use Rattle.std.proofs.Common.{◌≡◌, ◌≢◌, ℕ, ◌<◌, ◌≤◌, ◌∙◌, refl, sym, ap, subst, arith, Bool, true, false, List, [], ◌∷◌, ◌++◌}
use Rattle.std.specs.Prelude.{map, if◌then◌else◌, Option, Some, None, slice_get}
use Rattle.fkv_map.specs.declared.history.HistoryEntry.{HistoryEntry}
use Rattle.fkv_map.specs.Map.{Map}
use Rattle.law_log.specs.Chains.{Cell, Logged, Reserved, Published, Dropped}
use Rattle.law_log.specs.Ghosts.{Log, Ghosts, GhostEvent, Tells, FindsEntry, TakesValue, Reserves, Publishes, Drops, Changes, Fixes, published, dropped, changed, log_after, ghosts_after, ghost_run}
use Rattle.law_log.specs.Enabled.{AreEnabled, IsOpened, IsEnabled, IsChangeEnabled}
use Rattle.law_log.specs.Trace.{TraceLine}
use Rattle.law_log.proofs.Shown.{Steps, enabled_before, log_steps, run_held, set_else}
use Rattle.fkv_plane.specs.declared.asks.Ask.{Ask}
use Rattle.fkv_plane.specs.Asked.{asked, asked_place, reply_to, word_found}
use Rattle.law_world.specs.Below.fkv_session.Told.{Told}
use Rattle.law_world.specs.Below.fkv_session.Sessions.{SessionState, Seat, session_ask}
use Rattle.law_world.specs.Below.fkv_world.Runs.{World, happens, run}
use Rattle.law_world.specs.Below.fkv_world.World.{Event, Moves, seat_at}
use Rattle.law_world.specs.Guarded.Shows as guard
use Rattle.law_refine.specs.Events.GhostEvents.{home_in, moved_ghosts, own_ghosts, safe_at, fixed_ghosts, traced_by, serials_in, ghost_events, mapped, life_ghosts}
use Rattle.law_refine.specs.Events.Lines.{lines_added}
use Rattle.law_refine.specs.Events.Reservations.{TakesTail}
use Rattle.law_refine.specs.Events.Reserved.{tail_at}
use Rattle.law_refine.specs.Events.Sessions.{sitting_ghosts}
use Rattle.law_refine.proofs.OfEvents.SessionSteps.{life_on}
use Rattle.law_refine.proofs.OfEvents.Fixed.{life_rises}
use Rattle.law_refine.proofs.OfEvents.Taking.{AreTaking, IsTaking, taking_both, taking_fixed, taking_moves, taking_step, taking_told}

-- what an event takes lies at or above this address
abbrev pub is_above : ℕ → GhostEvent → Type 0
is_above bound event = IsTaking (λ a. bound ≤ a) event

abbrev pub AreAbove : ℕ → List GhostEvent → Type 0
AreAbove bound events = AreTaking (λ a. bound ≤ a) events

-- ---- one event leaves what is below
other_place : (bound a b : ℕ) → bound ≤ b → a < bound → a ≢ b
other_place bound a b above low = λ same. omega (arith, above, low, same)

abbrev IsFree : Logged → Type 0
IsFree logged = (entry : HistoryEntry) (cell : Cell) → logged ≡ Reserved entry cell → ⊥

publish_low : (home : ℕ → ℕ) (log : Log) (b a : ℕ) (logged : Logged) → log.cells b ≡ logged → IsFree (log.cells a) → (published home log b logged).cells a ≡ log.cells a
publish_low home log b a (Reserved entry cell) its free = set_else log.cells b (Published cell) a (λ same. free entry cell (ap log.cells same ∙ its))
publish_low home log b a logged its free = refl

drop_low : (log : Log) (b a : ℕ) (logged : Logged) → log.cells b ≡ logged → IsFree (log.cells a) → (dropped log b logged).cells a ≡ log.cells a
drop_low log b a (Reserved entry cell) its free = set_else log.cells b (Dropped cell) a (λ same. free entry cell (ap log.cells same ∙ its))
drop_low log b a logged its free = refl

least : (bound fixed b : ℕ) → bound ≤ fixed → fixed ≤ b → bound ≤ b
least bound fixed b one other = omega (arith, one, other)

change_low : (home : ℕ → ℕ) (g : Ghosts) (bound b a : ℕ) (entry : HistoryEntry) (logged : Logged) → IsChangeEnabled home g b entry logged → bound ≤ g.log.fixed → a < bound → (changed g.log b entry logged).cells a ≡ g.log.cells a
change_low home g bound b a entry (Published cell) enabled fixed low = set_else g.log.cells b _ a (other_place bound a b (least bound g.log.fixed b fixed enabled.0.not_fixed) low)
change_low home g bound b a entry logged enabled fixed low = refl

one_low : (home : ℕ → ℕ) (g : Ghosts) (bound a : ℕ) (event : GhostEvent) → is_above bound event → IsEnabled home g event → bound ≤ g.log.fixed → a < bound → IsFree (g.log.cells a) → (log_after home g.log event).cells a ≡ g.log.cells a
one_low home g bound a (Reserves b entry cell) above enabled fixed low free = set_else g.log.cells b (Reserved entry cell) a (other_place bound a b above low)
one_low home g bound a (Publishes b) above enabled fixed low free = publish_low home g.log b a (g.log.cells b) refl free
one_low home g bound a (Drops b) above enabled fixed low free = drop_low g.log b a (g.log.cells b) refl free
one_low home g bound a (Changes b entry) above enabled fixed low free = change_low home g bound b a entry (g.log.cells b) enabled fixed low
one_low home g bound a (Tells line) above enabled fixed low free = refl
one_low home g bound a (FindsEntry reader) above enabled fixed low free = refl
one_low home g bound a (TakesValue reader) above enabled fixed low free = refl
one_low home g bound a (Fixes b) above enabled fixed low free = refl

-- a log on which all events are enabled steps from what it was to what it is
pub one_step : (home : ℕ → ℕ) (m : Map) (number : ℕ) (first : Ghosts) (event : GhostEvent) (before : List GhostEvent) → IsOpened home m number first → AreEnabled home first (event ∷ before)
    → Steps home m (ghost_run home first before).log (log_after home (ghost_run home first before).log event)
unfolding AreEnabled
one_step home m number first event before opened enabled = log_steps home m (ghost_run home first before) event (run_held home m number first before opened enabled.0) enabled.1

-- ---- and so do many
pub record StaysBelow (bound : ℕ) (first g : Ghosts) : Type 0 where
  pub same : (a : ℕ) → a < bound → g.log.cells a ≡ first.log.cells a
  pub fixed : bound ≤ g.log.fixed

behind_below : (home : ℕ → ℕ) (m : Map) (number : ℕ) (first : Ghosts) (bound : ℕ) (later before : List GhostEvent) → IsOpened home m number first → AreEnabled home first (later ++ before) → AreAbove bound later
    → StaysBelow bound first (ghost_run home first before) → StaysBelow bound first (ghost_run home first (later ++ before))
unfolding ghost_run ghosts_after AreEnabled
behind_below home m number first bound [] before opened enabled above was = was
behind_below home m number first bound (event ∷ later) before opened enabled above was =
    let g : Ghosts = ghost_run home first (later ++ before) in
    let here = behind_below home m number first bound later before opened enabled.0 above.1 was in
    let steps = one_step home m number first event (later ++ before) opened enabled in
    record {
      same = λ a low.
          one_low home g bound a event above.0 enabled.1 here.fixed low (λ entry cell e. opened.none_reserved a entry cell (sym (here.same a low) ∙ e))
          ∙ here.same a low;
      fixed = least bound g.log.fixed (log_after home g.log event).fixed here.fixed steps.grows.fixed;
    }

-- ---- of an event of a life, in which the tail never falls below where it began
tail_above : (opening : World) (start : ℕ) (before : List Event) → guard.IsOpened opening.now start → start ≤ tail_at (run opening before).now
unfolding run
tail_above opening start before opened =
    let rises = (life_rises opening start [] before opened).tail in
    let first = opened.words.tail in
    omega (arith, rises, first)

moved_above : (opening : World) (start bound : ℕ) (before : List Event) (number : ℕ) (found : Option SessionState) → guard.IsOpened opening.now start → bound ≤ tail_at (run opening before).now → slice_get (run opening before).now.sessions number ≡ found
    → AreAbove bound (moved_ghosts (run opening before) number found)
moved_above opening start bound before number None opened low e = tt
moved_above opening start bound before number (Some s) opened low e =
    let w : World = run opening before in
    let k : Seat = seat_at w.now number in
    let ask : Ask Told = session_ask k s in
    let high : (addr : ℕ) → TakesTail (asked_place ask) (asked ask) (reply_to w.now.words ask) addr → bound ≤ addr = λ addr takes.
    subst (λ (at : ℕ). bound ≤ at) (sym (takes.found ∙ ap (word_found w.now.words) takes.at)) low in
    taking_step (λ a. bound ≤ a) k w.past.trace s w.now.words ask
    (taking_moves (λ a. bound ≤ a) (asked_place ask) (asked ask) (reply_to w.now.words ask) (sitting_ghosts k w.past.trace s s.step (reply_to w.now.words ask)) _ _ high (life_on opening start before number s (reply_to w.now.words ask) opened e))

own_above : (opening : World) (start bound : ℕ) (before : List Event) (event : Event) → guard.IsOpened opening.now start → bound ≤ tail_at (run opening before).now → AreAbove bound (own_ghosts (run opening before) event)
own_above opening start bound before (Moves number) opened low = moved_above opening start bound before number (slice_get (run opening before).now.sessions number) opened low refl
own_above opening start bound before event opened low = tt

-- what is taken is the tail, so it lies at or above whatever doesn't lie above that
pub event_above : (opening : World) (start bound : ℕ) (before : List Event) (event : Event) → guard.IsOpened opening.now start → bound ≤ tail_at (run opening before).now
    → AreAbove bound (ghost_events (serials_in opening.now) (run opening before) event)
unfolding ghost_events
event_above opening start bound before event opened low = by_test w.now.crashed
  where
    w : World
    w = run opening before

    lines : List TraceLine
    lines = lines_added (serials_in opening.now) w.past.trace (traced_by w event)

    by_test : (c : Bool) → AreAbove bound (if c then [] else map Tells lines ++ (fixed_ghosts (safe_at w.now) (safe_at (happens w event).now) ++ own_ghosts w event))
    by_test true = tt
    by_test false =
        taking_both (λ a. bound ≤ a) (map Tells lines) (fixed_ghosts (safe_at w.now) (safe_at (happens w event).now) ++ own_ghosts w event) (taking_told (λ a. bound ≤ a) lines)
        (taking_both (λ a. bound ≤ a) (fixed_ghosts (safe_at w.now) (safe_at (happens w event).now)) (own_ghosts w event) (taking_fixed (λ a. bound ≤ a) (safe_at w.now) (safe_at (happens w event).now)) (own_above opening start bound before event opened low))

-- ---- and of a life
pub life_below : (opening : World) (start : ℕ) (m : Map) (number : ℕ) (ghosts : Ghosts) (events : List Event) → guard.IsOpened opening.now start → IsOpened (home_in opening.now.shape.bucket_bits) m number ghosts → start ≤ ghosts.log.fixed
    → AreEnabled (home_in opening.now.shape.bucket_bits) ghosts (mapped opening events) → StaysBelow start ghosts (life_ghosts opening ghosts events)
unfolding mapped ghost_run
life_below opening start m number ghosts [] opened log fixed enabled = record { same = λ a low. refl; fixed = fixed }
life_below opening start m number ghosts (event ∷ before) opened log fixed enabled =
    let its : List GhostEvent = ghost_events (serials_in opening.now) (run opening before) event in
    behind_below (home_in opening.now.shape.bucket_bits) m number ghosts start its (mapped opening before) log enabled (event_above opening start start before event opened (tail_above opening start before opened))
    (life_below opening start m number ghosts before opened log fixed (enabled_before (home_in opening.now.shape.bucket_bits) ghosts its (mapped opening before) enabled))
