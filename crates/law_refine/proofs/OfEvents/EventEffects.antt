-- What an event of a life adds to the history is what takes effect by the log's events.
use Rattle.std.proofs.Common.{◌≡◌, ℕ, ◌∙◌, inl, inr, refl, sym, ap, Bool, true, false, List, [], ◌∷◌, ◌++◌}
use Rattle.std.specs.Prelude.{map, ◌==◌, if◌then◌else◌, Option, Some, None, slice_get}
use Rattle.fkv_base.specs.declared.numbers.Version.{Version}
use Rattle.fkv_map.specs.declared.history.HistoryEntry.{HistoryEntry}
use Rattle.fkv_map.specs.declared.operations.Call.TheVariants.{Refresh}
use Rattle.law_log.specs.Ghosts.{GhostEvent, Tells, Fixes}
use Rattle.law_log.specs.Trace.{TraceLine}
use Rattle.fkv_plane.specs.declared.asks.Ask.{Ask}
use Rattle.fkv_plane.specs.declared.asks.Ask.TheVariants.{Put, Take, Done}
use Rattle.fkv_plane.specs.Asked.{reply_to}
use Rattle.law_world.specs.Below.fkv_session.Finished.{Finished}
use Rattle.law_world.specs.Below.fkv_session.Told.{Told}
use Rattle.law_world.specs.Below.fkv_session.Sitting.{Sitting}
use Rattle.law_world.specs.Below.fkv_session.Sitting.TheVariants.{Idle}
use Rattle.law_world.specs.Below.fkv_session.Sessions.{SessionState, Seat, session_ask, session_next}
use Rattle.law_world.specs.Below.fkv_world.Past.{Effect, Past, Traced, effect_made, answer_traced, session_traced, history_after, life_past}
use Rattle.law_world.specs.Below.fkv_world.Runs.{World, happens, run}
use Rattle.law_world.specs.Below.fkv_world.World.{Event, Calls, Moves, Commits, Turns, KeeperMoves, Crashes, seat_at}
use Rattle.law_world.proofs.OfRuns.Added.{history_so}
use Rattle.law_world.proofs.Below.fkv_world.Shown.{is_over}
use Rattle.law_world.proofs.OfRuns.Nothing.{no_session}
use Rattle.law_world.specs.Guarded.Shows.{IsOpened}
use Rattle.law_refine.specs.Events.Effects.{AreQuiet, Stepped, TakesEffect, Quietly, Behind, MakesEffect, no_step, mover_step, step_at}
use Rattle.law_refine.specs.Events.GhostEvents.{moved_ghosts, own_ghosts, safe_at, fixed_ghosts, traced_by, serials_in, ghost_events}
use Rattle.law_refine.specs.Events.Lines.{lines_added}
use Rattle.law_refine.specs.Events.Sessions.{sitting_ghosts, step_ghosts}
use Rattle.law_refine.proofs.OfEvents.SessionEffects.{life_takes}

-- ---- an answer leaves the history
answer_history : (session : ℕ) (was : Bool) (step : Sitting) (finished : List Finished) (p : Past) → (answer_traced session was step finished p).history ≡ p.history
answer_history session true (Idle its) finished p = refl
answer_history session was step finished p = refl

traced_history : (session : ℕ) (was : Bool) (found : Option SessionState) (p : Past) → (session_traced session was found p).history ≡ p.history
traced_history session was None p = refl
traced_history session was (Some after) p = answer_history session was after.step after.finished p

moved_history : (w : World) (number : ℕ) (s : SessionState) → w.now.crashed ≡ false → slice_get w.now.sessions number ≡ Some s
    → (happens w (Moves number)).past.history ≡ history_after (seat_at w.now number) s w.now.words (session_ask (seat_at w.now number) s) w.past.history
unfolding life_past
moved_history w number s alive e = rw alive (rw e (traced_history number _ _ _))

same_history : (w : World) (event : Event) → ((number : ℕ) → event ≡ Moves number → ⊥) → (happens w event).past.history ≡ w.past.history
same_history w event other = elim (history_so w event) [
  | inl same ↦ same
  | inr its ↦ absurd (other its.2.session its.2.moves)
]

-- ---- a step of a session
step_makes : (k : Seat) (trace : List Traced) (s : SessionState) (words : List ℕ) (ask : Ask Told) (history : List Effect) (its_step : Stepped) → its_step.version ≡ s.attempt.pending.request.version
    → TakesEffect its_step (sitting_ghosts k trace s s.step (reply_to words ask)) (session_next k s (reply_to words ask)).effect → MakesEffect history (history_after k s words ask history) its_step (step_ghosts k trace s words ask)
unfolding history_after step_ghosts
step_makes k trace s words (Done its) history its_step same takes = record { made = None; history = refl; takes = Quietly [] tt }
step_makes k trace s words (Put slot action) history its_step same takes = record { made = None; history = refl; takes = Quietly [] tt }
step_makes k trace s words (Take slot) history its_step same takes = record { made = None; history = refl; takes = Quietly [] tt }
step_makes k trace s words ask history its_step same takes =
    record { made = (session_next k s (reply_to words ask)).effect; history = ap (λ (v : Version). effect_made (session_next k s (reply_to words ask)).effect v history) (sym same); takes = takes }

nothing_makes : (before after : List Effect) (its_step : Stepped) → after ≡ before → MakesEffect before after its_step []
nothing_makes before after its_step same = record { made = None; history = same; takes = Quietly [] tt }

moved_makes : (opening : World) (start : ℕ) (before : List Event) (number : ℕ) (found : Option SessionState) → IsOpened opening.now start → (run opening before).now.crashed ≡ false
    → slice_get (run opening before).now.sessions number ≡ found
    → MakesEffect (run opening before).past.history (happens (run opening before) (Moves number)).past.history (mover_step (run opening before).now number found) (moved_ghosts (run opening before) number found)
moved_makes opening start before number None opened alive e =
    nothing_makes _ _ (no_step (run opening before).now) (ap (λ (x : World). x.past.history) (no_session (run opening before) number Refresh e).1)
moved_makes opening start before number (Some s) opened alive e =
    let w : World = run opening before in
    let k : Seat = seat_at w.now number in
    let ask : Ask Told = session_ask k s in
    let its = step_makes k w.past.trace s w.now.words ask w.past.history (mover_step w.now number (Some s)) refl (life_takes opening start before number s (reply_to w.now.words ask) opened e) in
    record { made = its.made; history = moved_history w number s alive e ∙ its.history; takes = its.takes }

own_makes : (opening : World) (start : ℕ) (before : List Event) (event : Event) → IsOpened opening.now start → (run opening before).now.crashed ≡ false
    → MakesEffect (run opening before).past.history (happens (run opening before) event).past.history (step_at (run opening before).now event) (own_ghosts (run opening before) event)
own_makes opening start before (Moves number) opened alive = moved_makes opening start before number (slice_get (run opening before).now.sessions number) opened alive refl
own_makes opening start before (Calls number call) opened alive = nothing_makes _ _ (no_step (run opening before).now) (same_history (run opening before) (Calls number call) (λ n e. cc))
own_makes opening start before (Commits kind) opened alive = nothing_makes _ _ (no_step (run opening before).now) (same_history (run opening before) (Commits kind) (λ n e. cc))
own_makes opening start before Turns opened alive = nothing_makes _ _ (no_step (run opening before).now) (same_history (run opening before) Turns (λ n e. cc))
own_makes opening start before (KeeperMoves granted done) opened alive = nothing_makes _ _ (no_step (run opening before).now) (same_history (run opening before) (KeeperMoves granted done) (λ n e. cc))
own_makes opening start before Crashes opened alive = nothing_makes _ _ (no_step (run opening before).now) (same_history (run opening before) Crashes (λ n e. cc))

-- ---- what is told and fixed has no effect
told_quiet : (lines : List TraceLine) → AreQuiet (map Tells lines)
told_quiet [] = tt
told_quiet (line ∷ rest) = (tt, told_quiet rest)

pub fixed_quiet : (before safe : ℕ) → AreQuiet (fixed_ghosts before safe)
fixed_quiet before safe = by_test (safe == before)
  where
    by_test : (c : Bool) → AreQuiet (if c then [] else Fixes safe ∷ [])
    by_test true = tt
    by_test false = (tt, tt)

takes_behind : (its_step : Stepped) (later events : List GhostEvent) (made : Option HistoryEntry) → AreQuiet later → TakesEffect its_step events made → TakesEffect its_step (later ++ events) made
takes_behind its_step [] events made none its = its
takes_behind its_step (event ∷ later) events made none its = Behind event none.0 (takes_behind its_step later events made none.1 its)

-- ---- each event of a life
pub life_makes : (opening : World) (start : ℕ) (before : List Event) (event : Event) → IsOpened opening.now start
    → MakesEffect (run opening before).past.history (happens (run opening before) event).past.history (step_at (run opening before).now event) (ghost_events (serials_in opening.now) (run opening before) event)
unfolding ghost_events
life_makes opening start before event opened = by_test w.now.crashed refl
  where
    w : World
    w = run opening before

    lines : List TraceLine
    lines = lines_added (serials_in opening.now) w.past.trace (traced_by w event)

    fresh : List GhostEvent
    fresh = fixed_ghosts (safe_at w.now) (safe_at (happens w event).now)

    by_test : (c : Bool) → w.now.crashed ≡ c → MakesEffect w.past.history (happens w event).past.history (step_at w.now event) (if c then [] else map Tells lines ++ (fresh ++ own_ghosts w event))
    by_test true e = nothing_makes _ _ (step_at w.now event) (ap (λ (x : World). x.past.history) (is_over w event e))
    by_test false e =
        let its = own_makes opening start before event opened e in
        record {
          made = its.made;
          history = its.history;
          takes = takes_behind _ (map Tells lines) (fresh ++ own_ghosts w event) its.made (told_quiet lines) (takes_behind _ fresh (own_ghosts w event) its.made (fixed_quiet (safe_at w.now) (safe_at (happens w event).now)) its.takes);
        }
