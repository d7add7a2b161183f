-- The session of each update that has taken effect is there, so where no session has a call in hand the results of all of them have been given.
use Rattle.std.proofs.Common.{◌≡◌, ℕ, ◌∙◌, List, [], ◌∷◌, refl, ap, sym, subst, inl, inr}
use Rattle.std.specs.Prelude.{slice_get, Option, Some}
use Rattle.fkv_map.specs.declared.history.HistoryEntry.{HistoryEntry}
use Rattle.law_log.specs.Trace.{GivesResult, IsIn}
use Rattle.fkv_plane.specs.Asked.{reply_to}
use Rattle.law_world.specs.Below.fkv_session.Replies.{AreOfTheirCalls, effects_told, op_called, serials_taken, with_effect}
use Rattle.law_world.specs.Below.fkv_session.SessionRun.{SessionEvent, Replies, session_happens, session_run}
use Rattle.law_world.specs.Below.fkv_session.Sessions.{SessionState, Seat, IsOpened, session_ask, session_next}
use Rattle.law_world.proofs.Below.fkv_session.Shown.{run_own}
use Rattle.law_world.specs.Runs.Added.{IsEffectOf, IsHistoryAfter}
use Rattle.law_world.specs.Below.fkv_world.Opened.{HasBecome, IsOpenedWorld}
use Rattle.law_world.specs.Below.fkv_world.OwnEvents.{session_events, session_part_of}
use Rattle.law_world.specs.Below.fkv_world.Past.{Effect}
use Rattle.law_world.specs.Below.fkv_world.Runs.{World, happens, run}
use Rattle.law_world.specs.Below.fkv_world.World.{Event, seat_at}
use Rattle.law_world.proofs.Below.fkv_world.Shown.{happens_session, same_seat}
use Rattle.law_world.proofs.OfSessions.OwnRun.{here, opened_so}
use Rattle.law_world.proofs.OfRuns.Added.{history_so}
use Rattle.law_refine.specs.Calls.Calls.{lines_of_life}
use Rattle.law_refine.specs.Results.Results.{NobodyCalls, history_at}
use Rattle.law_refine.proofs.OfResults.Given.{all_given}
use Rattle.law_refine.proofs.OfCalls.InHand.{was_opened}

-- a session of this number is there
pub record IsThere (w : World) (number : ℕ) : Type 0 where
  pub state : SessionState
  pub found : slice_get w.now.sessions number ≡ Some state

stays_there : (w : World) (event : Event) (number : ℕ) → IsThere w number → IsThere (happens w event) number
stays_there w event number its = record { state = session_run (seat_at w.now number) its.state (session_part_of w.now number event); found = happens_session w event number its.state its.found }

-- ---- an effect is of the session that moves
made_own : (k : Seat) (first : SessionState) (own : List SessionEvent) (reply : ℕ) (entry : HistoryEntry) → IsOpened first → (session_next k (session_run k first own) reply).effect ≡ Some entry → entry.session ≡ k.number
unfolding effects_told session_run session_happens
made_own k first own reply entry opened made =
    (subst (λ (found : Option HistoryEntry). AreOfTheirCalls k.number (session_run k first (Replies reply ∷ own)) (op_called k first (Replies reply ∷ own)) (serials_taken k first (Replies reply ∷ own)) (with_effect found (effects_told k first own))) made
    (run_own k first (Replies reply ∷ own) opened)).0.session

effect_own : (opening : World) (before : List Event) (event : Event) (its : Effect) → IsOpenedWorld opening → (from : IsEffectOf (run opening before) event its) → its.entry.session ≡ from.session
effect_own opening before event its opened from = made_own (seat_at opening.now from.session) first (session_events opening from.session before) reply its.entry (opened_so opening before from.session first from.mover became) made
  where
    w : World
    w = run opening before

    first : SessionState
    first = (was_opened opening before from.session from.mover opened from.found).first

    became : HasBecome opening before from.session first from.mover
    became = (was_opened opening before from.session from.mover opened from.found).became

    reply : ℕ
    reply = reply_to w.now.words (session_ask (seat_at w.now from.session) from.mover)

    made : (session_next (seat_at opening.now from.session) (session_run (seat_at opening.now from.session) first (session_events opening from.session before)) reply).effect ≡ Some its.entry
    made =
        sym (ap (λ (x : SessionState). (session_next (seat_at opening.now from.session) x reply).effect) (here opening before from.session first from.mover became))
        ∙ (sym (ap (λ (k : Seat). (session_next k from.mover reply).effect) (same_seat opening before from.session))
        ∙ (sym (ap (λ (x : SessionState). x.effect) from.replied) ∙ from.tells))

-- ---- each effect's session is there
pub each_there : (opening : World) (events : List Event) (its : Effect) → IsOpenedWorld opening → IsIn its (history_at opening events) → IsThere (run opening events) its.entry.session
unfolding run
each_there opening [] its opened is_in = absurd (subst (IsIn its) opened.no_history is_in)
each_there opening (event ∷ before) its opened is_in = by_history (history_so w event) (λ older. stays_there w event its.entry.session (each_there opening before its opened older)) is_in
  where
    w : World
    w = run opening before

    of_newest : (newest : Effect) → IsEffectOf w event newest → newest ≡ its → IsThere (happens w event) its.entry.session
    of_newest newest from same = record {
      state = from.after;
      found = ap (slice_get (happens w event).now.sessions) (ap (λ (x : Effect). x.entry.session) (sym same) ∙ effect_own opening before event newest opened from) ∙ from.is_now;
    }

    in_front : (newest : Effect) → IsEffectOf w event newest → (IsIn its w.past.history → IsThere (happens w event) its.entry.session) → IsIn its (newest ∷ w.past.history) → IsThere (happens w event) its.entry.session
    in_front newest from earlier (inl same) = of_newest newest from same
    in_front newest from earlier (inr older) = earlier older

    by_history : IsHistoryAfter w event (happens w event).past.history → (IsIn its w.past.history → IsThere (happens w event) its.entry.session) → IsIn its (happens w event).past.history → IsThere (happens w event) its.entry.session
    by_history (inl same) earlier now = earlier (subst (IsIn its) same now)
    by_history (inr new) earlier now = in_front new.0 new.2 earlier (subst (IsIn its) new.1 now)

-- ---- in a life in which nobody calls
pub given_at_rest : (opening : World) (events : List Event) (its : Effect) → IsOpenedWorld opening → NobodyCalls (run opening events).now → IsIn its (history_at opening events)
    → IsIn (GivesResult its.entry.session its.entry.serial.0 its.entry.reply) (lines_of_life opening events)
given_at_rest opening events its opened nobody is_in =
    let there = each_there opening events its opened is_in in
    all_given opening events its.entry.session there.state its opened there.found (nobody its.entry.session there.state there.found) is_in refl
