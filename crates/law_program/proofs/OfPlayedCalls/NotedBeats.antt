-- What a beat adds to the history is what the player notes of it.
use Rattle.std.proofs.Common.{◌≡◌, ◌≢◌, ◌∙◌, ℕ, List, [], ◌∷◌, ◌++◌, Bool, true, false, ap, append-nil, append_assoc, arith, refl, sym, subst}
use Rattle.std.specs.Prelude.{⊤, Option, Some, None, if◌then◌else◌, not, ◌==◌, slice_get}
use Rattle.std.proofs.lemmas.Bool.Decides.{nat_tests}
use Rattle.law_order.specs.Below.fkv_core.Alone.{in_hand}
use Rattle.law_order.specs.Below.fkv_core.Openings.{IsOpeningWorld, beginning}
use Rattle.law_order.specs.Below.fkv_core.Showing.{effect_at, effect_of}
use Rattle.law_order.specs.Below.fkv_core.Told.{IsSessionEnd, IsSittingTold, IsTold, may_begin, may_move, numbered}
use Rattle.law_order.specs.Below.fkv_core.Worlds.{WorldModel, took_place}
use Rattle.law_order.specs.Below.fkv_core.Actor.TheVariants.{Session as session}
use Rattle.law_order.specs.Below.fkv_core.Event as events
use Rattle.law_order.specs.Below.fkv_core.TheTold as tells
use Rattle.fkv_epoch.proofs.Shown.{none_some, some_same}
use Rattle.fkv_map.specs.declared.history.HistoryEntry.{HistoryEntry}
use Rattle.law_order.specs.Below.fkv_opening.TheOpened.{Opened}
use Rattle.fkv_runs.specs.Below.fkv_playing.Beats.{IsBeat, effects_behind, event_of, listed, outcome_of, turn_move}
use Rattle.fkv_runs.specs.Below.fkv_playing.Players.{PlayerState, is_struck}
use Rattle.fkv_runs.specs.Below.fkv_playing.Queues.{rank_of}
use Rattle.fkv_runs.specs.Below.fkv_playing.ActorCall.{ActorCall}
use Rattle.fkv_runs.specs.Below.fkv_playing.ActorCall.TheVariants.{Commit, Session, Trim, Turn}
use Rattle.fkv_runs.specs.Below.fkv_playing.Outcome.{Outcome}
use Rattle.fkv_runs.specs.Below.fkv_playing.Outcome.TheVariants.{GoesOn}
use Rattle.fkv_runs.specs.Below.fkv_playing.Stage.{Stage}
use Rattle.fkv_runs.specs.Below.fkv_playing.Stage.TheVariants as stage
use Rattle.fkv_runs.specs.Below.fkv_playing.Telling.{Telling}
use Rattle.law_order.specs.Below.fkv_session.Replies.{with_effect}
use Rattle.law_order.specs.Below.fkv_session.Sessions.{SessionState, is_busy}
use Rattle.law_order.specs.Below.fkv_session.Answer.{Answer}
use Rattle.law_order.specs.Below.fkv_session.Finished.{Finished}
use Rattle.law_order.specs.Below.fkv_session.Sitting.{Sitting}
use Rattle.law_order.specs.Below.fkv_session.Sitting.TheVariants.{Idle}
use Rattle.law_order.specs.Below.fkv_world.Actors.{is_of_session}
use Rattle.law_order.specs.Below.fkv_world.Past as past
use Rattle.law_order.specs.Below.fkv_world.Runs.{World, happens, read_by_keeper, run}
use Rattle.law_order.specs.Below.fkv_world.World.{Calls, Event, KeeperMoves, Moves, Now, life_goes, session_calls, session_moves}
use Rattle.law_order.proofs.Below.fkv_world.Shown.{session_apart}
use Rattle.law_answers.specs.Effects.Kept as told_law
use Rattle.law_answers.specs.Effects.Kept.{told_behind, updates}
use Rattle.law_answers.specs.Effects.Laws.{EventsTellTheirEffects}
use Rattle.law_log.specs.Trace.{history_of}
use Rattle.law_order.specs.Below.law_opening.Lives.Laws.{GuardOpens}
use Rattle.law_order.specs.Prefix.Law.{history_so_far}
use Rattle.law_order.proofs.OfRules.Beginning.{world_opens}
use Rattle.law_order.specs.Below.law_refine.Calls.Calls.{effects_in_log}
use Rattle.law_order.proofs.Below.law_world.OfRuns.Nothing.{in_hand as called_in_hand, no_session}
use Rattle.law_program.specs.PlayedCalls.EachLine.{IsUnswept, ItsNumbersFit, begun_by}
use Rattle.law_program.specs.PlayedCalls.Interleaved.{IsLifeShown}
use Rattle.law_program.specs.PlayedCalls.Noted.{IsNoted}
use Rattle.law_program.proofs.OfPlayedCalls.Beats.{unheard}
use Rattle.law_program.proofs.OfPlayedCalls.Interleaved.{event_fits}
use Rattle.law_program.proofs.OfPlayedCalls.Led.{IsEventAt, LeadsLives, none_swept, took_at}

-- ---- histories, the oldest first
abbrev in_order : List HistoryEntry → List HistoryEntry
in_order [] = []
in_order (entry ∷ before) = in_order before ++ entry ∷ []

as_updates : (effects : List past.Effect) → history_of (effects_in_log effects) ≡ in_order (updates effects)
as_updates [] = refl
as_updates (its ∷ before) = ap (λ (x : List HistoryEntry). x ++ its.entry ∷ []) (as_updates before)

put_last : (found : Option HistoryEntry) (before : List HistoryEntry) → in_order (with_effect found before) ≡ in_order before ++ listed found
put_last None before = sym (append-nil (in_order before))
put_last (Some entry) before = refl

-- what an event tells stands behind the history so far
grows : EventsTellTheirEffects → GuardOpens → (o : Opened) (first : Now) (bytes : List ℕ) (event : Event) (life : List Event) (n after : Now) → IsOpeningWorld o first → (run (beginning first bytes) life).now ≡ n → (run (beginning first bytes) (event ∷ life)).now ≡ after
    → history_so_far first bytes (event ∷ life) ≡ history_so_far first bytes life ++ listed (told_behind n after event)
grows law opens o first bytes event life n after begins was is_now =
    let opening : World = beginning first bytes in
    let before = (run opening life).past.history in
    let found : told_behind (run opening life).now (run opening (event ∷ life)).now event ≡ told_behind n after event
    = ap (λ (x : Now). told_behind x (run opening (event ∷ life)).now event) was ∙ ap (λ (x : Now). told_behind n x event) is_now in
    let step : updates (run opening (event ∷ life)).past.history ≡ with_effect (told_behind n after event) (updates before)
    = law opening o.tail.0 life event (world_opens o first bytes begins) (opens o first bytes begins) ∙ ap (λ (x : Option HistoryEntry). with_effect x (updates before)) found in
    as_updates (run opening (event ∷ life)).past.history
    ∙ (ap in_order step ∙ (put_last (told_behind n after event) (updates before) ∙ ap (λ (x : List HistoryEntry). x ++ listed (told_behind n after event)) (sym (as_updates before))))

-- a life as it begins has none
pub none_yet : (first : Now) (bytes : List ℕ) → history_so_far first bytes [] ≡ []
unfolding run
none_yet first bytes = refl

-- ---- a life goes on
goes_alive : (at : Stage) (call : ActorCall) (event : Event) (n : Now) (read : List ℕ) → IsEventAt at call event → (life_goes n read event).crashed ≡ n.crashed
unfolding life_goes
goes_alive at call event n read is = by_event at call is
  where
    called : (number : ℕ) (asked : _) (found : Option SessionState) → (session_calls n number asked found).crashed ≡ n.crashed
    called number asked None = refl
    called number asked (Some s) = refl

    moved : (number : ℕ) (found : Option SessionState) → (session_moves n number found).crashed ≡ n.crashed
    moved number None = refl
    moved number (Some s) = refl

    begins : (its : ActorCall) → (life_goes n read (begun_by its)).crashed ≡ n.crashed
    begins (Session number asked) = called number asked (slice_get n.sessions number)
    begins (Commit kind) = refl
    begins Trim = refl
    begins Turn = refl

    moves : (number : ℕ) → (life_goes n read (Moves number)).crashed ≡ n.crashed
    moves number = moved number (slice_get n.sessions number)

    keeper_moves : (granted done : Bool) → (life_goes n read (KeeperMoves granted done)).crashed ≡ n.crashed
    keeper_moves granted done = refl

    by_event : (its_at : Stage) (its : ActorCall) → IsEventAt its_at its event → (life_goes n read event).crashed ≡ n.crashed
    by_event stage.Begins its e = ap (λ (x : Event). (life_goes n read x).crashed) e ∙ begins its
    by_event stage.Moves (Session number asked) e = ap (λ (x : Event). (life_goes n read x).crashed) e ∙ moves number
    by_event stage.Moves (Commit kind) e = ap (λ (x : Event). (life_goes n read x).crashed) e.2 ∙ keeper_moves e.0 e.1
    by_event stage.Moves Trim e = ap (λ (x : Event). (life_goes n read x).crashed) e.2 ∙ keeper_moves e.0 e.1
    by_event stage.Moves Turn e = ap (λ (x : Event). (life_goes n read x).crashed) e.2 ∙ keeper_moves e.0 e.1

happens_alive : (at : Stage) (call : ActorCall) (event : Event) (w : World) → IsEventAt at call event → w.now.crashed ≡ false → (happens w event).now.crashed ≡ false
happens_alive at call event w is alive =
    ap (λ (c : Bool). (if c then w.now else life_goes w.now (read_by_keeper w) event).crashed) alive ∙ (goes_alive at call event w.now (read_by_keeper w) is ∙ alive)

run_on : (opening : World) (event : Event) (life : List Event) → run opening (event ∷ life) ≡ happens (run opening life) event
unfolding run
run_on opening event life = refl

-- ---- calls in hand
-- a session's call is in hand, where there is such a session; of the keeper's nothing is asked
abbrev pub IsInHand : Now → ActorCall → Type 0
IsInHand n (Session number asked) = (s : SessionState) → slice_get n.sessions number ≡ Some s → is_busy s.step ≡ true
IsInHand n other = ⊤

-- a move needs that of its call
abbrev pub IsReadyAt : Stage → Now → ActorCall → Type 0
IsReadyAt stage.Begins n call = ⊤
IsReadyAt stage.Moves n call = IsInHand n call

-- where a call goes on nothing was told
none_told : (struck : Bool) (its : Option tells.Told) → GoesOn ≡ outcome_of struck its → its ≡ None
none_told true its e = cc
none_told false its e = unheard false its e

none_answered : (number : ℕ) (answer : Option Answer) → None ≡ numbered number answer → answer ≡ None
none_answered number None e = refl
none_answered number (Some answer) e = none_some _ e

sitting_busy : (step : Sitting) (finished : List Finished) → IsSittingTold true step finished None → is_busy step ≡ true
sitting_busy (Idle its) finished so = none_some so.0 so.1
sitting_busy step finished so = refl

-- so it is in hand still
ended_busy : (number : ℕ) (ends : SessionState → Bool) (s after : SessionState) → ends s ≡ true → IsSessionEnd number ends (Some s) (Some after) None → is_busy after.step ≡ true
ended_busy number ends s after begins so =
    sitting_busy after.step after.finished
    (subst (λ (x : Option Answer). IsSittingTold true after.step after.finished x) (none_answered number so.answer so.numbered_so)
    (subst (λ (x : Bool). IsSittingTold x after.step after.finished so.answer) begins so.its))

not_true : (b : Bool) → not b ≡ false → b ≡ true
not_true true e = refl
not_true false e = cc

module _ (w after : World) (number : ℕ) where
  abbrev IsBusyThen : Type 0
  IsBusyThen = (s : SessionState) → slice_get after.now.sessions number ≡ Some s → is_busy s.step ≡ true

  -- an event that leaves all as it was
  as_before : after ≡ w → (found : Option SessionState) → slice_get w.now.sessions number ≡ found → ((s : SessionState) → found ≡ Some s → is_busy s.step ≡ true) → IsBusyThen
  as_before same found e busy s there = busy s (sym e ∙ (ap (λ (x : World). slice_get x.now.sessions number) (sym same) ∙ there))

  begun_busy : (asked : _) → after ≡ happens w (Calls number asked) → IsSessionEnd number may_begin (slice_get w.now.sessions number) (slice_get after.now.sessions number) None → IsBusyThen
  begun_busy asked led so s there = by_seat (slice_get w.now.sessions number) refl (subst (λ (x : Option SessionState). IsSessionEnd number may_begin (slice_get w.now.sessions number) x None) there so)
    where
      by_busy : (was : SessionState) (busy : Bool) → slice_get w.now.sessions number ≡ Some was → is_busy was.step ≡ busy → IsSessionEnd number may_begin (Some was) (Some s) None → is_busy s.step ≡ true
      by_busy was false e idle so = ended_busy number may_begin was s (ap not idle) so
      by_busy was true e busy so = as_before (led ∙ called_in_hand w number asked was e busy) (Some was) e (λ x same. ap (λ (y : SessionState). is_busy y.step) (sym (some_same was x same)) ∙ busy) s there

      by_seat : (seat : Option SessionState) → slice_get w.now.sessions number ≡ seat → IsSessionEnd number may_begin seat (Some s) None → is_busy s.step ≡ true
      by_seat None e so = as_before (led ∙ (no_session w number asked e).0) None e (λ x same. none_some x same) s there
      by_seat (Some was) e so = by_busy was (is_busy was.step) e refl so

  moved_busy : (asked : _) → after ≡ happens w (Moves number) → IsInHand w.now (Session number asked) → IsSessionEnd number may_move (slice_get w.now.sessions number) (slice_get after.now.sessions number) None → IsBusyThen
  moved_busy asked led ready so s there = by_seat (slice_get w.now.sessions number) refl (subst (λ (x : Option SessionState). IsSessionEnd number may_move (slice_get w.now.sessions number) x None) there so)
    where
      by_seat : (seat : Option SessionState) → slice_get w.now.sessions number ≡ seat → IsSessionEnd number may_move seat (Some s) None → is_busy s.step ≡ true
      by_seat None e so = as_before (led ∙ (no_session w number asked e).1) None e (λ x same. none_some x same) s there
      by_seat (Some was) e so = ended_busy number may_move was s (ready was e) so

still_in_hand : (at : Stage) (call : ActorCall) (event : Event) (w after : World) → IsEventAt at call event → after ≡ happens w event → IsReadyAt at w.now call → IsTold false w.now after.now event None → IsInHand after.now call
still_in_hand stage.Begins (Session number asked) event w after is led ready so =
    begun_busy w after number asked (led ∙ ap (happens w) is) (subst (λ (x : Event). IsTold false w.now after.now x None) is so)
still_in_hand stage.Begins (Commit kind) event w after is led ready so = tt
still_in_hand stage.Begins Trim event w after is led ready so = tt
still_in_hand stage.Begins Turn event w after is led ready so = tt
still_in_hand stage.Moves (Session number asked) event w after is led ready so =
    moved_busy w after number asked (led ∙ ap (happens w) is) ready (subst (λ (x : Event). IsTold false w.now after.now x None) is so)
still_in_hand stage.Moves (Commit kind) event w after is led ready so = tt
still_in_hand stage.Moves Trim event w after is led ready so = tt
still_in_hand stage.Moves Turn event w after is led ready so = tt

-- ---- the others
off : (number other : ℕ) → other ≢ number → (number == other) ≡ false
off number other far = grind (arith, nat_tests, far)

apart_at : (at : Stage) (call : ActorCall) (event : Event) (other : ℕ) → IsEventAt at call event → other ≢ rank_of call → is_of_session other event ≡ false
apart_at stage.Begins (Session number asked) event other is far = ap (is_of_session other) is ∙ off number other far
apart_at stage.Begins (Commit kind) event other is far = ap (is_of_session other) is
apart_at stage.Begins Trim event other is far = ap (is_of_session other) is
apart_at stage.Begins Turn event other is far = ap (is_of_session other) is
apart_at stage.Moves (Session number asked) event other is far = ap (is_of_session other) is ∙ off number other far
apart_at stage.Moves (Commit kind) event other is far = ap (is_of_session other) is.2
apart_at stage.Moves Trim event other is far = ap (is_of_session other) is.2
apart_at stage.Moves Turn event other is far = ap (is_of_session other) is.2

-- ---- what is noted
busy_in_hand : (n : Now) (number : ℕ) (s : SessionState) → n.crashed ≡ false → slice_get n.sessions number ≡ Some s → is_busy s.step ≡ true → in_hand n (session number) ≡ true
busy_in_hand n number s alive found busy = rw alive (rw found busy)

asked_so : (n after : Now) (number : ℕ) → in_hand n (session number) ≡ true → told_law.told_of_move n after number ≡ effect_of after number
asked_so n after number busy = ap (λ (c : Bool). if c then effect_of after number else None) busy

none_asked : (c : Bool) (effect : Option HistoryEntry) → effect ≡ None → (if c then effect else None) ≡ effect
none_asked true effect e = refl
none_asked false effect e = sym e

move_noted : (w after : World) (number : ℕ) (asked : _) → w.now.crashed ≡ false → after ≡ happens w (Moves number) → IsInHand w.now (Session number asked) → told_law.told_of_move w.now after.now number ≡ effect_of after.now number
move_noted w after number asked alive led ready = by_seat (slice_get w.now.sessions number) refl
  where
    by_seat : (seat : Option SessionState) → slice_get w.now.sessions number ≡ seat → told_law.told_of_move w.now after.now number ≡ effect_of after.now number
    by_seat None e =
        let there : slice_get after.now.sessions number ≡ None = ap (λ (x : World). slice_get x.now.sessions number) (led ∙ (no_session w number asked e).1) ∙ e in
        none_asked (in_hand w.now (session number)) (effect_of after.now number) (ap effect_at there)
    by_seat (Some s) e = asked_so w.now after.now number (busy_in_hand w.now number s alive e (ready s e))

-- nothing is noted of a turn's move
turn_noted : (sweeps : Bool) (n : Now) → effects_behind true (turn_move sweeps) n ≡ []
turn_noted true n = refl
turn_noted false n = refl

event_noted : (sweeps : Bool) (at : Stage) (call : ActorCall) (event : Event) (w after : World) → IsEventAt at call event → w.now.crashed ≡ false → after ≡ happens w event → IsReadyAt at w.now call
    → listed (told_behind w.now after.now event) ≡ effects_behind true (event_of sweeps at call) after.now
event_noted sweeps stage.Begins (Session number asked) event w after is alive led ready = ap (λ (x : Event). listed (told_behind w.now after.now x)) is
event_noted sweeps stage.Begins (Commit kind) event w after is alive led ready = ap (λ (x : Event). listed (told_behind w.now after.now x)) is
event_noted sweeps stage.Begins Trim event w after is alive led ready = ap (λ (x : Event). listed (told_behind w.now after.now x)) is
event_noted sweeps stage.Begins Turn event w after is alive led ready = ap (λ (x : Event). listed (told_behind w.now after.now x)) is
event_noted sweeps stage.Moves (Session number asked) event w after is alive led ready =
    ap (λ (x : Event). listed (told_behind w.now after.now x)) is ∙ ap listed (move_noted w after number asked alive (led ∙ ap (happens w) is) ready)
event_noted sweeps stage.Moves (Commit kind) event w after is alive led ready = ap (λ (x : Event). listed (told_behind w.now after.now x)) is.2
event_noted sweeps stage.Moves Trim event w after is alive led ready = ap (λ (x : Event). listed (told_behind w.now after.now x)) is.2
event_noted sweeps stage.Moves Turn event w after is alive led ready = ap (λ (x : Event). listed (told_behind w.now after.now x)) is.2 ∙ sym (turn_noted sweeps after.now)

-- ---- a beat
module _ {D : Type 0} (seen : D → List ℕ) (may_leave : D → List ℕ → Type 0) (engine : events.Event → WorldModel D → WorldModel D → Option tells.Told → Bool → Type 0) (leads : LeadsLives seen may_leave engine)
    (law : EventsTellTheirEffects) (opens : GuardOpens) (kept : List HistoryEntry) (bytes : List ℕ) (o : Opened) (first : Now) where
  -- The life has gone on by its event, which the player has noted. The call is in hand still where it goes on, and other sessions are as they were.
  pub record BeatIsNoted (life : List Event) (call : ActorCall) (at : Stage) (before after : PlayerState D) (outcome : Outcome) : Type 0 where
    pub event : Event
    pub is_at : IsEventAt at call event
    pub shown : IsLifeShown seen may_leave bytes o first (event ∷ life) after
    pub keeps : after.keeps_history ≡ before.keeps_history
    pub noted : IsNoted kept bytes first (event ∷ life) after
    pub unswept : call ≢ Trim → IsUnswept bytes first life before → IsUnswept bytes first (event ∷ life) after
    pub in_hand : outcome ≡ GoesOn → IsInHand after.world.now call
    pub others : (other : ℕ) → other ≢ rank_of call → slice_get after.world.now.sessions other ≡ slice_get before.world.now.sessions other

  pub beat_noted : (telling : Telling) (life : List Event) (call : ActorCall) (at : Stage) (before after : PlayerState D) (outcome : Outcome) (text : List ℕ) → IsLifeShown seen may_leave bytes o first life before → IsNoted kept bytes first life before
      → IsReadyAt at before.world.now call → ItsNumbersFit call → IsBeat engine telling call at before after outcome text → BeatIsNoted life call at before after outcome
  beat_noted telling life call at before after outcome text was noted ready fit beat =
      let opening : World = beginning first bytes in
      let w : World = run opening life in
      let led = leads (event_of before.sweeps at call) before.world after.world beat.its beat.broken beat.step in
      let event : Event = took_place (event_of before.sweeps at call) led.granted led.done in
      let is : IsEventAt at call event = took_at before.sweeps at call led.granted led.done in
      let on = led.leads opening life (world_opens o first bytes was.opening) was.shows was.device in
      let behind : World = run opening (event ∷ life) in
      let same : behind ≡ happens w event = run_on opening event life in
      let alive : w.now.crashed ≡ false = ap (λ (x : Now). x.crashed) was.shows ∙ noted.goes_on in
      let ready_so : IsReadyAt at w.now call = subst (λ (x : Now). IsReadyAt at x call) (sym was.shows) ready in
      let keeps : after.keeps_history ≡ before.keeps_history = ap (λ (x : PlayerState D). x.keeps_history) beat.same in
      record {
        event = event;
        is_at = is;
        shown = record { store = was.store; opening = was.opening; fits = (event_fits at call event fit is, was.fits); shows = on.shows; device = on.device; begins = λ none. cc };
        keeps = keeps;
        noted = record {
          goes_on = ap (λ (x : Now). x.crashed) (sym on.shows) ∙ (ap (λ (x : World). x.now.crashed) same ∙ happens_alive at call event w is alive);
          noted = λ keeps_it.
              let were : before.history ≡ kept ++ history_so_far first bytes life = noted.noted (sym keeps ∙ keeps_it) in
              let added : effects_behind before.keeps_history (event_of before.sweeps at call) after.world.now ≡ listed (told_behind w.now behind.now event)
              = ap (λ (x : Bool). effects_behind x (event_of before.sweeps at call) after.world.now) (sym keeps ∙ keeps_it)
              ∙ (ap (effects_behind true (event_of before.sweeps at call)) (sym on.shows) ∙ sym (event_noted before.sweeps at call event w behind is alive same ready_so)) in
              beat.history
              ∙ (ap (λ (x : List HistoryEntry). before.history ++ x) added
              ∙ (ap (λ (x : List HistoryEntry). x ++ listed (told_behind w.now behind.now event)) were
              ∙ (append_assoc kept (history_so_far first bytes life) (listed (told_behind w.now behind.now event))
              ∙ ap (λ (x : List HistoryEntry). kept ++ x) (sym (grows law opens o first bytes event life w.now behind.now was.opening refl refl)))));
        };
        unswept = none_swept seen may_leave engine leads telling call opening (world_opens o first bytes was.opening) at life before after outcome text event was.shows on.shows led.no_sweep beat;
        in_hand = λ goes.
            let none : beat.its ≡ None = none_told (is_struck before.waits beat.broken) beat.its (sym goes ∙ beat.ends) in
            let tells : IsTold false w.now behind.now event None
            = subst (λ (x : Bool). IsTold x w.now behind.now event None) alive
            (subst (λ (x : Now). IsTold x.crashed x behind.now event None) (sym was.shows)
            (subst (λ (x : Now). IsTold before.world.now.crashed before.world.now x event None) (sym on.shows)
            (subst (λ (x : Option tells.Told). IsTold before.world.now.crashed before.world.now after.world.now event x) none led.tells))) in
            subst (λ (x : Now). IsInHand x call) on.shows (still_in_hand at call event w behind is same ready_so tells);
        others = λ other far.
            ap (λ (x : Now). slice_get x.sessions other) (sym on.shows)
            ∙ (ap (λ (x : World). slice_get x.now.sessions other) same ∙ (session_apart w event other (apart_at at call event other is far) ∙ ap (λ (x : Now). slice_get x.sessions other) was.shows));
      }
