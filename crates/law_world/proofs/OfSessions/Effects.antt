-- The history has of each session just the effects that its own run has told.
use Rattle.std.proofs.Common.{◌≡◌, ℕ, ◌∙◌, ◌++◌, List, [], ◌∷◌, refl, ap, sym, subst, Bool, true, false, arith}
use Rattle.std.specs.Prelude.{Option, Some, None, slice_get, ◌==◌, if◌then◌else◌}
use Rattle.fkv_map.specs.declared.history.HistoryEntry.{HistoryEntry}
use Rattle.fkv_plane.specs.declared.actions.Action.{Action}
use Rattle.fkv_plane.specs.declared.asks.Ask.{Ask}
use Rattle.fkv_plane.specs.declared.asks.Ask.TheVariants.{Put, Take, Done}
use Rattle.fkv_plane.specs.Asked.{reply_to}
use Rattle.fkv_plane.specs.Plane.{action_at}
use Rattle.fkv_session.specs.declared.answers.Told.{Told}
use Rattle.fkv_session.specs.declared.sessions.Sitting.{Sitting}
use Rattle.fkv_session.specs.declared.sessions.Sitting.TheVariants.{Idle, Attempts, CatchesUp, ClearsMail, Polls, StoresOwing, Turns, StoresCut, Leaves, LoadsDurable}
use Rattle.std.proofs.lemmas.Bool.Decides.{nat_tests}
use Rattle.fkv_base.specs.declared.numbers.Version.{Version}
use Rattle.fkv_session.specs.Replies.{AreOfTheirCalls, effect_behind, effects_told, op_called, serials_taken, with_effect}
use Rattle.fkv_session.proofs.Shown.{run_own}
use Rattle.fkv_session.specs.Sessions.{SessionState, Seat, IsOpened, session_ask, session_next, sitting_ask, sitting_next}
use Rattle.fkv_session.specs.SessionRun as session
use Rattle.fkv_session.specs.SessionRun.{SessionEvent, session_happens, session_run}
use Rattle.fkv_world.specs.Moves.{Near}
use Rattle.fkv_world.specs.Opened.{HasBecome, IsOpenedWorld, effects_of, life_effects}
use Rattle.fkv_world.specs.Past.{Effect, effect_made, history_after}
use Rattle.fkv_world.specs.OwnEvents.{session_got, session_slots, session_steps, session_part, session_part_found, session_part_of, session_events}
use Rattle.law_world.proofs.OfRuns.EffectStays.{catch_keeps, leave_keeps, turn_keeps}
use Rattle.law_world.proofs.OfRuns.NoSlots.{IsOffSlots, passed_off, mail_off, attempt_off_slots}
use Rattle.fkv_epoch.proofs.Shown.{none_some, some_same}
use Rattle.fkv_world.specs.Actors.{is_of_session}
use Rattle.fkv_world.specs.Runs.{World, happens, read_by_keeper, run}
use Rattle.fkv_world.specs.World.{Event, Calls, Moves, Commits, Turns, KeeperMoves, Crashes, Now, seat_at, near, life_goes}
use Rattle.law_world.proofs.OfRuns.Added.{added_history, history_added, history_found}
use Rattle.fkv_world.proofs.Shown.{lived, is_over, same_seat, session_runs, session_runs_on}
use Rattle.law_world.proofs.OfRuns.Nothing.{none_ever}

-- an ask that is off the slots puts nothing
never_puts : {A : Type 0} (ask : Ask A) (slot : ℕ) (action : Action) → IsOffSlots ask → ask ≡ Put slot action → ⊥
never_puts ask slot action off e = subst IsOffSlots e off

-- where an action is put no effect is made
next_quiet : (k : Seat) (s : SessionState) (asks : ℕ) (step : Sitting) (reply slot : ℕ) (action : Action) → sitting_ask k s step ≡ Put slot action
    → (sitting_next k (record s { asks = asks; effect = None }) step reply).effect ≡ None
unfolding sitting_ask sitting_next
next_quiet k s asks (Idle its) reply slot action e = cc
next_quiet k s asks (Attempts has_shifted) reply slot action e = absurd (never_puts _ slot action (passed_off _ _ (attempt_off_slots k.places k.number s.attempt s.attempt.step)) e)
next_quiet k s asks (CatchesUp cause) reply slot action e = catch_keeps k _ cause _
next_quiet k s asks ClearsMail reply slot action e = absurd (never_puts _ slot action (passed_off _ _ (mail_off k.number s.mailing)) e)
next_quiet k s asks (Polls index) reply slot action e = absurd (never_puts _ slot action (passed_off _ _ (attempt_off_slots k.places k.number s.attempt s.attempt.step)) e)
next_quiet k s asks (StoresOwing index) reply slot action e = cc
next_quiet k s asks (Turns its) reply slot action e = turn_keeps _ its _
next_quiet k s asks StoresCut reply slot action e = cc
next_quiet k s asks Leaves reply slot action e = leave_keeps _ _
next_quiet k s asks LoadsDurable reply slot action e = cc

put_quiet : (k : Seat) (s : SessionState) (slot : ℕ) (action : Action) → session_ask k s ≡ Put slot action → (session_next k s 0).effect ≡ None
put_quiet k s slot action e = next_quiet k s _ s.step 0 slot action e

-- effects of one run behind another
effect_on : (found : Option HistoryEntry) (later before : List HistoryEntry) → with_effect found (later ++ before) ≡ with_effect found later ++ before
effect_on None later before = refl
effect_on (Some its) later before = refl

effects_on : (k : Seat) (opening : SessionState) (later before : List SessionEvent) → effects_told k opening (later ++ before) ≡ effects_told k (session_run k opening before) later ++ effects_told k opening before
unfolding effects_told session_run
effects_on k opening [] before = refl
effects_on k opening (event ∷ later) before =
    ap (λ (told : List HistoryEntry). with_effect (effect_behind event (session_happens k s event)) told) (effects_on k opening later before)
    ∙ (effect_on (effect_behind event (session_happens k s event)) (effects_told k (session_run k opening before) later) (effects_told k opening before)
    ∙ ap (λ (x : SessionState). with_effect (effect_behind event (session_happens k x event)) (effects_told k (session_run k opening before) later) ++ effects_told k opening before) (session_runs_on k opening later before))
  where
    s : SessionState
    s = session_run k opening (later ++ before)

-- what a step makes
unfoldable made : Seat → SessionState → List ℕ → Ask Told → List HistoryEntry
made k s words (Done its) = []
made k s words (Put slot action) = []
made k s words (Take slot) = []
made k s words ask = with_effect (session_next k s (reply_to words ask)).effect []

got_made : (k : Seat) (s : SessionState) (found : Option Action) → effects_told k s (session_got found) ≡ []
unfolding effects_told
got_made k s None = refl
got_made k s (Some action) = refl

slots_made : (k : Seat) (s : SessionState) (actions : List (Option Action)) (ask : Ask Told) → session_ask k s ≡ ask → effects_told k s (session_slots actions ask) ≡ []
unfolding session_slots effects_told session_run session_happens
slots_made k s actions (Put slot action) asks = ap (λ (found : Option HistoryEntry). with_effect found []) (put_quiet k s slot action asks)
slots_made k s actions (Take slot) asks = got_made k s (action_at actions slot)
slots_made k s actions ask asks = refl

word_made : (k : Seat) (n : Near SessionState) (reply : ℕ)
    → effects_told k n.machine (session_slots n.actions (session_ask k (session_next k n.machine reply)) ++ session.Replies reply ∷ []) ≡ with_effect (session_next k n.machine reply).effect []
unfolding effects_told session_run session_happens
word_made k n reply =
    effects_on k n.machine (session_slots n.actions (session_ask k (session_next k n.machine reply))) (session.Replies reply ∷ [])
    ∙ ap (λ (told : List HistoryEntry). told ++ with_effect (session_next k n.machine reply).effect []) (slots_made k (session_next k n.machine reply) n.actions (session_ask k (session_next k n.machine reply)) refl)

steps_made : (k : Seat) (n : Near SessionState) (ask : Ask Told) → session_ask k n.machine ≡ ask → effects_told k n.machine (session_steps k n ask) ≡ made k n.machine n.words ask
unfolding session_steps session_slots made effects_told session_run session_happens
steps_made k n (Done its) asks = refl
steps_made k n (Put slot action) asks = ap (λ (found : Option HistoryEntry). with_effect found []) (put_quiet k n.machine slot action asks)
steps_made k n (Take slot) asks = got_made k n.machine (action_at n.actions slot)
steps_made k n ask asks = word_made k n (reply_to n.words ask)

-- what the history gets of it
own_made : (number : ℕ) (found : Option HistoryEntry) (version : Version) (history : List Effect) → ((its : HistoryEntry) → found ≡ Some its → (its.session == number) ≡ true)
    → effects_of number (effect_made found version history) ≡ with_effect found [] ++ effects_of number history
own_made number None version history own = refl
own_made number (Some its) version history own = rw (own its refl) refl

other_made : (number : ℕ) (found : Option HistoryEntry) (version : Version) (history : List Effect) → ((its : HistoryEntry) → found ≡ Some its → (its.session == number) ≡ false)
    → effects_of number (effect_made found version history) ≡ effects_of number history
other_made number None version history other = refl
other_made number (Some its) version history other = rw (other its refl) refl

-- whatever a session is replied its effect is its own
abbrev IsOwn : Seat → SessionState → Type 0
IsOwn k s = (reply : ℕ) (its : HistoryEntry) → (session_next k s reply).effect ≡ Some its → its.session ≡ k.number

own_history : (k : Seat) (s : SessionState) (words : List ℕ) (ask : Ask Told) (history : List Effect) → IsOwn k s
    → effects_of k.number (history_after k s words ask history) ≡ made k s words ask ++ effects_of k.number history
unfolding history_after made
own_history k s words (Done its) history own = refl
own_history k s words (Put slot action) history own = refl
own_history k s words (Take slot) history own = refl
own_history k s words ask history own =
    own_made k.number (session_next k s (reply_to words ask)).effect s.attempt.pending.request.version history (λ its e. let same : its.session ≡ k.number = own (reply_to words ask) its e in grind (arith, nat_tests, same))

other_history : (k : Seat) (s : SessionState) (words : List ℕ) (ask : Ask Told) (history : List Effect) (number : ℕ) → IsOwn k s → (k.number == number) ≡ false
    → effects_of number (history_after k s words ask history) ≡ effects_of number history
unfolding history_after
other_history k s words (Done its) history number own other = refl
other_history k s words (Put slot action) history number own other = refl
other_history k s words (Take slot) history number own other = refl
other_history k s words ask history number own other =
    other_made number (session_next k s (reply_to words ask)).effect s.attempt.pending.request.version history
    (λ its e. let same : its.session ≡ k.number = own (reply_to words ask) its e in ap (λ (i : ℕ). i == number) same ∙ other)

-- in a run of an opened session it is
run_is_own : (k : Seat) (first : SessionState) (events : List SessionEvent) → IsOpened first → IsOwn k (session_run k first events)
unfolding effects_told session_run session_happens
run_is_own k first events opened = λ reply its e.
    (subst (λ (found : Option HistoryEntry). AreOfTheirCalls k.number (session_run k first (session.Replies reply ∷ events)) (op_called k first (session.Replies reply ∷ events)) (serials_taken k first (session.Replies reply ∷ events)) (with_effect found (effects_told k first events))) e
    (run_own k first (session.Replies reply ∷ events) opened)).0.session

-- one event of the world
no_effects : (k : Seat) (s : SessionState) → effects_told k s [] ≡ []
unfolding effects_told
no_effects k s = refl

-- all sessions that there are make effects of their own
abbrev AreOwn : Now → Type 0
AreOwn n = (at : ℕ) (x : SessionState) → slice_get n.sessions at ≡ Some x → IsOwn (seat_at n at) x

found_other : (n : Now) (at number : ℕ) (found : Option SessionState) (history : List Effect) → AreOwn n → slice_get n.sessions at ≡ found → (at == number) ≡ false
    → effects_of number (history_found n (seat_at n at) found history) ≡ effects_of number history
unfolding history_found
found_other n at number None history own e other = refl
found_other n at number (Some x) history own e other = other_history (seat_at n at) x n.words (session_ask (seat_at n at) x) history number (own at x e) other

added_other : (n : Now) (event : Event) (number : ℕ) (history : List Effect) → AreOwn n → is_of_session number event ≡ false → effects_of number (history_added n event history) ≡ effects_of number history
unfolding history_added
added_other n (Moves at) number history own other = found_other n at number (slice_get n.sessions at) history own refl other
added_other n event number history own other = refl

added_own : (n : Now) (event : Event) (number : ℕ) (s : SessionState) (history : List Effect) → AreOwn n → is_of_session number event ≡ true → slice_get n.sessions number ≡ Some s
    → effects_of number (history_added n event history) ≡ effects_told (seat_at n number) s (session_part (seat_at n number) (near n s) event) ++ effects_of number history
unfolding history_added history_found session_part effects_told session_run session_happens
added_own n (Calls at call) number s history own mine found = refl
added_own n (Moves at) number s history own mine found =
    let same : at ≡ number = grind (arith, nat_tests, mine) in
    ap (λ (i : ℕ). effects_of number (history_found n (seat_at n i) (slice_get n.sessions i) history)) same
    ∙ (ap (λ (x : Option SessionState). effects_of number (history_found n (seat_at n number) x history)) found
    ∙ (own_history (seat_at n number) s n.words (session_ask (seat_at n number) s) history (own number s found)
    ∙ ap (λ (told : List HistoryEntry). told ++ effects_of number history) (sym (steps_made (seat_at n number) (near n s) (session_ask (seat_at n number) s) refl))))
added_own n (Commits kind) number s history own mine found = cc
added_own n Turns number s history own mine found = cc
added_own n (KeeperMoves granted done) number s history own mine found = cc
added_own n Crashes number s history own mine found = cc

alive_made : (n : Now) (event : Event) (number : ℕ) (s : SessionState) (mine : Bool) (history : List Effect) → AreOwn n → is_of_session number event ≡ mine → slice_get n.sessions number ≡ Some s
    → effects_of number (history_added n event history) ≡ effects_told (seat_at n number) s (if mine then session_part (seat_at n number) (near n s) event else []) ++ effects_of number history
alive_made n event number s true history own e found = added_own n event number s history own e found
alive_made n event number s false history own e found = added_other n event number history own e ∙ ap (λ (more : List HistoryEntry). more ++ effects_of number history) (sym (no_effects (seat_at n number) s))

event_made : (w : World) (event : Event) (number : ℕ) (s : SessionState) (crashed : Bool) → AreOwn w.now → w.now.crashed ≡ crashed → slice_get w.now.sessions number ≡ Some s
    → effects_of number (happens w event).past.history ≡ effects_told (seat_at w.now number) s (if crashed then [] else session_part_found w.now number event (Some s)) ++ effects_of number w.past.history
event_made w event number s true own e found = ap (λ (x : World). effects_of number x.past.history) (is_over w event e) ∙ ap (λ (more : List HistoryEntry). more ++ effects_of number w.past.history) (sym (no_effects (seat_at w.now number) s))
event_made w event number s false own e found =
    ap (λ (x : World). effects_of number x.past.history) (lived w event e)
    ∙ (ap (effects_of number) (added_history w (life_goes w.now (read_by_keeper w) event) event)
    ∙ alive_made w.now event number s (is_of_session number event) w.past.history own refl found)

happens_made : (w : World) (event : Event) (number : ℕ) (s : SessionState) → AreOwn w.now → slice_get w.now.sessions number ≡ Some s
    → effects_of number (happens w event).past.history ≡ effects_told (seat_at w.now number) s (session_part_of w.now number event) ++ effects_of number w.past.history
happens_made w event number s own found =
    event_made w event number s w.now.crashed own refl found
    ∙ ap (λ (y : Option SessionState). effects_told (seat_at w.now number) s (if w.now.crashed then [] else session_part_found w.now number event y) ++ effects_of number w.past.history) (sym found)

-- in a life of an opened world
are_own : (opening : World) (events : List Event) → IsOpenedWorld opening → AreOwn (run opening events).now
are_own opening events opened = λ at x found. by_first at x found (slice_get opening.now.sessions at) refl
  where
    by_first : (at : ℕ) (x : SessionState) → slice_get (run opening events).now.sessions at ≡ Some x → (first : Option SessionState) → slice_get opening.now.sessions at ≡ first → IsOwn (seat_at (run opening events).now at) x
    by_first at x found None e = none_some x (sym (none_ever opening events at e) ∙ found)
    by_first at x found (Some first) e =
        let same : x ≡ session_run (seat_at opening.now at) first (session_events opening at events) = some_same _ _ (sym found ∙ session_runs opening at first events e) in
        subst (λ (k : Seat). IsOwn k x) (sym (same_seat opening events at))
        (subst (IsOwn (seat_at opening.now at)) (sym same) (run_is_own (seat_at opening.now at) first (session_events opening at events) (opened.sessions at first e)))

run_made : (opening : World) (events : List Event) (number : ℕ) (first : SessionState) → IsOpenedWorld opening → slice_get opening.now.sessions number ≡ Some first
    → effects_of number (run opening events).past.history ≡ effects_told (seat_at opening.now number) first (session_events opening number events)
unfolding run session_events
run_made opening [] number first opened found = ap (effects_of number) opened.no_history ∙ sym (no_effects (seat_at opening.now number) first)
run_made opening (event ∷ before) number first opened found =
    happens_made w event number s (are_own opening before opened) (session_runs opening number first before found)
    ∙ (ap (λ (told : List HistoryEntry). effects_told (seat_at w.now number) s (session_part_of w.now number event) ++ told) (run_made opening before number first opened found)
    ∙ (ap (λ (k : Seat). effects_told k s (session_part_of w.now number event) ++ effects_told (seat_at opening.now number) first (session_events opening number before)) (same_seat opening before number)
    ∙ sym (effects_on (seat_at opening.now number) first (session_part_of w.now number event) (session_events opening number before))))
  where
    w : World
    w = run opening before

    s : SessionState
    s = session_run (seat_at opening.now number) first (session_events opening number before)

pub life_made : (opening : World) (events : List Event) (number : ℕ) (first its : SessionState) → HasBecome opening events number first its
    → life_effects opening events number first ≡ effects_of number (run opening events).past.history
life_made opening events number first its became = sym (run_made opening events number first became.opened became.was)
