-- At every moment a session goes by the phase and the version of its view.
use Rattle.std.proofs.Common.{◌≡◌, ℕ, List, [], ◌∷◌, refl, sym, ap, subst, Bool, true, false}
use Rattle.std.specs.Prelude.{Option, Some, None, slice_get}
use Rattle.fkv_map.specs.declared.operations.Call.{Call}
use Rattle.fkv_plane.specs.declared.actions.Action.{Action}
use Rattle.fkv_plane.specs.declared.asks.Ask.{Ask}
use Rattle.fkv_plane.specs.declared.asks.Ask.TheVariants.{Done}
use Rattle.law_refine.specs.Below.fkv_ops.Seen.{Seen}
use Rattle.law_refine.specs.Below.fkv_session.Catching.{Catching}
use Rattle.law_refine.specs.Below.fkv_session.Catching.TheVariants as catching
use Rattle.law_refine.specs.Below.fkv_session.CatchCause.{CatchCause}
use Rattle.law_refine.specs.Below.fkv_session.CatchCause.TheVariants.{Refreshes, Wakes, Shifts}
use Rattle.law_refine.specs.Below.fkv_session.Sitting.{Sitting}
use Rattle.law_refine.specs.Below.fkv_session.Sitting.TheVariants.{Idle, Attempts, CatchesUp, ClearsMail, Polls, StoresOwing, Turns, StoresCut, Leaves, LoadsDurable}
use Rattle.law_refine.specs.Below.fkv_session.CatchingUp.{CatchState, catch_requests, catch_ask}
use Rattle.law_refine.specs.Below.fkv_session.Sessions.{SessionState, Seat, IsOpened, bits_of, is_busy, asks_after, is_word_ask, attempts, caught, caught_up, catch_ledto, session_ask, sitting_next, sitting_given}
use Rattle.law_refine.specs.Below.fkv_session.SessionRun.{SessionEvent, Begins, Replies, Gets, begins, session_happens, session_run}
use Rattle.law_refine.specs.Below.fkv_world.Opened.{HasBecome}
use Rattle.law_refine.specs.Below.fkv_world.OwnEvents.{session_part_of, session_events}
use Rattle.law_refine.specs.Below.fkv_world.Runs.{World, run}
use Rattle.law_refine.specs.Below.fkv_world.World.{Event, Now, seat_at}
use Rattle.law_refine.proofs.Below.law_world.OfSessions.OwnRun.{opened_so, of_run}
use Rattle.law_refine.proofs.Below.fkv_world.Shown.{session_runs_on}
use Rattle.law_commit.specs.Views.{View, Sight, IsSeenAs, IsTakenFrom, TakesUp, IsComing, loads_phase, with_loaded, sight_left, sight_moved, sight_by, sight_through, sight_opened, sight_in, sight_found, sight_of}
use Rattle.law_commit.proofs.Catches.{CatchSees, catch_sees, done_comes}
use Rattle.law_commit.proofs.Goes.{HasBegun, BeginsToCatch, Goes, calm_goes, call_calm, moves_on, given_on}

abbrev pub SeesAt : Sight → SessionState → Sitting → Type 0
SeesAt its s (CatchesUp cause) = IsSeenAs its.view s.seen × CatchSees its s.catching s.catching.step
SeesAt its s step = IsSeenAs its.view s.seen × (its.coming ≡ None)

abbrev pub Sees : Sight → SessionState → Type 0
Sees its s = SeesAt its s s.step

-- where it doesn't catch up, nothing comes
abbrev pub IsPlain : Sitting → Type 0
IsPlain (CatchesUp cause) = ⊥
IsPlain step = Unit {0}

plain_sees : (its : Sight) (s : SessionState) (step : Sitting) → IsPlain step → SeesAt its s step → IsSeenAs its.view s.seen × (its.coming ≡ None)
plain_sees its s (CatchesUp cause) plain sees = absurd plain
plain_sees its s (Idle told) plain sees = sees
plain_sees its s (Attempts has_shifted) plain sees = sees
plain_sees its s ClearsMail plain sees = sees
plain_sees its s (Polls i) plain sees = sees
plain_sees its s (StoresOwing i) plain sees = sees
plain_sees its s (Turns told) plain sees = sees
plain_sees its s StoresCut plain sees = sees
plain_sees its s Leaves plain sees = sees
plain_sees its s LoadsDurable plain sees = sees

-- an event behind which it goes by what it went by
begun_sees : (its : Sight) (seen : Seen) (c : CatchState) (step : Catching) → IsSeenAs its.view seen → HasBegun seen c step → CatchSees its c step
begun_sees its seen c catching.Refreshes goes_by begun = let one = begun.0 in let other = begun.1 in (rw one goes_by, rw other tt)
begun_sees its seen c catching.Protects goes_by begun = let one = begun.0 in let other = begun.1 in (rw one goes_by, rw other tt)
begun_sees its seen c step goes_by begun = absurd begun

step_sees : (its : Sight) (a : SessionState) (step : Sitting) → IsSeenAs its.view a.seen → its.coming ≡ None → BeginsToCatch a step → SeesAt its a step
step_sees its a (CatchesUp cause) goes_by none begins = (goes_by, begun_sees its a.seen a.catching a.catching.step goes_by begins)
step_sees its a step goes_by none begins = (goes_by, none)

goes_sees : (its : Sight) (was : Seen) (n : ℕ) (a : SessionState) → IsSeenAs its.view was → its.coming ≡ None → Goes was n a → Sees its a
goes_sees its was n a goes_by none goes = step_sees its a a.step (subst (λ (x : Seen). IsSeenAs its.view x) (sym goes.seen) goes_by) none goes.begins

-- where it is through with catching up
through_sees : (its : Sight) (a : SessionState) (coming : Option View) (step : Sitting) → IsPlain step → its.coming ≡ coming → IsTakenFrom coming a.seen → SeesAt (sight_left step its) a step
through_sees its a None step plain e come = absurd come
through_sees its a (Some view) (CatchesUp cause) plain e come = absurd plain
through_sees its a (Some view) step plain e come = rw e (come, refl)

caught_sees : (its : Sight) (k : Seat) (s : SessionState) (cause : CatchCause) → IsTakenFrom its.coming s.seen → Sees (sight_left (caught_up k s cause).step its) (caught_up k s cause)
unfolding attempts
caught_sees its k s Refreshes come = through_sees its (caught_up k s Refreshes) its.coming (caught_up k s Refreshes).step tt refl come
caught_sees its k s Wakes come = through_sees its (caught_up k s Wakes) its.coming (caught_up k s Wakes).step tt refl come
caught_sees its k s Shifts come = through_sees its (caught_up k s Shifts) its.coming (caught_up k s Shifts).step tt refl come

same_view : (words : List ℕ) (c : Bool) (reply : ℕ) (its : Sight) → (with_loaded words c reply its).view ≡ its.view
same_view words true reply its = refl
same_view words false reply its = refl

left_sees : (its : Sight) (k : Seat) (s : SessionState) (cause : CatchCause) (ask : Ask (Unit {0})) → s.step ≡ CatchesUp cause → IsSeenAs its.view s.seen → CatchSees its s.catching s.catching.step
    → catch_ask k.places k.number s.catching s.requests ≡ ask → Sees (sight_left (catch_ledto k s cause ask).step its) (catch_ledto k s cause ask)
unfolding catch_ledto
left_sees its k s cause (Done through) e goes_by sees asks = caught_sees its k (record s { seen = s.catching.seen }) cause (done_comes k.places k.number its s.catching s.requests s.catching.step through sees asks)
left_sees its k s cause ask e goes_by sees asks = rw e (goes_by, sees)

-- each of its events
catching_sees : (words : List ℕ) (its : Sight) (k : Seat) (s : SessionState) (asks : ℕ) (cause : CatchCause) (reply : ℕ) → s.step ≡ CatchesUp cause → SeesAt its s (CatchesUp cause)
    → Sees (sight_moved words s (CatchesUp cause) reply (sitting_next k (record s { asks = asks; effect = None }) (CatchesUp cause) reply).step its) (sitting_next k (record s { asks = asks; effect = None }) (CatchesUp cause) reply)
unfolding sitting_next
catching_sees words its k s asks cause reply e sees =
    let t : SessionState = caught k (record s { asks = asks; effect = None }) reply in
    left_sees (with_loaded words (loads_phase s.catching s.catching.step) reply its) k t cause (catch_ask k.places k.number t.catching t.requests) e
    (subst (λ (v : View). IsSeenAs v s.seen) (sym (same_view words (loads_phase s.catching s.catching.step) reply its)) sees.0)
    (catch_sees words k.places (bits_of k) k.number its s.catching (catch_requests s.catching s.requests reply) s.catching.step reply refl sees.1) refl

next_sees : (words : List ℕ) (its : Sight) (k : Seat) (s : SessionState) (asks : ℕ) (step : Sitting) (reply : ℕ) → s.step ≡ step → SeesAt its s step
    → Sees (sight_moved words s step reply (sitting_next k (record s { asks = asks; effect = None }) step reply).step its) (sitting_next k (record s { asks = asks; effect = None }) step reply)
next_sees words its k s asks (Idle told) reply e sees = goes_sees its s.seen s.serial _ sees.0 sees.1 (calm_goes (moves_on k s asks (Idle told) reply e))
next_sees words its k s asks (Attempts has_shifted) reply e sees = goes_sees its s.seen s.serial _ sees.0 sees.1 (moves_on k s asks (Attempts has_shifted) reply e)
next_sees words its k s asks (CatchesUp cause) reply e sees = catching_sees words its k s asks cause reply e sees
next_sees words its k s asks ClearsMail reply e sees = goes_sees its s.seen s.serial _ sees.0 sees.1 (calm_goes (moves_on k s asks ClearsMail reply e))
next_sees words its k s asks (Polls i) reply e sees = goes_sees its s.seen s.serial _ sees.0 sees.1 (calm_goes (moves_on k s asks (Polls i) reply e))
next_sees words its k s asks (StoresOwing i) reply e sees = goes_sees its s.seen s.serial _ sees.0 sees.1 (calm_goes (moves_on k s asks (StoresOwing i) reply e))
next_sees words its k s asks (Turns told) reply e sees = goes_sees its s.seen s.serial _ sees.0 sees.1 (calm_goes (moves_on k s asks (Turns told) reply e))
next_sees words its k s asks StoresCut reply e sees = goes_sees its s.seen s.serial _ sees.0 sees.1 (calm_goes (moves_on k s asks StoresCut reply e))
next_sees words its k s asks Leaves reply e sees = goes_sees its s.seen s.serial _ sees.0 sees.1 (calm_goes (moves_on k s asks Leaves reply e))
next_sees words its k s asks LoadsDurable reply e sees = goes_sees its s.seen s.serial _ sees.0 sees.1 (calm_goes (moves_on k s asks LoadsDurable reply e))

still_sees : (its : Sight) (s a : SessionState) → a ≡ s → Sees its s → Sees its a
still_sees its s a same sees = subst (λ (x : SessionState). Sees its x) (sym same) sees

given_sees : (its : Sight) (k : Seat) (s : SessionState) (step : Sitting) (action : Action) → s.step ≡ step → Sees its s → Sees its (sitting_given k s step action)
given_sees its k s (Turns told) action e sees =
    let plain = plain_sees its s (Turns told) tt (subst (λ (x : Sitting). SeesAt its s x) e sees) in
    goes_sees its s.seen s.serial _ plain.0 plain.1 (calm_goes (given_on k s (Turns told) action e))
given_sees its k s (Idle told) action e sees = still_sees its s _ (given_on k s (Idle told) action e) sees
given_sees its k s (Attempts has_shifted) action e sees = still_sees its s _ (given_on k s (Attempts has_shifted) action e) sees
given_sees its k s (CatchesUp cause) action e sees = still_sees its s _ (given_on k s (CatchesUp cause) action e) sees
given_sees its k s ClearsMail action e sees = still_sees its s _ (given_on k s ClearsMail action e) sees
given_sees its k s (Polls i) action e sees = still_sees its s _ (given_on k s (Polls i) action e) sees
given_sees its k s (StoresOwing i) action e sees = still_sees its s _ (given_on k s (StoresOwing i) action e) sees
given_sees its k s StoresCut action e sees = still_sees its s _ (given_on k s StoresCut action e) sees
given_sees its k s Leaves action e sees = still_sees its s _ (given_on k s Leaves action e) sees
given_sees its k s LoadsDurable action e sees = still_sees its s _ (given_on k s LoadsDurable action e) sees

pub idle_plain : (step : Sitting) → is_busy step ≡ false → IsPlain step
idle_plain (Idle told) idle = tt
idle_plain step idle = cc

begins_sees : (its : Sight) (k : Seat) (s : SessionState) (call : Call) (busy : Bool) → is_busy s.step ≡ busy → Sees its s → Sees its (begins k s busy call)
begins_sees its k s call true e sees = sees
begins_sees its k s call false e sees =
    let plain = plain_sees its s s.step (idle_plain s.step e) sees in
    goes_sees its s.seen s.serial _ plain.0 plain.1 (calm_goes (call_calm k (record s { asks = 0; effect = None; wants_turn = false }) call))

event_sees : (words : List ℕ) (its : Sight) (k : Seat) (s : SessionState) (event : SessionEvent) → Sees its s → Sees (sight_by words k s event its) (session_happens k s event)
unfolding session_happens
event_sees words its k s (Begins call) sees = begins_sees its k s call (is_busy s.step) refl sees
event_sees words its k s (Replies reply) sees = next_sees words its k s (asks_after s.asks (is_word_ask (session_ask k s))) s.step reply refl sees
event_sees words its k s (Gets action) sees = given_sees its k s s.step action refl sees

pub through : (words : List ℕ) (its : Sight) (k : Seat) (s : SessionState) (events : List SessionEvent) → Sees its s → Sees (sight_through words k s events its) (session_run k s events)
unfolding sight_through session_run
through words its k s [] sees = sees
through words its k s (event ∷ before) sees = event_sees words (sight_through words k s before its) k (session_run k s before) event (through words its k s before sees)

opened_sees : (n : Now) (first : SessionState) (step : Sitting) → is_busy step ≡ false → SeesAt (sight_opened n first) first step
opened_sees n first (Idle told) idle = (record { phase = refl; version = refl }, refl)
opened_sees n first step idle = cc

-- over a life
pub life_sees : (opening : World) (session : ℕ) (first : SessionState) (events : List Event) → IsOpened first → Sees (sight_in opening session first events) (session_run (seat_at opening.now session) first (session_events opening session events))
unfolding sight_in session_events session_run
life_sees opening session first [] opened = opened_sees opening.now first first.step opened.none_in_hand
life_sees opening session first (event ∷ before) opened =
    let k : Seat = seat_at opening.now session in
    let s : SessionState = session_run k first (session_events opening session before) in
    let part : List SessionEvent = session_part_of (run opening before).now session event in
    subst (λ (x : SessionState). Sees (sight_in opening session first (event ∷ before)) x) (sym (session_runs_on k first part (session_events opening session before)))
    (through (run opening before).now.words (sight_in opening session first before) k s part (life_sees opening session first before opened))

pub goes_by_view : (its : Sight) (s : SessionState) (step : Sitting) → SeesAt its s step → IsSeenAs its.view s.seen
goes_by_view its s (CatchesUp cause) sees = sees.0
goes_by_view its s (Idle told) sees = sees.0
goes_by_view its s (Attempts has_shifted) sees = sees.0
goes_by_view its s ClearsMail sees = sees.0
goes_by_view its s (Polls i) sees = sees.0
goes_by_view its s (StoresOwing i) sees = sees.0
goes_by_view its s (Turns told) sees = sees.0
goes_by_view its s StoresCut sees = sees.0
goes_by_view its s Leaves sees = sees.0
goes_by_view its s LoadsDurable sees = sees.0

-- the session as its own run makes it
abbrev ran : World → List Event → ℕ → SessionState → SessionState
ran opening events session first = session_run (seat_at opening.now session) first (session_events opening session events)

found_so : (opening : World) (events : List Event) (session : ℕ) (first : SessionState) → slice_get opening.now.sessions session ≡ Some first → sight_of opening events session ≡ sight_in opening session first events
found_so opening events session first found = ap (sight_found opening events session) found

pub view_seen : (opening : World) (events : List Event) (session : ℕ) (first its : SessionState) → HasBecome opening events session first its → IsSeenAs (sight_of opening events session).view its.seen
view_seen opening events session first its became =
    rw (found_so opening events session first became.was)
    (of_run (λ s. IsSeenAs (sight_in opening session first events).view s.seen) opening events session first its became
    (goes_by_view (sight_in opening session first events) (ran opening events session first) (ran opening events session first).step (life_sees opening session first events (opened_so opening events session first its became))))

takes_up_so : (its : Sight) (c : CatchState) (step : Catching) → CatchSees its c step → TakesUp its c step
takes_up_so its c catching.Refreshes sees = tt
takes_up_so its c catching.Protects sees = tt
takes_up_so its c catching.Ended sees = sees
takes_up_so its c catching.StoresCut sees = sees
takes_up_so its c catching.StoresOwing sees = sees
takes_up_so its c (catching.Latches i) sees = sees
takes_up_so its c catching.Finishes sees = sees

comes_so : (its : Sight) (s : SessionState) (step : Sitting) → SeesAt its s step → IsComing its s step
comes_so its s (CatchesUp cause) sees = takes_up_so its s.catching s.catching.step sees.1
comes_so its s (Idle told) sees = sees.1
comes_so its s (Attempts has_shifted) sees = sees.1
comes_so its s ClearsMail sees = sees.1
comes_so its s (Polls i) sees = sees.1
comes_so its s (StoresOwing i) sees = sees.1
comes_so its s (Turns told) sees = sees.1
comes_so its s StoresCut sees = sees.1
comes_so its s Leaves sees = sees.1
comes_so its s LoadsDurable sees = sees.1

pub coming_seen : (opening : World) (events : List Event) (session : ℕ) (first its : SessionState) → HasBecome opening events session first its → IsComing (sight_of opening events session) its its.step
coming_seen opening events session first its became =
    rw (found_so opening events session first became.was)
    (of_run (λ s. IsComing (sight_in opening session first events) s s.step) opening events session first its became
    (comes_so (sight_in opening session first events) (ran opening events session first) (ran opening events session first).step (life_sees opening session first events (opened_so opening events session first its became))))
