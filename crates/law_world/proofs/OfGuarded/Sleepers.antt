-- While a session sleeps its epoch word is 0, in every life.
use Rattle.std.proofs.Common.{◌≡◌, ◌≢◌, ◌<◌, ◌∙◌, ◌++◌, zero, suc, ℕ, List, [], ◌∷◌, refl, arith, inr, sym, ap, subst, Bool, true, false}
use Rattle.std.specs.Prelude.{◌==◌, if◌then◌else◌, Option, Some, None, slice_get, slice_set}
use Rattle.std.proofs.lemmas.Bool.Decides.{nat_tests}
use Rattle.fkv_map.specs.declared.operations.Call.{Call}
use Rattle.fkv_plane.specs.declared.actions.Action.{Action}
use Rattle.fkv_plane.specs.declared.asks.Ask.{Ask}
use Rattle.fkv_plane.specs.declared.asks.Ask.TheVariants.{Load, Store, Swap, Cas, Add, Max, Put, Take, Done}
use Rattle.fkv_plane.specs.declared.places.SessionWord.TheVariants as own
use Rattle.fkv_plane.specs.declared.places.Places.{Places}
use Rattle.fkv_plane.specs.Asked.{reply_to, word_at, words_after}
use Rattle.fkv_plane.specs.Places.{session_place}
use Rattle.fkv_plane.specs.Plane.{action_at}
use Rattle.fkv_epoch.specs.EpochWorld.{own_epoch}
use Rattle.fkv_epoch.proofs.Shown.{some_same, word_spared}
use Rattle.fkv_flush.specs.GuardCalm.{AreOther}
use Rattle.fkv_flush.specs.GuardWorld.{GuardEvent, GuardWorld}
use Rattle.fkv_flush.proofs.Shown.{events_calm}
use Rattle.fkv_session.specs.declared.answers.Told.{Told}
use Rattle.fkv_session.specs.declared.sessions.CatchCause.TheVariants.{Wakes}
use Rattle.fkv_session.specs.declared.sessions.Sitting.TheVariants.{CatchesUp}
use Rattle.fkv_session.specs.InOrder.{epoch_place}
use Rattle.fkv_session.specs.Sessions.{SessionState, Seat, IsOpened as IsOpenedSession, is_busy, session_ask, session_begun, session_next}
use Rattle.fkv_session.specs.SessionRun.{SessionEvent, Begins, Replies, session_happens, session_run}
use Rattle.fkv_session.proofs.Shown.{Sleeps, AsksNone, Rests, Loads, SleepsFrom, SleepsOn, FallsAsleep, run_begun, run_falls, run_given}
use Rattle.fkv_world.specs.Actors.{is_of_session}
use Rattle.fkv_world.specs.Moves.{session_moved}
use Rattle.fkv_world.specs.OwnEvents.{session_events, session_got, session_part, session_part_found, session_part_of, session_slots, session_steps}
use Rattle.fkv_world.specs.Runs.{World, happens, read_by_keeper, run}
use Rattle.fkv_world.specs.World.{Event, Calls, Moves, Commits, Turns, KeeperMoves, Crashes, Now, near, seat_at, session_calls, life_goes}
use Rattle.fkv_world.proofs.Shown.{is_over, lives, places_stay, same_seat, session_runs}
use Rattle.law_world.proofs.OfRuns.OneWord.{session_writes}
use Rattle.law_world.specs.Guarded.GuardEvents.{called_events, guard_events, keeper_number, keeper_now, life_events, mapped, moved_events}
use Rattle.law_world.specs.Guarded.Shows.{IsOpened, guard_opening, seen_by_guard}
use Rattle.law_world.specs.GuardSessions.Sessions.{called_guard_events}
use Rattle.law_world.proofs.OfGuarded.KeeperSteps.{actor_above, keeper_steps, turn_asked_steps}
use Rattle.law_world.proofs.OfGuarded.OneStep.{of_others}
use Rattle.law_world.proofs.OfGuarded.SessionSteps.{called_steps, session_steps as steps_of_session}
use Rattle.law_world.proofs.OfGuarded.Worlds.{life_shows, runs_on}

-- ---- what an ask does to the epoch word
zero_written : (words : List ℕ) (place : ℕ) → word_at (slice_set words place 0) place ≡ 0
zero_written [] zero = refl
zero_written [] (suc place) = refl
zero_written (word ∷ words) zero = refl
zero_written (word ∷ words) (suc place) = zero_written words place

durable_apart : (n : ℕ) → session_place n own.Epoch ≢ session_place n own.Durable
durable_apart n = λ e. absurd (omega (arith, e))

stored_zero : (k : Seat) (words : List ℕ) (ask : Ask Told) → ask ≡ Store (epoch_place k) 0 → own_epoch (words_after words ask) k.number ≡ 0
stored_zero k words ask e = rw e (zero_written words (epoch_place k))

none_asked : (k : Seat) (words : List ℕ) (ask : Ask Told) → AsksNone k ask → own_epoch (words_after words ask) k.number ≡ own_epoch words k.number
none_asked k words ask (Rests its e) = rw e refl
none_asked k words ask (Loads e) = rw e (word_spared words (session_place k.number own.Durable) (word_at words (session_place k.number own.Durable)) (session_place k.number own.Epoch) (durable_apart k.number))

-- ---- a step of its own
-- what it knows of its epoch word where it sleeps
abbrev IsZero : ℕ → List ℕ → SessionState → Type 0
IsZero number words s = Sleeps s → own_epoch words number ≡ 0

put_no_store : (ask : Ask Told) (slot : ℕ) (action : Action) (place : ℕ) → ask ≡ Put slot action → ask ≡ Store place 0 → ⊥
put_no_store ask slot action place puts stores = cc

module _ (k : Seat) (first : SessionState) (opened : IsOpenedSession first) (own_events : List SessionEvent) where
  -- by the turn to a slot behind a reply
  replied_back : (reply : ℕ) (actions : List (Option Action)) (ask : Ask Told) → session_ask k (session_run k first (Replies reply ∷ own_events)) ≡ ask
      → Sleeps (session_run k first ((session_slots actions ask ++ Replies reply ∷ []) ++ own_events)) → SleepsFrom k (session_run k first own_events)
  unfolding session_slots
  replied_back reply actions (Put slot action) e sleeps = by_put (run_falls k first (Replies reply ∷ own_events) 0 opened sleeps)
    where
      by_put : SleepsFrom k (session_run k first (Replies reply ∷ own_events)) → SleepsFrom k (session_run k first own_events)
      by_put (SleepsOn was none) = run_falls k first own_events reply opened was
      by_put (FallsAsleep stores) = absurd (put_no_store (session_ask k (session_run k first (Replies reply ∷ own_events))) slot action (epoch_place k) e stores)
  replied_back reply actions (Take slot) e sleeps = by_action (action_at actions slot) sleeps
    where
      by_action : (found : Option Action) → Sleeps (session_run k first ((session_got found ++ Replies reply ∷ []) ++ own_events)) → SleepsFrom k (session_run k first own_events)
      by_action None was = run_falls k first own_events reply opened was
      by_action (Some action) was = run_falls k first own_events reply opened (run_given k first (Replies reply ∷ own_events) action opened was)
  replied_back reply actions (Load at) e sleeps = run_falls k first own_events reply opened sleeps
  replied_back reply actions (Store at word) e sleeps = run_falls k first own_events reply opened sleeps
  replied_back reply actions (Swap at word) e sleeps = run_falls k first own_events reply opened sleeps
  replied_back reply actions (Cas at old new) e sleeps = run_falls k first own_events reply opened sleeps
  replied_back reply actions (Add at n) e sleeps = run_falls k first own_events reply opened sleeps
  replied_back reply actions (Max at n) e sleeps = run_falls k first own_events reply opened sleeps
  replied_back reply actions (Done told) e sleeps = run_falls k first own_events reply opened sleeps

  from_zero : (words : List ℕ) (ask : Ask Told) → session_ask k (session_run k first own_events) ≡ ask → IsZero k.number words (session_run k first own_events) → SleepsFrom k (session_run k first own_events) → own_epoch (words_after words ask) k.number ≡ 0
  from_zero words ask e zero_so (SleepsOn was none) = none_asked k words ask (subst (λ (x : Ask Told). AsksNone k x) e none) ∙ zero_so was
  from_zero words ask e zero_so (FallsAsleep stores) = stored_zero k words ask (sym e ∙ stores)

  run_reply : (reply : ℕ) → session_next k (session_run k first own_events) reply ≡ session_run k first (Replies reply ∷ own_events)
  unfolding session_run session_happens
  run_reply reply = refl

  steps_zero : (n : Now) (ask : Ask Told) → session_ask k (session_run k first own_events) ≡ ask → IsZero k.number n.words (session_run k first own_events)
      → Sleeps (session_run k first (session_steps k (near n (session_run k first own_events)) ask ++ own_events)) → own_epoch (words_after n.words ask) k.number ≡ 0
  unfolding session_steps session_slots
  steps_zero n (Done told) e zero_so sleeps = zero_so sleeps
  steps_zero n (Put slot action) e zero_so sleeps = from_zero n.words (Put slot action) e zero_so (run_falls k first own_events 0 opened sleeps)
  steps_zero n (Take slot) e zero_so sleeps = by_action (action_at n.actions slot) sleeps
    where
      by_action : (found : Option Action) → Sleeps (session_run k first (session_got found ++ own_events)) → own_epoch n.words k.number ≡ 0
      by_action None was = zero_so was
      by_action (Some action) was = zero_so (run_given k first own_events action opened was)
  steps_zero n ask e zero_so sleeps =
      let reply : ℕ = reply_to n.words ask in
      from_zero n.words ask e zero_so
      (replied_back reply n.actions (session_ask k (session_next k (session_run k first own_events) reply)) (ap (λ (s : SessionState). session_ask k s) (sym (run_reply reply))) sleeps)

-- ---- one event of the life
other_words : (n : Now) (found : Option SessionState) (i : ℕ) (call : Call) → (session_calls n i call found).words ≡ n.words
other_words n None i call = refl
other_words n (Some s) i call = refl

apart_from : (i number : ℕ) → (i == number) ≡ false → i ≢ number
apart_from i number other same = grind (arith, nat_tests, other, same)

above_all : (number count : ℕ) → number < count → count ≢ number
above_all number count low same = absurd (omega (arith, low, same))

-- an event of another actor
module _ (n : Now) (read : List ℕ) (number : ℕ) (low : number < n.places.sessions) where
  not_keeper : keeper_now n ≢ number
  not_keeper = let above = actor_above (keeper_number n) n.keeper in above_all number (keeper_now n) (omega (arith, low, above))

  called_other : (i : ℕ) (call : Call) (found : Option SessionState) → i ≢ number → AreOther (called_events n i call found) number
  called_other i call None other = tt
  called_other i call (Some s) other = by_busy (is_busy s.step)
    where
      by_busy : (busy : Bool) → AreOther (if busy then [] else called_guard_events (seat_at n i) (session_begun (seat_at n i) s call)) number
      by_busy true = tt
      by_busy false = of_others (keeper_number n) i _ (called_steps (keeper_number n) (seat_at n i) (session_begun (seat_at n i) s call)) number other (inr low)

  moved_other : (i : ℕ) (found : Option SessionState) → i ≢ number → AreOther (moved_events n i found) number
  moved_other i None other = tt
  moved_other i (Some s) other = of_others (keeper_number n) i _ (steps_of_session (keeper_number n) (seat_at n i) n.words s (session_moved (seat_at n i) (near n s)).machine) number other (inr low)

  life_other : (event : Event) → is_of_session number event ≡ false → AreOther (life_events n read event) number
  unfolding life_events
  life_other (Calls i call) other = called_other i call (slice_get n.sessions i) (apart_from i number other)
  life_other (Moves i) other = moved_other i (slice_get n.sessions i) (apart_from i number other)
  life_other (Commits kind) other = tt
  life_other Turns other = of_others (keeper_number n) (keeper_now n) _ (turn_asked_steps (keeper_number n) n.keeper) number not_keeper (inr low)
  life_other (KeeperMoves granted done) other = of_others (keeper_number n) (keeper_now n) _ (keeper_steps (keeper_number n) n.shape n.places granted done read n.keeper n.words) number not_keeper (inr low)
  life_other Crashes other = tt

  events_other : (event : Event) → is_of_session number event ≡ false → AreOther (guard_events n read event) number
  events_other event other = by_crash n.crashed
    where
      by_crash : (crashed : Bool) → AreOther (if crashed then [] else life_events n read event) number
      by_crash true = tt
      by_crash false = life_other event other

other_epoch : (opening : World) (start : ℕ) (before : List Event) (event : Event) (number : ℕ) → IsOpened opening.now start → number < (run opening before).now.places.sessions → is_of_session number event ≡ false
    → own_epoch (run opening (event ∷ before)).now.words number ≡ own_epoch (run opening before).now.words number
unfolding mapped
other_epoch opening start before event number opened low other =
    let b : World = run opening before in
    let g : GuardWorld = seen_by_guard opening start before in
    let events : List GuardEvent = guard_events b.now (read_by_keeper b) event in
    let shows = life_shows opening start before opened in
    let there = life_shows opening start (event ∷ before) opened in
    let calm = events_calm g events shows.sound in
    let seat : number < g.now.places.sessions = subst (λ (p : Places). number < p.sessions) (sym shows.places) low in
    ap (λ (words : List ℕ). own_epoch words number) (sym there.words)
    ∙ (ap (λ (w : GuardWorld). own_epoch w.now.words number) (runs_on (guard_opening opening.now start) events (mapped opening before))
    ∙ (calm.others number seat (events_other b.now (read_by_keeper b) number low event other)
    ∙ ap (λ (words : List ℕ). own_epoch words number) shows.words))

-- an event of its own
module _ (w : World) (k : Seat) (number : ℕ) (first : SessionState) (own_events : List SessionEvent) (opened : IsOpenedSession first) (seat : seat_at w.now number ≡ k) where
  abbrev S : SessionState
  S = session_run k first own_events

  abbrev Zero : Event → List SessionEvent → Type 0
  Zero event part = IsZero number (happens w event).now.words (session_run k first (part ++ own_events))

  called_zero : (i : ℕ) (call : Call) → w.now.crashed ≡ false → IsZero number w.now.words S → Zero (Calls i call) (Begins call ∷ [])
  unfolding life_goes
  called_zero i call alive zero_so sleeps =
      ap (λ (n : Now). own_epoch n.words number) (lives w (Calls i call) alive)
      ∙ (ap (λ (words : List ℕ). own_epoch words number) (other_words w.now (slice_get w.now.sessions i) i call) ∙ zero_so (run_begun k first own_events call sleeps))

  moved_zero : w.now.crashed ≡ false → slice_get w.now.sessions number ≡ Some S → IsZero number w.now.words S → Zero (Moves number) (session_steps (seat_at w.now number) (near w.now S) (session_ask (seat_at w.now number) S))
  moved_zero alive found zero_so sleeps =
      ap (λ (words : List ℕ). own_epoch words number) (session_writes w number S alive found)
      ∙ subst (λ (its : Seat). own_epoch (words_after w.now.words (session_ask its S)) number ≡ 0) (sym seat)
      (steps_there (subst (λ (its : Seat). Sleeps (session_run k first (session_steps its (near w.now S) (session_ask its S) ++ own_events))) seat sleeps))
    where
      numbered : k.number ≡ number
      numbered = ap (λ (its : Seat). its.number) (sym seat)

      steps_there : Sleeps (session_run k first (session_steps k (near w.now S) (session_ask k S) ++ own_events)) → own_epoch (words_after w.now.words (session_ask k S)) number ≡ 0
      steps_there was =
          subst (λ (i : ℕ). own_epoch (words_after w.now.words (session_ask k S)) i ≡ 0) numbered
          (steps_zero k first opened own_events w.now (session_ask k S) refl (subst (λ (i : ℕ). IsZero i w.now.words S) (sym numbered) zero_so) was)

  own_zero : (event : Event) → is_of_session number event ≡ true → w.now.crashed ≡ false → slice_get w.now.sessions number ≡ Some S → IsZero number w.now.words S → Zero event (session_part (seat_at w.now number) (near w.now S) event)
  unfolding session_part
  own_zero (Calls i call) mine alive found zero_so = called_zero i call alive zero_so
  own_zero (Moves i) mine alive found zero_so =
      let same : i ≡ number = grind (arith, nat_tests, mine) in
      subst (λ (j : ℕ). Zero (Moves j) (session_steps (seat_at w.now number) (near w.now S) (session_ask (seat_at w.now number) S))) (sym same) (moved_zero alive found zero_so)
  own_zero event mine alive found zero_so = cc

  alive_zero : (event : Event) (mine : Bool) → is_of_session number event ≡ mine → w.now.crashed ≡ false → slice_get w.now.sessions number ≡ Some S → IsZero number w.now.words S
      → (is_of_session number event ≡ false → own_epoch (happens w event).now.words number ≡ own_epoch w.now.words number) → Zero event (if mine then session_part (seat_at w.now number) (near w.now S) event else [])
  alive_zero event true e alive found zero_so others = own_zero event e alive found zero_so
  alive_zero event false e alive found zero_so others = λ sleeps. others e ∙ zero_so sleeps

  by_life : (event : Event) (crashed : Bool) → w.now.crashed ≡ crashed → slice_get w.now.sessions number ≡ Some S → IsZero number w.now.words S
      → (is_of_session number event ≡ false → own_epoch (happens w event).now.words number ≡ own_epoch w.now.words number) → Zero event (if crashed then [] else session_part_found w.now number event (Some S))
  by_life event true over found zero_so others = λ sleeps. ap (λ (x : World). own_epoch x.now.words number) (is_over w event over) ∙ zero_so sleeps
  by_life event false alive found zero_so others = alive_zero event (is_of_session number event) refl alive found zero_so others

  event_zero : (event : Event) → slice_get w.now.sessions number ≡ Some S → IsZero number w.now.words S
      → (is_of_session number event ≡ false → own_epoch (happens w event).now.words number ≡ own_epoch w.now.words number) → Zero event (session_part_of w.now number event)
  event_zero event found zero_so others =
      subst (λ (got : Option SessionState). Zero event (if w.now.crashed then [] else session_part_found w.now number event got)) (sym found) (by_life event w.now.crashed refl found zero_so others)

-- ---- every life
no_events : (k : Seat) (first : SessionState) → session_run k first [] ≡ first
unfolding session_run
no_events k first = refl

never_asleep : {A : Type 0} (b : Bool) → b ≡ true → b ≡ false → A
never_asleep true awake asleep = cc
never_asleep false awake asleep = cc

run_zero : (opening : World) (start : ℕ) (events : List Event) (number : ℕ) (first : SessionState) → IsOpened opening.now start → slice_get opening.now.sessions number ≡ Some first
    → IsZero number (run opening events).now.words (session_run (seat_at opening.now number) first (session_events opening number events))
unfolding run session_events
run_zero opening start [] number first opened was =
    λ sleeps. never_asleep first.is_awake (opened.sessions number first was).awake (ap (λ (s : SessionState). s.is_awake) (sym (no_events (seat_at opening.now number) first)) ∙ sleeps.0)
run_zero opening start (event ∷ before) number first opened was =
    let low : number < (run opening before).now.places.sessions = subst (λ (p : Places). number < p.sessions) (sym (places_stay opening before)) (opened.seats number first was) in
    event_zero (run opening before) (seat_at opening.now number) number first (session_events opening number before) (opened.sessions number first was) (same_seat opening before number) event
    (session_runs opening number first before was) (run_zero opening start before number first opened was) (λ other. other_epoch opening start before event number opened low other)

pub life_zero : (opening : World) (start : ℕ) (events : List Event) (number : ℕ) (first its : SessionState) → IsOpened opening.now start → slice_get opening.now.sessions number ≡ Some first → slice_get (run opening events).now.sessions number ≡ Some its
    → its.is_awake ≡ false → its.step ≢ CatchesUp Wakes → own_epoch (run opening events).now.words number ≡ 0
life_zero opening start events number first its opened was now_is asleep other =
    let ran : SessionState = session_run (seat_at opening.now number) first (session_events opening number events) in
    let same : its ≡ ran = some_same its ran (sym now_is ∙ session_runs opening number first events was) in
    run_zero opening start events number first opened was (subst Sleeps same (asleep, other))
