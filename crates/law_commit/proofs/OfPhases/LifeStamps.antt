-- Over a life the stamps of each session's views are the guard's loads of the phase.
use Rattle.std.proofs.Common.{◌≡◌, ◌≢◌, ℕ, ◌<◌, inr, List, [], ◌∷◌, ◌++◌, refl, arith, sym, subst, Bool, true, false}
use Rattle.std.specs.Prelude.{Option, Some, None, ◌==◌, if◌then◌else◌, slice_get}
use Rattle.std.proofs.lemmas.Bool.Decides.{nat_tests}
use Rattle.fkv_map.specs.declared.operations.Call.{Call}
use Rattle.fkv_plane.specs.declared.actions.Action.{Action}
use Rattle.fkv_plane.specs.declared.asks.Ask.{Ask}
use Rattle.fkv_plane.specs.declared.asks.Ask.TheVariants.{Load, Store, Swap, Cas, Add, Max, Put, Take, Done}
use Rattle.fkv_plane.specs.Asked.{reply_to}
use Rattle.fkv_plane.specs.Passing.{is_done, passed}
use Rattle.fkv_plane.specs.Plane.{action_at}
use Rattle.fkv_epoch.specs.declared.protecting.Protecting.{Protecting}
use Rattle.fkv_epoch.specs.declared.protecting.Protecting.TheVariants as protect
use Rattle.fkv_epoch.specs.declared.refreshing.Refreshing.{Refreshing}
use Rattle.fkv_epoch.specs.declared.refreshing.Refreshing.TheVariants as refresh
use Rattle.fkv_epoch.specs.Protecting.{protect_ask}
use Rattle.fkv_epoch.specs.Refreshing.{refresh_ask}
use Rattle.fkv_epoch.specs.EpochWorld.{EpochMachine, Loads, epoch_of}
use Rattle.fkv_epoch.proofs.Shown.{some_same}
use Rattle.law_refine.specs.Below.fkv_flush.GuardCalm.{AreOther}
use Rattle.law_refine.specs.Below.fkv_flush.GuardWorld.{GuardEvent, GuardWorld, guard_run}
use Rattle.fkv_latch.specs.declared.latching.Latching.{Latching}
use Rattle.fkv_latch.specs.declared.latching.Latching.TheVariants as latching
use Rattle.fkv_latch.specs.Latching.{latch_ask}
use Rattle.law_refine.specs.Below.fkv_session.Told.{Told}
use Rattle.law_refine.specs.Below.fkv_session.Told.TheVariants.{Slept}
use Rattle.law_refine.specs.Below.fkv_session.Catching.{Catching}
use Rattle.law_refine.specs.Below.fkv_session.Catching.TheVariants as catching
use Rattle.law_refine.specs.Below.fkv_session.Sitting.{Sitting}
use Rattle.law_refine.specs.Below.fkv_session.Sitting.TheVariants.{Idle, Attempts, CatchesUp, ClearsMail, Polls, StoresOwing, Turns, StoresCut, Leaves, LoadsDurable}
use Rattle.law_refine.specs.Below.fkv_session.CatchingUp.{catching_ask}
use Rattle.law_refine.specs.Below.fkv_session.Sessions.{Seat, SessionState, is_busy, session_ask, session_begun, session_next, sitting_ask}
use Rattle.law_refine.specs.Below.fkv_session.SessionRun.{Begins, Replies, SessionEvent, session_happens, session_run}
use Rattle.law_refine.specs.Below.fkv_world.Moves.{Near, session_moved}
use Rattle.law_refine.specs.Below.fkv_world.OwnEvents.{session_events, session_got, session_part, session_part_found, session_part_of, session_slots, session_steps}
use Rattle.law_refine.specs.Below.fkv_world.Runs.{World, read_by_keeper, run}
use Rattle.law_refine.specs.Below.fkv_world.World as world
use Rattle.law_refine.specs.Below.fkv_world.World.{Calls, Commits, Crashes, Event, KeeperMoves, Moves, Now, near, seat_at}
use Rattle.law_refine.proofs.Below.fkv_world.Shown.{same_seat, session_runs, session_runs_on}
use Rattle.law_refine.specs.Below.law_world.GuardKeeper.KeeperActors.{keeper_actor}
use Rattle.law_refine.specs.Below.law_world.Guarded.GuardEvents.{called_events, guard_events, keeper_number, life_events, mapped, moved_events}
use Rattle.law_refine.specs.Below.law_world.GuardSessions.Sessions.{called_guard_events}
use Rattle.law_refine.specs.Below.law_world.Guarded.Shows as guard
use Rattle.law_refine.specs.Below.law_world.Guarded.Shows.{IsSeated, Shows, guard_opening, seen_by_guard}
use Rattle.law_refine.proofs.Below.law_world.OfGuarded.KeeperSteps.{actor_above, keeper_steps, turn_asked_steps}
use Rattle.law_refine.proofs.Below.law_world.OfGuarded.OneStep.{of_others}
use Rattle.law_refine.proofs.Below.law_world.OfGuarded.Worlds.{life_shows, runs_on}
use Rattle.law_commit.specs.Phases.Stamped.{SessionStamped, SittingStamped, force_by, loads_by}
use Rattle.law_commit.specs.Views.{Sight, sight_by, sight_in, sight_opened, sight_through}
use Rattle.law_commit.proofs.OfPhases.GuardLoads.{LoadsBy, others_stay, stay}
use Rattle.law_commit.proofs.OfPhases.SessionLoads.{called_loads, called_other, session_loads, session_other}
use Rattle.law_commit.proofs.OfPhases.SessionStamps.{begins_stamped, given_stamped, next_stamped, sitting_driven}
use Rattle.law_commit.proofs.Sights.{IsPlain}

-- ---- who catches up asks for no slot
abbrev AsksNoSlot : {A : Type 0} → Ask A → Type 0
AsksNoSlot (Put slot action) = ⊥
AsksNoSlot (Take slot) = ⊥
AsksNoSlot ask = Unit {0}

passed_no_slot : {A B : Type 0} (ask : Ask A) (its : B) → AsksNoSlot ask → AsksNoSlot (passed ask its)
unfolding passed
passed_no_slot (Load place) its none = tt
passed_no_slot (Store place new) its none = tt
passed_no_slot (Swap place new) its none = tt
passed_no_slot (Cas place old new) its none = tt
passed_no_slot (Add place k) its none = tt
passed_no_slot (Max place k) its none = tt
passed_no_slot (Put slot action) its none = none
passed_no_slot (Take slot) its none = none
passed_no_slot (Done inner) its none = tt

refresh_no_slot : (n : ℕ) (step : Refreshing) → AsksNoSlot (refresh_ask n step)
unfolding refresh_ask
refresh_no_slot n refresh.AtRest = tt
refresh_no_slot n refresh.LoadsEpoch = tt
refresh_no_slot n (refresh.LoadsPhase epoch) = tt
refresh_no_slot n (refresh.LoadsReadOnly epoch phase) = tt
refresh_no_slot n (refresh.LoadsHead epoch phase read_only) = tt
refresh_no_slot n (refresh.HasLoaded epoch values) = tt
refresh_no_slot n (refresh.StoresEpoch epoch) = tt

protect_no_slot : (n : ℕ) (step : Protecting) → AsksNoSlot (protect_ask n step)
unfolding protect_ask
protect_no_slot n protect.AtRest = tt
protect_no_slot n protect.LoadsEpoch = tt
protect_no_slot n (protect.StoresEpoch epoch) = tt
protect_no_slot n protect.LoadsPhase = tt
protect_no_slot n (protect.LoadsReadOnly phase) = tt
protect_no_slot n (protect.LoadsHead phase read_only) = tt

latch_no_slot : (step : Latching) → AsksNoSlot (latch_ask step)
unfolding latch_ask
latch_no_slot latching.AtRest = tt
latch_no_slot (latching.AddsShare place) = tt
latch_no_slot (latching.GivesBack place) = tt
latch_no_slot (latching.DropsShare place) = tt
latch_no_slot (latching.LoadsWord place) = tt
latch_no_slot (latching.SetsExclusive place word) = tt
latch_no_slot (latching.DropsExclusive place) = tt

catch_no_slot : (k : Seat) (s : SessionState) (step : Catching) → AsksNoSlot (catching_ask k.places k.number s.catching s.requests step)
unfolding catching_ask
catch_no_slot k s catching.Ended = tt
catch_no_slot k s catching.Refreshes = passed_no_slot _ tt (refresh_no_slot k.number s.catching.refreshing)
catch_no_slot k s catching.Protects = passed_no_slot _ tt (protect_no_slot k.number s.catching.protecting)
catch_no_slot k s catching.StoresCut = tt
catch_no_slot k s catching.StoresOwing = tt
catch_no_slot k s (catching.Latches index) = passed_no_slot _ tt (latch_no_slot s.catching.latching)
catch_no_slot k s catching.Finishes = passed_no_slot _ tt (refresh_no_slot k.number s.catching.refreshing)

slot_plain : (k : Seat) (s : SessionState) (step : Sitting) → (AsksNoSlot (sitting_ask k s step) → ⊥) → IsPlain step
unfolding sitting_ask
slot_plain k s (CatchesUp cause) slot = absurd (slot (passed_no_slot _ Slept (catch_no_slot k s s.catching.step)))
slot_plain k s (Idle told) slot = tt
slot_plain k s (Attempts has_shifted) slot = tt
slot_plain k s ClearsMail slot = tt
slot_plain k s (Polls i) slot = tt
slot_plain k s (StoresOwing i) slot = tt
slot_plain k s (Turns told) slot = tt
slot_plain k s StoresCut slot = tt
slot_plain k s Leaves slot = tt
slot_plain k s LoadsDurable slot = tt

plain_driven : (s : SessionState) (step : Sitting) → IsPlain step → sitting_driven s step ≡ None
plain_driven s (CatchesUp cause) plain = absurd plain
plain_driven s step plain = refl

-- ---- the events of its own that a step is
-- a reply, with the loads that its machine makes
replied : (words : List ℕ) (its : Sight) (l f : Loads) (k : Seat) (s : SessionState) (reply : ℕ) → SessionStamped its l f s
    → SessionStamped (sight_by words k s (Replies reply) its) (loads_by l (sitting_driven s s.step) (epoch_of words)) (force_by l f (sitting_driven s s.step) (epoch_of words)) (session_happens k s (Replies reply))
unfolding session_happens
replied words its l f k s reply stamped = next_stamped words its l f k s _ s.step reply refl stamped

-- one where it turns to a slot
slot_replied : (words : List ℕ) (its : Sight) (l f : Loads) (k : Seat) (s : SessionState) (slot : ℕ) (action : Action) → session_ask k s ≡ Put slot action → SessionStamped its l f s
    → SessionStamped (sight_by words k s (Replies 0) its) l f (session_happens k s (Replies 0))
slot_replied words its l f k s slot action e stamped =
    let driven = plain_driven s s.step (slot_plain k s s.step (λ none. subst AsksNoSlot e none)) in
    subst (λ (m : Option EpochMachine). SessionStamped (sight_by words k s (Replies 0) its) (loads_by l m (epoch_of words)) (force_by l f m (epoch_of words)) (session_happens k s (Replies 0))) driven
    (replied words its l f k s 0 stamped)

got_stamped : (words : List ℕ) (its : Sight) (l f : Loads) (k : Seat) (s : SessionState) (found : Option Action) (before : List SessionEvent) → SessionStamped (sight_through words k s before its) l f (session_run k s before)
    → SessionStamped (sight_through words k s (session_got found ++ before) its) l f (session_run k s (session_got found ++ before))
unfolding sight_through session_run session_happens
got_stamped words its l f k s None before stamped = stamped
got_stamped words its l f k s (Some action) before stamped = given_stamped l f (sight_through words k s before its) k (session_run k s before) (session_run k s before).step action refl stamped

slots_stamped : (words : List ℕ) (its : Sight) (l f : Loads) (actions : List (Option Action)) (k : Seat) (s : SessionState) (ask : Ask Told) (before : List SessionEvent) → session_ask k (session_run k s before) ≡ ask
    → SessionStamped (sight_through words k s before its) l f (session_run k s before)
    → SessionStamped (sight_through words k s (session_slots actions ask ++ before) its) l f (session_run k s (session_slots actions ask ++ before))
unfolding sight_through session_run session_slots
slots_stamped words its l f actions k s (Put slot action) before e stamped = slot_replied words (sight_through words k s before its) l f k (session_run k s before) slot action e stamped
slots_stamped words its l f actions k s (Take slot) before e stamped = got_stamped words its l f k s (action_at actions slot) before stamped
slots_stamped words its l f actions k s (Load place) before e stamped = stamped
slots_stamped words its l f actions k s (Store place new) before e stamped = stamped
slots_stamped words its l f actions k s (Swap place new) before e stamped = stamped
slots_stamped words its l f actions k s (Cas place old new) before e stamped = stamped
slots_stamped words its l f actions k s (Add place n) before e stamped = stamped
slots_stamped words its l f actions k s (Max place n) before e stamped = stamped
slots_stamped words its l f actions k s (Done told) before e stamped = stamped

-- the stamps behind such events
abbrev Through : List ℕ → Sight → Loads → Loads → Seat → SessionState → List SessionEvent → Type 0
Through words its l f k s events = SessionStamped (sight_through words k s events its) l f (session_run k s events)

no_events : (words : List ℕ) (its : Sight) (l f : Loads) (k : Seat) (s : SessionState) → SessionStamped its l f s → Through words its l f k s []
unfolding sight_through session_run
no_events words its l f k s stamped = stamped

one_reply : (words : List ℕ) (its : Sight) (l f : Loads) (k : Seat) (s : SessionState) (reply : ℕ) → SessionStamped its l f s
    → Through words its (loads_by l (sitting_driven s s.step) (epoch_of words)) (force_by l f (sitting_driven s s.step) (epoch_of words)) k s (Replies reply ∷ [])
unfolding sight_through session_run
one_reply words its l f k s reply stamped = replied words its l f k s reply stamped

-- a step of the session whose ask is no end; what it sees is stamped by these first words
module _ (seen words : List ℕ) (actions : List (Option Action)) (its : Sight) (l f : Loads) (k : Seat) (s : SessionState) (stamped : SessionStamped its l f s) where
  abbrev Here : List SessionEvent → Type 0
  Here events = Through seen its (loads_by l (sitting_driven s s.step) (epoch_of seen)) (force_by l f (sitting_driven s s.step) (epoch_of seen)) k s events

  abbrev now : Near SessionState
  now = record { machine = s; words = words; actions = actions }

  word_stamped : (ask : Ask Told) → Here (session_slots actions (session_ask k (session_next k s (reply_to words ask))) ++ Replies (reply_to words ask) ∷ [])
  unfolding session_run session_happens
  word_stamped ask =
      slots_stamped seen its (loads_by l (sitting_driven s s.step) (epoch_of seen)) (force_by l f (sitting_driven s s.step) (epoch_of seen)) actions k s (session_ask k (session_next k s (reply_to words ask))) (Replies (reply_to words ask) ∷ []) refl (one_reply seen its l f k s (reply_to words ask) stamped)

  slot_only : (ask : Ask Told) → session_ask k s ≡ ask → (AsksNoSlot ask → ⊥) → Here (session_slots actions ask ++ [])
  unfolding session_run
  slot_only ask e slot =
      let driven = plain_driven s s.step (slot_plain k s s.step (λ none. slot (subst AsksNoSlot e none))) in
      subst (λ (m : Option EpochMachine). Through seen its (loads_by l m (epoch_of seen)) (force_by l f m (epoch_of seen)) k s (session_slots actions ask ++ [])) (sym driven)
      (slots_stamped seen its l f actions k s ask [] e (no_events seen its l f k s stamped))

  took_only : (slot : ℕ) → session_ask k s ≡ Take slot → Here (session_got (action_at actions slot))
  unfolding sight_through session_run session_happens
  took_only slot e =
      let driven = plain_driven s s.step (slot_plain k s s.step (λ none. subst AsksNoSlot e none)) in
      subst (λ (m : Option EpochMachine). Through seen its (loads_by l m (epoch_of seen)) (force_by l f m (epoch_of seen)) k s (session_got (action_at actions slot))) (sym driven)
      (by_found (action_at actions slot))
    where
      by_found : (found : Option Action) → Through seen its l f k s (session_got found)
      by_found None = stamped
      by_found (Some action) = given_stamped l f its k s s.step action refl stamped

  steps_stamped : (ask : Ask Told) → session_ask k s ≡ ask → is_done ask ≡ false → Here (session_steps k now ask)
  unfolding session_steps session_slots
  steps_stamped (Done told) e asks = cc
  steps_stamped (Put slot action) e asks = slot_only (Put slot action) e (λ none. none)
  steps_stamped (Take slot) e asks = took_only slot e
  steps_stamped (Load place) e asks = word_stamped (Load place)
  steps_stamped (Store place new) e asks = word_stamped (Store place new)
  steps_stamped (Swap place new) e asks = word_stamped (Swap place new)
  steps_stamped (Cas place old new) e asks = word_stamped (Cas place old new)
  steps_stamped (Add place n) e asks = word_stamped (Add place n)
  steps_stamped (Max place n) e asks = word_stamped (Max place n)

  done_stamped : (ask : Ask Told) → is_done ask ≡ true → Through seen its l f k s (session_steps k now ask)
  unfolding session_steps
  done_stamped (Done told) ends = no_events seen its l f k s stamped
  done_stamped ask ends = cc

  begun_stamped : (call : Call) → Through seen its l f k s (Begins call ∷ [])
  unfolding sight_through session_run session_happens
  begun_stamped call = begins_stamped l f its k s call (is_busy s.step) refl stamped

-- ---- one event of a life
-- These events of the guard are an ask of this machine to the session's loads, and its own events move the stamps with them, by whatever words they are stamped.
pub record IsStamping (w : GuardWorld) (events : List GuardEvent) (session : ℕ) (k : Seat) (s : SessionState) (own : List SessionEvent) : Type 0 where
  pub machine : Option EpochMachine
  pub loads : LoadsBy w events session machine
  pub through : (seen : List ℕ) (its : Sight) (l f : Loads) → SessionStamped its l f s → Through seen its (loads_by l machine (epoch_of seen)) (force_by l f machine (epoch_of seen)) k s own

module _ (n : Now) (w : GuardWorld) (session : ℕ) (s : SessionState) (shows : Shows n w) (found : slice_get n.sessions session ≡ Some s) where
  abbrev k : Seat
  k = seat_at n session

  -- where the guard's events are these, and the session's own are those
  abbrev Behind : List GuardEvent → List SessionEvent → Type 0
  Behind events own = IsStamping w events session k s own

  others_behind : (events : List GuardEvent) → AreOther events session → Behind events []
  others_behind events others = record { machine = None; loads = others_stay w events session others; through = λ seen its l f stamped. no_events seen its l f k s stamped }

  none_behind : Behind [] []
  none_behind = others_behind [] tt

  called_others : (j : ℕ) (call : Call) (there : Option SessionState) → Some j ≢ Some session → AreOther (called_events n j call there) session
  called_others j call None other = tt
  called_others j call (Some t) other = by_busy (is_busy t.step)
    where
      by_busy : (busy : Bool) → AreOther (if busy then [] else called_guard_events (seat_at n j) (session_begun (seat_at n j) t call)) session
      by_busy true = tt
      by_busy false = called_other (seat_at n j) (session_begun (seat_at n j) t call) session other

  moved_others : (j : ℕ) (there : Option SessionState) → Some j ≢ Some session → AreOther (moved_events n j there) session
  moved_others j None other = tt
  moved_others j (Some t) other = session_other (seat_at n j) n.words t (session_moved (seat_at n j) (near n t)).machine session other

  called_mine : (call : Call) → LoadsBy w (called_events n session call (Some s)) session None
  called_mine call = by_busy (is_busy s.step)
    where
      by_busy : (busy : Bool) → LoadsBy w (if busy then [] else called_guard_events k (session_begun k s call)) session None
      by_busy true = stay w session
      by_busy false = called_loads w k (session_begun k s call) session

  moved_mine : Behind (moved_events n session (Some s)) (session_steps k (near n s) (session_ask k s))
  moved_mine = by_done (is_done (session_ask k s)) refl
    where
      after : SessionState
      after = (session_moved k (near n s)).machine

      by_done : (done : Bool) → is_done (session_ask k s) ≡ done → Behind (moved_events n session (Some s)) (session_steps k (near n s) (session_ask k s))
      by_done true e = record {
        machine = None;
        loads = rw e (others_stay w [] session tt);
        through = λ seen its l f stamped. done_stamped seen n.words n.actions its l f k s stamped (session_ask k s) e;
      }
      by_done false e =
          let seat = shows.sessions session s found in
          record {
            machine = sitting_driven s s.step;
            loads = session_loads w k n.words seat.actor s after seat.sits.got seat.sits.fits e;
            through = λ seen its l f stamped. steps_stamped seen n.words n.actions its l f k s stamped (session_ask k s) refl e;
          }

  below_keeper : session < keeper_number n
  below_keeper = subst (λ (p : _). session < p.sessions) shows.places (shows.sessions session s found).sits.below

  not_keeper : keeper_actor (keeper_number n) n.keeper ≢ session
  not_keeper e =
      let low = below_keeper in
      let above = actor_above (keeper_number n) n.keeper in
      absurd (omega (arith, low, above, e))

  same_number : (j : ℕ) → (j == session) ≡ true → j ≡ session
  same_number j e = grind (arith, nat_tests, e)

  other_number : (j : ℕ) → (j == session) ≡ false → Some j ≢ Some session
  other_number j e same = let one = some_same j session same in absurd (grind (arith, nat_tests, e, one))

  calls_behind : (j : ℕ) (call : Call) (mine : Bool) → (j == session) ≡ mine → Behind (called_events n j call (slice_get n.sessions j)) (if mine then session_part k (near n s) (Calls j call) else [])
  unfolding session_part
  calls_behind j call true e =
      subst (λ (i : ℕ). Behind (called_events n i call (slice_get n.sessions i)) (Begins call ∷ [])) (sym (same_number j e))
      (subst (λ (there : Option SessionState). Behind (called_events n session call there) (Begins call ∷ [])) (sym found)
      (record { machine = None; loads = called_mine call; through = λ seen its l f stamped. begun_stamped seen n.words n.actions its l f k s stamped call }))
  calls_behind j call false e = others_behind _ (called_others j call (slice_get n.sessions j) (other_number j e))

  moves_behind : (j : ℕ) (mine : Bool) → (j == session) ≡ mine → Behind (moved_events n j (slice_get n.sessions j)) (if mine then session_part k (near n s) (Moves j) else [])
  unfolding session_part
  moves_behind j true e =
      subst (λ (i : ℕ). Behind (moved_events n i (slice_get n.sessions i)) (session_steps k (near n s) (session_ask k s))) (sym (same_number j e))
      (subst (λ (there : Option SessionState). Behind (moved_events n session there) (session_steps k (near n s) (session_ask k s))) (sym found) moved_mine)
  moves_behind j false e = others_behind _ (moved_others j (slice_get n.sessions j) (other_number j e))

  goes_behind : (read : List ℕ) (event : Event) → Behind (life_events n read event) (session_part_found n session event (Some s))
  unfolding life_events
  goes_behind read (Calls j call) = calls_behind j call (j == session) refl
  goes_behind read (Moves j) = moves_behind j (j == session) refl
  goes_behind read (Commits kind) = none_behind
  goes_behind read world.Turns = others_behind _ (of_others (keeper_number n) (keeper_actor (keeper_number n) n.keeper) _ (turn_asked_steps (keeper_number n) n.keeper) session not_keeper (inr below_keeper))
  goes_behind read (KeeperMoves granted done) = others_behind _ (of_others (keeper_number n) (keeper_actor (keeper_number n) n.keeper) _ (keeper_steps (keeper_number n) n.shape n.places granted done read n.keeper n.words) session not_keeper (inr below_keeper))
  goes_behind read Crashes = none_behind

  pub event_behind : (read : List ℕ) (event : Event) → Behind (guard_events n read event) (session_part_of n session event)
  event_behind read event = rw found (by_crash n.crashed)
    where
      by_crash : (crashed : Bool) → Behind (if crashed then [] else life_events n read event) (if crashed then [] else session_part_found n session event (Some s))
      by_crash true = none_behind
      by_crash false = goes_behind read event

-- ---- and a life
stamped_by : (n : Now) (w : GuardWorld) (its : Sight) (session : ℕ) (s : SessionState) → w.now.words ≡ n.words → (own : List SessionEvent) (events : List GuardEvent) → IsStamping w events session (seat_at n session) s own
    → SessionStamped its (w.past.loads session) (w.past.in_force session) s
    → SessionStamped (sight_through n.words (seat_at n session) s own its) ((guard_run w events).past.loads session) ((guard_run w events).past.in_force session) (session_run (seat_at n session) s own)
stamped_by n w its session s words own events one stamped = rw (one.loads.loads, one.loads.in_force, words) (one.through n.words its (w.past.loads session) (w.past.in_force session) stamped)

opened_stamped : (opening : World) (start session : ℕ) (first : SessionState) (step : Sitting) → guard.IsOpened opening.now start → is_busy step ≡ false
    → SittingStamped (sight_opened opening.now first) ((guard_opening opening.now start).past.loads session) ((guard_opening opening.now start).past.in_force session) first step
opened_stamped opening start session first (Idle told) opened idle = (opened.words.epochs.first_epoch, refl)
opened_stamped opening start session first step opened idle = cc

pub life_stamped : (opening : World) (start session : ℕ) (first : SessionState) (events : List Event) → guard.IsOpened opening.now start → slice_get opening.now.sessions session ≡ Some first
    → SessionStamped (sight_in opening session first events) ((seen_by_guard opening start events).past.loads session) ((seen_by_guard opening start events).past.in_force session)
    (session_run (seat_at opening.now session) first (session_events opening session events))
unfolding sight_in session_events session_run mapped guard_run
life_stamped opening start session first [] opened found = opened_stamped opening start session first first.step opened (opened.sessions session first found).none_in_hand
life_stamped opening start session first (event ∷ before) opened found =
    let now : Now = (run opening before).now in
    let read : List ℕ = read_by_keeper (run opening before) in
    let w : GuardWorld = seen_by_guard opening start before in
    let s : SessionState = session_run (seat_at opening.now session) first (session_events opening session before) in
    let part : List SessionEvent = session_part_of now session event in
    let its : Sight = sight_in opening session first before in
    let past = life_stamped opening start session first before opened found in
    let event_of = event_behind now w session s (life_shows opening start before opened) (session_runs opening session first before found) read event in
    let one = stamped_by now w its session s (life_shows opening start before opened).words part (guard_events now read event) event_of past in
    let seated = subst (λ (k : Seat). SessionStamped (sight_through now.words k s part its) ((guard_run w (guard_events now read event)).past.loads session) ((guard_run w (guard_events now read event)).past.in_force session) (session_run k s part))
    (same_seat opening before session) one in
    let world : _ = sym (runs_on (guard_opening opening.now start) (guard_events now read event) (mapped opening before)) in
    let joined = sym (session_runs_on (seat_at opening.now session) first part (session_events opening session before)) in
    subst (λ (x : SessionState). SessionStamped (sight_in opening session first (event ∷ before)) ((seen_by_guard opening start (event ∷ before)).past.loads session) ((seen_by_guard opening start (event ∷ before)).past.in_force session) x) joined
    (subst (λ (v : GuardWorld). SessionStamped (sight_in opening session first (event ∷ before)) (v.past.loads session) (v.past.in_force session) (session_run (seat_at opening.now session) s part)) world seated)
