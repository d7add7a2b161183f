-- Where a session loads the phase, the reply is what the phase word says.
use Rattle.std.proofs.Common.{◌≡◌, ℕ, ◌∙◌, List, [], ◌∷◌, ◌++◌, refl, sym, ap, Bool, true, false}
use Rattle.std.specs.Prelude.{⊤, Option, Some, None, if◌then◌else◌}
use Rattle.fkv_plane.specs.declared.actions.Action.{Action}
use Rattle.fkv_plane.specs.declared.asks.Ask.{Ask}
use Rattle.fkv_plane.specs.declared.asks.Ask.TheVariants.{Load, Store, Swap, Cas, Add, Max, Put, Take, Done}
use Rattle.fkv_plane.specs.declared.places.SharedWord.TheVariants as one
use Rattle.fkv_plane.specs.Asked.{reply_to, word_at}
use Rattle.fkv_plane.specs.Passing.{passed}
use Rattle.fkv_plane.specs.Places.{shared_place}
use Rattle.fkv_plane.specs.Plane.{action_at}
use Rattle.fkv_epoch.specs.declared.refreshing.Refreshing.{Refreshing}
use Rattle.fkv_epoch.specs.declared.refreshing.Refreshing.TheVariants as refresh
use Rattle.fkv_epoch.specs.declared.protecting.Protecting.{Protecting}
use Rattle.fkv_epoch.specs.declared.protecting.Protecting.TheVariants as protect
use Rattle.fkv_epoch.specs.Refreshing.{refresh_ask}
use Rattle.fkv_epoch.specs.Protecting.{protect_ask}
use Rattle.law_refine.specs.Below.fkv_session.Told.{Told}
use Rattle.law_refine.specs.Below.fkv_session.Told.TheVariants.{Slept}
use Rattle.law_refine.specs.Below.fkv_session.Catching.{Catching}
use Rattle.law_refine.specs.Below.fkv_session.Catching.TheVariants as catching
use Rattle.law_refine.specs.Below.fkv_session.Sitting.{Sitting}
use Rattle.law_refine.specs.Below.fkv_session.Sitting.TheVariants.{Idle, Attempts, CatchesUp, ClearsMail, Polls, StoresOwing, Turns, StoresCut, Leaves, LoadsDurable}
use Rattle.law_refine.specs.Below.fkv_session.CatchingUp.{catch_ask, catching_ask}
use Rattle.law_refine.specs.Below.fkv_session.Sessions.{SessionState, Seat, session_ask, session_next, sitting_ask}
use Rattle.law_refine.specs.Below.fkv_session.SessionRun.{SessionEvent, Replies, session_happens, session_run}
use Rattle.law_refine.specs.Below.fkv_world.Moves.{Near}
use Rattle.law_refine.specs.Below.fkv_world.OwnEvents.{session_got, session_slots, session_steps, session_part, session_part_found}
use Rattle.law_refine.specs.Below.fkv_world.Actors.{is_of_session}
use Rattle.law_refine.specs.Below.fkv_world.World as world
use Rattle.law_refine.specs.Below.fkv_world.World.{Event, Calls, Moves, Commits, KeeperMoves, Crashes, Now, near, seat_at}
use Rattle.law_commit.specs.Views.{is_at_phase, loads_phase, wakes_at_phase}

-- where the phase is what a session loads, the reply is the phase word
abbrev pub Tells : List ℕ → SessionState → Sitting → ℕ → Type 0
Tells words s (CatchesUp cause) reply = loads_phase s.catching s.catching.step ≡ true → reply ≡ word_at words (shared_place one.Phase)
Tells words s step reply = ⊤

abbrev pub TellsBy : List ℕ → SessionState → SessionEvent → Type 0
TellsBy words s (Replies reply) = Tells words s s.step reply
TellsBy words s event = ⊤

-- so it is of each of these events
unfoldable pub TellAll : List ℕ → Seat → SessionState → List SessionEvent → Type 0
TellAll words k s [] = ⊤
TellAll words k s (event ∷ before) = TellsBy words (session_run k s before) event × TellAll words k s before

-- the load of the phase
refresh_loads : (n : ℕ) (step : Refreshing) → is_at_phase step ≡ true → passed {B = Unit {0}} (refresh_ask n step) tt ≡ Load (shared_place one.Phase)
unfolding refresh_ask passed
refresh_loads n (refresh.LoadsPhase epoch) e = refl
refresh_loads n step e = cc

protect_loads : (n : ℕ) (step : Protecting) → wakes_at_phase step ≡ true → passed {B = Unit {0}} (protect_ask n step) tt ≡ Load (shared_place one.Phase)
unfolding protect_ask passed
protect_loads n protect.LoadsPhase e = refl
protect_loads n step e = cc

catch_loads : (k : Seat) (s : SessionState) (step : Catching) → loads_phase s.catching step ≡ true → catching_ask k.places k.number s.catching s.requests step ≡ Load (shared_place one.Phase)
unfolding catching_ask
catch_loads k s catching.Refreshes e = refresh_loads k.number s.catching.refreshing e
catch_loads k s catching.Protects e = protect_loads k.number s.catching.protecting e
catch_loads k s step e = cc

passed_load : (ask : Ask (Unit {0})) → ask ≡ Load (shared_place one.Phase) → passed ask Slept ≡ Load (shared_place one.Phase)
unfolding passed
passed_load ask e = rw e refl

sits_loading : (k : Seat) (s : SessionState) (cause : _) → loads_phase s.catching s.catching.step ≡ true → sitting_ask k s (CatchesUp cause) ≡ Load (shared_place one.Phase)
unfolding sitting_ask
sits_loading k s cause e = passed_load (catch_ask k.places k.number s.catching s.requests) (catch_loads k s s.catching.step e)

-- a reply that is right where the phase is loaded
tells_so : (words : List ℕ) (k : Seat) (s : SessionState) (step : Sitting) (reply : ℕ) → (sitting_ask k s step ≡ Load (shared_place one.Phase) → reply ≡ word_at words (shared_place one.Phase)) → Tells words s step reply
tells_so words k s (CatchesUp cause) reply right = λ loads. right (sits_loading k s cause loads)
tells_so words k s (Idle told) reply right = tt
tells_so words k s (Attempts has_shifted) reply right = tt
tells_so words k s ClearsMail reply right = tt
tells_so words k s (Polls i) reply right = tt
tells_so words k s (StoresOwing i) reply right = tt
tells_so words k s (Turns told) reply right = tt
tells_so words k s StoresCut reply right = tt
tells_so words k s Leaves reply right = tt
tells_so words k s LoadsDurable reply right = tt

replied_so : (words : List ℕ) (k : Seat) (s : SessionState) (ask : Ask Told) → session_ask k s ≡ ask → Tells words s s.step (reply_to words ask)
replied_so words k s ask e = tells_so words k s s.step (reply_to words ask) (λ loads. ap (λ (x : Ask Told). reply_to words x) (sym e ∙ loads))

no_load : (ask : Ask Told) (slot : ℕ) (action : Action) (n : ℕ) (words : List ℕ) → ask ≡ Put slot action → ask ≡ Load (shared_place one.Phase) → n ≡ word_at words (shared_place one.Phase)
no_load ask slot action n words e loads = cc

put_so : (words : List ℕ) (k : Seat) (s : SessionState) (slot : ℕ) (action : Action) → session_ask k s ≡ Put slot action → Tells words s s.step 0
put_so words k s slot action e = tells_so words k s s.step 0 (λ loads. no_load (session_ask k s) slot action 0 words e loads)

got_all : (words : List ℕ) (k : Seat) (s : SessionState) (before : List SessionEvent) (found : Option Action) → TellAll words k s before → TellAll words k s (session_got found ++ before)
unfolding TellAll
got_all words k s before None tell = tell
got_all words k s before (Some action) tell = (tt, tell)

slots_all : (words : List ℕ) (actions : List (Option Action)) (k : Seat) (s : SessionState) (before : List SessionEvent) (ask : Ask Told) → session_ask k (session_run k s before) ≡ ask → TellAll words k s before
    → TellAll words k s (session_slots actions ask ++ before)
unfolding TellAll session_slots
slots_all words actions k s before (Put slot action) e tell = (put_so words k (session_run k s before) slot action e, tell)
slots_all words actions k s before (Take slot) e tell = got_all words k s before (action_at actions slot) tell
slots_all words actions k s before (Load place) e tell = tell
slots_all words actions k s before (Store place new) e tell = tell
slots_all words actions k s before (Swap place new) e tell = tell
slots_all words actions k s before (Cas place old new) e tell = tell
slots_all words actions k s before (Add place n) e tell = tell
slots_all words actions k s before (Max place n) e tell = tell
slots_all words actions k s before (Done its) e tell = tell

nothing_told : (words : List ℕ) (k : Seat) (s : SessionState) → TellAll words k s []
unfolding TellAll
nothing_told words k s = tt

word_all : (n : Near SessionState) (k : Seat) (ask : Ask Told) → session_ask k n.machine ≡ ask
    → TellAll n.words k n.machine (session_slots n.actions (session_ask k (session_next k n.machine (reply_to n.words ask))) ++ Replies (reply_to n.words ask) ∷ [])
unfolding TellAll session_run session_happens
word_all n k ask e =
    slots_all n.words n.actions k n.machine (Replies (reply_to n.words ask) ∷ []) (session_ask k (session_next k n.machine (reply_to n.words ask))) refl (replied_so n.words k n.machine ask e, tt)

only_slots : (n : Near SessionState) (k : Seat) (ask : Ask Told) → session_ask k n.machine ≡ ask → TellAll n.words k n.machine (session_slots n.actions ask ++ [])
unfolding session_run
only_slots n k ask e = slots_all n.words n.actions k n.machine [] ask e (nothing_told n.words k n.machine)

got_one : (words : List ℕ) (k : Seat) (s : SessionState) (found : Option Action) → TellAll words k s (session_got found)
unfolding TellAll
got_one words k s None = tt
got_one words k s (Some action) = (tt, tt)

steps_all : (n : Near SessionState) (k : Seat) (ask : Ask Told) → session_ask k n.machine ≡ ask → TellAll n.words k n.machine (session_steps k n ask)
unfolding session_steps session_slots TellAll session_run
steps_all n k (Done its) e = tt
steps_all n k (Put slot action) e = only_slots n k (Put slot action) e
steps_all n k (Take slot) e = got_one n.words k n.machine (action_at n.actions slot)
steps_all n k (Load place) e = word_all n k (Load place) e
steps_all n k (Store place new) e = word_all n k (Store place new) e
steps_all n k (Swap place new) e = word_all n k (Swap place new) e
steps_all n k (Cas place old new) e = word_all n k (Cas place old new) e
steps_all n k (Add place count) e = word_all n k (Add place count) e
steps_all n k (Max place count) e = word_all n k (Max place count) e

part_all : (n : Near SessionState) (k : Seat) (event : Event) → TellAll n.words k n.machine (session_part k n event)
unfolding session_part TellAll
part_all n k (Calls number call) = (tt, tt)
part_all n k (Moves number) = steps_all n k (session_ask k n.machine) refl
part_all n k (Commits kind) = tt
part_all n k world.Turns = tt
part_all n k (KeeperMoves granted done) = tt
part_all n k Crashes = tt

either_all : (c : Bool) (words : List ℕ) (k : Seat) (s : SessionState) (a b : List SessionEvent) → TellAll words k s a → TellAll words k s b → TellAll words k s (if c then a else b)
either_all true words k s a b one other = one
either_all false words k s a b one other = other

pub found_all : (n : Now) (k : Seat) (s : SessionState) (session : ℕ) (event : Event) (found : Option SessionState) → found ≡ Some s → seat_at n session ≡ k
    → TellAll n.words k s (if n.crashed then [] else session_part_found n session event found)
found_all n k s session event found e seat =
    rw (e, seat) (either_all n.crashed n.words k s [] (if is_of_session session event then session_part k (near n s) event else []) (nothing_told n.words k s)
    (either_all (is_of_session session event) n.words k s (session_part k (near n s) event) [] (part_all (near n s) k event) (nothing_told n.words k s)))
