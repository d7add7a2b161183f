-- Each machine of a life is at every moment the run of its own events.
use Rattle.std.proofs.Common.{◌≡◌, ℕ, ◌∙◌, ◌++◌, List, [], ◌∷◌, refl, ap, sym, Bool, true, false}
use Rattle.std.specs.Prelude.{Option, Some, None, slice_get, if◌then◌else◌}
use Rattle.fkv_base.specs.declared.shapes.Shape.{Shape}
use Rattle.fkv_map.specs.declared.operations.Call.{Call}
use Rattle.fkv_plane.specs.declared.actions.Action.{Action}
use Rattle.fkv_plane.specs.declared.asks.Ask.{Ask}
use Rattle.fkv_plane.specs.declared.asks.Ask.TheVariants.{Put, Take, Done}
use Rattle.fkv_plane.specs.declared.places.Places.{Places}
use Rattle.fkv_plane.specs.Asked.{reply_to}
use Rattle.fkv_plane.specs.Plane.{action_at}
use Rattle.fkv_session.specs.declared.answers.Told.{Told}
use Rattle.fkv_session.specs.Sessions.{SessionState, Seat, is_busy, session_ask, session_begun, session_next}
use Rattle.fkv_session.specs.SessionRun as session
use Rattle.fkv_session.specs.SessionRun.{SessionEvent, session_happens, session_run}
use Rattle.fkv_keeper.specs.declared.answers.KeeperTold.{KeeperTold}
use Rattle.fkv_keeper.specs.declared.answers.KeeperTold.TheVariants.{Device}
use Rattle.fkv_keeper.specs.Keeping.{KeeperState, keeper_ask, keeper_next}
use Rattle.fkv_keeper.specs.KeeperRun as keeper
use Rattle.fkv_keeper.specs.KeeperRun.{KeeperEvent, is_in_hand, keeper_happens, keeper_run}
use Rattle.fkv_world.specs.Actors.{is_of_session, session_goes}
use Rattle.fkv_world.specs.Moves.{Near, session_gets, session_settled, session_replied, session_asks, keeper_gets, keeper_settled, keeper_replied, keeper_asks}
use Rattle.fkv_world.specs.OwnEvents.{session_got, session_slots, session_steps, session_part, session_part_found, session_part_of, session_events, keeper_got, keeper_slots, keeper_steps, keeper_part, keeper_part_of, keeper_events}
use Rattle.fkv_world.specs.Runs.{World, happens, read_by_keeper, run}
use Rattle.fkv_world.specs.World.{Event, Calls, Moves, Commits, Turns, KeeperMoves, Crashes, Now, seat_at, near, session_calls, session_moves, life_goes}
use Rattle.fkv_world.proofs.Others.{lives, is_over, session_apart, session_written, shape_stays, places_stay}

-- runs one after the other
pub session_runs_on : (k : Seat) (opening : SessionState) (later before : List SessionEvent) → session_run k opening (later ++ before) ≡ session_run k (session_run k opening before) later
unfolding session_run
session_runs_on k opening [] before = refl
session_runs_on k opening (event ∷ later) before = ap (λ (s : SessionState). session_happens k s event) (session_runs_on k opening later before)

pub keeper_runs_on : (shape : Shape) (p : Places) (opening : KeeperState) (later before : List KeeperEvent) → keeper_run shape p opening (later ++ before) ≡ keeper_run shape p (keeper_run shape p opening before) later
unfolding keeper_run
keeper_runs_on shape p opening [] before = refl
keeper_runs_on shape p opening (event ∷ later) before = ap (λ (s : KeeperState). keeper_happens shape p s event) (keeper_runs_on shape p opening later before)

no_session_run : (k : Seat) (opening : SessionState) → session_run k opening [] ≡ opening
unfolding session_run
no_session_run k opening = refl

no_keeper_run : (shape : Shape) (p : Places) (opening : KeeperState) → keeper_run shape p opening [] ≡ opening
unfolding keeper_run
no_keeper_run shape p opening = refl

-- one step of a session
got_so : (k : Seat) (s : SessionState) (found : Option Action) → session_gets k s found ≡ session_run k s (session_got found)
unfolding session_run session_happens
got_so k s None = refl
got_so k s (Some action) = refl

settled_so : (k : Seat) (n : Near SessionState) (ask : Ask Told) → (session_settled k n ask).machine ≡ session_run k n.machine (session_slots n.actions ask)
unfolding session_settled session_slots session_run session_happens
settled_so k n (Put slot action) = refl
settled_so k n (Take slot) = got_so k n.machine (action_at n.actions slot)
settled_so k n ask = refl

-- behind a reply
replied_so : (k : Seat) (n : Near SessionState) (ask : Ask Told) (reply : ℕ) → reply_to n.words ask ≡ reply
    → (session_settled k (session_replied k n ask) (session_ask k (session_replied k n ask).machine)).machine
    ≡ session_run k n.machine (session_slots n.actions (session_ask k (session_next k n.machine reply)) ++ session.Replies reply ∷ [])
unfolding session_run session_happens
replied_so k n ask reply e =
    settled_so k (session_replied k n ask) (session_ask k (session_replied k n ask).machine)
    ∙ (rw e (sym (session_runs_on k n.machine (session_slots n.actions (session_ask k (session_next k n.machine reply))) (session.Replies reply ∷ []))))

steps_so : (k : Seat) (n : Near SessionState) (ask : Ask Told) → (session_asks k n ask).machine ≡ session_run k n.machine (session_steps k n ask)
unfolding session_asks session_steps session_run
steps_so k n (Done its) = refl
steps_so k n (Put slot action) = settled_so k n (Put slot action)
steps_so k n (Take slot) = settled_so k n (Take slot)
steps_so k n ask = replied_so k n ask (reply_to n.words ask) refl

begins_so : (k : Seat) (s : SessionState) (call : Call) (busy : Bool) → (if busy then s else session_begun k s call) ≡ session.begins k s busy call
begins_so k s call true = refl
begins_so k s call false = refl

pub goes_so : (k : Seat) (n : Near SessionState) (event : Event) → (session_goes k n event).machine ≡ session_run k n.machine (session_part k n event)
unfolding session_goes session_part session_run session_happens
goes_so k n (Calls number call) = begins_so k n.machine call (is_busy n.machine.step)
goes_so k n (Moves number) = steps_so k n (session_ask k n.machine)
goes_so k n (Commits kind) = refl
goes_so k n Turns = refl
goes_so k n (KeeperMoves granted done) = refl
goes_so k n Crashes = refl

-- one event of the world is such a list for the session
alive_so : (w : World) (event : Event) (s : ℕ) (x : SessionState) (own : Bool) → is_of_session s event ≡ own → w.now.crashed ≡ false → slice_get w.now.sessions s ≡ Some x
    → slice_get (happens w event).now.sessions s ≡ Some (session_run (seat_at w.now s) x (if own then session_part (seat_at w.now s) (near w.now x) event else []))
unfolding session_run
alive_so w event s x true e alive found = session_written w event s x e alive found ∙ ap (λ (y : SessionState). Some y) (goes_so (seat_at w.now s) (near w.now x) event)
alive_so w event s x false e alive found = session_apart w event s e ∙ found

event_so : (w : World) (event : Event) (s : ℕ) (x : SessionState) (crashed : Bool) → w.now.crashed ≡ crashed → slice_get w.now.sessions s ≡ Some x
    → slice_get (happens w event).now.sessions s ≡ Some (session_run (seat_at w.now s) x (if crashed then [] else session_part_found w.now s event (Some x)))
unfolding session_run
event_so w event s x true e found = ap (λ (y : World). slice_get y.now.sessions s) (is_over w event e) ∙ found
event_so w event s x false e found = alive_so w event s x (is_of_session s event) refl e found

pub happens_session : (w : World) (event : Event) (s : ℕ) (x : SessionState) → slice_get w.now.sessions s ≡ Some x
    → slice_get (happens w event).now.sessions s ≡ Some (session_run (seat_at w.now s) x (session_part_of w.now s event))
happens_session w event s x found =
    event_so w event s x w.now.crashed refl found ∙ ap (λ (y : Option SessionState). Some (session_run (seat_at w.now s) x (if w.now.crashed then [] else session_part_found w.now s event y))) (sym found)

pub same_seat : (opening : World) (events : List Event) (s : ℕ) → seat_at (run opening events).now s ≡ seat_at opening.now s
same_seat opening events s = rw (shape_stays opening events, places_stay opening events) refl

-- a session of a life
pub session_runs : (opening : World) (s : ℕ) (first : SessionState) (events : List Event) → slice_get opening.now.sessions s ≡ Some first
    → slice_get (run opening events).now.sessions s ≡ Some (session_run (seat_at opening.now s) first (session_events opening s events))
unfolding run session_events
session_runs opening s first [] found = found ∙ ap (λ (y : SessionState). Some y) (sym (no_session_run (seat_at opening.now s) first))
session_runs opening s first (event ∷ before) found =
    happens_session (run opening before) event s (session_run (seat_at opening.now s) first (session_events opening s before)) (session_runs opening s first before found)
    ∙ (ap (λ (k : Seat). Some (session_run k (session_run (seat_at opening.now s) first (session_events opening s before)) (session_part_of (run opening before).now s event))) (same_seat opening before s)
    ∙ ap (λ (y : SessionState). Some y) (sym (session_runs_on (seat_at opening.now s) first (session_part_of (run opening before).now s event) (session_events opening s before))))

-- one step of the keeper
keeper_got_so : (shape : Shape) (p : Places) (s : KeeperState) (found : Option Action) → keeper_gets shape p s found ≡ keeper_run shape p s (keeper_got found)
unfolding keeper_run keeper_happens
keeper_got_so shape p s None = refl
keeper_got_so shape p s (Some action) = refl

keeper_settled_so : (shape : Shape) (p : Places) (granted : Bool) (n : Near KeeperState) (ask : Ask KeeperTold) → (keeper_settled shape p granted n ask).machine ≡ keeper_run shape p n.machine (keeper_slots n.actions granted ask)
unfolding keeper_settled keeper_slots keeper_run keeper_happens
keeper_settled_so shape p granted n (Put slot action) = refl
keeper_settled_so shape p granted n (Take slot) = keeper_got_so shape p n.machine (action_at n.actions slot)
keeper_settled_so shape p granted n ask = refl

keeper_replied_so : (shape : Shape) (p : Places) (granted : Bool) (n : Near KeeperState) (ask : Ask KeeperTold) (reply : ℕ) → reply_to n.words ask ≡ reply
    → (keeper_settled shape p granted (keeper_replied shape p granted n ask) (keeper_ask shape p (keeper_replied shape p granted n ask).machine)).machine
    ≡ keeper_run shape p n.machine (keeper_slots n.actions granted (keeper_ask shape p (keeper_next shape p n.machine reply granted)) ++ keeper.Replies reply granted ∷ [])
unfolding keeper_run keeper_happens
keeper_replied_so shape p granted n ask reply e =
    keeper_settled_so shape p granted (keeper_replied shape p granted n ask) (keeper_ask shape p (keeper_replied shape p granted n ask).machine)
    ∙ (rw e (sym (keeper_runs_on shape p n.machine (keeper_slots n.actions granted (keeper_ask shape p (keeper_next shape p n.machine reply granted))) (keeper.Replies reply granted ∷ []))))

keeper_steps_so : (shape : Shape) (p : Places) (granted done : Bool) (read : List ℕ) (n : Near KeeperState) (ask : Ask KeeperTold)
    → (keeper_asks shape p granted done read n ask).machine ≡ keeper_run shape p n.machine (keeper_steps shape p granted done read n ask)
unfolding keeper_asks keeper_steps keeper_run keeper_happens
keeper_steps_so shape p granted done read n (Done Device) = refl
keeper_steps_so shape p granted done read n (Done its) = refl
keeper_steps_so shape p granted done read n (Put slot action) = keeper_settled_so shape p granted n (Put slot action)
keeper_steps_so shape p granted done read n (Take slot) = keeper_settled_so shape p granted n (Take slot)
keeper_steps_so shape p granted done read n ask = keeper_replied_so shape p granted n ask (reply_to n.words ask) refl

asked_so : (s begun : KeeperState) (busy : Bool) → (if busy then s else begun) ≡ keeper.begins s busy begun
asked_so s begun true = refl
asked_so s begun false = refl

called_keeper : (n : Now) (number : ℕ) (found : Option SessionState) (call : Call) → (session_calls n number call found).keeper ≡ n.keeper
called_keeper n number None call = refl
called_keeper n number (Some x) call = refl

moved_keeper : (n : Now) (number : ℕ) (found : Option SessionState) → (session_moves n number found).keeper ≡ n.keeper
moved_keeper n number None = refl
moved_keeper n number (Some x) = refl

keeper_goes_so : (n : Now) (read : List ℕ) (event : Event) → (life_goes n read event).keeper ≡ keeper_run n.shape n.places n.keeper (keeper_part n.shape n.places read (near n n.keeper) event)
unfolding life_goes keeper_part keeper_run keeper_happens
keeper_goes_so n read (Calls number call) = called_keeper n number (slice_get n.sessions number) call
keeper_goes_so n read (Moves number) = moved_keeper n number (slice_get n.sessions number)
keeper_goes_so n read (Commits kind) = asked_so n.keeper _ (is_in_hand n.keeper.step)
keeper_goes_so n read Turns = asked_so n.keeper _ (is_in_hand n.keeper.step)
keeper_goes_so n read (KeeperMoves granted done) = keeper_steps_so n.shape n.places granted done read (near n n.keeper) (keeper_ask n.shape n.places n.keeper)
keeper_goes_so n read Crashes = refl

keeper_event_so : (w : World) (event : Event) (crashed : Bool) → w.now.crashed ≡ crashed
    → (happens w event).now.keeper ≡ keeper_run w.now.shape w.now.places w.now.keeper (if crashed then [] else keeper_part w.now.shape w.now.places (read_by_keeper w) (near w.now w.now.keeper) event)
unfolding keeper_run
keeper_event_so w event true e = ap (λ (x : World). x.now.keeper) (is_over w event e)
keeper_event_so w event false e = ap (λ (n : Now). n.keeper) (lives w event e) ∙ keeper_goes_so w.now (read_by_keeper w) event

pub happens_keeper : (w : World) (event : Event) → (happens w event).now.keeper ≡ keeper_run w.now.shape w.now.places w.now.keeper (keeper_part_of w event)
happens_keeper w event = keeper_event_so w event w.now.crashed refl

-- the keeper of a life
pub keeper_runs : (opening : World) (events : List Event) → (run opening events).now.keeper ≡ keeper_run opening.now.shape opening.now.places opening.now.keeper (keeper_events opening events)
unfolding run keeper_events
keeper_runs opening [] = sym (no_keeper_run opening.now.shape opening.now.places opening.now.keeper)
keeper_runs opening (event ∷ before) =
    happens_keeper (run opening before) event
    ∙ (ap (λ (shape : Shape). keeper_run shape (run opening before).now.places (run opening before).now.keeper (keeper_part_of (run opening before) event)) (shape_stays opening before)
    ∙ (ap (λ (p : Places). keeper_run opening.now.shape p (run opening before).now.keeper (keeper_part_of (run opening before) event)) (places_stay opening before)
    ∙ (ap (λ (s : KeeperState). keeper_run opening.now.shape opening.now.places s (keeper_part_of (run opening before) event)) (keeper_runs opening before)
    ∙ sym (keeper_runs_on opening.now.shape opening.now.places opening.now.keeper (keeper_part_of (run opening before) event) (keeper_events opening before)))))
