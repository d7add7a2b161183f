-- How many asks a session has left at most, in every life of a store that was opened.
use Rattle.std.proofs.Common.{◌≡◌, ℕ, ◌+◌, ◌*◌, ◌-◌, ◌^◌, ◌<◌, ◌≤◌, ◌∙◌, refl, sym, ap, subst, arith, List, [], ◌∷◌, ◌++◌, Bool, true, false}
use Rattle.std.specs.Prelude.{if◌then◌else◌, Option, Some, None, slice_get}
use Rattle.std.proofs.Math.Nat.{mul-le-mul}
use Rattle.fkv_base.specs.Limits.{max_frames, max_overflow, max_page, min_frames, min_page}
use Rattle.fkv_base.specs.declared.shapes.Shape.{Shape}
use Rattle.fkv_base.proofs.Shown.{ring_between}
use Rattle.fkv_map.specs.declared.operations.Call.{Call}
use Rattle.fkv_map.specs.declared.operations.Call.TheVariants as call
use Rattle.fkv_plane.specs.declared.actions.Action.{Action}
use Rattle.fkv_plane.specs.declared.asks.Ask.{Ask}
use Rattle.fkv_plane.specs.declared.asks.Ask.TheVariants.{Done, Put, Take}
use Rattle.fkv_plane.specs.Asked.{reply_to}
use Rattle.fkv_plane.specs.Passing.{is_done}
use Rattle.fkv_plane.specs.Plane.{action_at}
use Rattle.fkv_session.specs.declared.answers.Told.{Told}
use Rattle.fkv_session.specs.AsksLeft.{IsOfShape, call_bound, session_asks_left, try_bound}
use Rattle.fkv_session.specs.Bounds.{AreAsked, IsAsked, bound_begun, run_bound}
use Rattle.fkv_session.specs.SessionRun.{Begins, Gets, Replies, SessionEvent, session_happens, session_run}
use Rattle.fkv_session.specs.Sessions.{Seat, SessionState, is_busy, session_ask, session_next}
use Rattle.fkv_session.proofs.Shown.{run_within}
use Rattle.fkv_world.specs.Actors.{is_of_session}
use Rattle.law_world.specs.Runs.Ends.{asks_left_of, left_at}
use Rattle.fkv_world.specs.Moves.{Near}
use Rattle.fkv_world.specs.OwnEvents.{session_events, session_got, session_part, session_part_found, session_part_of, session_slots, session_steps}
use Rattle.fkv_world.specs.Runs.{World, run}
use Rattle.fkv_world.specs.World.{Calls, Event, Moves, Now, near, seat_at}
use Rattle.fkv_world.proofs.Shown.{same_seat, session_runs, session_runs_on}
use Rattle.law_world.specs.Guarded.EndsAlone.{most_session_asks}
use Rattle.law_world.specs.Guarded.OpenedStore.{IsOpenedStore}
use Rattle.law_world.proofs.OfRuns.Nothing.{none_ever}

-- of two lists of events, one after the other
asked_on : (k : Seat) (first : SessionState) (later before : List SessionEvent) → AreAsked k (session_run k first before) later → AreAsked k first before → AreAsked k first (later ++ before)
unfolding AreAsked
asked_on k first [] before new old = old
asked_on k first (event ∷ later) before new old =
    (subst (λ (s : SessionState). IsAsked k s event) (sym (session_runs_on k first later before)) new.0, asked_on k first later before new.1 old)

-- a session gets a reply and an action only where it asks
got_asked : (k : Seat) (s : SessionState) (found : Option Action) → is_done (session_ask k s) ≡ false → AreAsked k s (session_got found)
unfolding AreAsked session_run
got_asked k s None asks = tt
got_asked k s (Some action) asks = (asks, tt)

slots_asked : (k : Seat) (s : SessionState) (actions : List (Option Action)) (ask : Ask Told) → session_ask k s ≡ ask → AreAsked k s (session_slots actions ask)
unfolding AreAsked session_slots session_run
slots_asked k s actions (Put slot action) e = (ap is_done e, tt)
slots_asked k s actions (Take slot) e = got_asked k s (action_at actions slot) (ap is_done e)
slots_asked k s actions ask e = tt

replied_asked : (k : Seat) (n : Near SessionState) (reply : ℕ) → is_done (session_ask k n.machine) ≡ false
    → AreAsked k n.machine (session_slots n.actions (session_ask k (session_next k n.machine reply)) ++ Replies reply ∷ [])
unfolding AreAsked session_run session_happens
replied_asked k n reply asks =
    asked_on k n.machine (session_slots n.actions (session_ask k (session_next k n.machine reply))) (Replies reply ∷ [])
    (slots_asked k (session_next k n.machine reply) n.actions (session_ask k (session_next k n.machine reply)) refl) (asks, tt)

steps_asked : (k : Seat) (n : Near SessionState) (ask : Ask Told) → session_ask k n.machine ≡ ask → AreAsked k n.machine (session_steps k n ask)
unfolding AreAsked session_steps
steps_asked k n (Done its) e = tt
steps_asked k n (Put slot action) e = slots_asked k n.machine n.actions (Put slot action) e
steps_asked k n (Take slot) e = slots_asked k n.machine n.actions (Take slot) e
steps_asked k n ask e = replied_asked k n (reply_to n.words ask) (ap is_done e)

part_asked : (k : Seat) (n : Near SessionState) (event : Event) → AreAsked k n.machine (session_part k n event)
unfolding AreAsked session_part
part_asked k n (Calls number its) = (tt, tt)
part_asked k n (Moves number) = steps_asked k n (session_ask k n.machine) refl
part_asked k n event = tt

found_asked : (n : Now) (number : ℕ) (event : Event) (s : SessionState) (own crashed : Bool) → AreAsked (seat_at n number) s (if crashed then [] else (if own then session_part (seat_at n number) (near n s) event else []))
unfolding AreAsked
found_asked n number event s own true = tt
found_asked n number event s true false = part_asked (seat_at n number) (near n s) event
found_asked n number event s false false = tt

-- so it is over a life
life_asked : (opening : World) (number : ℕ) (first : SessionState) (events : List Event) → slice_get opening.now.sessions number ≡ Some first
    → AreAsked (seat_at opening.now number) first (session_events opening number events)
unfolding AreAsked session_events
life_asked opening number first [] found = tt
life_asked opening number first (event ∷ before) found =
    let n : Now = (run opening before).now in
    let k : Seat = seat_at opening.now number in
    let own : List SessionEvent = session_events opening number before in
    let s : SessionState = session_run k first own in
    let there : slice_get n.sessions number ≡ Some s = session_runs opening number first before found in
    let here : AreAsked (seat_at n number) s (if n.crashed then [] else session_part_found n number event (Some s)) = found_asked n number event s (is_of_session number event) n.crashed in
    let its : AreAsked (seat_at n number) s (session_part_of n number event) =
    subst (λ (at : Option SessionState). AreAsked (seat_at n number) s (if n.crashed then [] else session_part_found n number event at)) (sym there) here in
    asked_on k first (session_part_of n number event) own (subst (λ (seat : Seat). AreAsked seat s (session_part_of n number event)) (same_seat opening before number) its) (life_asked opening number first before found)

-- no call has a higher bound than a poll
twice_less : (tries : ℕ) → 2 * tries + 128 ≤ 64 * tries + 128
twice_less tries = omega arith

no_less : (tries : ℕ) → 128 ≤ 64 * tries + 128
no_less tries = omega arith

call_most : (shape : Shape) (its : Call) → call_bound shape its ≤ most_session_asks shape
call_most shape (call.Op op) = twice_less (try_bound shape)
call_most shape call.Poll = omega arith
call_most shape its = no_less (try_bound shape)

begun_most : (k : Seat) (s : SessionState) (event : SessionEvent) (earlier : ℕ) → earlier ≤ most_session_asks k.shape → bound_begun k s event earlier ≤ most_session_asks k.shape
begun_most k s (Begins its) earlier few = by_busy (is_busy s.step)
  where
    by_busy : (b : Bool) → (if b then earlier else call_bound k.shape its) ≤ most_session_asks k.shape
    by_busy true = few
    by_busy false = call_most k.shape its
begun_most k s (Replies reply) earlier few = few
begun_most k s (Gets action) earlier few = few

run_most : (k : Seat) (first : SessionState) (events : List SessionEvent) → run_bound k first events ≤ most_session_asks k.shape
unfolding run_bound
run_most k first [] = omega arith
run_most k first (event ∷ before) = begun_most k (session_run k first before) event (run_bound k first before) (run_most k first before)

-- at every moment
pub life_few : (opening : World) (start : ℕ) (events : List Event) (number : ℕ) → IsOpenedStore opening start → asks_left_of (run opening events).now number ≤ most_session_asks opening.now.shape
life_few opening start events number store = by (slice_get opening.now.sessions number) refl
  where
    by : (was : Option SessionState) → slice_get opening.now.sessions number ≡ was → asks_left_of (run opening events).now number ≤ most_session_asks opening.now.shape
    by None at_first = let none : asks_left_of (run opening events).now number ≡ 0 = ap (left_at (run opening events).now number) (none_ever opening events number at_first) in omega (arith, none)
    by (Some first) at_first =
        let k : Seat = seat_at opening.now number in
        let own : List SessionEvent = session_events opening number events in
        let s : SessionState = session_run k first own in
        let of : IsOfShape k = record { overflow = store.overflow; ring = store.now.words.fits.ring } in
        let within = run_within k first own of (store.now.sessions number first at_first) (life_asked opening number first events at_first) in
        let most = run_most k first own in
        let left : asks_left_of (run opening events).now number ≡ session_asks_left (seat_at (run opening events).now number) s = ap (left_at (run opening events).now number) (session_runs opening number first events at_first) in
        let same : session_asks_left (seat_at (run opening events).now number) s ≡ session_asks_left k s = ap (λ (seat : Seat). session_asks_left seat s) (same_seat opening events number) in
        few_left (asks_left_of (run opening events).now number) s.asks (session_asks_left k s) (run_bound k first own) (most_session_asks opening.now.shape) (left ∙ same) within most
      where
        few_left : (all asked left bound most : ℕ) → all ≡ left → asked + left ≤ bound → bound ≤ most → all ≤ most
        few_left all asked left bound most same within few = omega (arith, same, within, few)

-- and less than a count has numbers, by the limits of a shape
pub shape_few : (shape : Shape) → most_session_asks shape < 2 ^ 64 - 1
shape_few shape =
    let frames : shape.frames ≤ max_frames = (ring_between shape.frames min_frames max_frames shape.limits.ring_size).1 in
    let page : shape.page ≤ max_page = (ring_between shape.page min_page max_page shape.limits.page_size).1 in
    few shape.overflow (shape.frames * shape.page) shape.limits.few_overflow (mul-le-mul frames page)
  where
    few : (overflow ring : ℕ) → overflow ≤ max_overflow → ring ≤ max_frames * max_page → 64 * (8 * (overflow + 1) + 2 * ring + 64) + 128 < 2 ^ 64 - 1
    few overflow ring low small = omega (arith, low, small)
