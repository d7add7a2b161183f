-- The calls of the device that the keeper's own run has made are the world's.
use Rattle.std.proofs.Common.{◌≡◌, ℕ, ◌∙◌, ◌++◌, List, [], ◌∷◌, refl, ap, sym, Bool, true, false}
use Rattle.std.specs.Prelude.{Option, Some, None, if◌then◌else◌}
use Rattle.std.proofs.lemmas.List.{append_assoc}
use Rattle.fkv_base.specs.declared.shapes.Shape.{Shape}
use Rattle.fkv_disk.specs.Calls as device
use Rattle.fkv_plane.specs.declared.actions.Action.{Action}
use Rattle.fkv_plane.specs.declared.asks.Ask.{Ask}
use Rattle.fkv_plane.specs.declared.asks.Ask.TheVariants.{Put, Take, Done}
use Rattle.fkv_plane.specs.declared.places.Places.{Places}
use Rattle.fkv_plane.specs.Asked.{reply_to}
use Rattle.fkv_plane.specs.Plane.{action_at}
use Rattle.fkv_keeper.specs.declared.answers.KeeperTold.{KeeperTold}
use Rattle.fkv_keeper.specs.declared.answers.KeeperTold.TheVariants.{Device}
use Rattle.fkv_keeper.specs.Keeping.{KeeperState, keeper_ask, keeper_next}
use Rattle.fkv_keeper.specs.KeeperAsks.{keeper_calls}
use Rattle.fkv_keeper.specs.KeeperRun as keeper
use Rattle.fkv_keeper.specs.KeeperRun.{KeeperEvent, keeper_run}
use Rattle.law_world.specs.Standing.CallsMade.{calls_made, calls_of}
use Rattle.fkv_world.specs.Moves.{Near}
use Rattle.fkv_world.specs.Opened.{IsOpenedWorld}
use Rattle.fkv_world.specs.OwnEvents.{keeper_events, keeper_got, keeper_part, keeper_part_of, keeper_slots, keeper_steps}
use Rattle.fkv_world.specs.Past.{calls_after}
use Rattle.fkv_world.specs.Runs.{World, happens, read_by_keeper, run}
use Rattle.fkv_world.specs.World.{Event, Calls, Moves, Commits, Turns, KeeperMoves, Crashes, near, life_goes}
use Rattle.fkv_world.proofs.Shown.{added_calls, added_opened, calls_added, lived, is_over, places_stay, shape_stays, keeper_runs, keeper_runs_on}

-- calls of one list of events after another
calls_on : (shape : Shape) (p : Places) (opening : KeeperState) (later before : List KeeperEvent)
    → calls_made shape p opening (later ++ before) ≡ calls_made shape p (keeper_run shape p opening before) later ++ calls_made shape p opening before
unfolding calls_made
calls_on shape p opening [] before = refl
calls_on shape p opening (event ∷ later) before =
    ap (λ (s : KeeperState). calls_of shape s event ++ calls_made shape p opening (later ++ before)) (keeper_runs_on shape p opening later before)
    ∙ (ap (λ (calls : List device.Call). calls_of shape (keeper_run shape p (keeper_run shape p opening before) later) event ++ calls) (calls_on shape p opening later before)
    ∙ sym (append_assoc (calls_of shape (keeper_run shape p (keeper_run shape p opening before) later) event) (calls_made shape p (keeper_run shape p opening before) later) (calls_made shape p opening before)))

-- a slot makes none
got_none : (shape : Shape) (p : Places) (s : KeeperState) (found : Option Action) → calls_made shape p s (keeper_got found) ≡ []
unfolding calls_made
got_none shape p s None = refl
got_none shape p s (Some action) = refl

slots_none : (shape : Shape) (p : Places) (s : KeeperState) (actions : List (Option Action)) (granted : Bool) (ask : Ask KeeperTold) → calls_made shape p s (keeper_slots actions granted ask) ≡ []
unfolding calls_made keeper_slots
slots_none shape p s actions granted (Put slot action) = refl
slots_none shape p s actions granted (Take slot) = got_none shape p s (action_at actions slot)
slots_none shape p s actions granted ask = refl

-- nor does a reply with the slot behind it
replied_none : (shape : Shape) (p : Places) (s : KeeperState) (actions : List (Option Action)) (granted : Bool) (ask : Ask KeeperTold) (reply : ℕ)
    → calls_made shape p s (keeper_slots actions granted ask ++ keeper.Replies reply granted ∷ []) ≡ []
unfolding calls_made
replied_none shape p s actions granted ask reply =
    calls_on shape p s (keeper_slots actions granted ask) (keeper.Replies reply granted ∷ [])
    ∙ ap (λ (calls : List device.Call). calls ++ []) (slots_none shape p (keeper_run shape p s (keeper.Replies reply granted ∷ [])) actions granted ask)

no_more : (calls : List device.Call) → calls ++ [] ≡ calls
no_more [] = refl
no_more (its ∷ rest) = ap (λ (calls : List device.Call). its ∷ calls) (no_more rest)

-- a step
steps_calls : (shape : Shape) (p : Places) (granted done : Bool) (read : List ℕ) (n : Near KeeperState) (ask : Ask KeeperTold) (calls : List device.Call)
    → calls_made shape p n.machine (keeper_steps shape p granted done read n ask) ++ calls ≡ calls_after ask (keeper_calls shape n.machine done) calls
unfolding calls_made keeper_steps keeper_run
steps_calls shape p granted done read n (Done Device) calls = ap (λ (made : List device.Call). made ++ calls) (no_more (keeper_calls shape n.machine done))
steps_calls shape p granted done read n (Done its) calls = refl
steps_calls shape p granted done read n (Put slot action) calls = ap (λ (made : List device.Call). made ++ calls) (slots_none shape p n.machine n.actions granted (Put slot action))
steps_calls shape p granted done read n (Take slot) calls = ap (λ (made : List device.Call). made ++ calls) (slots_none shape p n.machine n.actions granted (Take slot))
steps_calls shape p granted done read n ask calls =
    ap (λ (made : List device.Call). made ++ calls) (replied_none shape p n.machine n.actions granted (keeper_ask shape p (keeper_next shape p n.machine (reply_to n.words ask) granted)) (reply_to n.words ask))

-- one event of the world
part_calls : (w : World) (event : Event)
    → calls_made w.now.shape w.now.places w.now.keeper (keeper_part w.now.shape w.now.places (read_by_keeper w) (near w.now w.now.keeper) event) ++ w.past.calls ≡ calls_added w.now event w.past.calls
unfolding calls_made keeper_part calls_added
part_calls w (Calls number call) = refl
part_calls w (Moves number) = refl
part_calls w (Commits kind) = refl
part_calls w Turns = refl
part_calls w (KeeperMoves granted done) = steps_calls w.now.shape w.now.places granted done (read_by_keeper w) (near w.now w.now.keeper) (keeper_ask w.now.shape w.now.places w.now.keeper) w.past.calls
part_calls w Crashes = refl

event_calls : (w : World) (event : Event) (crashed : Bool) → w.now.crashed ≡ crashed
    → calls_made w.now.shape w.now.places w.now.keeper (if crashed then [] else keeper_part w.now.shape w.now.places (read_by_keeper w) (near w.now w.now.keeper) event) ++ w.past.calls ≡ (happens w event).past.calls
unfolding calls_made
event_calls w event true e = sym (ap (λ (x : World). x.past.calls) (is_over w event e))
event_calls w event false e = part_calls w event ∙ sym (ap (λ (x : World). x.past.calls) (lived w event e) ∙ added_calls w (life_goes w.now (read_by_keeper w) event) event)

-- of a life
pub own_calls : (opening : World) (events : List Event) → IsOpenedWorld opening
    → calls_made opening.now.shape opening.now.places opening.now.keeper (keeper_events opening events) ≡ (run opening events).past.calls
unfolding calls_made keeper_events run
own_calls opening [] opened = sym opened.no_calls
own_calls opening (event ∷ before) opened =
    calls_on opening.now.shape opening.now.places opening.now.keeper (keeper_part_of w event) (keeper_events opening before)
    ∙ (ap (λ (calls : List device.Call). calls_made opening.now.shape opening.now.places (keeper_run opening.now.shape opening.now.places opening.now.keeper (keeper_events opening before)) (keeper_part_of w event) ++ calls) (own_calls opening before opened)
    ∙ (ap (λ (s : KeeperState). calls_made opening.now.shape opening.now.places s (keeper_part_of w event) ++ w.past.calls) (sym (keeper_runs opening before))
    ∙ (ap (λ (p : Places). calls_made opening.now.shape p w.now.keeper (keeper_part_of w event) ++ w.past.calls) (sym (places_stay opening before))
    ∙ (ap (λ (shape : Shape). calls_made shape w.now.places w.now.keeper (keeper_part_of w event) ++ w.past.calls) (sym (shape_stays opening before))
    ∙ event_calls w event w.now.crashed refl))))
  where
    w : World
    w = run opening before

-- what the device held as the life began is known for good
opened_at : (w : World) (event : Event) (crashed : Bool) → w.now.crashed ≡ crashed → (happens w event).past.opened ≡ w.past.opened
opened_at w event true e = ap (λ (x : World). x.past.opened) (is_over w event e)
opened_at w event false e = ap (λ (x : World). x.past.opened) (lived w event e) ∙ added_opened w (life_goes w.now (read_by_keeper w) event) event

pub opened_stays : (opening : World) (events : List Event) → (run opening events).past.opened ≡ opening.past.opened
unfolding run
opened_stays opening [] = refl
opened_stays opening (event ∷ before) = opened_at (run opening before) event (run opening before).now.crashed refl ∙ opened_stays opening before
