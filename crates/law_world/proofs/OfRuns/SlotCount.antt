-- An ask of a slot writes what is in it, so there are as many slots as before.
use Rattle.std.proofs.Common.{◌≡◌, ℕ, ◌∙◌, List, [], ◌∷◌, length, length-set, refl, ap, Bool, true, false}
use Rattle.std.specs.Prelude.{Option, Some, None, slice_get}
use Rattle.fkv_base.specs.declared.shapes.Shape.{Shape}
use Rattle.fkv_map.specs.declared.operations.Call.{Call}
use Rattle.fkv_plane.specs.declared.asks.Ask.{Ask}
use Rattle.fkv_plane.specs.declared.asks.Ask.TheVariants.{Put, Take, Done}
use Rattle.fkv_plane.specs.declared.places.Places.{Places}
use Rattle.fkv_session.specs.declared.answers.Told.{Told}
use Rattle.fkv_session.specs.Sessions.{SessionState, Seat, session_ask}
use Rattle.fkv_keeper.specs.declared.answers.KeeperTold.{KeeperTold}
use Rattle.fkv_keeper.specs.declared.answers.KeeperTold.TheVariants.{Device}
use Rattle.fkv_keeper.specs.Keeping.{KeeperState, keeper_ask}
use Rattle.fkv_world.specs.Moves.{Near, session_settled, session_asks, keeper_settled, keeper_asks}
use Rattle.fkv_world.specs.Runs.{World, happens, read_by_keeper, run}
use Rattle.fkv_world.specs.World.{Event, Calls, Moves, Commits, Turns, KeeperMoves, Crashes, Now, seat_at, near, session_calls, session_moves, life_goes}
use Rattle.fkv_world.proofs.Shown.{lives, is_over}

-- a session's step
settled_slots : (k : Seat) (n : Near SessionState) (ask : Ask Told) → length (session_settled k n ask).actions ≡ length n.actions
unfolding session_settled
settled_slots k n (Put slot action) = length-set n.actions slot (Some action)
settled_slots k n (Take slot) = length-set n.actions slot None
settled_slots k n ask = refl

asks_slots : (k : Seat) (n : Near SessionState) (ask : Ask Told) → length (session_asks k n ask).actions ≡ length n.actions
unfolding session_asks
asks_slots k n (Put slot action) = settled_slots k n (Put slot action)
asks_slots k n (Take slot) = settled_slots k n (Take slot)
asks_slots k n (Done its) = refl
asks_slots k n ask = settled_slots k _ _

-- the keeper's
keeper_settled_slots : (shape : Shape) (p : Places) (granted : Bool) (n : Near KeeperState) (ask : Ask KeeperTold) → length (keeper_settled shape p granted n ask).actions ≡ length n.actions
unfolding keeper_settled
keeper_settled_slots shape p granted n (Put slot action) = length-set n.actions slot (Some action)
keeper_settled_slots shape p granted n (Take slot) = length-set n.actions slot None
keeper_settled_slots shape p granted n ask = refl

keeper_slots : (shape : Shape) (p : Places) (granted done : Bool) (read : List ℕ) (n : Near KeeperState) (ask : Ask KeeperTold) → length (keeper_asks shape p granted done read n ask).actions ≡ length n.actions
unfolding keeper_asks
keeper_slots shape p granted done read n (Put slot action) = keeper_settled_slots shape p granted n (Put slot action)
keeper_slots shape p granted done read n (Take slot) = keeper_settled_slots shape p granted n (Take slot)
keeper_slots shape p granted done read n (Done Device) = refl
keeper_slots shape p granted done read n (Done its) = refl
keeper_slots shape p granted done read n ask = keeper_settled_slots shape p granted _ _

-- an event
called_slots : (n : Now) (session : ℕ) (call : Call) (found : Option SessionState) → length (session_calls n session call found).actions ≡ length n.actions
called_slots n session call None = refl
called_slots n session call (Some s) = refl

moved_slots : (n : Now) (session : ℕ) (found : Option SessionState) → length (session_moves n session found).actions ≡ length n.actions
moved_slots n session None = refl
moved_slots n session (Some s) = asks_slots (seat_at n session) (near n s) (session_ask (seat_at n session) s)

goes_slots : (n : Now) (read : List ℕ) (event : Event) → length (life_goes n read event).actions ≡ length n.actions
unfolding life_goes
goes_slots n read (Calls session call) = called_slots n session call (slice_get n.sessions session)
goes_slots n read (Moves session) = moved_slots n session (slice_get n.sessions session)
goes_slots n read (Commits kind) = refl
goes_slots n read Turns = refl
goes_slots n read (KeeperMoves granted done) = keeper_slots n.shape n.places granted done read (near n n.keeper) (keeper_ask n.shape n.places n.keeper)
goes_slots n read Crashes = refl

event_slots : (w : World) (event : Event) (crashed : Bool) → w.now.crashed ≡ crashed → length (happens w event).now.actions ≡ length w.now.actions
event_slots w event true e = ap (λ (x : World). length x.now.actions) (is_over w event e)
event_slots w event false e = ap (λ (n : Now). length n.actions) (lives w event e) ∙ goes_slots w.now (read_by_keeper w) event

pub slots_stay : (opening : World) (events : List Event) → length (run opening events).now.actions ≡ length opening.now.actions
unfolding run
slots_stay opening [] = refl
slots_stay opening (event ∷ before) = event_slots (run opening before) event (run opening before).now.crashed refl ∙ slots_stay opening before
