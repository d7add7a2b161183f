-- What a life is for one machine: the events of a session, and those of the keeper.
use Rattle.std.specs.Prelude.{ℕ, if◌then◌else◌, Bool, List, [], ◌∷◌, ◌++◌, Option, Some, None, slice_get}
use Rattle.fkv_base.specs.declared.shapes.Shape.{Shape}
use Rattle.fkv_plane.specs.declared.actions.Action.{Action}
use Rattle.fkv_plane.specs.declared.asks.Ask.{Ask}
use Rattle.fkv_plane.specs.declared.asks.Ask.TheVariants.{Put, Take, Done}
use Rattle.fkv_plane.specs.declared.places.Places.{Places}
use Rattle.fkv_plane.specs.Asked.{reply_to}
use Rattle.fkv_plane.specs.Plane.{action_at}
use Rattle.fkv_session.specs.declared.answers.Told.{Told}
use Rattle.fkv_session.specs.Sessions.{SessionState, Seat, session_ask, session_next}
use Rattle.fkv_session.specs.SessionRun as session
use Rattle.fkv_keeper.specs.declared.answers.KeeperTold.{KeeperTold}
use Rattle.fkv_keeper.specs.declared.answers.KeeperTold.TheVariants.{Device}
use Rattle.fkv_keeper.specs.Keeping.{KeeperState, keeper_ask, keeper_next}
use Rattle.fkv_keeper.specs.KeeperRun as keeper
use Rattle.fkv_world.specs.Moves.{Near}
use Rattle.fkv_world.specs.World.{Event, Calls, Moves, Commits, Turns, KeeperMoves, Now, seat_at, near}
use Rattle.fkv_world.specs.Runs.{World, read_by_keeper, run}
use Rattle.fkv_world.specs.Actors.{is_of_session}

-- it gets the action of a slot, if the slot has one
abbrev pub session_got : Option Action → List session.SessionEvent
session_got None = []
session_got (Some action) = session.Gets action ∷ []

-- what an ask of a slot is
unfoldable pub session_slots : List (Option Action) → Ask Told → List session.SessionEvent
session_slots actions (Put slot action) = session.Replies 0 ∷ []
session_slots actions (Take slot) = session_got (action_at actions slot)
session_slots actions ask = []

-- a step is a reply, and one more event where the session turns to a slot behind it; each list has the newest first
unfoldable pub session_steps : Seat → Near SessionState → Ask Told → List session.SessionEvent
session_steps k n (Done its) = []
session_steps k n (Put slot action) = session_slots n.actions (Put slot action)
session_steps k n (Take slot) = session_slots n.actions (Take slot)
session_steps k n ask = session_slots n.actions (session_ask k (session_next k n.machine (reply_to n.words ask))) ++ session.Replies (reply_to n.words ask) ∷ []

-- what an event of a session is for its machine
unfoldable pub session_part : Seat → Near SessionState → Event → List session.SessionEvent
session_part k n (Calls number call) = session.Begins call ∷ []
session_part k n (Moves number) = session_steps k n (session_ask k n.machine)
session_part k n event = []

-- where there is such a session, and it is its event
abbrev pub session_part_found : Now → ℕ → Event → Option SessionState → List session.SessionEvent
session_part_found n number event None = []
session_part_found n number event (Some s) = if is_of_session number event then session_part (seat_at n number) (near n s) event else []

abbrev pub session_part_of : Now → ℕ → Event → List session.SessionEvent
session_part_of n number event = if n.crashed then [] else session_part_found n number event (slice_get n.sessions number)

-- what a life is for the machine of a session
unfoldable pub session_events : World → ℕ → List Event → List session.SessionEvent
session_events opening number [] = []
session_events opening number (event ∷ before) = session_part_of (run opening before).now number event ++ session_events opening number before

-- so of the keeper
abbrev pub keeper_got : Option Action → List keeper.KeeperEvent
keeper_got None = []
keeper_got (Some action) = keeper.Gets action ∷ []

unfoldable pub keeper_slots : List (Option Action) → Bool → Ask KeeperTold → List keeper.KeeperEvent
keeper_slots actions granted (Put slot action) = keeper.Replies 0 granted ∷ []
keeper_slots actions granted (Take slot) = keeper_got (action_at actions slot)
keeper_slots actions granted ask = []

-- a step is a call of the device, or a reply as a session's
unfoldable pub keeper_steps : Shape → Places → Bool → Bool → List ℕ → Near KeeperState → Ask KeeperTold → List keeper.KeeperEvent
keeper_steps shape p granted done read n (Done Device) = keeper.Calls done read ∷ []
keeper_steps shape p granted done read n (Done its) = []
keeper_steps shape p granted done read n (Put slot action) = keeper_slots n.actions granted (Put slot action)
keeper_steps shape p granted done read n (Take slot) = keeper_slots n.actions granted (Take slot)
keeper_steps shape p granted done read n ask =
    keeper_slots n.actions granted (keeper_ask shape p (keeper_next shape p n.machine (reply_to n.words ask) granted)) ++ keeper.Replies (reply_to n.words ask) granted ∷ []

-- what an event is for the keeper's machine, with what a read of the device gives; an event that isn't the keeper's is nothing
unfoldable pub keeper_part : Shape → Places → List ℕ → Near KeeperState → Event → List keeper.KeeperEvent
keeper_part shape p read n (Commits kind) = keeper.BeginsCommit kind ∷ []
keeper_part shape p read n Turns = keeper.BeginsTurn ∷ []
keeper_part shape p read n (KeeperMoves granted done) = keeper_steps shape p granted done read n (keeper_ask shape p n.machine)
keeper_part shape p read n event = []

abbrev pub keeper_part_of : World → Event → List keeper.KeeperEvent
keeper_part_of w event = if w.now.crashed then [] else keeper_part w.now.shape w.now.places (read_by_keeper w) (near w.now w.now.keeper) event

-- what a life is for the keeper's machine
unfoldable pub keeper_events : World → List Event → List keeper.KeeperEvent
keeper_events opening [] = []
keeper_events opening (event ∷ before) = keeper_part_of (run opening before) event ++ keeper_events opening before
