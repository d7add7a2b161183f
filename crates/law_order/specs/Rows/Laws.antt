-- What is shown of what requests and attempts know.
use Rattle.std.specs.Prelude.{◌∷◌, List}
use Rattle.law_log.specs.Enabled.{AreEnabled}
use Rattle.law_commit.specs.Below.fkv_ops.Seen.{Seen}
use Rattle.law_commit.specs.Below.fkv_pending.PendingRequest.{PendingRequest}
use Rattle.law_commit.specs.Below.fkv_session.SessionRun.{SessionEvent, session_run}
use Rattle.law_commit.specs.Below.fkv_session.Sessions.{IsOpened, Seat, SessionState}
use Rattle.law_commit.specs.Below.law_local.Tries.AttemptRows.{PendingKnows}
use Rattle.law_commit.specs.Below.fkv_world.Runs.{run}
use Rattle.law_commit.specs.Below.fkv_world.World.{Event}
use Rattle.law_order.specs.Known.Begins.{BegunLife, home_of_world}
use Rattle.law_order.specs.Known.Floors.{GoesByBegin}
use Rattle.law_order.specs.Known.Knows.{AllKnowBehind, AreKnown}
use Rattle.law_order.specs.Known.Told.{AreToldTruly}
use Rattle.law_commit.specs.Below.law_refine.Events.GhostEvents.{life_ghosts, mapped}
use Rattle.law_order.specs.Apart.Given.{Given}
use Rattle.law_order.specs.Apart.Lives.{AllApartBehind, OpensApart}
use Rattle.law_order.specs.Rows.Asked.{AllSeek}

-- each request of a session that has asked seeks a record of the device
abbrev pub SeekWhatIsAsked : Type 0
SeekWhatIsAsked =
    (seat : Seat) (opening : SessionState) (events : List SessionEvent) → IsOpened opening → AllSeek (session_run seat opening events)

-- what a request that waits knows stays
abbrev pub KeepsWhatWaitsKnow : Type 0
KeepsWhatWaitsKnow =
    (life : BegunLife) (before : List Event) (event : Event) (pending : PendingRequest) (seen : Seen)
    → AreEnabled (home_of_world life.opening) life.ghosts (mapped life.opening (event ∷ before))
    → PendingKnows (home_of_world life.opening) (life_ghosts life.opening life.ghosts before).log pending seen
    → PendingKnows (home_of_world life.opening) (life_ghosts life.opening life.ghosts (event ∷ before)).log pending seen

-- what sessions know goes on by each event
abbrev pub GoesOnToKnow : Type 0
GoesOnToKnow =
    (life : BegunLife) (before : List Event) (event : Event)
    → Given → OpensApart life → AllApartBehind life.opening life.ghosts before → GoesByBegin life.opening life.ghosts before → AreEnabled (home_of_world life.opening) life.ghosts (mapped life.opening (event ∷ before))
    → AreKnown life.opening life.ghosts before → AreToldTruly (home_of_world life.opening) (life_ghosts life.opening life.ghosts before).log (run life.opening before).now
    → AllKnowBehind life.opening life.ghosts (event ∷ before)
