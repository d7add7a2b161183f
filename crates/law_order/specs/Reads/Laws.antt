-- What is shown of the reads of a life.
use Rattle.std.specs.Prelude.{◌∷◌, [], List}
use Rattle.law_log.specs.Enabled.{AreEnabled}
use Rattle.law_commit.specs.Below.fkv_world.Runs.{run}
use Rattle.law_commit.specs.Below.fkv_world.World.{Event}
use Rattle.law_commit.specs.Below.law_refine.Calls.Calls.{event_adds}
use Rattle.law_order.specs.Known.Answered.{EachAnswered, acted_ghosts}
use Rattle.law_order.specs.Known.Begins.{BegunLife, home_of_world}
use Rattle.law_order.specs.Known.Floors.{GoesByBegin}
use Rattle.law_order.specs.Known.Knows.{AreKnown}
use Rattle.law_order.specs.Known.Told.{AreToldTruly, TicketsAreApart}
use Rattle.law_commit.specs.Below.law_refine.Events.GhostEvents.{life_ghosts, mapped}
use Rattle.law_order.specs.Reads.Reads.{AreReadsKnown}

-- no session has a read as the life begins
abbrev pub BeginsWithNoRead : Type 0
BeginsWithNoRead =
    (life : BegunLife) → AreReadsKnown life.opening life.ghosts []

-- each answer of a read is the value that this read has taken by then
abbrev pub AnswersWhatIsTaken : Type 0
AnswersWhatIsTaken =
    (life : BegunLife) (before : List Event) (event : Event) → AreEnabled (home_of_world life.opening) life.ghosts (mapped life.opening before)
    → AreKnown life.opening life.ghosts before → GoesByBegin life.opening life.ghosts before → TicketsAreApart life.opening (event ∷ before)
    → AreToldTruly (home_of_world life.opening) (life_ghosts life.opening life.ghosts before).log (run life.opening before).now → AreReadsKnown life.opening life.ghosts before
    → EachAnswered (home_of_world life.opening) (acted_ghosts life.opening life.ghosts before event) (event_adds life.opening before event)

-- the reads of each session have come as far in the log as its control state says
abbrev pub GoesOnToRead : Type 0
GoesOnToRead =
    (life : BegunLife) (before : List Event) (event : Event) → AreEnabled (home_of_world life.opening) life.ghosts (mapped life.opening before)
    → AreKnown life.opening life.ghosts before → GoesByBegin life.opening life.ghosts before → TicketsAreApart life.opening (event ∷ before)
    → AreToldTruly (home_of_world life.opening) (life_ghosts life.opening life.ghosts before).log (run life.opening before).now → AreReadsKnown life.opening life.ghosts before
    → AreEnabled (home_of_world life.opening) life.ghosts (mapped life.opening (event ∷ before)) → AreReadsKnown life.opening life.ghosts (event ∷ before)
