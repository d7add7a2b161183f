-- What the laws of `ordered` say.
use Rattle.std.specs.Prelude.{List}
use Rattle.law_log.specs.Enabled.{AreEnabled}
use Rattle.law_commit.specs.Below.fkv_world.World.{Event}
use Rattle.law_order.specs.Known.Begins.{BeginStays, BegunLife, home_of_world}
use Rattle.law_order.specs.Known.Told.{TicketsAreApart}
use Rattle.law_commit.specs.Below.law_refine.Events.GhostEvents.{mapped}
use Rattle.law_order.specs.Ordered.Keeps.{KeepsOrder}
use Rattle.law_order.specs.Ordered.Met.{AllReadsSeek, MeetsItsReads, PollsTryNoRead, PollsTryWhatIsGone, ReadsSeekOrWereTold}
use Rattle.law_commit.specs.Below.law_refine.Records.Changes.{AreChangesPublished}
use Rattle.law_order.specs.Apart.Given.{Given}
use Rattle.law_order.specs.Apart.Lives.{OpensApart}
use Rattle.law_order.specs.Served.Fits.{CallsFit, CellsFit}

-- each life keeps order
abbrev pub KeepsOrderInLives : Type 0
KeepsOrderInLives =
    (life : BegunLife) (events : List Event) → Given → OpensApart life → CellsFit life.ghosts.log → CallsFit events → TicketsAreApart life.opening events
    → KeepsOrder life.opening life.ghosts events

-- so each event of its log is enabled
abbrev pub EnablesItsEvents : Type 0
EnablesItsEvents =
    (life : BegunLife) (events : List Event) → Given → OpensApart life → CellsFit life.ghosts.log → CallsFit events → TicketsAreApart life.opening events
    → AreEnabled (home_of_world life.opening) life.ghosts (mapped life.opening events)

-- and what is changed in place is published
abbrev pub PublishesItsChanges : Type 0
PublishesItsChanges =
    (life : BegunLife) (events : List Event) → Given → OpensApart life → CellsFit life.ghosts.log → CallsFit events → TicketsAreApart life.opening events
    → AreChangesPublished life.opening life.ghosts events

-- and no try of a read is turned away
abbrev pub MeetsReadsInLives : Type 0
MeetsReadsInLives =
    (life : BegunLife) (events : List Event) → Given → OpensApart life → CellsFit life.ghosts.log → CallsFit events → TicketsAreApart life.opening events
    → MeetsItsReads life.opening events

-- so each that waits seeks a record of the device, or was told that its record is gone
abbrev pub SeeksOrWasToldInLives : Type 0
SeeksOrWasToldInLives =
    (life : BegunLife) (events : List Event) → Given → OpensApart life → CellsFit life.ghosts.log → CallsFit events → TicketsAreApart life.opening events
    → ReadsSeekOrWereTold life.opening events

-- and a poll tries one only where it was told so
abbrev pub PollsTryWhatIsGoneInLives : Type 0
PollsTryWhatIsGoneInLives =
    (life : BegunLife) (events : List Event) → Given → OpensApart life → CellsFit life.ghosts.log → CallsFit events → TicketsAreApart life.opening events
    → PollsTryWhatIsGone life.opening events

-- so while the log begins where it did at first each that waits seeks a record of the device
abbrev pub SeeksInLives : Type 0
SeeksInLives =
    (life : BegunLife) (events : List Event) → Given → OpensApart life → CellsFit life.ghosts.log → CallsFit events → TicketsAreApart life.opening events → BeginStays life.opening events
    → AllReadsSeek life.opening events

-- and no poll tries one
abbrev pub PollsTryNoReadInLives : Type 0
PollsTryNoReadInLives =
    (life : BegunLife) (events : List Event) → Given → OpensApart life → CellsFit life.ghosts.log → CallsFit events → TicketsAreApart life.opening events → BeginStays life.opening events
    → PollsTryNoRead life.opening events
