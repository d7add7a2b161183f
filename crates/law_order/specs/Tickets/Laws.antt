-- What the law of `tickets` says.
use Rattle.std.specs.Prelude.{List}
use Rattle.law_commit.specs.Below.fkv_world.Opened.{IsOpenedWorld}
use Rattle.law_commit.specs.Below.fkv_world.Runs.{World}
use Rattle.law_commit.specs.Below.fkv_world.World.{Event}
use Rattle.law_order.specs.Known.Told.{TicketsAreApart}
use Rattle.law_order.specs.Tickets.Few.{HasFewCalls}

-- in a life of few calls no two requests of a session that wait have one name
abbrev pub KeepsTicketsApart : Type 0
KeepsTicketsApart =
    (opening : World) (events : List Event) → IsOpenedWorld opening → HasFewCalls events → TicketsAreApart opening events
