-- Which events are none of the actor of an event.
use Rattle.std.specs.Prelude.{⊤, List}
use Rattle.fkv_world.specs.Actors.{NoneOfKeeper, NoneOfSession}
use Rattle.fkv_world.specs.World.{Event, Calls, Moves, Crashes}

-- a crash is nobody's
abbrev pub AreOfOthers : Event → List Event → Type 0
AreOfOthers (Calls session call) events = NoneOfSession session events
AreOfOthers (Moves session) events = NoneOfSession session events
AreOfOthers Crashes events = ⊤
AreOfOthers event events = NoneOfKeeper events
