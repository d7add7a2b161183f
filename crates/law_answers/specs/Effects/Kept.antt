-- The effects that somebody keeps who asks for them behind each move.
use Rattle.std.specs.Prelude.{ℕ, if◌then◌else◌, List, [], ◌∷◌, map, Option, Some, None}
use Rattle.law_opening.specs.Below.fkv_core.Alone.{in_hand}
use Rattle.law_opening.specs.Below.fkv_core.Showing.{effect_of}
use Rattle.law_opening.specs.Below.fkv_core.Actor.TheVariants.{Session}
use Rattle.law_opening.specs.Below.fkv_core.Event as asked
use Rattle.law_opening.specs.Below.fkv_core.Event.TheVariants as ask
use Rattle.fkv_map.specs.declared.history.HistoryEntry.{HistoryEntry}
use Rattle.law_opening.specs.Below.fkv_session.Replies.{with_effect}
use Rattle.law_opening.specs.Below.fkv_world.Past.{Effect}
use Rattle.law_opening.specs.Below.fkv_world.Runs.{World, run}
use Rattle.law_opening.specs.Below.fkv_world.World.{Event, Moves, Now}

-- the updates of a history, without the versions of their requests
abbrev pub updates : List Effect → List HistoryEntry
updates history = map (λ its. its.entry) history

-- What is told of this session behind its move, from the world before to the one after. Where it had no call in hand nothing is asked: a move then
-- changes nothing, and the session still tells what its last ask made.
abbrev pub told_of_move : Now → Now → ℕ → Option HistoryEntry
told_of_move n after number = if in_hand n (Session number) then effect_of after number else None

-- what is told behind an event, and behind one that is asked of the engine: behind those that move no session nothing is asked
abbrev pub told_behind : Now → Now → Event → Option HistoryEntry
told_behind n after (Moves number) = told_of_move n after number
told_behind n after event = None

abbrev pub told_behind_step : Now → Now → asked.Event → Option HistoryEntry
told_behind_step n after (ask.Move number) = told_of_move n after number
told_behind_step n after event = None

-- as a list, for who keeps the oldest first
abbrev pub listed : Option HistoryEntry → List HistoryEntry
listed None = []
listed (Some its) = its ∷ []

-- what is kept of a life, the newest first
unfoldable pub effects_kept : World → List Event → List HistoryEntry
effects_kept opening [] = []
effects_kept opening (event ∷ before) = with_effect (told_behind (run opening before).now (run opening (event ∷ before)).now event) (effects_kept opening before)
