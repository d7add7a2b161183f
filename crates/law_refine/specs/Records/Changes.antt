-- What a session changes in place is published, in the log beside the life.
use Rattle.std.specs.Prelude.{◌≡◌, ⊤, ℕ, List, [], ◌∷◌, Option, Some, None, slice_get}
use Rattle.law_world.specs.GuardSessions.InPlace.{changed_in_place}
use Rattle.law_log.specs.Ghosts.{Log, Ghosts}
use Rattle.law_world.specs.Below.fkv_session.Sessions.{SessionState}
use Rattle.law_world.specs.Below.fkv_world.Runs.{World, run}
use Rattle.law_world.specs.Below.fkv_world.World.{Event, Moves, Now}
use Rattle.law_refine.specs.Events.GhostEvents.{life_ghosts}
use Rattle.law_refine.specs.Events.Published.{IsPublished}

-- the record whose value the session's next step may change in place is published
abbrev pub SessionChangesPublished : Log → Option SessionState → Type 0
SessionChangesPublished log None = ⊤
SessionChangesPublished log (Some s) = (a : ℕ) → changed_in_place s ≡ Some a → IsPublished (log.cells a)

-- before an event that moves it
abbrev pub ChangesPublished : Now → Log → Event → Type 0
ChangesPublished n log (Moves number) = SessionChangesPublished log (slice_get n.sessions number)
ChangesPublished n log event = ⊤

-- before each event of a life
abbrev pub AreChangesPublished : World → Ghosts → List Event → Type 0
AreChangesPublished opening ghosts [] = ⊤
AreChangesPublished opening ghosts (event ∷ before) = ChangesPublished (run opening before).now (life_ghosts opening ghosts before).log event × AreChangesPublished opening ghosts before
