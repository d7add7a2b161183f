-- Where the rules are kept: the life's history has the entries of the log's, and each of its events is permitted.
use Rattle.std.proofs.Common.{◌≡◌, ℕ, List, [], ◌∷◌, ◌++◌}
use Rattle.law_opening.specs.Below.fkv_core.Openings.{IsOpeningWorld, beginning}
use Rattle.law_opening.specs.Below.fkv_opening.TheOpened.{Opened}
use Rattle.law_opening.specs.Log.Begins.{Begins}
use Rattle.law_opening.specs.Log.Lives.{ghosts_beside}
use Rattle.law_opening.specs.Log.OpeningLog.{opening_ghosts}
use Rattle.law_commit.specs.Below.fkv_world.Runs.{World, run}
use Rattle.law_commit.specs.Below.fkv_world.World.{Event, Now}
use Rattle.law_commit.proofs.Below.law_refine.OfCalls.LifeHistory.{life_entries}
use Rattle.law_commit.specs.Below.law_refine.Calls.Calls.{entries_of}
use Rattle.law_commit.specs.Below.law_world.Guarded.Shows.{ArePermitted, IsPermitted, IsOpened}
use Rattle.law_commit.proofs.Below.law_refine.OfRecords.Meets.{life_meets_published}
use Rattle.law_commit.specs.Below.law_refine.Records.Changes.{AreChangesPublished}
use Rattle.law_order.specs.Rules.Ordered.{effects_so_far}
use Rattle.law_order.proofs.OfRules.Beginning.{world_opens}

-- ---- each event of a life whose steps are permitted is permitted
pub permitted_at : (opening : World) (later before : List Event) (event : Event) → ArePermitted opening (later ++ event ∷ before) → IsPermitted (run opening before).now event
permitted_at opening [] before event permitted = permitted.0
permitted_at opening (it ∷ later) before event permitted = permitted_at opening later before event permitted.1

-- ---- the life's history
pub same_entries : (bytes : List ℕ) (o : Opened) (n : Now) (events : List Event) → IsOpeningWorld o n → IsOpened n o.tail.0 → Begins n (opening_ghosts bytes o) → AreChangesPublished (beginning n bytes) (opening_ghosts bytes o) events
    → (let beside = ghosts_beside o n bytes events in entries_of beside.log.history ≡ entries_of (effects_so_far n bytes events))
same_entries bytes o n events world opened begins published =
    life_entries (beginning n bytes) o.tail.0 (opening_ghosts bytes o) events (world_opens o n bytes world) opened begins.unborn begins.reserves_nothing begins.no_history
    (life_meets_published (beginning n bytes) o.tail.0 (opening_ghosts bytes o) opened begins.unborn begins.reserves_nothing events published)
