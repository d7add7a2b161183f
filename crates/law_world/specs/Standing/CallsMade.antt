-- The calls of the device that a keeper has made.
use Rattle.std.specs.Prelude.{List, [], ◌∷◌, ◌++◌}
use Rattle.fkv_base.specs.declared.shapes.Shape.{Shape}
use Rattle.fkv_disk.specs.Calls.{Call}
use Rattle.fkv_plane.specs.declared.places.Places.{Places}
use Rattle.fkv_keeper.specs.Keeping.{KeeperState}
use Rattle.fkv_keeper.specs.KeeperAsks.{keeper_calls}
use Rattle.fkv_keeper.specs.KeeperRun.{KeeperEvent, Calls, keeper_run}

-- the write or sync of an event, or none
abbrev pub calls_of : Shape → KeeperState → KeeperEvent → List Call
calls_of shape s (Calls done bytes) = keeper_calls shape s done
calls_of shape s event = []

-- all writes and syncs of a run, the newest first, and whether each succeeded
unfoldable pub calls_made : Shape → Places → KeeperState → List KeeperEvent → List Call
calls_made shape p opening [] = []
calls_made shape p opening (event ∷ before) = calls_of shape (keeper_run shape p opening before) event ++ calls_made shape p opening before
