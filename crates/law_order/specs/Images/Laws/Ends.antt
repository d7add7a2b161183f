-- What the laws of `ends` say.
use Rattle.std.specs.Prelude.{◌*◌, ℕ, List}
use Rattle.law_opening.specs.Below.fkv_core.Openings.{IsOpeningWorld, beginning}
use Rattle.law_opening.specs.Below.fkv_opening.TheOpened.{Opened}
use Rattle.law_commit.specs.Below.fkv_keeper.Keeping.{come_to}
use Rattle.law_commit.specs.Below.fkv_world.Runs.{run}
use Rattle.law_commit.specs.Below.fkv_world.World.{Event, Now}
use Rattle.law_order.specs.Images.Ends.{WrittenEndsBy}
use Rattle.law_order.specs.Images.Left.{flushed_so_far}

-- a commit that is being written, whether or not its writes rest, or comes to its finish, ends at or below the flushed offset
abbrev pub CommitsEndFlushed : Type 0
CommitsEndFlushed =
    (o : Opened) (n : Now) (bytes : List ℕ) (events : List Event) → IsOpeningWorld o n
    → (let its = (run (beginning n bytes) events).now.keeper in WrittenEndsBy (flushed_so_far n bytes events) its (come_to its))

-- and on the device
abbrev pub CommitsEndOnDevice : Type 0
CommitsEndOnDevice =
    (o : Opened) (n : Now) (bytes : List ℕ) (events : List Event) → IsOpeningWorld o n
    → (let its = (run (beginning n bytes) events).now.keeper in WrittenEndsBy (o.shape.disk_pages * o.shape.page) its (come_to its))
