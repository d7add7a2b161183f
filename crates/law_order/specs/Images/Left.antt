-- The images that a crash may leave of a life.
use Rattle.std.specs.Prelude.{ℕ, List}
use Rattle.law_opening.specs.Below.fkv_core.Openings.{beginning}
use Rattle.fkv_disk.specs.Calls.{MayLeave}
use Rattle.law_commit.specs.Below.fkv_flush.GuardLevels.{levels_of}
use Rattle.law_commit.specs.Below.fkv_world.Runs.{run}
use Rattle.law_commit.specs.Below.fkv_world.World.{Event, Now}

-- a crash may leave this image behind these events
abbrev pub IsLeft : Now → List ℕ → List Event → List ℕ → Type 0
IsLeft n bytes events image = MayLeave bytes (run (beginning n bytes) events).past.calls image

-- the records below this address are flushed
abbrev pub flushed_so_far : Now → List ℕ → List Event → ℕ
flushed_so_far n bytes events = (levels_of (run (beginning n bytes) events).now.words).flushed
