-- What memory has of the log as a life begins.
use Rattle.std.specs.Prelude.{ℕ, []}
use Rattle.law_world.specs.Below.fkv_flush.GuardFlushed.{stands}
use Rattle.law_world.specs.Below.fkv_flush.GuardLevels.{levels_of}
use Rattle.law_log.specs.Ghosts.{Log}
use Rattle.law_world.specs.Below.fkv_world.Runs.{World}
use Rattle.law_world.specs.Guarded.GuardEvents as guarded
use Rattle.law_world.specs.Guarded.Shows.{guard_opening}
use Rattle.law_refine.specs.Records.Cells.{StandsShowLog}

-- each published record from the closed offset up shows in its frame
abbrev pub MemoryShowsLog : World → ℕ → Log → Type 0
MemoryShowsLog opening start log = StandsShowLog (levels_of opening.now.words).closed (stands (guard_opening opening.now start) (guarded.mapped opening [])) log
