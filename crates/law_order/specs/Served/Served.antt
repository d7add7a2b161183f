-- What the device gives for a record that is flushed, beside the log.
use Rattle.std.specs.Prelude.{◌≡◌, ℕ, ◌<◌, List, ◌++◌}
use Rattle.fkv_base.specs.declared.numbers.Addr.{Addr}
use Rattle.law_commit.specs.Below.fkv_flush.GuardLevels.{levels_of}
use Rattle.law_log.specs.Chains.{Cell, Published}
use Rattle.law_log.specs.Ghosts.{Ghosts}
use Rattle.law_commit.specs.Below.fkv_pending.MailRecord.{MailRecord}
use Rattle.law_commit.specs.Below.law_local.Tries.MailRows.{IsRecordOf}
use Rattle.law_commit.specs.Below.fkv_world.Runs.{World, run}
use Rattle.law_commit.specs.Below.fkv_world.World.{Event}
use Rattle.law_commit.specs.Below.law_refine.Mail.Reads.{record_there}
use Rattle.law_commit.specs.Below.law_refine.Events.GhostEvents.{life_ghosts}
use Rattle.law_order.specs.Known.Begins.{begin_in}

-- What it gave at an earlier moment, at an address that was flushed and where a record was published by then, is the record that is there now, by a floor where the log
-- began as the life did.
abbrev pub ServedShow : World → Ghosts → List Event → Type 0
ServedShow opening ghosts events =
    (session : ℕ) (addr : Addr) (its : MailRecord) (earlier later : List Event) (cell : Cell) → events ≡ later ++ earlier → its ≡ record_there (run opening earlier) addr.0
    → (life_ghosts opening ghosts earlier).log.cells addr.0 ≡ Published cell → addr.0 < (levels_of (run opening earlier).now.words).flushed
    → IsRecordOf (begin_in opening) ((life_ghosts opening ghosts events).log.cells addr.0) its
