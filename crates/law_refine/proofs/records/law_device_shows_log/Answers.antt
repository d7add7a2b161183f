-- The law: what is flushed is synced as it stands, and what stands shows the log.
use Rattle.law_world.specs.Below.fkv_flush.GuardLevels.{levels_of}
use Rattle.law_world.specs.Below.fkv_world.Runs.{run}
use Rattle.law_refine.specs.Events.GhostEvents.{life_ghosts}
use Rattle.law_refine.proofs.OfRecords.Below.{published_permitted}
use Rattle.law_refine.proofs.OfRecords.Frames.{device_shows_log}
use Rattle.law_refine.proofs.OfRecords.Life.{life_holds}
use Rattle.law_refine.proofs.OfRecords.Standing.{stands_in}
use Rattle.law_refine.proofs.records.law_device_shows_log.Goals as goal

pub returns-clause-synced : goal.returns-clause-synced
returns-clause-synced c = λ opening start ghosts events store none published.
    c.law_world_flushed_is_synced.ensures.synced opening start events store (published_permitted opening start ghosts events store.now none published)

pub returns-clause-shows : goal.returns-clause-shows
returns-clause-shows c = λ opening start ghosts events store none free published.
    device_shows_log opening.now.shape opening.past.opened (run opening events).past.calls (stands_in opening start events) start (levels_of (run opening events).now.words).flushed (life_ghosts opening ghosts events).log (life_holds opening start ghosts events store.now none free published).shows
    (c.law_world_flushed_is_synced.ensures.synced opening start events store (published_permitted opening start ghosts events store.now none published))
