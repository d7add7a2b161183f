-- What a world that was opened owes for its latches.
use Rattle.std.proofs.Common.{◌≡◌, sym}
use Rattle.law_world.specs.Below.fkv_keeper.NewKeepers.{ArePlacesOfStore}
use Rattle.fkv_latch.specs.Latched as latches
use Rattle.law_world.specs.Below.fkv_world.Opened.{IsOpenedWorld}
use Rattle.law_world.specs.Below.fkv_world.Runs.{World}
use Rattle.law_refine.specs.Latches.Shows.{IsOpened}

-- its words lie where they do in a store of its shape, no latch is held, and its keeper finishes commits for just its sessions
pub opened_latches : (w : World) → IsOpenedWorld w → ArePlacesOfStore w.now.shape w.now.places → latches.IsOpened w.now.places w.now.words → w.now.keeper.finish.sessions ≡ w.now.shape.sessions → IsOpened w.now
opened_latches w opened its none finished =
    record { latches = none; buckets = its.buckets; seats = opened.seats; sessions = opened.sessions; served = sym its.sessions; finished = finished; keeper = opened.keeper }
