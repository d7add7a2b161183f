-- What a world that was opened owes for its index.
use Rattle.std.proofs.Common.{◌≡◌, ℕ, sym, List}
use Rattle.fkv_index.specs.OneEntry.{IsIndexAt}
use Rattle.law_world.specs.Below.fkv_keeper.NewKeepers.{ArePlacesOfStore}
use Rattle.law_world.specs.Below.fkv_world.Opened.{IsOpenedWorld}
use Rattle.law_world.specs.Below.fkv_world.Runs.{World}
use Rattle.law_refine.specs.Index.Shows.{IsOpened, opening_index}

-- its words lie where they do in a store of its shape, its index is in order, and its keeper finishes commits for just its sessions
pub opened_index : (w : World) (lists : ℕ → List ℕ) → IsOpenedWorld w → ArePlacesOfStore w.now.shape w.now.places → IsIndexAt (opening_index w lists) → w.now.keeper.finish.sessions ≡ w.now.shape.sessions → IsOpened w lists
opened_index w lists opened its index finished =
    record { its_index = index; buckets = its.buckets; seats = opened.seats; sessions = opened.sessions; served = sym its.sessions; finished = finished; keeper = opened.keeper }
