-- By what an opened store's life begins with.
use Rattle.law_order.proofs.OfRules.Versions.{opens_upto}
use Rattle.law_order.proofs.in_turn.law_versions_open.Goals as goal

pub returns : goal.returns
returns c = λ bytes o n store its.
    let begins = c.law_life_begins.ensures bytes o n store its in
    let rests = c.law_phases_open.ensures.rests o n its in
    record { guarded = begins.store.now; opened = begins.world; rests = rests; unborn = begins.unborn; upto = opens_upto bytes o n its rests }
