-- By what an opened store's life begins with.
use Rattle.law_opening.specs.Below.fkv_core.Openings.{beginning}
use Rattle.law_opening.specs.Below.fkv_filling.OpeningIndex.{opening_lists}
use Rattle.law_opening.specs.Log.OpeningLog.{opening_ghosts}
use Rattle.law_order.proofs.OfRules.Decided.{opens_taken}
use Rattle.law_order.proofs.decided.law_chains_open.Goals as goal

pub returns-clause-chains : goal.returns-clause-chains
returns-clause-chains c = λ bytes o n events store its h a is_in.
    let life = c.law_life_begins.ensures bytes o n store its in
    c.law_chains_below.ensures.chains (beginning n bytes) o.tail.0 (opening_ghosts bytes o) events h a life.store.now life.unborn (opens_taken c.law_life_begins.ensures bytes o n store its) is_in

pub returns-clause-copies : goal.returns-clause-copies
returns-clause-copies c = λ bytes o n events store its.
    let life = c.law_life_begins.ensures bytes o n store its in
    c.law_chains_below.ensures.triples (beginning n bytes) o.tail.0 (opening_lists o.entries.items) (opening_ghosts bytes o) events life.store.now life.index life.unborn life.reserves life.heads (opens_taken c.law_life_begins.ensures bytes o n store its)
