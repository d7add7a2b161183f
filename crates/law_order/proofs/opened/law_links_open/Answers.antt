-- The laws, by what an opened store's life begins with.
use Rattle.law_opening.specs.Below.fkv_core.Openings.{beginning}
use Rattle.law_opening.specs.Below.fkv_filling.OpeningIndex.{opening_lists}
use Rattle.law_opening.specs.Log.OpeningLog.{opening_ghosts}
use Rattle.law_order.proofs.opened.law_links_open.Goals as goal

pub returns-clause-meets : goal.returns-clause-meets
returns-clause-meets c = λ bytes o n events store world.
    let life = c.law_life_begins.ensures bytes o n store world in
    c.law_links_meet_empty.ensures.meets (beginning n bytes) o.tail.0 (opening_lists o.entries.items) (opening_ghosts bytes o) events life.store.now life.index life.unborn life.reserves life.heads

pub returns-clause-linked : goal.returns-clause-linked
returns-clause-linked c = λ bytes o n events store world.
    let life = c.law_life_begins.ensures bytes o n store world in
    c.law_links_meet_empty.ensures.linked (beginning n bytes) o.tail.0 (opening_lists o.entries.items) (opening_ghosts bytes o) events life.store.now life.index life.unborn life.reserves life.heads
