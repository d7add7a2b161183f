-- The laws, by what an opened store's life begins with.
use Rattle.law_opening.specs.Below.fkv_core.Openings.{beginning}
use Rattle.law_opening.specs.Below.fkv_filling.OpeningIndex.{opening_lists}
use Rattle.law_opening.specs.Log.OpeningLog.{opening_ghosts}
use Rattle.law_order.proofs.OfCopies.{full_written}
use Rattle.law_order.proofs.opened.law_copies_open.Goals as goal

pub returns-clause-index : goal.returns-clause-index
returns-clause-index c = λ bytes o n events store world.
    let life = c.law_life_begins.ensures bytes o n store world in
    c.law_world_copied.ensures.index (beginning n bytes) (opening_lists o.entries.items) events life.index

pub returns-clause-begun : goal.returns-clause-begun
returns-clause-begun c = λ bytes o n events store world.
    let life = c.law_life_begins.ensures bytes o n store world in
    c.law_copies_cover.ensures.begun (beginning n bytes) (opening_lists o.entries.items) events life.index

pub returns-clause-replies : goal.returns-clause-replies
returns-clause-replies c = λ bytes o n events store world.
    let life = c.law_life_begins.ensures bytes o n store world in
    c.law_world_copied.ensures.replies (beginning n bytes) (opening_lists o.entries.items) events life.index

pub returns-clause-held : goal.returns-clause-held
returns-clause-held c = λ bytes o n events store world.
    let life = c.law_life_begins.ensures bytes o n store world in
    c.law_world_copied.ensures.held (beginning n bytes) (opening_lists o.entries.items) events life.index

pub returns-clause-written : goal.returns-clause-written
returns-clause-written c = λ bytes o n events store world.
    let life = c.law_life_begins.ensures bytes o n store world in
    c.law_world_copied.ensures.written (beginning n bytes) (opening_lists o.entries.items) events life.index

pub returns-clause-stood : goal.returns-clause-stood
returns-clause-stood c = λ bytes o n events store world.
    let life = c.law_life_begins.ensures bytes o n store world in
    (c.law_world_copied.ensures.stood (beginning n bytes) (opening_lists o.entries.items) events life.index, c.law_copies_cover.ensures.stood (beginning n bytes) (opening_lists o.entries.items) events life.index)

pub returns-clause-once : goal.returns-clause-once
returns-clause-once c = λ bytes o n events store world.
    let life = c.law_life_begins.ensures bytes o n store world in
    c.law_world_copied.ensures.once (beginning n bytes) (opening_lists o.entries.items) events life.index

pub returns-clause-whole : goal.returns-clause-whole
returns-clause-whole c = λ bytes o n events store world.
    let life = c.law_life_begins.ensures bytes o n store world in
    c.law_world_copied.ensures.whole (beginning n bytes) (opening_lists o.entries.items) events life.index

pub returns-clause-in_chains : goal.returns-clause-in_chains
returns-clause-in_chains c = λ bytes o n events store world.
    let life = c.law_life_begins.ensures bytes o n store world in
    c.law_copies_cover.ensures.in_chains (beginning n bytes) o.tail.0 (opening_lists o.entries.items) (opening_ghosts bytes o) events life.store.now life.index life.unborn life.reserves life.heads

pub returns-clause-covers : goal.returns-clause-covers
returns-clause-covers c = λ bytes o n events store world finished.
    let life = c.law_life_begins.ensures bytes o n store world in
    c.law_copies_cover.ensures.covers (beginning n bytes) o.tail.0 (opening_lists o.entries.items) (opening_ghosts bytes o) events life.store.now life.index life.unborn life.reserves life.heads finished

pub returns-clause-commit : goal.returns-clause-commit
returns-clause-commit c = λ bytes o n events store world.
    let life = c.law_life_begins.ensures bytes o n store world in
    c.law_copies_cover.ensures.commit (beginning n bytes) (opening_lists o.entries.items) events life.index

pub returns-clause-full : goal.returns-clause-full
returns-clause-full c = λ bytes o n events store world.
    let life = c.law_life_begins.ensures bytes o n store world in
    full_written c.law_commits_ended.ensures c.law_world_copied.ensures.held c.law_copies_cover.ensures.commit (beginning n bytes) o.tail.0 (opening_lists o.entries.items) events (c.law_ends_open.ensures bytes o n store world) life.index
