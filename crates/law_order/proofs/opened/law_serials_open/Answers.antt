-- The law, by what an opened store's life begins with.
use Rattle.law_opening.specs.Below.fkv_core.Openings.{beginning}
use Rattle.law_order.proofs.opened.law_serials_open.Goals as goal

pub returns-clause-counted : goal.returns-clause-counted
returns-clause-counted c = λ bytes o n events session first its store world became. c.law_versions_counted.ensures.counted (beginning n bytes) events session first its became

pub returns-clause-risen : goal.returns-clause-risen
returns-clause-risen c = λ bytes o n events session first its store world became.
    let life = c.law_life_begins.ensures bytes o n store world in
    c.law_versions_counted.ensures.risen (beginning n bytes) o.tail.0 events session first its became life.store.now (c.law_phases_open.ensures.rests o n world)

pub returns-clause-point : goal.returns-clause-point
returns-clause-point c = λ bytes o n events session first its store world became version from.
    let life = c.law_life_begins.ensures bytes o n store world in
    c.law_versions_counted.ensures.point (beginning n bytes) o.tail.0 events session first its version became life.store.now (c.law_phases_open.ensures.rests o n world) from

pub returns-clause-rises : goal.returns-clause-rises
returns-clause-rises c = λ bytes o n events session first its store world became.
    let life = c.law_life_begins.ensures bytes o n store world in
    c.law_versions_counted.ensures.rises (beginning n bytes) o.tail.0 events session first its became life.store.now (c.law_phases_open.ensures.rests o n world)

pub returns-clause-below : goal.returns-clause-below
returns-clause-below c = λ bytes o n events session first its store world became.
    let life = c.law_life_begins.ensures bytes o n store world in
    c.law_versions_counted.ensures.below (beginning n bytes) o.tail.0 events session first its became life.store.now (c.law_phases_open.ensures.rests o n world)
