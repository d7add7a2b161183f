-- The laws, by what an opened store's life begins with.
use Rattle.law_opening.specs.Below.fkv_core.Openings.{beginning}
use Rattle.law_order.proofs.opened.law_stages_open.Goals as goal

pub returns-clause-paper : goal.returns-clause-paper
returns-clause-paper c = λ bytes o n events store its.
    let begins = c.law_life_begins.ensures bytes o n store its in
    c.law_lives_are_phases.ensures (beginning n bytes) o.tail.0 events begins.store.now begins.world begins.rests

pub returns-clause-stages : goal.returns-clause-stages
returns-clause-stages c = λ bytes o n events store its.
    let begins = c.law_life_begins.ensures bytes o n store its in
    c.law_phases_in_turn.ensures.stages (beginning n bytes) o.tail.0 events begins.store.now begins.world begins.rests.rests

pub returns-clause-rises : goal.returns-clause-rises
returns-clause-rises c = λ bytes o n events store its.
    let begins = c.law_life_begins.ensures bytes o n store its in
    c.law_phases_in_turn.ensures.rises (beginning n bytes) o.tail.0 events begins.store.now begins.world begins.rests.rests

pub returns-clause-rests : goal.returns-clause-rests
returns-clause-rests c = λ bytes o n events store its.
    let begins = c.law_life_begins.ensures bytes o n store its in
    c.law_phases_in_turn.ensures.rests (beginning n bytes) o.tail.0 events begins.store.now begins.world begins.rests.rests

pub returns-clause-stamped : goal.returns-clause-stamped
returns-clause-stamped c = λ bytes o n events session first its store world became.
    let begins = c.law_life_begins.ensures bytes o n store world in
    c.law_stamps_are_loads.ensures.stamped (beginning n bytes) o.tail.0 events session first its begins.store.now became

pub returns-clause-view : goal.returns-clause-view
returns-clause-view c = λ bytes o n events session first its store world became epoch live safe.
    let begins = c.law_life_begins.ensures bytes o n store world in
    c.law_stamps_are_loads.ensures.view (beginning n bytes) o.tail.0 events session first its epoch begins.store.now became live safe

pub returns-clause-coming : goal.returns-clause-coming
returns-clause-coming c = λ bytes o n events session first its store world became epoch view coming safe.
    let begins = c.law_life_begins.ensures bytes o n store world in
    c.law_stamps_are_loads.ensures.coming (beginning n bytes) o.tail.0 events session first its epoch view begins.store.now became coming safe
