-- By the words that an opened store tells: it opens at rest, and each session has seen that.
use Rattle.law_opening.specs.Below.fkv_core.Openings.{beginning}
use Rattle.law_order.proofs.in_turn.law_floor_opens.Goals as goal

pub returns-clause-floor : goal.returns-clause-floor
returns-clause-floor c = λ bytes o n events store its.
    let begins = c.law_life_begins.ensures bytes o n store its in
    c.law_floor_stands.ensures.floor (beginning n bytes) o.tail.0 events begins.store.now begins.world begins.rests

pub returns-clause-near : goal.returns-clause-near
returns-clause-near c = λ bytes o n events store its.
    let begins = c.law_life_begins.ensures bytes o n store its in
    c.law_floor_stands.ensures.near (beginning n bytes) o.tail.0 events begins.store.now begins.world begins.rests

pub returns-clause-safe : goal.returns-clause-safe
returns-clause-safe c = λ bytes o n events store its. c.law_views_see_tails.ensures.view (beginning n bytes) o.tail.0 events (c.law_life_begins.ensures bytes o n store its).store.now

pub returns-clause-coming : goal.returns-clause-coming
returns-clause-coming c = λ bytes o n events store its. c.law_views_see_tails.ensures.coming (beginning n bytes) o.tail.0 events (c.law_life_begins.ensures bytes o n store its).store.now
