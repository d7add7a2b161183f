-- By the words that an opened store tells, and the stages of its lives.
use Rattle.law_opening.specs.Below.fkv_core.Openings.{beginning}
use Rattle.law_order.proofs.OfRules.Words.{opens_seen}
use Rattle.law_order.proofs.in_turn.law_phases_open.Goals as goal

pub returns-clause-rests : goal.returns-clause-rests
returns-clause-rests c = λ o n its. (opens_seen o n its).rests

pub returns-clause-in_turn : goal.returns-clause-in_turn
returns-clause-in_turn c = λ bytes o n events store its.
    let begins = c.law_life_begins.ensures bytes o n store its in
    c.law_begun.ensures.numbers (beginning n bytes) o.tail.0 events begins.world begins.store.now begins.rests.rests

pub returns-clause-told : goal.returns-clause-told
returns-clause-told c = λ bytes o n events from.
    let begins = c.law_life_begins.ensures bytes o n from.store from.world in
    record {
      opened = begins.world;
      told = c.law_told_opens.ensures bytes o n from;
      in_turn = c.law_begun.ensures.numbers (beginning n bytes) o.tail.0 events begins.world begins.store.now begins.rests.rests;
    }
