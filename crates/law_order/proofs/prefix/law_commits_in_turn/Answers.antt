-- The law of the commits that have begun, of a store that opened at rest.
use Rattle.law_opening.specs.Below.fkv_core.Openings.{beginning}
use Rattle.law_order.proofs.prefix.law_commits_in_turn.Goals as goal

pub returns : goal.returns
returns c = λ its is.
    let begins = c.law_life_begins.ensures its.bytes its.opened its.world is.store is.begins in
    c.law_begun.ensures.in_turn (beginning its.world its.bytes) its.opened.tail.0 its.events begins.world begins.store.now (c.law_phases_open.ensures.rests its.opened its.world is.begins)
