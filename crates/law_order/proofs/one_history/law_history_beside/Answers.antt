-- Of each life that keeps order.
use Rattle.law_opening.specs.Below.fkv_core.Openings.{beginning}
use Rattle.law_opening.specs.Log.OpeningLog.{opening_ghosts}
use Rattle.law_order.proofs.OfOneHistory.History.{life_history}
use Rattle.law_order.proofs.one_history.law_history_beside.Goals as goal

pub returns : goal.returns
returns c = λ its is.
    let life = c.law_life_begins.ensures its.bytes its.opened its.world is.store is.begins in
    let keeps = c.law_lives_keep_order.ensures its is in
    life_history (beginning its.world its.bytes) its.opened.tail.0 (opening_ghosts its.bytes its.opened) its.events life.world life.store.now life.unborn life.reserves life.log.no_history keeps.known
