-- No attempt shifts for good in a life that keeps order, so what holds as long as none does always holds.
use Rattle.law_order.specs.OneHistory.EachLife.{InEachLife}
use Rattle.law_order.specs.Ordered.Keeps.{KeepsItsOrder}
use Rattle.law_order.specs.Shares.{HasNotShifted, OfEachSession}
use Rattle.law_order.proofs.shares.law_updates_share.Goals as goal

none_shifts : InEachLife KeepsItsOrder → InEachLife (OfEachSession HasNotShifted)
none_shifts keep = λ its is session first s became.
    let keeps = keep its is in
    let apart = keeps.apart session s became.is_now in
    apart.none session first became.was

pub returns-clause-shifts : goal.returns-clause-shifts
returns-clause-shifts c = none_shifts c.law_lives_keep_order.ensures

pub returns-clause-prepare : goal.returns-clause-prepare
returns-clause-prepare c = λ its is session first s became.
    c.law_shares_open.ensures.prepare its.bytes its.opened its.world its.events session first s is.store is.begins became (none_shifts c.law_lives_keep_order.ensures its is session first s became)

pub returns-clause-since : goal.returns-clause-since
returns-clause-since c = λ its is session first s became.
    c.law_shares_open.ensures.since its.bytes its.opened its.world its.events session first s is.store is.begins became (none_shifts c.law_lives_keep_order.ensures its is session first s became)

pub returns-clause-older : goal.returns-clause-older
returns-clause-older c = λ its is session first s became attempts tries update older.
    c.law_shares_open.ensures.older its.bytes its.opened its.world its.events session first s is.store is.begins became (none_shifts c.law_lives_keep_order.ensures its is session first s became) attempts tries update older

pub returns-clause-just : goal.returns-clause-just
returns-clause-just c = λ its is session first s became goes.
    c.law_shares_open.ensures.just its.bytes its.opened its.world its.events session first s is.store is.begins became (none_shifts c.law_lives_keep_order.ensures its is session first s became) goes
