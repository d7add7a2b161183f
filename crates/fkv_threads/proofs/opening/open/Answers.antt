-- Each is ready as soon as the guard begins with the table's world.
use Rattle.law_threads.specs.Below.fkv_table.Planes.{opening_of}
use Rattle.fkv_threads.proofs.Opens.{after_nothing, guarded_ok, three_ok}
use Rattle.fkv_threads.proofs.opening.open.Goals as goal

pub returns-clause-over : goal.returns-clause-over
returns-clause-over g c =
    let its = c.open.ensures in
    three_ok c.open.result _ _ _ _ its.world its.bytes its.device
    (λ t begins bytes same. record { store = c.requires.store; begins = begins; same = bytes })

pub returns-clause-sessions : goal.returns-clause-sessions
returns-clause-sessions g c =
    let its = c.open.ensures in
    guarded_ok c.open.result c.args.opened (λ t. opening_of g.D.Device.seen t.table.table.shared.key) _ _ c.law_guard_opens.ensures its.world its.opened its.sessions
    (λ t guard each i x got. record { ready = (each i x got).ready guard; numbered = (each i x got).numbered; nothing_seen = (each i x got).nothing_seen })

pub returns-clause-keeper : goal.returns-clause-keeper
returns-clause-keeper g c =
    let its = c.open.ensures in
    guarded_ok c.open.result c.args.opened (λ t. opening_of g.D.Device.seen t.table.table.shared.key) _ _ c.law_guard_opens.ensures its.world its.opened its.keeper
    (λ t guard fresh. record { ready = fresh.ready guard; nothing_seen = fresh.nothing_seen })

pub returns-clause-after : goal.returns-clause-after
returns-clause-after g c = λ leaves.
    let its = c.open.ensures in
    three_ok c.open.result _ _ _ _ its.keeper its.bytes its.device
    (λ t fresh bytes same. after_nothing g.D.Device.seen g.D.Device.may_leave t.table.table.shared.key _ c.args.device t.device fresh.nothing_seen bytes same (c.law_device_opens.ensures.device leaves))
