-- The law, by how the guard and the device open.
use Rattle.law_answers.proofs.OfBeginnings.Beginning.{begins_from, life_begins}
use Rattle.law_answers.proofs.beginnings.law_opening_begins_life.Goals as goal

pub returns-clause-synced : goal.returns-clause-synced
returns-clause-synced g c = λ o world claim only its over.
    life_begins g.D.Device.honest g.D.Device.seen g.D.Device.may_leave c.args.device.now c.law_device_opens.ensures.world c.law_guard_opens.ensures c.law_device_opens.ensures.device
    o world claim only its over

pub returns-clause-recovered : goal.returns-clause-recovered
returns-clause-recovered g c = λ before o world claim quiet only its over.
    begins_from g.D.Device.honest g.D.Device.seen g.D.Device.may_leave c.args.device.now c.law_device_opens.ensures.world c.law_guard_opens.ensures c.law_device_opens.ensures.device
    o world (g.D.Device.seen before) (quiet.same_bytes claim) (quiet.premise.0 claim) only its over

pub returns-clause-created : goal.returns-clause-created
returns-clause-created g c = λ before o world claim stays only its over.
    life_begins g.D.Device.honest g.D.Device.seen g.D.Device.may_leave c.args.device.now c.law_device_opens.ensures.world c.law_guard_opens.ensures c.law_device_opens.ensures.device
    o world (stays.0 claim) only its over
