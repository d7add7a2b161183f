use Rattle.fkv_renew.proofs.Renewing.{named_renewal}
use Rattle.fkv_renew.proofs.renewals.write_store.Goals as goal

pub returns-in-Ok-name-clause-named : goal.returns-in-Ok-name-clause-named
returns-in-Ok-name-clause-named g c =
    named_renewal g.P.Device.Device.honest g.P.Device.Device.seen g.P.Device.Device.may_leave c.args.store.now c.args.shape c.deref.result.now c.deref.ensures.value _ c.in-Ok.device _ c.in-Ok-name.ensures.ok c.renew.ensures.honest
    c.in-Ok-renew.ensures.renewed c.in-Ok-renew.ensures.synced
