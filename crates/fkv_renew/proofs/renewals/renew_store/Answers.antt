use Rattle.std.proofs.Common.{subst, sym}
use Rattle.fkv_renew.specs.Renewals.{IsUnrenewed}
use Rattle.fkv_renew.proofs.Renewing.{no_room, none_read, renewed_so}
use Rattle.fkv_renew.proofs.renewals.renew_store.Goals as goal

pub returns-in-Ok-write_store-clause-ok : goal.returns-in-Ok-write_store-clause-ok
returns-in-Ok-write_store-clause-ok g c =
    renewed_so g.P.Device.Device.honest g.P.Device.Device.seen g.P.Device.Device.may_leave g.D.Device.honest g.D.Device.seen c.args.wanted c.args.keys c.args.device _ (g.P.Place.has_name c.args.place.now) c.in-Ok.found.1 c.laid-store.result c.unwrap_or-shape.result c.saved_of.result
    (λ held. c.law_pairs.ensures.some _ _ (c.in-Ok.ensures.held held).1) c.laid-store.ensures c.unwrap_or-shape.ensures c.in-Ok.ensures.held c.in-Ok-write_store.ensures.room c.in-Ok-write_store.ensures.has_name c.in-Ok-write_store.ensures.named c.saved_of.ensures

pub returns-clause-err : goal.returns-clause-err
returns-clause-err g c =
    no_room g.D.Device.honest g.D.Device.seen c.args.wanted c.args.keys c.args.device c.in-Ok.found.1 c.laid-store.result c.unwrap_or-shape.result c.in-Err-write_store.refusal c.in-Ok.ensures.held c.laid-store.ensures
    c.unwrap_or-shape.ensures c.in-Err-write_store.ensures.err

pub returns-in-Err-clause-err : goal.returns-in-Err-clause-err
returns-in-Err-clause-err g c =
    subst (IsUnrenewed g.D.Device.honest g.D.Device.seen c.args.wanted c.args.keys c.args.device) (sym c.unopened_as.ensures) (none_read g.D.Device.honest g.D.Device.seen c.args.wanted c.args.keys c.args.device c.in-Err.fault c.in-Err.ensures.refused)
