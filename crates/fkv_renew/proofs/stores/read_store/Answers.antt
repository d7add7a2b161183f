use Rattle.std.proofs.Common.{ap, subst, sym}
use Rattle.fkv_renew.specs.Stores.{IsUnread}
use Rattle.fkv_renew.proofs.Renewing.{held_by, passed_on, unopened_so}
use Rattle.fkv_renew.proofs.stores.read_store.Goals as goal

pub returns-clause-held : goal.returns-clause-held
returns-clause-held g c = λ h.
    let ahead = subst g.D.Device.honest (sym c.new-ahead.ensures) h in
    held_by _ _ _ c.in_ok-opened.opened c.in_ok-pairs.pairs.items (ap g.D.Device.seen c.new-ahead.ensures) (c.recover.ensures.quiet.same_bytes ahead) (c.in_ok-opened.ensures.ok ahead)
    (c.in_ok-pairs.ensures.ok (c.recover.ensures.quiet.premise.0 ahead))

pub returns-in_err-opened-clause-refused : goal.returns-in_err-opened-clause-refused
returns-in_err-opened-clause-refused g c =
    let d = g.D.Device in
    let fault = c.in_err-opened.field-0.0 in
    passed_on c.from_residual-in_err-opened.result fault (IsUnread (d.honest c.args.device) (d.seen c.args.device)) c.from_residual-in_err-opened.ensures.1
    (unopened_so _ _ (d.honest c.args.device) _ (d.seen c.args.device) _ fault (λ h. subst d.honest (sym c.new-ahead.ensures) h) (ap d.seen c.new-ahead.ensures) c.in_err-opened.ensures.err)
