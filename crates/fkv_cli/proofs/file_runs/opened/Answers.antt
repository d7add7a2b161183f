use Rattle.std.proofs.Common.{ap, subst, sym}
use Rattle.fkv_cli.specs.Output.{IsUnread}
use Rattle.fkv_cli.proofs.Finding.{found_so, passed_on, unread_so}
use Rattle.fkv_cli.proofs.file_runs.opened.Goals as goal

pub returns-clause-found : goal.returns-clause-found
returns-clause-found g c =
    let d = g.D.Device in
    found_so d.honest d.seen d.may_leave c.args.device _ _ _ _ c.in_ok-opened.opened c.in_ok-pairs.pairs.items c.new-ahead.ensures c.into_device.ensures c.recover.ensures.quiet.premise c.content.ensures.quiet.premise
    c.recover.ensures.quiet.same_bytes c.content.ensures.quiet.same_bytes c.in_ok-opened.ensures.ok c.in_ok-opened.ensures.synced c.content.ensures.quiet.leaves_no_more c.in_ok-pairs.ensures.ok

pub returns-in_err-opened-clause-refused : goal.returns-in_err-opened-clause-refused
returns-in_err-opened-clause-refused g c =
    let d = g.D.Device in
    let fault = c.in_err-opened.field-0.0 in
    passed_on c.from_residual-in_err-opened.result fault (IsUnread (d.honest c.args.device) (d.seen c.args.device)) c.from_residual-in_err-opened.ensures.1
    (unread_so _ _ (d.honest c.args.device) _ (d.seen c.args.device) _ fault (λ h. subst d.honest (sym c.new-ahead.ensures) h) (ap d.seen c.new-ahead.ensures) c.in_err-opened.ensures.err)
