use Rattle.std.proofs.Common.{subst}
use Rattle.fkv_opening.specs.Faults.{IsFaultOf, IsRefused}
use Rattle.fkv_looking.proofs.Hindered.{hindered}
use Rattle.fkv_looking.proofs.recovered.find_store.Goals as goal

pub returns-in_default-clause-err : goal.returns-in_default-clause-err
returns-in_default-clause-err g c =
    hindered (g.D.Device.failed c.args.d.now) (g.D.Device.failed c.recover.new.d) (g.D.Device.honest c.args.d.now) (IsFaultOf (g.D.Device.seen c.args.d.now)) c.in-Err.fault c.in-Err.ensures.err c.in_default.not-NotAStore c.in_default.not-Damaged

pub returns-in-Damaged-clause-ok : goal.returns-in-Damaged-clause-ok
returns-in-Damaged-clause-ok g c = λ claim.
    let found = subst (λ why. IsRefused (g.D.Device.failed c.args.d.now) (g.D.Device.failed c.recover.new.d) (g.D.Device.honest c.args.d.now) (IsFaultOf (g.D.Device.seen c.args.d.now)) why) c.in-Damaged.is c.in-Err.ensures.err in
    found claim
