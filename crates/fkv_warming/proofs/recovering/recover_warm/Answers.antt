-- The store is the one that was recovered, with its records.
use Rattle.std.proofs.Common.{◌≡◌, ◌∙◌, sym, subst, List, ℕ}
use Rattle.fkv_disk.proofs.Shown.{quiet_on, reads_behind}
use Rattle.fkv_opening.specs.Faults.{IsFaultOf}
use Rattle.fkv_opening.specs.Opened.{IsStoreOf}
use Rattle.fkv_warming.proofs.From.{from_same}
use Rattle.fkv_warming.proofs.Hindered.{hindered}
use Rattle.fkv_warming.proofs.recovering.recover_warm.Goals as goal

pub returns-in-Ok-warm-clause-ok : goal.returns-in-Ok-warm-clause-ok
returns-in-Ok-warm-clause-ok g c = λ claim.
    let quiet = c.in-Ok.ensures.quiet in
    let same : g.D.Device.seen c.recover.new.d ≡ g.D.Device.seen c.args.d.now = quiet.same_bytes claim in
    subst (λ (image : List ℕ). IsStoreOf image c.in-Ok-warm.warmed) same
    (c.in-Ok-warm.ensures.ok (quiet.premise.0 claim) (subst (λ (image : List ℕ). IsStoreOf image c.in-Ok.opened) (sym same) (c.in-Ok.ensures.ok claim)))

pub returns-in-Ok-warm-clause-warm : goal.returns-in-Ok-warm-clause-warm
returns-in-Ok-warm-clause-warm g c = c.in-Ok-warm.ensures.warm ∙ from_same c.in-Ok.opened c.in-Ok-warm.warmed c.args.most c.in-Ok-warm.ensures.same

pub returns-in-Ok-warm-clause-synced : goal.returns-in-Ok-warm-clause-synced
returns-in-Ok-warm-clause-synced g c = λ claim image left.
    let quiet = c.in-Ok.ensures.quiet in
    let later = c.in-Ok-warm.ensures.quiet in
    c.in-Ok.ensures.synced claim image (later.leaves_no_more (quiet.premise.0 claim) image left)

pub returns-in-Ok-warm-clause-quiet : goal.returns-in-Ok-warm-clause-quiet
returns-in-Ok-warm-clause-quiet g c =
    quiet_on g.D.Device.honest g.D.Device.seen g.D.Device.may_leave g.D.Device.moment g.D.Device.left_since g.D.Device.failed c.args.d.now c.recover.new.d c.warm.new.d c.in-Ok.ensures.quiet c.in-Ok-warm.ensures.quiet

pub returns-in-Ok-warm-clause-asked : goal.returns-in-Ok-warm-clause-asked
returns-in-Ok-warm-clause-asked g c =
    reads_behind g.D.Device.refuses g.D.Device.expects c.args.d.now c.recover.new.d c.warm.new.d c.in-Ok.ensures.asked c.in-Ok-warm.ensures.reads

pub returns-in-Err-warm-clause-err : goal.returns-in-Err-warm-clause-err
returns-in-Err-warm-clause-err g c =
    let quiet = c.in-Ok.ensures.quiet in
    hindered (g.D.Device.failed c.args.d.now) (g.D.Device.failed c.recover.new.d) (g.D.Device.failed c.warm.new.d) quiet.no_fewer_failures (g.D.Device.honest c.args.d.now) (IsFaultOf (g.D.Device.seen c.args.d.now))
    c.in-Err-warm.fault c.in-Err-warm.ensures.err

pub returns-in-Err-warm-clause-quiet : goal.returns-in-Err-warm-clause-quiet
returns-in-Err-warm-clause-quiet g c =
    quiet_on g.D.Device.honest g.D.Device.seen g.D.Device.may_leave g.D.Device.moment g.D.Device.left_since g.D.Device.failed c.args.d.now c.recover.new.d c.warm.new.d c.in-Ok.ensures.quiet c.in-Err-warm.ensures.quiet

pub returns-in-Err-warm-clause-asked : goal.returns-in-Err-warm-clause-asked
returns-in-Err-warm-clause-asked g c =
    reads_behind g.D.Device.refuses g.D.Device.expects c.args.d.now c.recover.new.d c.warm.new.d c.in-Ok.ensures.asked c.in-Err-warm.ensures.reads
