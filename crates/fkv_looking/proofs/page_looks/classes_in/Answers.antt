use Rattle.std.proofs.Common.{◌≡◌, sym, subst, ◌+◌, ◌++◌, ◌∷◌, []}
use Rattle.fkv_disk.proofs.Shown.{more_reads, quiet_on, quiet_still, no_read}
use Rattle.fkv_looking.specs.Classes.{IsClass}
use Rattle.fkv_looking.specs.Pages.{AreClasses}
use Rattle.fkv_looking.proofs.Listing.{no_classes, classes_more}
use Rattle.fkv_looking.proofs.page_looks.classes_in.Goals as goal

pub loop-addr-init : goal.loop-addr-init
loop-addr-init g c = record {
  quiet = quiet_still g.D.Device.honest g.D.Device.seen g.D.Device.may_leave g.D.Device.moment g.D.Device.left_since g.D.Device.failed c.args.d.now;
  reads = no_read g.D.Device.refuses g.D.Device.expects c.args.d.now;
  found = λ claim. subst (λ classes. AreClasses (g.D.Device.seen c.args.d.now) c.args.opened.now c.args.first.0 c.args.first.0 classes) (sym c.new-classes.ensures.items)
      (no_classes (g.D.Device.seen c.args.d.now) c.args.opened.now c.args.first.0);
}

pub loop-addr-preserved : goal.loop-addr-preserved
loop-addr-preserved g c =
    let quiet = c.loop-addr.invariant.quiet in
    let pushed : c.push.new.self.items ≡ c.loop-addr.classes.items ++ c.in_ok-class.class ∷ [] = c.in_ok-push.ensures.items in
    record {
      quiet = quiet_on g.D.Device.honest g.D.Device.seen g.D.Device.may_leave g.D.Device.moment g.D.Device.left_since g.D.Device.failed c.args.d.now c.loop-addr.d c.class_at.new.d quiet c.in_ok-class.ensures.quiet;
      reads = more_reads g.D.Device.refuses g.D.Device.expects c.args.d.now c.loop-addr.d c.class_at.new.d c.loop-addr.invariant.reads c.in_ok-class.ensures.reads;
      found = λ claim.
          let here = subst (λ image. IsClass image c.args.opened.now c.loop-addr.addr c.in_ok-class.class) (quiet.same_bytes claim) (c.in_ok-class.ensures.ok (quiet.premise.0 claim)) in
          subst (λ classes. AreClasses (g.D.Device.seen c.args.d.now) c.args.opened.now c.args.first.0 (c.loop-addr.addr + 1) classes) (sym pushed)
          (classes_more (g.D.Device.seen c.args.d.now) c.args.opened.now c.args.first.0 c.loop-addr.addr c.loop-addr.classes.items c.in_ok-class.class c.loop-addr.auto.addr (c.loop-addr.invariant.found claim) here);
    }

pub returns-in_err-class-clause-reads : goal.returns-in_err-class-clause-reads
returns-in_err-class-clause-reads g c =
    more_reads g.D.Device.refuses g.D.Device.expects c.args.d.now c.loop-addr.d c.class_at.new.d c.loop-addr.invariant.reads c.class_at.ensures.reads

pub returns-in_err-push-clause-reads : goal.returns-in_err-push-clause-reads
returns-in_err-push-clause-reads g c =
    more_reads g.D.Device.refuses g.D.Device.expects c.args.d.now c.loop-addr.d c.class_at.new.d c.loop-addr.invariant.reads c.in_ok-class.ensures.reads
