use Rattle.std.proofs.Common.{◌≡◌, sym, ap, subst, ◌∙◌, length, arith}
use Rattle.std.specs.Prelude.{Some, slice_get}
use Rattle.std.specs.Ordering.{nat_cmp}
use Rattle.std.specs.BTreeMap.{get}
use Rattle.std.proofs.lemmas.Option.{slice_get-get_or}
use Rattle.fkv_disk.proofs.Shown.{more_reads, no_read, quiet_on, quiet_still}
use Rattle.fkv_scan.specs.Log.{log_in}
use Rattle.fkv_scan.specs.Known.{KnowsOf}
use Rattle.fkv_scan.specs.Parts.{Tells, IsTakenIn}
use Rattle.fkv_scan.proofs.Linking.{AreTaken, none_taken, known_here, taken_past, taken_off, taken_on, all_linked}
use Rattle.fkv_scan.proofs.parts.take_in_all.Goals as goal

pub loop-i-init : goal.loop-i-init
loop-i-init g c = record {
  quiet = quiet_still g.D.Device.honest g.D.Device.seen g.D.Device.may_leave g.D.Device.moment g.D.Device.left_since g.D.Device.failed c.args.d.now;
  reads = no_read g.D.Device.refuses g.D.Device.expects c.args.d.now;
  taken = λ triples from claim are rise all. none_taken (log_in (g.D.Device.seen c.args.d.now) c.args.shape c.args.slot.now triples) from c.args.end.0 c.args.mets.now are (get nat_cmp c.args.homes.now) all;
}

pub loop-i-preserved-then-linked-met : goal.loop-i-preserved-then-linked-met
loop-i-preserved-then-linked-met g c =
    let quiet = c.loop-i.invariant.quiet in
    record {
      quiet = quiet;
      reads = c.loop-i.invariant.reads;
      taken = λ triples from claim are rise all.
          let old = g.D.Device.seen c.args.d.now in
          let mid = g.D.Device.seen c.loop-i.d in
          let log = log_in old c.args.shape c.args.slot.now triples in
          let log_mid = log_in mid c.args.shape c.args.slot.now triples in
          let same : log_mid ≡ log = ap (λ image. log_in image c.args.shape c.args.slot.now triples) (quiet.same_bytes claim) in
          let taken = c.loop-i.invariant.taken triples from claim are rise all in
          let m = c.index-mets-i.result in
          let here : slice_get c.args.mets.now c.loop-i.i ≡ Some m = slice_get-get_or c.args.mets.now c.loop-i.i m c.loop-i-test.true ∙ ap Some (sym c.index-mets-i.is) in
          taken_past log from c.args.end.0 c.args.mets.now are rise c.loop-i.i c.loop-i.linked.0 (get nat_cmp c.loop-i.homes) taken m here c.if-linked-met.true;
    }

pub loop-i-preserved-then-taken : goal.loop-i-preserved-then-taken
loop-i-preserved-then-taken g c =
    let quiet = c.loop-i.invariant.quiet in
    record {
      quiet = quiet_on g.D.Device.honest g.D.Device.seen g.D.Device.may_leave g.D.Device.moment g.D.Device.left_since g.D.Device.failed c.args.d.now c.loop-i.d c.take_in.new.d quiet c.in_ok-taken.ensures.quiet;
      reads = more_reads g.D.Device.refuses g.D.Device.expects c.args.d.now c.loop-i.d c.take_in.new.d c.loop-i.invariant.reads c.in_ok-taken.ensures.reads;
      taken = λ triples from claim are rise all.
          let old = g.D.Device.seen c.args.d.now in
          let mid = g.D.Device.seen c.loop-i.d in
          let log = log_in old c.args.shape c.args.slot.now triples in
          let log_mid = log_in mid c.args.shape c.args.slot.now triples in
          let same : log_mid ≡ log = ap (λ image. log_in image c.args.shape c.args.slot.now triples) (quiet.same_bytes claim) in
          let taken = c.loop-i.invariant.taken triples from claim are rise all in
          let m = c.index-mets-i.result in
          let here : slice_get c.args.mets.now c.loop-i.i ≡ Some m = slice_get-get_or c.args.mets.now c.loop-i.i m c.loop-i-test.true ∙ ap Some (sym c.index-mets-i.is) in
          let below = c.if-linked-met.false in
          let tells = (are.each c.loop-i.i m here).0 in
          let known = known_here log from c.args.end.0 c.args.mets.now are rise c.loop-i.i c.loop-i.linked.0 (get nat_cmp c.loop-i.homes) taken m here below in
          let says = subst (λ l. IsTakenIn l m (get nat_cmp c.loop-i.homes) (get nat_cmp c.take_in.new.homes) c.in_ok-taken.taken) same
          (c.in_ok-taken.ensures.ok triples (quiet.premise.0 claim) (subst (λ l. Tells l m) (sym same) tells) (subst (λ l. KnowsOf l m.home m.addr.0 (get nat_cmp c.loop-i.homes m.home)) (sym same) known)) in
          taken_on log from c.args.end.0 c.args.mets.now are rise c.loop-i.i c.loop-i.linked.0 (get nat_cmp c.loop-i.homes) taken m here below (get nat_cmp c.take_in.new.homes)
          (subst (λ b. IsTakenIn log m (get nat_cmp c.loop-i.homes) (get nat_cmp c.take_in.new.homes) b) c.if-taken.true says);
    }

pub loop-i-preserved : goal.loop-i-preserved
loop-i-preserved g c =
    let quiet = c.loop-i.invariant.quiet in
    record {
      quiet = quiet_on g.D.Device.honest g.D.Device.seen g.D.Device.may_leave g.D.Device.moment g.D.Device.left_since g.D.Device.failed c.args.d.now c.loop-i.d c.take_in.new.d quiet c.in_ok-taken.ensures.quiet;
      reads = more_reads g.D.Device.refuses g.D.Device.expects c.args.d.now c.loop-i.d c.take_in.new.d c.loop-i.invariant.reads c.in_ok-taken.ensures.reads;
      taken = λ triples from claim are rise all.
          let old = g.D.Device.seen c.args.d.now in
          let mid = g.D.Device.seen c.loop-i.d in
          let log = log_in old c.args.shape c.args.slot.now triples in
          let log_mid = log_in mid c.args.shape c.args.slot.now triples in
          let same : log_mid ≡ log = ap (λ image. log_in image c.args.shape c.args.slot.now triples) (quiet.same_bytes claim) in
          let taken = c.loop-i.invariant.taken triples from claim are rise all in
          let m = c.index-mets-i.result in
          let here : slice_get c.args.mets.now c.loop-i.i ≡ Some m = slice_get-get_or c.args.mets.now c.loop-i.i m c.loop-i-test.true ∙ ap Some (sym c.index-mets-i.is) in
          let below = c.if-linked-met.false in
          let tells = (are.each c.loop-i.i m here).0 in
          let known = known_here log from c.args.end.0 c.args.mets.now are rise c.loop-i.i c.loop-i.linked.0 (get nat_cmp c.loop-i.homes) taken m here below in
          let says = subst (λ l. IsTakenIn l m (get nat_cmp c.loop-i.homes) (get nat_cmp c.take_in.new.homes) c.in_ok-taken.taken) same
          (c.in_ok-taken.ensures.ok triples (quiet.premise.0 claim) (subst (λ l. Tells l m) (sym same) tells) (subst (λ l. KnowsOf l m.home m.addr.0 (get nat_cmp c.loop-i.homes m.home)) (sym same) known)) in
          taken_off log from c.args.end.0 c.args.mets.now are rise c.loop-i.i c.loop-i.linked.0 (get nat_cmp c.loop-i.homes) taken m here below (get nat_cmp c.take_in.new.homes)
          (subst (λ b. IsTakenIn log m (get nat_cmp c.loop-i.homes) (get nat_cmp c.take_in.new.homes) b) c.if-taken.false says);
    }

pub returns-clause-ok : goal.returns-clause-ok
returns-clause-ok g c = λ triples from claim are rise all.
    let log = log_in (g.D.Device.seen c.args.d.now) c.args.shape c.args.slot.now triples in
    let last = c.loop-i-test.false in
    let most = c.loop-i.auto.i-end in
    let at_end : c.loop-i.i ≡ length c.args.mets.now = omega (arith, last, most) in
    all_linked log from c.args.end.0 c.args.mets.now are c.loop-i.linked.0 (get nat_cmp c.loop-i.homes)
    (subst (λ n. AreTaken log from c.args.end.0 c.args.mets.now n c.loop-i.linked.0 (get nat_cmp c.loop-i.homes)) at_end (c.loop-i.invariant.taken triples from claim are rise all))

pub returns-in_err-taken-clause-reads : goal.returns-in_err-taken-clause-reads
returns-in_err-taken-clause-reads g c = more_reads g.D.Device.refuses g.D.Device.expects c.args.d.now c.loop-i.d c.take_in.new.d c.loop-i.invariant.reads c.take_in.ensures.reads
