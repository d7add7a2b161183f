use Rattle.std.proofs.Common.{◌≡◌, Some, sym, ap, subst, ◌∙◌, arith, ◌+◌}
use Rattle.std.specs.Prelude.{◌↔◌, ◌∷◌, [], ◌++◌}
use Rattle.std.specs.Option.{is_some}
use Rattle.std.specs.Ordering.{nat_cmp}
use Rattle.std.specs.BTreeMap.{get}
use Rattle.fkv_disk.proofs.Shown.{more_reads, quiet_on}
use Rattle.fkv_record.specs.declared.triples.Triple.{Triple}
use Rattle.fkv_scan.specs.Checkpoint.{checkpoint_in, IsTripleAt}
use Rattle.fkv_scan.proofs.Triples.{AreSeen, AreRead, seen_next, read_next, fault_none, fault_again, none_is}
use Rattle.fkv_scan.proofs.triple_stage.read_triples.Goals as goal

pub returns-in_default-clause-err : goal.returns-in_default-clause-err
returns-in_default-clause-err g c = λ claim.
    let here = checkpoint_in (g.D.Device.seen c.args.d.now) c.args.shape c.args.slot.now in
    let quiet = c.loop-i.invariant.quiet in
    let same = ap (λ image. checkpoint_in image c.args.shape c.args.slot.now) (quiet.same_bytes claim) in
    let reads = subst (λ at. (x : Triple) → (c.in_ok-triple.field-0 ≡ Some x) ↔ IsTripleAt at c.loop-i.i x) same (c.in_ok-triple.ensures.ok (quiet.premise.0 claim)) in
    fault_none here c.loop-i.triples.items (get nat_cmp c.loop-i.homes) c.loop-i.i c.args.slot.now.end.0 c.loop-i.invariant.seen (c.loop-i.invariant.read claim) c.in_ok-triple.field-0 reads c.loop-i-test.true
    (none_is c.in_ok-triple.field-0 c.in_default.not-Some)

pub returns-then-is_some-clause-err : goal.returns-then-is_some-clause-err
returns-then-is_some-clause-err g c = λ claim.
    let here = checkpoint_in (g.D.Device.seen c.args.d.now) c.args.shape c.args.slot.now in
    let quiet = c.loop-i.invariant.quiet in
    let same = ap (λ image. checkpoint_in image c.args.shape c.args.slot.now) (quiet.same_bytes claim) in
    let reads = subst (λ at. (x : Triple) → (c.in_ok-triple.field-0 ≡ Some x) ↔ IsTripleAt at c.loop-i.i x) same (c.in_ok-triple.ensures.ok (quiet.premise.0 claim)) in
    fault_again here c.loop-i.triples.items (get nat_cmp c.loop-i.homes) c.loop-i.i c.args.slot.now.end.0 c.loop-i.invariant.seen (c.loop-i.invariant.read claim) c.in_ok-triple.field-0 reads c.loop-i-test.true
    c.in-Some.triple c.triple_home-home.result c.in-Some.is c.triple_home-home.ensures (ap is_some (sym c.in_ok-before.ensures.old) ∙ sym c.is_some.ensures ∙ c.if-is_some.true)

pub loop-i-preserved : goal.loop-i-preserved
loop-i-preserved g c =
    let quiet = c.loop-i.invariant.quiet in
    let pushed : c.push.new.self.items ≡ c.loop-i.triples.items ++ c.in-Some.triple ∷ [] = c.in_ok-push.ensures.items in
    record {
      quiet = quiet_on g.D.Device.honest g.D.Device.seen g.D.Device.may_leave g.D.Device.moment g.D.Device.left_since g.D.Device.failed c.args.d.now c.loop-i.d c.triple_at.new.d quiet c.in_ok-triple.ensures.quiet;
      reads = more_reads g.D.Device.refuses g.D.Device.expects c.args.d.now c.loop-i.d c.triple_at.new.d c.loop-i.invariant.reads c.in_ok-triple.ensures.reads;
      seen = subst (λ triples. AreSeen triples (get nat_cmp c.insert.new.self) (c.loop-i.i + 1) c.args.slot.now.end.0) (sym pushed)
          (seen_next c.loop-i.triples.items (get nat_cmp c.loop-i.homes) c.loop-i.i c.args.slot.now.end.0 c.loop-i.invariant.seen c.in-Some.triple c.triple_home-home.result c.triple_home-home.ensures
          (ap is_some (sym c.in_ok-before.ensures.old) ∙ sym c.is_some.ensures ∙ c.if-is_some.false) (get nat_cmp c.insert.new.self) (c.in_ok-triple.ensures.in_log c.in-Some.triple c.in-Some.is) c.in_ok-before.ensures.updates.0);
      read = λ claim.
          let here = checkpoint_in (g.D.Device.seen c.args.d.now) c.args.shape c.args.slot.now in
          let same = ap (λ image. checkpoint_in image c.args.shape c.args.slot.now) (quiet.same_bytes claim) in
          let reads = subst (λ at. (x : Triple) → (c.in_ok-triple.field-0 ≡ Some x) ↔ IsTripleAt at c.loop-i.i x) same (c.in_ok-triple.ensures.ok (quiet.premise.0 claim)) in
          subst (λ triples. AreRead here triples) (sym pushed)
          (read_next here c.loop-i.triples.items c.loop-i.i c.in_ok-triple.field-0 c.in-Some.triple (c.loop-i.invariant.read claim) c.loop-i.invariant.seen.many reads c.in-Some.is);
    }

pub returns-clause-ok : goal.returns-clause-ok
returns-clause-ok g c = λ claim. record {
  many = (let many = c.loop-i.invariant.seen.many in let last = c.loop-i-test.false in let most = c.loop-i.auto.i-end in omega (arith, many, last, most));
  each = λ i x is. (c.loop-i.invariant.read claim).each i x is;
}

pub returns-in_err-triple-clause-reads : goal.returns-in_err-triple-clause-reads
returns-in_err-triple-clause-reads g c =
    more_reads g.D.Device.refuses g.D.Device.expects c.args.d.now c.loop-i.d c.triple_at.new.d c.loop-i.invariant.reads c.triple_at.ensures.reads

pub returns-in_default-clause-reads : goal.returns-in_default-clause-reads
returns-in_default-clause-reads g c =
    more_reads g.D.Device.refuses g.D.Device.expects c.args.d.now c.loop-i.d c.triple_at.new.d c.loop-i.invariant.reads c.in_ok-triple.ensures.reads

pub returns-then-is_some-clause-reads : goal.returns-then-is_some-clause-reads
returns-then-is_some-clause-reads g c =
    more_reads g.D.Device.refuses g.D.Device.expects c.args.d.now c.loop-i.d c.triple_at.new.d c.loop-i.invariant.reads c.in_ok-triple.ensures.reads

pub returns-in_err-before-clause-reads : goal.returns-in_err-before-clause-reads
returns-in_err-before-clause-reads g c =
    more_reads g.D.Device.refuses g.D.Device.expects c.args.d.now c.loop-i.d c.triple_at.new.d c.loop-i.invariant.reads c.in_ok-triple.ensures.reads

pub returns-in_err-push-clause-reads : goal.returns-in_err-push-clause-reads
returns-in_err-push-clause-reads g c =
    more_reads g.D.Device.refuses g.D.Device.expects c.args.d.now c.loop-i.d c.triple_at.new.d c.loop-i.invariant.reads c.in_ok-triple.ensures.reads
