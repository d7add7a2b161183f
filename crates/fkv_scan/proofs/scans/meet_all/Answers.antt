use Rattle.std.proofs.Common.{◌≡◌, sym, ap, subst, ◌∙◌, arith}
use Rattle.std.specs.Prelude.{◌||◌}
use Rattle.std.specs.Ordering.{nat_cmp}
use Rattle.std.specs.BTreeMap.{get}
use Rattle.fkv_disk.proofs.Shown.{more_reads, quiet_on}
use Rattle.fkv_scan.specs.Log.{log_in}
use Rattle.fkv_scan.specs.Scan.{IsScannedTo}
use Rattle.fkv_scan.specs.Scanned.{TellsNewer}
use Rattle.fkv_scan.specs.Known.{KnowsAll}
use Rattle.fkv_scan.specs.Parts.{TellsNewerIn}
use Rattle.fkv_scan.proofs.Looping.{knows_on, newer_on, refused_from}
use Rattle.fkv_scan.proofs.scans.meet_all.Goals as goal

pub returns-in-Err-clause-err : goal.returns-in-Err-clause-err
returns-in-Err-clause-err g c = λ triples.
    let old = g.D.Device.seen c.args.d.now in
    let mid = g.D.Device.seen c.loop-from.d in
    let quiet = c.loop-from.invariant.quiet in
    let log = log_in old c.args.shape c.args.slot.now triples in
    let log_mid = log_in mid c.args.shape c.args.slot.now triples in
    refused_from (g.D.Device.failed c.args.d.now) (g.D.Device.failed c.loop-from.d) (g.D.Device.failed c.meet_part.new.d) quiet.no_fewer_failures
    (g.D.Device.honest c.args.d.now × KnowsAll log c.args.slot.now.first.0 (get nat_cmp c.args.homes.now))
    (g.D.Device.honest c.loop-from.d × KnowsAll log_mid c.loop-from.from (get nat_cmp c.loop-from.homes))
    log log_mid c.loop-from.from c.part_end-to.result c.in-Err.fault c.loop-from.invariant.start c.part_end-to.ensures.at_most
    (λ premise.
    let same : log_mid ≡ log = ap (λ image. log_in image c.args.shape c.args.slot.now triples) (quiet.same_bytes premise.0) in
    let known = c.loop-from.invariant.known triples premise.0 premise.1 in
    ((quiet.premise.0 premise.0, subst (λ l. KnowsAll l c.loop-from.from (get nat_cmp c.loop-from.homes)) (sym same) known.1), same, known.0))
    (c.in-Err.ensures.err triples)

pub loop-from-preserved-then-newer : goal.loop-from-preserved-then-newer
loop-from-preserved-then-newer g c =
    let old = g.D.Device.seen c.args.d.now in
    let mid = g.D.Device.seen c.loop-from.d in
    let quiet = c.loop-from.invariant.quiet in
    let from = c.loop-from.from in
    let to = c.part_end-to.result in
    let start = c.loop-from.invariant.start in
    let above = c.part_end-to.ensures.above in
    record {
      start = omega (arith, start, above);
      end = c.part_end-to.ensures.at_most;
      quiet = quiet_on g.D.Device.honest g.D.Device.seen g.D.Device.may_leave g.D.Device.moment g.D.Device.left_since g.D.Device.failed c.args.d.now c.loop-from.d c.meet_part.new.d quiet c.in-Ok.ensures.quiet;
      reads = more_reads g.D.Device.refuses g.D.Device.expects c.args.d.now c.loop-from.d c.meet_part.new.d c.loop-from.invariant.reads c.in-Ok.ensures.reads;
      known = λ triples claim all.
          let log = log_in old c.args.shape c.args.slot.now triples in
          let log_mid = log_in mid c.args.shape c.args.slot.now triples in
          let same : log_mid ≡ log = ap (λ image. log_in image c.args.shape c.args.slot.now triples) (quiet.same_bytes claim) in
          knows_on log log_mid from to (get nat_cmp c.loop-from.homes) (get nat_cmp c.meet_part.new.homes) same (c.loop-from.invariant.known triples claim all) (c.in-Ok.ensures.ok triples (quiet.premise.0 claim));
      newer = λ triples claim.
          let log = log_in old c.args.shape c.args.slot.now triples in
          let log_mid = log_in mid c.args.shape c.args.slot.now triples in
          let same : log_mid ≡ log = ap (λ image. log_in image c.args.shape c.args.slot.now triples) (quiet.same_bytes claim) in
          subst (λ b. TellsNewer log to b) (ap (λ b. b || c.in-Ok.is_newer) c.if-newer.true ∙ sym c.if-newer.true)
          (newer_on log from to c.loop-from.newer c.in-Ok.is_newer start (omega (arith, above)) (c.loop-from.invariant.newer triples claim)
          (subst (λ l. TellsNewerIn l from to c.in-Ok.is_newer) same (c.in-Ok.ensures.newer triples (quiet.premise.0 claim))));
    }

pub loop-from-preserved : goal.loop-from-preserved
loop-from-preserved g c =
    let old = g.D.Device.seen c.args.d.now in
    let mid = g.D.Device.seen c.loop-from.d in
    let quiet = c.loop-from.invariant.quiet in
    let from = c.loop-from.from in
    let to = c.part_end-to.result in
    let start = c.loop-from.invariant.start in
    let above = c.part_end-to.ensures.above in
    record {
      start = omega (arith, start, above);
      end = c.part_end-to.ensures.at_most;
      quiet = quiet_on g.D.Device.honest g.D.Device.seen g.D.Device.may_leave g.D.Device.moment g.D.Device.left_since g.D.Device.failed c.args.d.now c.loop-from.d c.meet_part.new.d quiet c.in-Ok.ensures.quiet;
      reads = more_reads g.D.Device.refuses g.D.Device.expects c.args.d.now c.loop-from.d c.meet_part.new.d c.loop-from.invariant.reads c.in-Ok.ensures.reads;
      known = λ triples claim all.
          let log = log_in old c.args.shape c.args.slot.now triples in
          let log_mid = log_in mid c.args.shape c.args.slot.now triples in
          let same : log_mid ≡ log = ap (λ image. log_in image c.args.shape c.args.slot.now triples) (quiet.same_bytes claim) in
          knows_on log log_mid from to (get nat_cmp c.loop-from.homes) (get nat_cmp c.meet_part.new.homes) same (c.loop-from.invariant.known triples claim all) (c.in-Ok.ensures.ok triples (quiet.premise.0 claim));
      newer = λ triples claim.
          let log = log_in old c.args.shape c.args.slot.now triples in
          let log_mid = log_in mid c.args.shape c.args.slot.now triples in
          let same : log_mid ≡ log = ap (λ image. log_in image c.args.shape c.args.slot.now triples) (quiet.same_bytes claim) in
          subst (λ b. TellsNewer log to b) (ap (λ b. b || c.in-Ok.is_newer) c.if-newer.false)
          (newer_on log from to c.loop-from.newer c.in-Ok.is_newer start (omega (arith, above)) (c.loop-from.invariant.newer triples claim)
          (subst (λ l. TellsNewerIn l from to c.in-Ok.is_newer) same (c.in-Ok.ensures.newer triples (quiet.premise.0 claim))));
    }

pub returns-clause-ok : goal.returns-clause-ok
returns-clause-ok g c = λ triples claim all.
    let log = log_in (g.D.Device.seen c.args.d.now) c.args.shape c.args.slot.now triples in
    let known = c.loop-from.invariant.known triples claim all in
    let last = c.loop-from-test.false in
    let most = c.loop-from.invariant.end in
    let at_end : c.loop-from.from ≡ c.args.slot.now.end.0 = omega (arith, last, most) in
    (subst (λ n. IsScannedTo log n) at_end known.0, subst (λ n. KnowsAll log n (get nat_cmp c.loop-from.homes)) at_end known.1)

pub returns-clause-newer : goal.returns-clause-newer
returns-clause-newer g c = λ triples claim.
    let log = log_in (g.D.Device.seen c.args.d.now) c.args.shape c.args.slot.now triples in
    let last = c.loop-from-test.false in
    let most = c.loop-from.invariant.end in
    let at_end : c.loop-from.from ≡ c.args.slot.now.end.0 = omega (arith, last, most) in
    subst (λ n. TellsNewer log n c.loop-from.newer) at_end (c.loop-from.invariant.newer triples claim)

pub returns-in-Err-clause-reads : goal.returns-in-Err-clause-reads
returns-in-Err-clause-reads g c =
    more_reads g.D.Device.refuses g.D.Device.expects c.args.d.now c.loop-from.d c.meet_part.new.d c.loop-from.invariant.reads c.in-Err.ensures.reads
