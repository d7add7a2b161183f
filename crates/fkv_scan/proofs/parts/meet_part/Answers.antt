use Rattle.std.proofs.Common.{◌≡◌, sym, ap, subst, arith}
use Rattle.std.specs.Ordering.{nat_cmp}
use Rattle.std.specs.BTreeMap.{get}
use Rattle.fkv_disk.proofs.Shown.{more_reads}
use Rattle.fkv_scan.specs.Log.{log_in}
use Rattle.fkv_scan.specs.Known.{KnowsAll}
use Rattle.fkv_scan.specs.Parts.{AreMet, RiseByHome, AreScannedIn, TellsNewerIn, AreLinked}
use Rattle.fkv_scan.proofs.Sorting.{met_sorted}
use Rattle.fkv_scan.proofs.parts.meet_part.Goals as goal

pub returns-then-linked-read-clause-err : goal.returns-then-linked-read-clause-err
returns-then-linked-read-clause-err g c = λ triples premise.
    let claim = premise.0 in
    let all = premise.1 in
    let old = g.D.Device.seen c.args.d.now in
    let mid = g.D.Device.seen c.gather.new.d in
    let log = log_in old c.args.shape c.args.slot.now triples in
    let log_mid = log_in mid c.args.shape c.args.slot.now triples in
    let quiet = c.in_ok-read.ensures.quiet in
    let same : log_mid ≡ log = ap (λ image. log_in image c.args.shape c.args.slot.now triples) (quiet.same_bytes claim) in
    let read = c.in_ok-read.ensures.ok triples claim in
    let items : c.deref.result.now ≡ c.sort_by_home.new.mets.items = c.deref.ensures.value in
    let are = subst (λ ms. AreMet log c.args.from.0 c.in_ok-read.read.end.0 ms) (sym items)
    (met_sorted log c.args.from.0 c.in_ok-read.read.end.0 c.in_ok-read.read.mets.items c.sort_by_home.new.mets.items c.in_ok-sort_by_home.ensures.permutation read.mets) in
    let rise = subst (λ ms. RiseByHome ms) (sym items) (c.in_ok-sort_by_home.ensures.by_home read.rise) in
    let linked = subst (λ l. AreLinked l c.args.from.0 c.in_ok-read.read.end.0 c.in_ok-linked.linked.0 (get nat_cmp c.take_in_all.new.homes)) same
    (c.in_ok-linked.ensures.ok triples c.args.from.0 (quiet.premise.0 claim) (subst (λ l. AreMet l c.args.from.0 c.in_ok-read.read.end.0 c.deref.result.now) (sym same) are) rise
    (subst (λ l. KnowsAll l c.args.from.0 (get nat_cmp c.args.homes.now)) (sym same) all)) in
    let low = c.if-linked-read.true in
    let most = read.at_most in
    let off = linked.off low in
    (off.0, omega (arith, low, most), linked.scanned, off.1)

pub returns-then-read-to-clause-err : goal.returns-then-read-to-clause-err
returns-then-read-to-clause-err g c = λ triples premise.
    let claim = premise.0 in
    let all = premise.1 in
    let old = g.D.Device.seen c.args.d.now in
    let mid = g.D.Device.seen c.gather.new.d in
    let log = log_in old c.args.shape c.args.slot.now triples in
    let log_mid = log_in mid c.args.shape c.args.slot.now triples in
    let quiet = c.in_ok-read.ensures.quiet in
    let same : log_mid ≡ log = ap (λ image. log_in image c.args.shape c.args.slot.now triples) (quiet.same_bytes claim) in
    let read = c.in_ok-read.ensures.ok triples claim in
    let items : c.deref.result.now ≡ c.sort_by_home.new.mets.items = c.deref.ensures.value in
    let are = subst (λ ms. AreMet log c.args.from.0 c.in_ok-read.read.end.0 ms) (sym items)
    (met_sorted log c.args.from.0 c.in_ok-read.read.end.0 c.in_ok-read.read.mets.items c.sort_by_home.new.mets.items c.in_ok-sort_by_home.ensures.permutation read.mets) in
    let rise = subst (λ ms. RiseByHome ms) (sym items) (c.in_ok-sort_by_home.ensures.by_home read.rise) in
    let linked = subst (λ l. AreLinked l c.args.from.0 c.in_ok-read.read.end.0 c.in_ok-linked.linked.0 (get nat_cmp c.take_in_all.new.homes)) same
    (c.in_ok-linked.ensures.ok triples c.args.from.0 (quiet.premise.0 claim) (subst (λ l. AreMet l c.args.from.0 c.in_ok-read.read.end.0 c.deref.result.now) (sym same) are) rise
    (subst (λ l. KnowsAll l c.args.from.0 (get nat_cmp c.args.homes.now)) (sym same) all)) in
    let no_fault = c.if-linked-read.false in
    let low = c.if-read-to.true in
    let most = linked.at_most in
    let at_end : c.in_ok-linked.linked.0 ≡ c.in_ok-read.read.end.0 = omega (arith, no_fault, most) in
    (read.mets.upwards, low, subst (λ n. AreScannedIn log c.args.from.0 n) at_end linked.scanned, read.unfit low)

pub returns-clause-ok : goal.returns-clause-ok
returns-clause-ok g c = λ triples claim all.
    let old = g.D.Device.seen c.args.d.now in
    let mid = g.D.Device.seen c.gather.new.d in
    let log = log_in old c.args.shape c.args.slot.now triples in
    let log_mid = log_in mid c.args.shape c.args.slot.now triples in
    let quiet = c.in_ok-read.ensures.quiet in
    let same : log_mid ≡ log = ap (λ image. log_in image c.args.shape c.args.slot.now triples) (quiet.same_bytes claim) in
    let read = c.in_ok-read.ensures.ok triples claim in
    let items : c.deref.result.now ≡ c.sort_by_home.new.mets.items = c.deref.ensures.value in
    let are = subst (λ ms. AreMet log c.args.from.0 c.in_ok-read.read.end.0 ms) (sym items)
    (met_sorted log c.args.from.0 c.in_ok-read.read.end.0 c.in_ok-read.read.mets.items c.sort_by_home.new.mets.items c.in_ok-sort_by_home.ensures.permutation read.mets) in
    let rise = subst (λ ms. RiseByHome ms) (sym items) (c.in_ok-sort_by_home.ensures.by_home read.rise) in
    let linked = subst (λ l. AreLinked l c.args.from.0 c.in_ok-read.read.end.0 c.in_ok-linked.linked.0 (get nat_cmp c.take_in_all.new.homes)) same
    (c.in_ok-linked.ensures.ok triples c.args.from.0 (quiet.premise.0 claim) (subst (λ l. AreMet l c.args.from.0 c.in_ok-read.read.end.0 c.deref.result.now) (sym same) are) rise
    (subst (λ l. KnowsAll l c.args.from.0 (get nat_cmp c.args.homes.now)) (sym same) all)) in
    let no_fault = c.if-linked-read.false in
    let no_end = c.if-read-to.false in
    let most = linked.at_most in
    let most_read = read.at_most in
    let at_end : c.in_ok-linked.linked.0 ≡ c.in_ok-read.read.end.0 = omega (arith, no_fault, most) in
    let is_to : c.in_ok-read.read.end.0 ≡ c.args.to.0 = omega (arith, no_end, most_read) in (
      subst (λ n. AreScannedIn log c.args.from.0 n) is_to (subst (λ n. AreScannedIn log c.args.from.0 n) at_end linked.scanned),
      subst (λ n. KnowsAll log n (get nat_cmp c.take_in_all.new.homes)) is_to (linked.known at_end),
    )

pub returns-clause-newer : goal.returns-clause-newer
returns-clause-newer g c = λ triples claim.
    let read = c.in_ok-read.ensures.ok triples claim in
    let no_end = c.if-read-to.false in
    let most_read = read.at_most in
    let is_to : c.in_ok-read.read.end.0 ≡ c.args.to.0 = omega (arith, no_end, most_read) in
    subst (λ n. TellsNewerIn (log_in (g.D.Device.seen c.args.d.now) c.args.shape c.args.slot.now triples) c.args.from.0 n c.in_ok-read.read.newer) is_to read.newer

pub returns-in_err-linked-clause-reads : goal.returns-in_err-linked-clause-reads
returns-in_err-linked-clause-reads g c = more_reads g.D.Device.refuses g.D.Device.expects c.args.d.now c.gather.new.d c.take_in_all.new.d c.in_ok-read.ensures.reads c.take_in_all.ensures.reads

pub returns-then-linked-read-clause-reads : goal.returns-then-linked-read-clause-reads
returns-then-linked-read-clause-reads g c = more_reads g.D.Device.refuses g.D.Device.expects c.args.d.now c.gather.new.d c.take_in_all.new.d c.in_ok-read.ensures.reads c.in_ok-linked.ensures.reads

pub returns-then-read-to-clause-reads : goal.returns-then-read-to-clause-reads
returns-then-read-to-clause-reads g c = more_reads g.D.Device.refuses g.D.Device.expects c.args.d.now c.gather.new.d c.take_in_all.new.d c.in_ok-read.ensures.reads c.in_ok-linked.ensures.reads

pub returns-clause-reads : goal.returns-clause-reads
returns-clause-reads g c = more_reads g.D.Device.refuses g.D.Device.expects c.args.d.now c.gather.new.d c.take_in_all.new.d c.in_ok-read.ensures.reads c.in_ok-linked.ensures.reads
