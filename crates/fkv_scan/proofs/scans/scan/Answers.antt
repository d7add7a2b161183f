use Rattle.std.proofs.Common.{◌≡◌, arith, refl, sym, ap, subst, length}
use Rattle.std.specs.Ordering.{nat_cmp}
use Rattle.std.specs.BTreeMap.{get}
use Rattle.fkv_disk.proofs.Shown.{more_reads}
use Rattle.fkv_scan.specs.Log.{log_in}
use Rattle.fkv_scan.specs.Scan.{IsScannedTo, AreLed}
use Rattle.fkv_scan.specs.Known.{KnowsAll}
use Rattle.fkv_scan.proofs.Ending.{refused_after, are_scanned}
use Rattle.fkv_scan.proofs.scans.scan.Goals as goal

pub returns-in-Err-clause-err : goal.returns-in-Err-clause-err
returns-in-Err-clause-err g c =
    let old = g.D.Device.seen c.args.d.now in
    let log = log_in old c.args.shape c.args.slot.now c.args.triples.now in
    refused_after (g.D.Device.failed c.args.d.now) (g.D.Device.failed c.args.d.now) (g.D.Device.failed c.meet_all.new.d) (omega arith) (g.D.Device.honest c.args.d.now)
    (g.D.Device.honest c.args.d.now × KnowsAll log c.args.slot.now.first.0 (get nat_cmp c.in_ok-homes.homes)) log log c.in-Err.fault
    (λ claim. ((claim, c.in_ok-homes.ensures.ok old c.args.shape), refl)) (c.in-Err.ensures.err c.args.triples.now)

pub returns-in-Err-check_led-clause-err : goal.returns-in-Err-check_led-clause-err
returns-in-Err-check_led-clause-err g c =
    let old = g.D.Device.seen c.args.d.now in
    let mid = g.D.Device.seen c.meet_all.new.d in
    let log = log_in old c.args.shape c.args.slot.now c.args.triples.now in
    let log_mid = log_in mid c.args.shape c.args.slot.now c.args.triples.now in
    let quiet = c.in-Ok.ensures.quiet in
    refused_after (g.D.Device.failed c.args.d.now) (g.D.Device.failed c.meet_all.new.d) (g.D.Device.failed c.check_led.new.d) quiet.no_fewer_failures (g.D.Device.honest c.args.d.now)
    (g.D.Device.honest c.meet_all.new.d × IsScannedTo log_mid c.args.slot.now.end.0) log log_mid c.in-Err-check_led.fault
    (λ claim.
    let same : log_mid ≡ log = ap (λ image. log_in image c.args.shape c.args.slot.now c.args.triples.now) (quiet.same_bytes claim) in
    let met = c.in-Ok.ensures.ok c.args.triples.now claim (c.in_ok-homes.ensures.ok old c.args.shape) in
    ((quiet.premise.0 claim, subst (λ l. IsScannedTo l c.args.slot.now.end.0) (sym same) met.0), same)) c.in-Err-check_led.ensures.err

pub returns-clause-ok : goal.returns-clause-ok
returns-clause-ok g c = λ claim.
    let old = g.D.Device.seen c.args.d.now in
    let mid = g.D.Device.seen c.meet_all.new.d in
    let log = log_in old c.args.shape c.args.slot.now c.args.triples.now in
    let log_mid = log_in mid c.args.shape c.args.slot.now c.args.triples.now in
    let quiet = c.in-Ok.ensures.quiet in
    let same : log_mid ≡ log = ap (λ image. log_in image c.args.shape c.args.slot.now c.args.triples.now) (quiet.same_bytes claim) in
    let met = c.in-Ok.ensures.ok c.args.triples.now claim (c.in_ok-homes.ensures.ok old c.args.shape) in
    are_scanned log c.requires.in_log met.0 (subst (λ l. AreLed l (length c.args.triples.now)) same (c.in_default.ensures.ok (quiet.premise.0 claim)))
    (record { homes = c.meet_all.new.homes; newer = c.in-Ok.newer }) met.1 (c.in-Ok.ensures.newer c.args.triples.now claim)

pub returns-in-Err-check_led-clause-reads : goal.returns-in-Err-check_led-clause-reads
returns-in-Err-check_led-clause-reads g c =
    more_reads g.D.Device.refuses g.D.Device.expects c.args.d.now c.meet_all.new.d c.check_led.new.d c.in-Ok.ensures.reads c.in-Err-check_led.ensures.reads

pub returns-clause-reads : goal.returns-clause-reads
returns-clause-reads g c =
    more_reads g.D.Device.refuses g.D.Device.expects c.args.d.now c.meet_all.new.d c.check_led.new.d c.in-Ok.ensures.reads c.in_default.ensures.reads
