use Rattle.std.proofs.Common.{◌≡◌, refl, sym, ap, subst}
use Rattle.fkv_disk.proofs.Shown.{more_reads}
use Rattle.fkv_scan.specs.Log.{log_in}
use Rattle.fkv_scan.specs.Scanned.{AreScanned}
use Rattle.fkv_chains.specs.Chains.{HasChains}
use Rattle.fkv_opening.proofs.Refusing.{of_the_room}
use Rattle.fkv_opening.proofs.checking.check.Goals as goal

pub returns-in-Err-check_room-clause-err : goal.returns-in-Err-check_room-clause-err
returns-in-Err-check_room-clause-err g c =
    let log = log_in (g.D.Device.seen c.args.d.now) c.args.shape c.args.slot.now c.args.triples.now in
    let log_mid = log_in (g.D.Device.seen c.scan.new.d) c.args.shape c.args.slot.now c.args.triples.now in
    let quiet = c.in-Ok.ensures.quiet in
    of_the_room (g.D.Device.failed c.args.d.now) (g.D.Device.failed c.check_chains.new.d) (g.D.Device.honest c.args.d.now) log c.args.shape c.in-Ok.scanned c.in-Err-check_room.fault
    (λ claim.
    let same : log_mid ≡ log = ap (λ image. log_in image c.args.shape c.args.slot.now c.args.triples.now) (quiet.same_bytes claim) in
    let scanned = c.in-Ok.ensures.ok claim in
    let chained = subst (λ l. HasChains l) same (c.in_default.ensures.ok (quiet.premise.0 claim) (subst (λ l. AreScanned l c.in-Ok.scanned) (sym same) scanned)) in
    (refl, record { below = c.requires.in_log; scanned = scanned; chained = chained }))
    (c.in-Err-check_room.ensures.err log)

pub returns-clause-ok : goal.returns-clause-ok
returns-clause-ok g c = λ claim.
    let log = log_in (g.D.Device.seen c.args.d.now) c.args.shape c.args.slot.now c.args.triples.now in
    let log_mid = log_in (g.D.Device.seen c.scan.new.d) c.args.shape c.args.slot.now c.args.triples.now in
    let quiet = c.in-Ok.ensures.quiet in
    let same : log_mid ≡ log = ap (λ image. log_in image c.args.shape c.args.slot.now c.args.triples.now) (quiet.same_bytes claim) in
    let scanned = c.in-Ok.ensures.ok claim in
    let chained = subst (λ l. HasChains l) same (c.in_default.ensures.ok (quiet.premise.0 claim) (subst (λ l. AreScanned l c.in-Ok.scanned) (sym same) scanned)) in
    let room = c.in_default-check_room.ensures.ok log refl (record { below = c.requires.in_log; scanned = scanned; chained = chained }) in
    (scanned, record { scan = scanned.sound; chains = chained; room = room })

pub returns-in-Err-check_chains-clause-reads : goal.returns-in-Err-check_chains-clause-reads
returns-in-Err-check_chains-clause-reads g c =
    more_reads g.D.Device.refuses g.D.Device.expects c.args.d.now c.scan.new.d c.check_chains.new.d c.in-Ok.ensures.reads c.in-Err-check_chains.ensures.reads

pub returns-in-Err-check_room-clause-reads : goal.returns-in-Err-check_room-clause-reads
returns-in-Err-check_room-clause-reads g c =
    more_reads g.D.Device.refuses g.D.Device.expects c.args.d.now c.scan.new.d c.check_chains.new.d c.in-Ok.ensures.reads c.in_default.ensures.reads

pub returns-clause-reads : goal.returns-clause-reads
returns-clause-reads g c =
    more_reads g.D.Device.refuses g.D.Device.expects c.args.d.now c.scan.new.d c.check_chains.new.d c.in-Ok.ensures.reads c.in_default.ensures.reads
