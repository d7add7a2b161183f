use Rattle.std.proofs.Common.{◌≡◌, ap, subst, ◌∙◌}
use Rattle.fkv_disk.proofs.Shown.{more_reads}
use Rattle.fkv_scan.specs.Log.{log_in}
use Rattle.fkv_scan.specs.Scanned.{AreScanned}
use Rattle.fkv_newest.specs.Newest.{IsNewestOf}
use Rattle.fkv_opening.specs.Faults.{log_of, HasCheckpoint, IsSound, IsLogFault, IsFaultOf, of_log}
use Rattle.fkv_opening.proofs.Refusing.{of_the_triples, refused_after}
use Rattle.fkv_opening.proofs.recovery.open.Goals as goal

pub returns-in-Err-clause-err : goal.returns-in-Err-clause-err
returns-in-Err-clause-err g c =
    of_the_triples (g.D.Device.failed c.args.d.now) (g.D.Device.failed c.read_triples.new.d) (g.D.Device.honest c.args.d.now) (g.D.Device.seen c.args.d.now) c.args.newest c.in-Err.fault c.in-Err.ensures.err

pub returns-in-Err-check-clause-err : goal.returns-in-Err-check-clause-err
returns-in-Err-check-clause-err g c =
    let old = g.D.Device.seen c.args.d.now in
    let mid = g.D.Device.seen c.read_triples.new.d in
    let n = c.args.newest in
    let quiet = c.in-Ok.ensures.quiet in
    refused_after (g.D.Device.failed c.args.d.now) (g.D.Device.failed c.read_triples.new.d) (g.D.Device.failed c.check.new.d) quiet.no_fewer_failures
    (g.D.Device.honest c.args.d.now × IsNewestOf old n) (g.D.Device.honest c.read_triples.new.d) (IsFaultOf old) (IsLogFault (log_in mid n.shape n.slot c.deref.result.now))
    (λ p.
    let same : log_in mid n.shape n.slot c.deref.result.now ≡ log_of old n c.in-Ok.triples.items =
    ap (λ image. log_in image n.shape n.slot c.deref.result.now) (quiet.same_bytes p.0) ∙ ap (λ ts. log_in old n.shape n.slot ts) c.deref.ensures.value in
    let has : HasCheckpoint old n c.in-Ok.triples.items = record { newest = p.1; stored = c.in-Ok.ensures.ok p.0; apart = c.in-Ok.ensures.apart } in
    (quiet.premise.0 p.0, λ why found. of_log n c.in-Ok.triples.items has (subst (λ l. IsLogFault l why) same found)))
    c.in-Err-check.fault c.in-Err-check.ensures.err

pub returns-clause-ok : goal.returns-clause-ok
returns-clause-ok g c = λ claim is.
    let old = g.D.Device.seen c.args.d.now in
    let mid = g.D.Device.seen c.read_triples.new.d in
    let n = c.args.newest in
    let quiet = c.in-Ok.ensures.quiet in
    let same : log_in mid n.shape n.slot c.deref.result.now ≡ log_of old n c.in-Ok.triples.items =
    ap (λ image. log_in image n.shape n.slot c.deref.result.now) (quiet.same_bytes claim) ∙ ap (λ ts. log_in old n.shape n.slot ts) c.deref.ensures.value in
    let has : HasCheckpoint old n c.in-Ok.triples.items = record { newest = is; stored = c.in-Ok.ensures.ok claim; apart = c.in-Ok.ensures.apart } in
    let told = c.in-Ok-check.ensures.ok (quiet.premise.0 claim) in
    c.in_ok-opened.ensures.ok old c.in-Ok.triples.items has (subst (λ l. AreScanned l c.in-Ok-check.scanned) same told.0) (subst (λ l. IsSound l) same told.1)

pub returns-in-Err-check-clause-reads : goal.returns-in-Err-check-clause-reads
returns-in-Err-check-clause-reads g c =
    more_reads g.D.Device.refuses g.D.Device.expects c.args.d.now c.read_triples.new.d c.check.new.d c.in-Ok.ensures.reads c.in-Err-check.ensures.reads

pub returns-in_err-opened-clause-reads : goal.returns-in_err-opened-clause-reads
returns-in_err-opened-clause-reads g c =
    more_reads g.D.Device.refuses g.D.Device.expects c.args.d.now c.read_triples.new.d c.check.new.d c.in-Ok.ensures.reads c.in-Ok-check.ensures.reads

pub returns-clause-reads : goal.returns-clause-reads
returns-clause-reads g c =
    more_reads g.D.Device.refuses g.D.Device.expects c.args.d.now c.read_triples.new.d c.check.new.d c.in-Ok.ensures.reads c.in-Ok-check.ensures.reads
