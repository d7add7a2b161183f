use Rattle.std.proofs.Common.{◌≡◌, sym, subst}
use Rattle.fkv_disk.proofs.Shown.{reads_behind, quiet_on}
use Rattle.fkv_newest.specs.Newest.{IsNewestOf}
use Rattle.fkv_opening.specs.declared.opened_store.Opened.{Opened}
use Rattle.fkv_opening.specs.Faults.{IsFaultOf}
use Rattle.fkv_opening.specs.Opened.{IsStoreOf}
use Rattle.fkv_opening.proofs.Ending.{front_there, front_behind}
use Rattle.fkv_opening.proofs.Exact.{Apart, no_fault}
use Rattle.fkv_opening.proofs.Refusing.{of_the_newest, refused_after}
use Rattle.fkv_opening.proofs.recovery.recover.Goals as goal

pub returns-in-Err-clause-err : goal.returns-in-Err-clause-err
returns-in-Err-clause-err g c =
    of_the_newest (g.D.Device.failed c.args.d.now) (g.D.Device.failed c.read_newest.new.d) (g.D.Device.honest c.args.d.now) (g.D.Device.seen c.args.d.now) c.in-Err.fault c.in-Err.ensures.err

pub returns-in-Ok-open-clause-exact : goal.returns-in-Ok-open-clause-exact
returns-in-Ok-open-clause-exact g c = λ claim why found.
    let old = g.D.Device.seen c.args.d.now in
    let mid = g.D.Device.seen c.read_newest.new.d in
    let quiet = c.in-Ok.ensures.quiet in
    let same : mid ≡ old = quiet.same_bytes claim in
    let store : IsStoreOf old c.in-Ok-open.opened = subst (λ image. IsStoreOf image c.in-Ok-open.opened) same
    (c.in-Ok-open.ensures.ok (quiet.premise.0 claim) (subst (λ image. IsNewestOf image c.in-Ok.newest) (sym same) (c.in-Ok.ensures.ok claim))) in
    let spellings = c.law_spellings_apart.ensures in
    let apart : Apart = record { records = spellings.records; triples = spellings.triples; shapes = spellings.shapes; slots = c.law_formats_apart.ensures } in
    no_fault apart old store.newest store.triples store.checkpoint store.sound why found

pub returns-in-Ok-open-clause-quiet : goal.returns-in-Ok-open-clause-quiet
returns-in-Ok-open-clause-quiet g c =
    quiet_on g.D.Device.honest g.D.Device.seen g.D.Device.may_leave g.D.Device.moment g.D.Device.left_since g.D.Device.failed c.args.d.now c.read_newest.new.d c.open.new.d c.in-Ok.ensures.quiet c.in-Ok-open.ensures.quiet

pub returns-in-Err-open-clause-err : goal.returns-in-Err-open-clause-err
returns-in-Err-open-clause-err g c =
    let old = g.D.Device.seen c.args.d.now in
    let mid = g.D.Device.seen c.read_newest.new.d in
    let quiet = c.in-Ok.ensures.quiet in
    refused_after (g.D.Device.failed c.args.d.now) (g.D.Device.failed c.read_newest.new.d) (g.D.Device.failed c.open.new.d) quiet.no_fewer_failures
    (g.D.Device.honest c.args.d.now) (g.D.Device.honest c.read_newest.new.d × IsNewestOf mid c.in-Ok.newest) (IsFaultOf old) (IsFaultOf mid)
    (λ claim.
    let same : mid ≡ old = quiet.same_bytes claim in
    ((quiet.premise.0 claim, subst (λ image. IsNewestOf image c.in-Ok.newest) (sym same) (c.in-Ok.ensures.ok claim)), λ why found. subst (λ image. IsFaultOf image why) same found))
    c.in-Err-open.fault c.in-Err-open.ensures.err

pub returns-in-Err-clause-front : goal.returns-in-Err-clause-front
returns-in-Err-clause-front g c = λ claim. front_there Opened (g.D.Device.refuses c.args.d.now) (g.D.Device.refuses c.read_newest.new.d) c.in-Err.fault c.in-Err.ensures.counted

pub returns-in-Err-open-clause-front : goal.returns-in-Err-open-clause-front
returns-in-Err-open-clause-front g c = λ claim.
    let mid = g.D.Device.seen c.read_newest.new.d in
    let quiet = c.in-Ok.ensures.quiet in
    let told : IsNewestOf mid c.in-Ok.newest = subst (λ image. IsNewestOf image c.in-Ok.newest) (sym (quiet.same_bytes claim)) (c.in-Ok.ensures.ok claim) in
    front_behind c.law_spellings_apart.ensures.shapes mid c.in-Ok.newest told Opened (g.D.Device.refuses c.args.d.now) (g.D.Device.refuses c.open.new.d)
    (g.D.Device.failed c.read_newest.new.d) (g.D.Device.failed c.open.new.d) (g.D.Device.honest c.read_newest.new.d × IsNewestOf mid c.in-Ok.newest)
    (quiet.premise.0 claim, told) c.in-Err-open.fault c.in-Err-open.ensures.err

pub returns-in-Ok-open-clause-asked : goal.returns-in-Ok-open-clause-asked
returns-in-Ok-open-clause-asked g c =
    reads_behind g.D.Device.refuses g.D.Device.expects c.args.d.now c.read_newest.new.d c.open.new.d c.in-Ok.ensures.asked c.in-Ok-open.ensures.reads

pub returns-in-Err-open-clause-asked : goal.returns-in-Err-open-clause-asked
returns-in-Err-open-clause-asked g c =
    reads_behind g.D.Device.refuses g.D.Device.expects c.args.d.now c.read_newest.new.d c.open.new.d c.in-Ok.ensures.asked c.in-Err-open.ensures.reads
