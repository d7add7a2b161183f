use Rattle.std.proofs.Common.{List, ◌∷◌, ap, length, true, ◌∙◌}
use Rattle.fkv_disk.specs.Kinds.{Foretold, Kind, Syncing}
use Rattle.fkv_creating.proofs.Moving.{one_write, and_sync}
use Rattle.fkv_creating.proofs.creating.write_synced.Goals as goal

pub returns-in_err-write-clause-moments : goal.returns-in_err-write-clause-moments
returns-in_err-write-clause-moments g c = λ claim.
    one_write g.D.Device.may_leave g.D.Device.moment g.D.Device.left_since c.args.d.now c.write.new.self c.args.at (length c.args.bytes.now)
    (λ image left. g.met.D.Device.only_now c.args.d.now image claim left) (c.write.ensures.time claim) (c.write.ensures.crash claim)

pub returns-in_err-sync-clause-moments : goal.returns-in_err-sync-clause-moments
returns-in_err-sync-clause-moments g c = λ claim.
    let claim1 = c.in_ok-write.ensures.honest.0 claim in
    let so_far = one_write g.D.Device.may_leave g.D.Device.moment g.D.Device.left_since c.args.d.now c.write.new.self c.args.at (length c.args.bytes.now)
    (λ image left. g.met.D.Device.only_now c.args.d.now image claim left) (c.in_ok-write.ensures.time claim) (c.in_ok-write.ensures.crash claim) in
    and_sync g.D.Device.may_leave g.D.Device.moment g.D.Device.left_since c.args.d.now c.write.new.self c.sync.new.self c.args.at (length c.args.bytes.now) so_far (c.in_ok-write.ensures.crash claim)
    (c.sync.ensures.time claim1) (c.sync.ensures.crash claim1)

pub returns-clause-moments : goal.returns-clause-moments
returns-clause-moments g c = λ claim.
    let claim1 = c.in_ok-write.ensures.honest.0 claim in
    let so_far = one_write g.D.Device.may_leave g.D.Device.moment g.D.Device.left_since c.args.d.now c.write.new.self c.args.at (length c.args.bytes.now)
    (λ image left. g.met.D.Device.only_now c.args.d.now image claim left) (c.in_ok-write.ensures.time claim) (c.in_ok-write.ensures.crash claim) in
    and_sync g.D.Device.may_leave g.D.Device.moment g.D.Device.left_since c.args.d.now c.write.new.self c.sync.new.self c.args.at (length c.args.bytes.now) so_far (c.in_ok-write.ensures.crash claim)
    (c.in_ok-sync.ensures.time claim1) (c.in_ok-sync.ensures.crash claim1)

pub returns-clause-kinds : goal.returns-clause-kinds
returns-clause-kinds g c = λ later.
    ap (λ (says : List Kind → Foretold). says later) c.in_ok-sync.ensures.kind ∙ ap (λ (says : List Kind → Foretold). says (Syncing true ∷ later)) c.in_ok-write.ensures.kind
