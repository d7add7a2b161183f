use Rattle.std.proofs.Common.{length}
use Rattle.fkv_renewing.proofs.Moving.{one_write, one_synced}
use Rattle.fkv_renewing.proofs.writing.write_synced.Goals as goal

pub returns-in_err-write-clause-moments : goal.returns-in_err-write-clause-moments
returns-in_err-write-clause-moments g c = λ claim.
    let d = g.D.Device in
    one_write d.may_leave d.moment d.left_since c.args.d.now c.args.at (length c.args.bytes.now) (λ image left. g.met.D.Device.only_now c.args.d.now image claim left) c.write.new.self (c.write.ensures.time claim) (c.write.ensures.crash claim)

pub returns-in_err-sync-clause-moments : goal.returns-in_err-sync-clause-moments
returns-in_err-sync-clause-moments g c = λ claim.
    let d = g.D.Device in
    one_synced d.may_leave d.moment d.left_since c.args.d.now c.args.at (length c.args.bytes.now) (λ image left. g.met.D.Device.only_now c.args.d.now image claim left) c.write.new.self (c.in_ok-write.ensures.time claim) (c.in_ok-write.ensures.crash claim)
    c.sync.new.self (c.sync.ensures.time (c.in_ok-write.ensures.honest.0 claim)) (c.sync.ensures.crash (c.in_ok-write.ensures.honest.0 claim))

pub returns-clause-moments : goal.returns-clause-moments
returns-clause-moments g c = λ claim.
    let d = g.D.Device in
    one_synced d.may_leave d.moment d.left_since c.args.d.now c.args.at (length c.args.bytes.now) (λ image left. g.met.D.Device.only_now c.args.d.now image claim left) c.write.new.self (c.in_ok-write.ensures.time claim) (c.in_ok-write.ensures.crash claim)
    c.sync.new.self (c.in_ok-sync.ensures.time (c.in_ok-write.ensures.honest.0 claim)) (c.in_ok-sync.ensures.crash (c.in_ok-write.ensures.honest.0 claim))
