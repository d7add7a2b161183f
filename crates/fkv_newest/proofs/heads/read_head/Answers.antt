use Rattle.std.proofs.Common.{true}
use Rattle.fkv_disk.proofs.Shown.{one_sync, one_read, reads_behind}
use Rattle.fkv_newest.proofs.Counting.{two_passed, second_failed}
use Rattle.fkv_newest.proofs.heads.read_head.Goals as goal

pub returns-in_err-read-clause-counted : goal.returns-in_err-read-clause-counted
returns-in_err-read-clause-counted g c =
    second_failed (g.D.Device.refuses c.args.d.now) (g.D.Device.refuses c.sync.new.self) (g.D.Device.refuses c.read.new.self) c.in_ok-sync.field-0 c.read.result c.from_residual-in_err-read.result _ c.from_residual-in_err-read.ensures.1
    c.in_ok-sync.ensures.counted c.read.ensures.counted

pub returns-clause-counted : goal.returns-clause-counted
returns-clause-counted g c =
    two_passed (g.D.Device.refuses c.args.d.now) (g.D.Device.refuses c.sync.new.self) (g.D.Device.refuses c.read.new.self) c.in_ok-sync.field-0 c.in_ok-read.field-0 _
    c.in_ok-sync.ensures.counted c.in_ok-read.ensures.counted

pub returns-in_err-sync-clause-asked : goal.returns-in_err-sync-clause-asked
returns-in_err-sync-clause-asked g c =
    one_sync g.D.Device.refuses g.D.Device.expects c.args.d.now c.sync.new.self _ c.sync.ensures.counted.counted c.sync.ensures.kind

pub returns-in_err-read-clause-asked : goal.returns-in_err-read-clause-asked
returns-in_err-read-clause-asked g c =
    reads_behind g.D.Device.refuses g.D.Device.expects c.args.d.now c.sync.new.self c.read.new.self (one_sync g.D.Device.refuses g.D.Device.expects c.args.d.now c.sync.new.self true c.in_ok-sync.ensures.counted.counted c.in_ok-sync.ensures.kind)
    (one_read g.D.Device.refuses g.D.Device.expects c.sync.new.self c.read.new.self c.read.ensures.counted.counted c.read.ensures.kind)

pub returns-clause-asked : goal.returns-clause-asked
returns-clause-asked g c =
    reads_behind g.D.Device.refuses g.D.Device.expects c.args.d.now c.sync.new.self c.read.new.self (one_sync g.D.Device.refuses g.D.Device.expects c.args.d.now c.sync.new.self true c.in_ok-sync.ensures.counted.counted c.in_ok-sync.ensures.kind)
    (one_read g.D.Device.refuses g.D.Device.expects c.sync.new.self c.read.new.self c.in_ok-read.ensures.counted.counted c.in_ok-read.ensures.kind)
