use Rattle.fkv_newest.proofs.Refusing.{refused_of}
use Rattle.fkv_newest.proofs.reading.read_newest.Goals as goal

pub returns-clause-err : goal.returns-clause-err
returns-clause-err g c =
    refused_of (g.D.Device.failed c.args.d.now) (g.D.Device.failed c.read_head.new.d) (g.D.Device.honest c.args.d.now) (g.D.Device.seen c.args.d.now) c.in_ok-head.head c.in_ok-head.ensures.ok c.newest_in.result
    (c.newest_in.ensures.err (g.D.Device.seen c.args.d.now))
