-- The load keeps the rule.
use Rattle.fkv_table.specs.Planes.{opening_of}
use Rattle.fkv_table.proofs.Seating.{may_sit}
use Rattle.fkv_table.proofs.desks.sit_down.Goals as goal

pub load-requires : goal.load-requires
load-requires g c = let t = c.requires.table in let f = c.requires.free in
    (t.0, t.1, may_sit (opening_of g.D.Device.seen) c.args.words.now.key c.args.words.now.table_id.slots c.args.seat.now.id c.args.seat.now.me f.0 f.1 f.2 f.3)
