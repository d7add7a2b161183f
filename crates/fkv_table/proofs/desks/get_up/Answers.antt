-- The load keeps the rule.
use Rattle.fkv_table.specs.Planes.{opening_of}
use Rattle.fkv_table.proofs.Seating.{may_rise}
use Rattle.fkv_table.proofs.desks.get_up.Goals as goal

pub load-requires : goal.load-requires
load-requires g c = let t = c.requires.table in let d = c.requires.desk in
    (t.0, t.1, may_rise (opening_of g.D.Device.seen) c.args.words.now.key c.args.words.now.table_id.slots c.args.seat.now.id c.args.seat.now.me d.0 d.1 d.2 d.3)
