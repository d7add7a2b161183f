-- Before its first call a session was told nothing.
use Rattle.fkv_threads.specs.Below.fkv_table.Planes.{opening_of}
use Rattle.fkv_threading.proofs.Told.{told_nothing}
use Rattle.fkv_threading.proofs.playing.player_of.Goals as goal

pub invariant_of-result : goal.invariant_of-result
invariant_of-result g c = let log = c.new.ensures in told_nothing (opening_of g.D.Device.seen) (record { key = c.args.seat.key; number = c.args.seat.number; point = c.args.point; calls = c.args.calls.items }) c.new.result c.args.seat.seen c.requires log.first log.accepted log.told log.durable
