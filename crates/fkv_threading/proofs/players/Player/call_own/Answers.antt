-- The call is one more that the session has made of itself.
use Rattle.fkv_threads.specs.Below.fkv_table.Planes.{opening_of}
use Rattle.fkv_threading.proofs.Told.{told_own}
use Rattle.fkv_threading.proofs.players.Player.call_own.Goals as goal

pub invariant_of-next : goal.invariant_of-next
invariant_of-next g c = told_own (opening_of g.D.Device.seen) c.self.inside.seat c.make.new.seat c.self.inside.point c.self.inside.calls.items _ c.self.inside.log c.make.new.log c.args.call c.in_ok-answer.answer c.in_ok-answer.ensures.ok c.requires c.self.invariant
