-- What its straight calls go by lasts, and where something is left of the call the machine would begin it alike.
use Rattle.fkv_map.specs.declared.operations.Call.TheVariants as call
use Rattle.fkv_straight.proofs.Endings.{begun_alike}
use Rattle.fkv_straight.proofs.Goings.{some_on}
use Rattle.fkv_straight.proofs.sessions.StraightSession.run_hot.Goals as goal

pub invariant_of-self : goal.invariant_of-self
invariant_of-self g c = some_on _ _ c.self.inside.going c.go_hot-straight.ensures.goes_by c.self.invariant

pub invariant_of-self-2 : goal.invariant_of-self-2
invariant_of-self-2 g c = some_on _ _ c.self.inside.going c.go_hot-straight.ensures.goes_by c.self.invariant

pub returns-in-Err-clause-begins : goal.returns-in-Err-clause-begins
returns-in-Err-clause-begins g c = λ due is.
    begun_alike c.args.self.now.seat (g.L.Line.seat c.args.line.now) c.args.self.now.state (g.L.Line.stands c.args.line.now) (call.Op c.args.op) c.requires.seat
    (c.law_of_standing.ensures.begins c.args.self.now.seat c.args.self.now.state (g.L.Line.stands c.args.line.now) (call.Op c.args.op) c.requires.alike)
