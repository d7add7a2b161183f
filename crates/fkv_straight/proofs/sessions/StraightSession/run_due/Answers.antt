-- What its straight calls go by lasts.
use Rattle.fkv_straight.proofs.Goings.{some_on}
use Rattle.fkv_straight.proofs.sessions.StraightSession.run_due.Goals as goal

pub invariant_of-self : goal.invariant_of-self
invariant_of-self g c = some_on _ _ c.self.inside.going c.go_due.ensures.goes_by c.self.invariant
