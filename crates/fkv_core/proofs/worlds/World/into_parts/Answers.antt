-- The sessions are seated as the world's invariant says.
use Rattle.fkv_core.proofs.worlds.World.into_parts.Goals as goal

pub returns-clause-seats : goal.returns-clause-seats
returns-clause-seats g c = rw (← c.self.view_is) c.self.invariant
