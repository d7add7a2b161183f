-- The raise inside has begun, and so asks.
use Rattle.std.proofs.Common.{refl, arith}
use Rattle.fkv_epoch.specs.Raising.{raise_ask, raise_asks_left, raise_asks_later}
use Rattle.fkv_log.specs.Moving.{moving_asks_left}
use Rattle.fkv_log.proofs.moving.MoveOffset.start.Goals as goal

pub invariant_of-self : goal.invariant_of-self
unfolding raise_ask
invariant_of-self c = rw c.start.ensures.next (tt, refl)

pub returns-clause-bounded : goal.returns-clause-bounded
unfolding moving_asks_left raise_asks_left raise_asks_later
returns-clause-bounded c = rw c.start.ensures.next (omega arith)
