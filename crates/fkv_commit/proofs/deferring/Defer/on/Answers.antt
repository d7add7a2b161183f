-- The raise inside stays at one of the eight slots.
use Rattle.fkv_epoch.proofs.Shown.{on_in_range}
use Rattle.fkv_commit.proofs.deferring.Defer.on.Goals as goal

pub invariant_of-self : goal.invariant_of-self
invariant_of-self c = rw c.raise.ensures.next (on_in_range _ c.self.invariant)
