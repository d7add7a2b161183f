-- The raise inside stays at one of the eight slots, and tells one of them.
use Rattle.fkv_epoch.proofs.Shown.{next_in_range, next_ask_in_range}
use Rattle.fkv_commit.proofs.deferring.Defer.drive.Goals as goal

pub invariant_of-self : goal.invariant_of-self
invariant_of-self c = rw c.drive-ask.ensures.next (next_in_range _ _ c.self.invariant)

pub invariant_of-self-in-Raises : goal.invariant_of-self-in-Raises
invariant_of-self-in-Raises c = rw c.drive-ask-in-Raises.ensures.next (next_in_range _ _ c.self.invariant)

pub after_raise-requires : goal.after_raise-requires
after_raise-requires c = rw c.drive-ask-in-Raises.ensures.ask (next_ask_in_range _ _ c.self.invariant)
