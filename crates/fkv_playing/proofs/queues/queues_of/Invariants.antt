-- The queues are those of the calls that the loop has passed.
use Rattle.std.proofs.Common.{take}
use Rattle.fkv_playing.specs.Queues.{AreQueuesOf}
use Rattle.fkv_playing.proofs.queues.queues_of.Given as goal

abbrev pub invariant-loop-call : goal.invariant-loop-call
invariant-loop-call l = AreQueuesOf (take l.call-index l.calls) l.queues.items
