-- The queues that the loop has passed have no call in hand, and the others are as they were.
use Rattle.std.proofs.Common.{◌≡◌, ◌++◌, map, take, drop}
use Rattle.fkv_playing.specs.Queues.{given_up}
use Rattle.fkv_playing.proofs.queues.give_up.Given as goal

abbrev pub invariant-loop-queue : goal.invariant-loop-queue
invariant-loop-queue l = l.queue-items ≡ map given_up (take l.queue-index l.fn.queues.items) ++ drop l.queue-index l.fn.queues.items
