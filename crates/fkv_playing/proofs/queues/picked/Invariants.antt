-- What was found has a step left, and while nothing is, the queues that the loop has passed have none.
use Rattle.std.proofs.Common.{◌≡◌, ◌<◌, ℕ, IfSome, IfNone, slice_get, Some, None}
use Rattle.fkv_playing.specs.Queues.{HasSteps, QueueState, next_step}
use Rattle.fkv_playing.proofs.queues.picked.Given as goal

abbrev pub invariant-loop-at : goal.invariant-loop-at
invariant-loop-at l = record {
  some : IfSome l.found (λ k. (queue : QueueState) × (slice_get l.queues k ≡ Some queue) × HasSteps queue);
  none : IfNone l.found ((k : ℕ) (queue : QueueState) → k < l.at → slice_get l.queues k ≡ Some queue → next_step queue ≡ None);
}
