-- The queues that the loop has passed stand before.
use Rattle.std.proofs.Common.{◌≡◌, ◌<◌, ℕ, slice_get, Some}
use Rattle.fkv_playing.specs.Queues.{QueueState, rank_of}
use Rattle.fkv_playing.proofs.queues.place_of.Given as goal

abbrev pub invariant-loop-at : goal.invariant-loop-at
invariant-loop-at l = (k : ℕ) (queue : QueueState) → k < l.at → slice_get l.queues k ≡ Some queue → queue.rank < rank_of l.call
