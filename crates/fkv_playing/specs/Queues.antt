-- The calls of a group, by their actors.
use Rattle.std.specs.Prelude.{◌≡◌, ◌<◌, ℕ, ◌^◌, Bool, nat_eq, List, [], ◌∷◌, Option, Some, None, slice_get, filter}
use Rattle.fkv_playing.specs.declared.calls.ActorCall.{ActorCall}
use Rattle.fkv_playing.specs.declared.calls.ActorCall.TheVariants.{Session}
use Rattle.fkv_playing.specs.declared.calls.Outcome.{Outcome}
use Rattle.fkv_playing.specs.declared.calls.Outcome.TheVariants.{GoesOn}
use Rattle.fkv_playing.specs.declared.calls.Stage.{Stage}
use Rattle.fkv_playing.specs.declared.calls.Stage.TheVariants.{Begins, Moves}

-- the place of an actor among all: sessions by their numbers, and the keeper behind each of them
abbrev pub rank_of : ActorCall → ℕ
rank_of (Session number call) = number
rank_of other = 2 ^ 64

-- what is left of an actor's calls, behind the one that it has in hand
pub record QueueState : Type 0 where
  pub rank : ℕ
  pub hand : Option ActorCall
  pub left : List ActorCall

-- what comes next: the call in hand goes on, or the next one is begun
abbrev pub step_of : Option ActorCall → List ActorCall → Option (ActorCall × Stage)
step_of (Some call) left = Some (call, Moves)
step_of None [] = None
step_of None (call ∷ later) = Some (call, Begins)

abbrev pub next_step : QueueState → Option (ActorCall × Stage)
next_step queue = step_of queue.hand queue.left

-- behind it the call is in hand
abbrev pub held_by : ℕ → Option ActorCall → List ActorCall → QueueState
held_by rank None (call ∷ later) = record { rank = rank; hand = Some call; left = later }
held_by rank hand left = record { rank = rank; hand = hand; left = left }

abbrev pub held : QueueState → QueueState
held queue = held_by queue.rank queue.hand queue.left

-- a call that does not go on is in hand no more
abbrev pub given_up : QueueState → QueueState
given_up queue = record queue { hand = None }

abbrev pub queue_behind : Outcome → QueueState → QueueState
queue_behind GoesOn queue = queue
queue_behind other queue = given_up queue

-- this queue has a step left
abbrev pub HasSteps : QueueState → Type 0
HasSteps queue = (step : ActorCall × Stage) × (next_step queue ≡ Some step)

abbrev pub NobodyHasSteps : List QueueState → Type 0
NobodyHasSteps queues = (at : ℕ) (queue : QueueState) → slice_get queues at ≡ Some queue → next_step queue ≡ None

-- the calls of one actor, in their order
abbrev pub is_of : ℕ → ActorCall → Bool
is_of rank call = nat_eq (rank_of call) rank

-- A queue for each actor that has a call, by rank ascending, with its calls in their order, and with none in hand.
pub record AreQueuesOf (calls : List ActorCall) (queues : List QueueState) : Type 0 where
  pub rising : (lower upper : ℕ) (a b : QueueState) → lower < upper → slice_get queues lower ≡ Some a → slice_get queues upper ≡ Some b → a.rank < b.rank
  pub each : (at : ℕ) (queue : QueueState) → slice_get queues at ≡ Some queue → queue.left ≡ filter (is_of queue.rank) calls
  pub idle : (at : ℕ) (queue : QueueState) → slice_get queues at ≡ Some queue → queue.hand ≡ None
  pub all : (number : ℕ) (call : ActorCall) → slice_get calls number ≡ Some call → (at : ℕ) × (queue : QueueState) × (slice_get queues at ≡ Some queue) × (queue.rank ≡ rank_of call)
