-- Calls of several actors, interleaved.
use Rattle.std.specs.Prelude.{◌≡◌, ℕ, Bool, true, false, if◌then◌else◌, nat_lt, List, map, length, Option, Some, None, slice_get, slice_set}
use Rattle.fkv_base.specs.declared.faults.Fault.TheVariants.{NoSession}
use Rattle.fkv_core.specs.Worlds.{WorldModel}
use Rattle.fkv_core.specs.declared.events.Event.{Event}
use Rattle.fkv_core.specs.declared.events.Told.{Told}
use Rattle.fkv_texts.specs.Refusals.{session_refusal}
use Rattle.fkv_playing.specs.Beats.{IsBeat}
use Rattle.fkv_playing.specs.InTurn.{InTurn}
use Rattle.fkv_playing.specs.Players.{PlayerState}
use Rattle.fkv_playing.specs.Queues.{QueueState, NobodyHasSteps, given_up, held, next_step, queue_behind}
use Rattle.fkv_playing.specs.Seats.{SeatState}
use Rattle.fkv_playing.specs.declared.calls.ActorCall.{ActorCall}
use Rattle.fkv_playing.specs.declared.calls.ActorCall.TheVariants.{Session}
use Rattle.fkv_playing.specs.declared.calls.Outcome.{Outcome}
use Rattle.fkv_playing.specs.declared.calls.Outcome.TheVariants.{Answered, Struck}
use Rattle.fkv_playing.specs.declared.calls.Stage.{Stage}
use Rattle.fkv_playing.specs.declared.calls.Telling.TheVariants.{Whole}

-- the session that a call names, where the store hasn't it
abbrev pub missing_session : List SeatState → ActorCall → Option ℕ
missing_session seats (Session number call) = if nat_lt number (length seats) then None else Some number
missing_session seats other = None

-- A call of a session that the store hasn't is refused, and is over with that. Any other one's step is a beat.
abbrev pub IsBeatOf : {D : Type 0} → (Event → WorldModel D → WorldModel D → Option Told → Bool → Type 0) → ActorCall → Stage → PlayerState D → PlayerState D → Outcome → List ℕ → Option ℕ → Type 0
IsBeatOf engine call stage before after outcome text (Some number) = (after ≡ before) × (outcome ≡ Answered) × (text ≡ session_refusal number NoSession)
IsBeatOf engine call stage before after outcome text None = IsBeat engine Whole call stage before after outcome text

-- the player of a group, and the queues of its actors
pub record GroupState (D : Type 0) : Type 0 where
  pub player : PlayerState D
  pub queues : List QueueState

abbrev pub is_struck_by : Outcome → Bool
is_struck_by Struck = true
is_struck_by other = false

-- The actor whose queue stands at this place has a step left, and makes it; whether a crash has struck in it.
pub record IsPick {D : Type 0} (engine : Event → WorldModel D → WorldModel D → Option Told → Bool → Type 0) (at : ℕ) (before after : GroupState D) (struck : Bool) (text : List ℕ) : Type 0 where
  pub queue : QueueState
  pub stands : slice_get before.queues at ≡ Some queue
  pub call : ActorCall
  pub stage : Stage
  pub has_step : next_step queue ≡ Some (call, stage)
  pub outcome : Outcome
  pub beat : IsBeatOf engine call stage before.player after.player outcome text (missing_session before.player.seats call)
  pub ends : struck ≡ is_struck_by outcome
  pub queues : after.queues ≡ slice_set before.queues at (queue_behind outcome (held queue))

-- Somebody who has a step left is picked again and again, until nobody has one, or a crash strikes; then each call in hand is given up.
abbrev pub queues_behind : Bool → List QueueState → List QueueState
queues_behind true queues = map given_up queues
queues_behind false queues = queues

pub record IsGroup {D : Type 0} (engine : Event → WorldModel D → WorldModel D → Option Told → Bool → Type 0) (before after : GroupState D) (struck : Bool) (text : List ℕ) : Type 0 where
  pub picks : List ℕ
  pub last : List QueueState
  pub played : InTurn (IsPick engine) false picks before (record after { queues = last }) struck text
  pub over : struck ≡ false → NobodyHasSteps last
  pub queues : after.queues ≡ queues_behind struck last
