-- How an offset is moved that the protected sessions have to see.
use Rattle.std.specs.Prelude.{◌≡◌, ℕ, ◌+◌, ◌-◌, ◌*◌, ◌^◌, min, false, ⊤}
use Rattle.fkv_base.specs.Limits.{drain_slots}
use Rattle.fkv_plane.specs.declared.actions.Action.{Action}
use Rattle.fkv_plane.specs.declared.actions.Action.TheVariants.{SafeReadOnly, Close}
use Rattle.fkv_plane.specs.declared.asks.Ask.{Ask}
use Rattle.fkv_plane.specs.declared.asks.Ask.TheVariants.{Max, Put, Done}
use Rattle.fkv_plane.specs.declared.places.SharedWord.TheVariants as one
use Rattle.fkv_plane.specs.Places.{shared_place}
use Rattle.fkv_plane.specs.Passing.{passed, is_done}
use Rattle.fkv_epoch.specs.declared.raising.RaiseAnswer.{RaiseAnswer}
use Rattle.fkv_epoch.specs.declared.raising.RaiseAnswer.TheVariants as raised
use Rattle.fkv_epoch.specs.declared.raising.Raising.{Raising}
use Rattle.fkv_epoch.specs.declared.raising.Raising.TheVariants as raise
use Rattle.fkv_epoch.specs.declared.arming.Arming.{Arming}
use Rattle.fkv_epoch.specs.declared.arming.Arming.TheVariants as arm
use Rattle.fkv_epoch.specs.Raising.{raise_ask, raise_next, raise_next_ask, raise_on, raise_asks_left, raise_asks_later}
use Rattle.fkv_epoch.specs.Arming.{arm_ask, arm_next, arm_asks_left}
use Rattle.fkv_log.specs.declared.moving.MoveAnswer.{MoveAnswer}
use Rattle.fkv_log.specs.declared.moving.MoveAnswer.TheVariants as answer
use Rattle.fkv_log.specs.declared.moving.Offset.{Offset}
use Rattle.fkv_log.specs.declared.moving.Offset.TheVariants.{ReadOnly, Head}
use Rattle.fkv_log.specs.declared.moving.Target.{Target}
use Rattle.fkv_log.specs.declared.moving.Moving.{Moving}
use Rattle.fkv_log.specs.declared.moving.Moving.TheVariants.{AtRest, Raises, MovesOffset, Puts, Arms}

-- its own step, and the steps of the machines inside it
pub record Mover : Type 0 where
  pub step : Moving
  pub raising : Raising
  pub arming : Arming

abbrev pub mover : Moving → Raising → Arming → Mover
mover step raising arming = record { step = step; raising = raising; arming = arming }

-- nothing of a move is under way
abbrev pub move_at_rest : Mover
move_at_rest = mover AtRest raise.AtRest arm.AtRest

-- It has begun to seek a slot. Nothing is left of an earlier move.
abbrev pub move_begun : Offset → ℕ → Mover
move_begun offset to = mover (Raises (record { offset = offset; to = to })) raise.LoadsEpoch arm.AtRest

abbrev pub offset_place : Offset → ℕ
offset_place ReadOnly = shared_place one.ReadOnly
offset_place Head = shared_place one.Head

-- the action that waits until all have seen the offset
abbrev pub action_awaited : Offset → ℕ → Action
action_awaited ReadOnly to = SafeReadOnly (record { 0 = to })
action_awaited Head to = Close (record { 0 = to })

-- a slot's word holds the epoch and 2, and epochs stay far below the end
abbrev pub armed_epoch : ℕ → ℕ
armed_epoch epoch = min epoch (2 ^ 64 - 3)

-- what each state asks
unfoldable pub moving_ask : Moving → Raising → Arming → Ask MoveAnswer
moving_ask AtRest raising arming = Done answer.Through
moving_ask (Raises target) raising arming = passed (raise_ask raising) answer.Through
moving_ask (MovesOffset target) raising arming = Max (offset_place target.offset) target.to
moving_ask (Puts target slot) raising arming = Put slot (action_awaited target.offset target.to)
moving_ask Arms raising arming = passed (arm_ask arming) answer.Through

abbrev pub move_ask : Mover → Ask MoveAnswer
move_ask m = moving_ask m.step m.raising m.arming

-- By what the raise asks next: once it has a slot the offset is moved, and once the epoch is raised the action is put into the slot.
unfoldable pub raise_led : Target → Raising → Arming → Ask RaiseAnswer → Mover
raise_led target raising arming (Done (raised.HasSlot slot)) = mover (MovesOffset target) raising arming
raise_led target raising arming (Done raised.NoSlot) = mover AtRest raising arming
raise_led target raising arming (Done raised.Spent) = mover AtRest raising arming
raise_led target raising arming (Done (raised.Raised slot epoch)) = mover (Puts target slot) raising (arm.PutsAction slot (armed_epoch epoch))
raise_led target raising arming ask = mover (Raises target) raising arming

-- by what the arming asks next: the move is at rest once the slot is armed
unfoldable pub arm_led : Raising → Arming → Ask (Unit {0}) → Mover
arm_led raising arming (Done inner) = mover AtRest raising arming
arm_led raising arming ask = mover Arms raising arming

-- Where the reply leads. The raise gets the replies while it is under way, and goes on once the offset is moved.
unfoldable pub moving_next : Moving → Raising → Arming → ℕ → Mover
moving_next AtRest raising arming reply = mover AtRest raising arming
moving_next (Raises target) raising arming reply = raise_led target (raise_next raising reply) arming (raise_next_ask raising reply)
moving_next (MovesOffset target) raising arming reply = raise_led target (raise_on raising) arming (raise_ask (raise_on raising))
moving_next (Puts target slot) raising arming reply = arm_led raising (arm_next arming) (arm_ask (arm_next arming))
moving_next Arms raising arming reply = arm_led raising (arm_next arming) (arm_ask (arm_next arming))

abbrev pub move_next : Mover → ℕ → Mover
move_next m reply = moving_next m.step m.raising m.arming reply

-- where the raise ends with no slot or at the last epoch the move tells so; else what the next state asks
unfoldable pub raise_told : Ask RaiseAnswer → Mover → Ask MoveAnswer
raise_told (Done raised.NoSlot) next = Done answer.NoSlot
raise_told (Done raised.Spent) next = Done answer.Spent
raise_told ask next = move_ask next

-- what is asked next: at an end its answer, and else what the next state asks
unfoldable pub moving_next_ask : Moving → Raising → Arming → ℕ → Ask MoveAnswer
moving_next_ask (Raises target) raising arming reply = raise_told (raise_next_ask raising reply) (moving_next (Raises target) raising arming reply)
moving_next_ask (MovesOffset target) raising arming reply = raise_told (raise_ask (raise_on raising)) (moving_next (MovesOffset target) raising arming reply)
moving_next_ask step raising arming reply = move_ask (moving_next step raising arming reply)

abbrev pub move_next_ask : Mover → ℕ → Ask MoveAnswer
move_next_ask m reply = moving_next_ask m.step m.raising m.arming reply

-- the raise inside asks while it is driven
abbrev pub RaiseAsks : Moving → Raising → Type 0
RaiseAsks (Raises target) raising = is_done (raise_ask raising) ≡ false
RaiseAsks step raising = ⊤

-- Asks up to where the slot is armed: those of the raise, of which the one that comes later has the offset's before it, and the two of the arming.
abbrev pub armed_within : Raising → ℕ
armed_within raising = raise_asks_left raising + 2 * raise_asks_later raising + 2

-- how many asks it has left, at most
unfoldable pub moving_asks_left : Moving → Raising → Arming → ℕ
moving_asks_left AtRest raising arming = 0
moving_asks_left (Raises target) raising arming = armed_within raising
moving_asks_left (MovesOffset target) raising arming = armed_within (raise_on raising) + 1
moving_asks_left (Puts target slot) raising arming = arm_asks_left (arm_next arming) + 1
moving_asks_left Arms raising arming = arm_asks_left arming

abbrev pub move_asks_left : Mover → ℕ
move_asks_left m = moving_asks_left m.step m.raising m.arming

-- how many a whole move makes, at most: one loads the epoch, two meet each slot; then come the offset's, the epoch's and the two of the arming
abbrev pub move_asks_most : ℕ
move_asks_most = 2 * drain_slots + 5
