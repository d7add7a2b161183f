-- How the read-only offset is shifted, so that so many pages of the log stay mutable.
use Rattle.std.specs.Prelude.{◌≡◌, ◌<◌, ◌≤◌, ℕ, ◌+◌, ◌-◌, ◌*◌, ◌/◌, false, nat_lt, if◌then◌else◌}
use Rattle.fkv_base.specs.declared.shapes.Shape.{Shape}
use Rattle.fkv_plane.specs.declared.asks.Ask.{Ask}
use Rattle.fkv_plane.specs.declared.asks.Ask.TheVariants.{Load, Done}
use Rattle.fkv_plane.specs.declared.places.SharedWord.TheVariants as one
use Rattle.fkv_plane.specs.Places.{shared_place}
use Rattle.fkv_plane.specs.Passing.{passed, is_done}
use Rattle.fkv_log.specs.declared.moving.MoveAnswer.{MoveAnswer}
use Rattle.fkv_log.specs.declared.moving.MoveAnswer.TheVariants as moved
use Rattle.fkv_log.specs.declared.moving.Offset.TheVariants.{ReadOnly}
use Rattle.fkv_log.specs.declared.shifting.ShiftAnswer.{ShiftAnswer}
use Rattle.fkv_log.specs.declared.shifting.ShiftAnswer.TheVariants as answer
use Rattle.fkv_log.specs.declared.shifting.Shifting.{Shifting}
use Rattle.fkv_log.specs.declared.shifting.Shifting.TheVariants.{AtRest, LoadsTail, LoadsReadOnly, Moves}
use Rattle.fkv_log.specs.Moving.{Mover, move_at_rest, move_begun, move_ask, move_next, move_next_ask, move_asks_left, move_asks_most}

-- its own step, and the move inside it
pub record ShiftState : Type 0 where
  pub step : Shifting
  pub mover : Mover

pub record Shifter : Type 0 where
  pub shape : Shape
  pub state : ShiftState

abbrev pub shift_at : Shifting → Mover → ShiftState
shift_at step m = record { step = step; mover = m }

-- the tail is loaded first, with no move under way
abbrev pub shift_begun : ShiftState
shift_begun = shift_at LoadsTail move_at_rest

-- where the mutable pages begin: the tail's page is the last of them
abbrev pub mutable_start : ℕ → ℕ → ℕ → ℕ
mutable_start page mutable tail = (tail / page + 1 - mutable) * page

abbrev pub shift_answer : MoveAnswer → ℕ → ShiftAnswer
shift_answer moved.Through tail = answer.Through (record { 0 = tail })
shift_answer moved.NoSlot tail = answer.NoSlot (record { 0 = tail })
shift_answer moved.Spent tail = answer.Spent (record { 0 = tail })

-- what each state asks
unfoldable pub shifting_ask : Shifting → Mover → Ask ShiftAnswer
shifting_ask AtRest m = Done (answer.Through (record { 0 = 0 }))
shifting_ask LoadsTail m = Load (shared_place one.Tail)
shifting_ask (LoadsReadOnly tail) m = Load (shared_place one.ReadOnly)
shifting_ask (Moves tail) m = passed (move_ask m) (answer.Through (record { 0 = tail }))

abbrev pub shift_ask : ShiftState → Ask ShiftAnswer
shift_ask s = shifting_ask s.step s.mover

-- by what the move asks next: the shift is at rest once the move is
unfoldable pub shift_led : ℕ → Mover → Ask MoveAnswer → ShiftState
shift_led tail m (Done inner) = shift_at AtRest m
shift_led tail m ask = shift_at (Moves tail) m

-- where the reply leads: the read-only offset is moved where it is below
unfoldable pub shifting_next : Shape → Shifting → Mover → ℕ → ShiftState
shifting_next shape AtRest m reply = shift_at AtRest m
shifting_next shape LoadsTail m reply = shift_at (LoadsReadOnly reply) m
shifting_next shape (LoadsReadOnly tail) m reply =
    if nat_lt reply (mutable_start shape.page shape.mutable tail) then shift_at (Moves tail) (move_begun ReadOnly (mutable_start shape.page shape.mutable tail)) else shift_at AtRest m
shifting_next shape (Moves tail) m reply = shift_led tail (move_next m reply) (move_next_ask m reply)

abbrev pub shift_next : Shape → ShiftState → ℕ → ShiftState
shift_next shape s reply = shifting_next shape s.step s.mover reply

-- where the move ends the shift tells how, and else what the next state asks
unfoldable pub move_told : ℕ → Ask MoveAnswer → ShiftState → Ask ShiftAnswer
move_told tail (Done inner) next = Done (shift_answer inner tail)
move_told tail ask next = shift_ask next

-- what is asked next: at an end its answer, and else what the next state asks
unfoldable pub shifting_next_ask : Shape → Shifting → Mover → ℕ → Ask ShiftAnswer
shifting_next_ask shape (LoadsReadOnly tail) m reply =
    if nat_lt reply (mutable_start shape.page shape.mutable tail) then shift_ask (shift_at (Moves tail) (move_begun ReadOnly (mutable_start shape.page shape.mutable tail))) else Done (answer.Through (record { 0 = tail }))
shifting_next_ask shape (Moves tail) m reply = move_told tail (move_next_ask m reply) (shifting_next shape (Moves tail) m reply)
shifting_next_ask shape step m reply = shift_ask (shifting_next shape step m reply)

abbrev pub shift_next_ask : Shape → ShiftState → ℕ → Ask ShiftAnswer
shift_next_ask shape s reply = shifting_next_ask shape s.step s.mover reply

-- how many asks it has left, at most: two loads, and those of a move
unfoldable pub shifting_asks_left : Shifting → Mover → ℕ
shifting_asks_left AtRest m = 0
shifting_asks_left LoadsTail m = move_asks_most + 2
shifting_asks_left (LoadsReadOnly tail) m = move_asks_most + 1
shifting_asks_left (Moves tail) m = move_asks_left m

abbrev pub shift_asks_left : ShiftState → ℕ
shift_asks_left s = shifting_asks_left s.step s.mover

-- A shift has loaded the tail first, and then the read-only offset. It is through where that is far enough, and else it moves it.
pub record IsShiftBegun (shape : Shape) (tail read_only : ℕ) : Type 0 where
  pub far_enough : mutable_start shape.page shape.mutable tail ≤ read_only → shift_next_ask shape (shift_next shape shift_begun tail) read_only ≡ Done (answer.Through (record { 0 = tail }))
  pub moves : read_only < mutable_start shape.page shape.mutable tail → (shift_next shape (shift_next shape shift_begun tail) read_only).step ≡ Moves tail

-- while the move inside goes on it knows the tail, and where the move ends the shift ends alike, and tells the tail
pub record KeepsTail (shape : Shape) (tail : ℕ) (m : Mover) (reply : ℕ) : Type 0 where
  pub goes_on : is_done (move_next_ask m reply) ≡ false → (shift_next shape (shift_at (Moves tail) m) reply).step ≡ Moves tail
  pub through : move_next_ask m reply ≡ Done moved.Through → shift_next_ask shape (shift_at (Moves tail) m) reply ≡ Done (answer.Through (record { 0 = tail }))
  pub no_slot : move_next_ask m reply ≡ Done moved.NoSlot → shift_next_ask shape (shift_at (Moves tail) m) reply ≡ Done (answer.NoSlot (record { 0 = tail }))
  pub spent : move_next_ask m reply ≡ Done moved.Spent → shift_next_ask shape (shift_at (Moves tail) m) reply ≡ Done (answer.Spent (record { 0 = tail }))

abbrev pub ShiftsBegin : Type 0
ShiftsBegin = (shape : Shape) (tail read_only : ℕ) → IsShiftBegun shape tail read_only

abbrev pub ShiftsKeepTail : Type 0
ShiftsKeepTail = (shape : Shape) (tail : ℕ) (m : Mover) (reply : ℕ) → KeepsTail shape tail m reply
