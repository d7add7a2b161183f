-- What a turn that opens only asks for, and what a shift tells.
use Rattle.std.proofs.Common.{◌≡◌, ℕ, ◌/◌, refl, inl, inr, List, [], ◌∷◌, false}
use Rattle.std.specs.Prelude.{nat_lt, nat_le, ⊤}
use Rattle.std.proofs.lemmas.Bool.{lt-ltb, le-ltb}
use Rattle.fkv_base.specs.declared.shapes.Shape.{Shape}
use Rattle.fkv_plane.specs.declared.asks.Ask.{Ask}
use Rattle.fkv_plane.specs.declared.asks.Ask.TheVariants.{Done}
use Rattle.fkv_plane.specs.Passing.{is_done}
use Rattle.fkv_log.specs.declared.moving.MoveAnswer.{MoveAnswer}
use Rattle.fkv_log.specs.declared.shifting.Shifting.TheVariants as shift
use Rattle.fkv_log.specs.declared.turning.TurnForm.TheVariants.{Whole, OpensOnly}
use Rattle.fkv_log.specs.declared.turning.Turning.{Turning}
use Rattle.fkv_log.specs.declared.turning.Turning.TheVariants as turn
use Rattle.fkv_log.specs.Moving.{Mover, move_next, move_next_ask}
use Rattle.fkv_log.specs.Shifting.{shifting_next, shifting_next_ask, shift_led, move_told, mutable_start, ShiftsBegin, ShiftsKeepTail}
use Rattle.fkv_log.specs.Turning.{TurnState, turn_begun, turn_next, turn_after, turning_ask, turning_next, turning_next_ask, frame_end, pages_wanted, OpensAlone, TurnsOpeningAlone}
use Rattle.fkv_log.proofs.Asks.{truth}

-- the steps of a turn that opens only
abbrev IsOpening : Turning → Type 0
IsOpening turn.AtRest = ⊤
IsOpening (turn.LoadsLimit OpensOnly tail) = ⊤
IsOpening (turn.LoadsClosed OpensOnly limit) = ⊤
IsOpening (turn.RaisesLimit limit) = ⊤
IsOpening step = ⊥

asks_alone : (shape : Shape) (step : Turning) (m : Mover) → IsOpening step → OpensAlone (turning_ask shape step m)
unfolding turning_ask
asks_alone shape turn.AtRest m h = tt
asks_alone shape (turn.LoadsLimit OpensOnly tail) m h = inl refl
asks_alone shape (turn.LoadsClosed OpensOnly limit) m h = inr refl
asks_alone shape (turn.RaisesLimit limit) m h = refl
asks_alone shape (turn.LoadsLimit Whole tail) m h = absurd h
asks_alone shape (turn.LoadsClosed Whole limit) m h = absurd h
asks_alone shape (turn.LoadsHead end) m h = absurd h
asks_alone shape (turn.LoadsFlushed end) m h = absurd h
asks_alone shape turn.Moves m h = absurd h

goes_on_alone : (shape : Shape) (step : Turning) (m : Mover) (reply : ℕ) → IsOpening step → IsOpening (turning_next shape step m reply).step
unfolding turning_next
goes_on_alone shape turn.AtRest m reply h = tt
goes_on_alone shape (turn.LoadsLimit OpensOnly tail) m reply h = elim (truth (nat_lt (reply / shape.page) (pages_wanted shape tail))) [
  | inl e ↦ rw e tt
  | inr e ↦ rw e tt
]
goes_on_alone shape (turn.LoadsClosed OpensOnly limit) m reply h = elim (truth (nat_le (frame_end shape limit) reply)) [
  | inl e ↦ rw e tt
  | inr e ↦ rw e tt
]
goes_on_alone shape (turn.RaisesLimit limit) m reply h = tt
goes_on_alone shape (turn.LoadsLimit Whole tail) m reply h = absurd h
goes_on_alone shape (turn.LoadsClosed Whole limit) m reply h = absurd h
goes_on_alone shape (turn.LoadsHead end) m reply h = absurd h
goes_on_alone shape (turn.LoadsFlushed end) m reply h = absurd h
goes_on_alone shape turn.Moves m reply h = absurd h

asks_next_alone : (shape : Shape) (step : Turning) (m : Mover) (reply : ℕ) → IsOpening step → OpensAlone (turning_next_ask shape step m reply)
unfolding turning_next_ask
asks_next_alone shape turn.Moves m reply h = absurd h
asks_next_alone shape step m reply h =
    let next : TurnState = turning_next shape step m reply in
    asks_alone shape next.step next.mover (goes_on_alone shape step m reply h)

after_alone : (shape : Shape) (s : TurnState) (replies : List ℕ) → IsOpening s.step → IsOpening (turn_after shape s replies).step
after_alone shape s [] h = h
after_alone shape s (reply ∷ replies) h = after_alone shape (turn_next shape s reply) replies (goes_on_alone shape s.step s.mover reply h)

pub opens_alone : TurnsOpeningAlone
opens_alone shape tail replies =
    let s : TurnState = turn_after shape (turn_begun OpensOnly tail) replies in
    let opening = after_alone shape (turn_begun OpensOnly tail) replies tt in
    record { now = asks_alone shape s.step s.mover opening; next = λ reply. asks_next_alone shape s.step s.mover reply opening }

pub begins : ShiftsBegin
unfolding shifting_next shifting_next_ask
begins shape tail read_only =
    let start : ℕ = mutable_start shape.page shape.mutable tail in
    record { far_enough = λ h. rw (le-ltb read_only start h) refl; moves = λ h. rw (lt-ltb read_only start h) refl }

led_on : (tail : ℕ) (m : Mover) (ask : Ask MoveAnswer) → is_done ask ≡ false → (shift_led tail m ask).step ≡ shift.Moves tail
unfolding shift_led
led_on tail m (Done inner) h = cc
led_on tail m ask h = refl

pub keeps_tail : ShiftsKeepTail
unfolding shifting_next shifting_next_ask move_told
keeps_tail shape tail m reply = record {
  goes_on = λ h. led_on tail (move_next m reply) (move_next_ask m reply) h;
  through = λ h. rw h refl;
  no_slot = λ h. rw h refl;
  spent = λ h. rw h refl;
}
