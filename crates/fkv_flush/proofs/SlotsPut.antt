-- Where a move puts its action, its machine is about to raise the epoch for the slot.
use Rattle.std.proofs.Common.{◌≡◌, ℕ, ◌+◌, ◌/◌, refl, sym, ap, inl, inr, ◌∙◌}
use Rattle.std.specs.Prelude.{Option, Some, None, nat_lt, nat_le, ◌==◌}
use Rattle.fkv_base.specs.Limits.{drain_slots, last_epoch}
use Rattle.fkv_base.specs.declared.shapes.Shape.{Shape}
use Rattle.fkv_plane.specs.declared.asks.Ask.{Ask}
use Rattle.fkv_plane.specs.declared.asks.Ask.TheVariants.{Load, Store, Swap, Cas, Add, Max, Put, Take, Done}
use Rattle.fkv_plane.specs.Passing.{passed}
use Rattle.fkv_epoch.specs.declared.raising.Raising.{Raising}
use Rattle.fkv_epoch.specs.declared.raising.Raising.TheVariants as raise
use Rattle.fkv_epoch.specs.declared.arming.Arming.{Arming}
use Rattle.fkv_epoch.specs.declared.arming.Arming.TheVariants as arm
use Rattle.fkv_epoch.specs.Raising.{raise_ask, raise_next, raise_next_ask, raise_on, free_after}
use Rattle.fkv_epoch.specs.Arming.{arm_ask, arm_next}
use Rattle.fkv_epoch.specs.EpochWorld.{EpochMachine, Raises}
use Rattle.fkv_epoch.proofs.Shown.{some_same, none_some}
use Rattle.fkv_log.specs.declared.moving.Moving.{Moving}
use Rattle.fkv_log.specs.declared.moving.Moving.TheVariants as move
use Rattle.fkv_log.specs.declared.moving.MoveAnswer.{MoveAnswer}
use Rattle.fkv_log.specs.declared.shifting.Shifting.{Shifting}
use Rattle.fkv_log.specs.declared.shifting.Shifting.TheVariants as shift
use Rattle.fkv_log.specs.declared.turning.TurnForm.TheVariants as form
use Rattle.fkv_log.specs.declared.turning.Turning.{Turning}
use Rattle.fkv_log.specs.declared.turning.Turning.TheVariants as turn
use Rattle.fkv_log.specs.Moving.{Mover, move_ask, move_next, move_next_ask, moving_ask, moving_next, raise_led, arm_led}
use Rattle.fkv_log.specs.Shifting.{shift_ask, shifting_ask, shifting_next, shift_led, mutable_start}
use Rattle.fkv_log.specs.Turning.{turn_ask, turning_ask, turning_next, turn_led, frame_end, pages_wanted}
use Rattle.fkv_flush.specs.GuardLevels.{Levels}
use Rattle.fkv_flush.specs.GuardSlots.{slot_put}
use Rattle.fkv_flush.proofs.GuardSound.{MoveKnows, ShiftKnows, TurnKnows}
use Rattle.fkv_flush.proofs.GuardWorks.{truth}

-- The machine is about to raise the epoch for this slot.
abbrev pub RaisesWith : EpochMachine → ℕ → Type 0
RaisesWith machine slot = machine ≡ Raises (raise.RaisesEpoch slot)

-- where an ask puts an action, the machine is
abbrev PutsRaised : {A : Type 0} → EpochMachine → Ask A → Type 0
PutsRaised machine ask = (slot : ℕ) → slot_put ask ≡ Some slot → RaisesWith machine slot

pub no_put : {X : Type 0} (slot : ℕ) → ◌≡◌ {A = Option ℕ} None (Some slot) → X
no_put {X} slot e = none_some {Y = X} slot e

put_passed : {A B : Type 0} (ask : Ask A) (b : B) → slot_put (passed ask b) ≡ slot_put ask
unfolding passed
put_passed (Load place) b = refl
put_passed (Store place new) b = refl
put_passed (Swap place new) b = refl
put_passed (Cas place old new) b = refl
put_passed (Add place k) b = refl
put_passed (Max place k) b = refl
put_passed (Put slot action) b = refl
put_passed (Take slot) b = refl
put_passed (Done answer) b = refl

-- where a raise leads, a move puts its action once the epoch is raised
move_puts : (l : Levels) (machine : EpochMachine) (step : Moving) (raising : Raising) (arming : Arming) (reply : ℕ) → MoveKnows l machine step raising arming → PutsRaised machine (move_ask (moving_next step raising arming reply))
unfolding moving_ask moving_next raise_led arm_led raise_next_ask raise_ask raise_next raise_on free_after arm_ask arm_next passed
move_puts l machine move.AtRest raising arming reply k slot e = absurd k
move_puts l machine (move.Raises target) raise.AtRest arming reply k slot e = absurd k.1
move_puts l machine (move.Raises target) raise.LoadsEpoch arming reply k slot e = elim (truth (nat_le last_epoch reply)) [ inl f ↦ no_put slot (rw f at e) | inr f ↦ no_put slot (rw f at e) ]
move_puts l machine (move.Raises target) (raise.MeetsSlot met) arming reply k slot e = elim (truth (reply == 0)) [
  | inl f ↦ no_put slot (rw f at e)
  | inr f ↦ elim (truth (nat_lt (met + 1) drain_slots)) [ inl g ↦ no_put slot (rw (f, g) at e) | inr g ↦ no_put slot (rw (f, g) at e) ]
]
move_puts l machine (move.Raises target) (raise.HoldsSlot met) arming reply k slot e = elim (truth (reply == 0)) [
  | inl f ↦ no_put slot (rw f at e)
  | inr f ↦ elim (truth (nat_lt (met + 1) drain_slots)) [ inl g ↦ no_put slot (rw (f, g) at e) | inr g ↦ no_put slot (rw (f, g) at e) ]
]
move_puts l machine (move.Raises target) (raise.HasSlot met) arming reply k slot e = absurd k.1
move_puts l machine (move.Raises target) (raise.RaisesEpoch its) arming reply k slot e = k.0 ∙ ap (λ (s : ℕ). Raises (raise.RaisesEpoch s)) (some_same its slot e)
move_puts l machine (move.MovesOffset target) (raise.HasSlot met) arming reply k slot e = no_put slot e
move_puts l machine (move.MovesOffset target) raising arming reply k slot e = absurd k
move_puts l machine (move.Puts target its) raising arming reply k slot e = absurd k
move_puts l machine move.Arms raising (arm.StoresEpoch its c) reply k slot e = no_put slot e
move_puts l machine move.Arms raising arming reply k slot e = absurd k

-- a shift or a turn puts what its move does
pub shift_puts : (l : Levels) (machine : EpochMachine) (shape : Shape) (step : Shifting) (m : Mover) (reply : ℕ) → ShiftKnows l machine step m → PutsRaised machine (shift_ask (shifting_next shape step m reply))
unfolding shifting_next shifting_ask shift_led moving_ask raise_ask passed
shift_puts l machine shape shift.AtRest m reply k slot e = no_put slot e
shift_puts l machine shape shift.LoadsTail m reply k slot e = no_put slot e
shift_puts l machine shape (shift.LoadsReadOnly tail) m reply k slot e = elim (truth (nat_lt reply (mutable_start shape.page shape.mutable tail))) [ inl f ↦ no_put slot (rw f at e) | inr f ↦ no_put slot (rw f at e) ]
shift_puts l machine shape (shift.Moves tail) m reply k slot e = led (move_next_ask m reply) e
  where
    led : (ask : Ask MoveAnswer) → slot_put (shift_ask (shift_led tail (move_next m reply) ask)) ≡ Some slot → RaisesWith machine slot
    led (Done inner) f = no_put slot f
    led ask f = move_puts l machine m.step m.raising m.arming reply k slot (sym (put_passed (move_ask (move_next m reply)) _) ∙ f)

pub turn_puts : (l : Levels) (machine : EpochMachine) (shape : Shape) (step : Turning) (m : Mover) (reply : ℕ) → TurnKnows shape l machine step m → PutsRaised machine (turn_ask shape (turning_next shape step m reply))
unfolding turning_next turning_ask turn_led moving_ask raise_ask passed
turn_puts l machine shape turn.AtRest m reply k slot e = no_put slot e
turn_puts l machine shape (turn.LoadsLimit form tail) m reply k slot e = elim (truth (nat_lt (reply / shape.page) (pages_wanted shape tail))) [ inl f ↦ no_put slot (rw f at e) | inr f ↦ no_put slot (rw f at e) ]
turn_puts l machine shape (turn.LoadsClosed form.Whole limit) m reply k slot e = elim (truth (nat_le (frame_end shape limit) reply)) [ inl f ↦ no_put slot (rw f at e) | inr f ↦ no_put slot (rw f at e) ]
turn_puts l machine shape (turn.LoadsClosed form.OpensOnly limit) m reply k slot e = elim (truth (nat_le (frame_end shape limit) reply)) [ inl f ↦ no_put slot (rw f at e) | inr f ↦ no_put slot (rw f at e) ]
turn_puts l machine shape (turn.RaisesLimit limit) m reply k slot e = no_put slot e
turn_puts l machine shape (turn.LoadsHead end) m reply k slot e = elim (truth (nat_lt reply end)) [ inl f ↦ no_put slot (rw f at e) | inr f ↦ no_put slot (rw f at e) ]
turn_puts l machine shape (turn.LoadsFlushed end) m reply k slot e = elim (truth (nat_le end reply)) [ inl f ↦ no_put slot (rw f at e) | inr f ↦ no_put slot (rw f at e) ]
turn_puts l machine shape turn.Moves m reply k slot e = led (move_next_ask m reply) e
  where
    led : (ask : Ask MoveAnswer) → slot_put (turn_ask shape (turn_led (move_next m reply) ask)) ≡ Some slot → RaisesWith machine slot
    led (Done inner) f = no_put slot f
    led ask f = move_puts l machine m.step m.raising m.arming reply k slot (sym (put_passed (move_ask (move_next m reply)) _) ∙ f)
