-- Where one ask of a shift or a turn leads, by what the machine asks next. At an end the machine of the epochs inside is at rest, and the work is through;
-- where an action is put into its slot the machine goes on at once, and never to its end; and it never takes one.
use Rattle.std.proofs.Common.{◌≡◌, ℕ, ◌+◌, ◌/◌, refl, ap, subst, inl, inr, ◌∙◌, true, false}
use Rattle.std.specs.Prelude.{Some, slice_get, nat_lt, nat_le, ◌==◌}
use Rattle.fkv_base.specs.Limits.{drain_slots, last_epoch}
use Rattle.fkv_plane.specs.declared.asks.Ask.{Ask}
use Rattle.fkv_plane.specs.declared.asks.Ask.TheVariants.{Put, Take, Done}
use Rattle.fkv_plane.specs.Passing.{passed, is_done}
use Rattle.fkv_plane.specs.Asked.{reply_to}
use Rattle.fkv_epoch.specs.declared.raising.Raising.{Raising}
use Rattle.fkv_epoch.specs.declared.raising.Raising.TheVariants as raise
use Rattle.fkv_epoch.specs.declared.arming.Arming.{Arming}
use Rattle.fkv_epoch.specs.declared.arming.Arming.TheVariants as arm
use Rattle.fkv_epoch.specs.Raising.{raise_ask, raise_next, raise_next_ask, raise_on, free_after}
use Rattle.fkv_epoch.specs.Arming.{arm_ask, arm_next}
use Rattle.fkv_epoch.specs.EpochWorld.{EpochMachine, is_at_rest}
use Rattle.fkv_log.specs.declared.moving.MoveAnswer.{MoveAnswer}
use Rattle.fkv_log.specs.declared.moving.Moving.{Moving}
use Rattle.fkv_log.specs.declared.moving.Moving.TheVariants as move
use Rattle.fkv_log.specs.declared.shifting.Shifting.{Shifting}
use Rattle.fkv_log.specs.declared.shifting.Shifting.TheVariants as shift
use Rattle.fkv_log.specs.declared.turning.TurnForm.TheVariants as form
use Rattle.fkv_log.specs.declared.turning.Turning.{Turning}
use Rattle.fkv_log.specs.declared.turning.Turning.TheVariants as turn
use Rattle.fkv_log.specs.Moving.{Mover, move_ask, move_next, move_next_ask, moving_ask, moving_next, moving_next_ask, raise_led, raise_told, arm_led}
use Rattle.fkv_log.specs.Shifting.{ShiftState, shift_at, shift_ask, shift_next, shift_next_ask, shifting_ask, shifting_next, shifting_next_ask, shift_led, move_told, mutable_start}
use Rattle.fkv_log.specs.Turning.{TurnState, turn_at, turn_ask, turn_next, turn_next_ask, turning_ask, turning_next, turning_next_ask, turn_led, turn_told, frame_end, pages_wanted}
use Rattle.fkv_flush.specs.GuardLevels.{Levels, levels_of}
use Rattle.fkv_flush.specs.GuardWorld.{Actor, Work, Shifts, Turns, GuardNow, GuardWorld, is_idle, inner_machine, host_to, shifted, turned}
use Rattle.fkv_flush.proofs.GuardSound.{IsSound, MoveKnows, ShiftKnows, TurnKnows, Waits}
use Rattle.fkv_flush.proofs.GuardWorks.{truth, Known}
use Rattle.fkv_flush.proofs.GuardMoves.{inner_rest}

-- the actor after such an ask: the work is this, or after a put that
abbrev pub Goes : {A : Type 0} → Ask A → Work → Work → Actor → Type 0
Goes (Done answer) there then_there x = (x.work ≡ there) × (is_idle x.work ≡ true) × (is_at_rest x.machine ≡ true)
Goes (Put slot action) there then_there x = (x.work ≡ then_there) × (is_idle x.work ≡ false)
Goes (Take slot) there then_there x = ⊥
Goes ask there then_there x = (x.work ≡ there) × (is_idle x.work ≡ false)

-- where one ask of a move leads
abbrev MoveGoes : Ask MoveAnswer → EpochMachine → Moving → Mover → Type 0
MoveGoes (Done answer) machine was m = is_at_rest (inner_machine machine was m) ≡ true
MoveGoes (Put slot action) machine was m = (move_ask m ≡ Put slot action) × (is_done (move_next_ask m 0) ≡ false)
MoveGoes (Take slot) machine was m = ⊥
MoveGoes ask machine was m = move_ask m ≡ ask

move_goes : (l : Levels) (machine : EpochMachine) (step : Moving) (raising : Raising) (arming : Arming) (reply : ℕ) → MoveKnows l machine step raising arming
    → MoveGoes (moving_next_ask step raising arming reply) machine step (moving_next step raising arming reply)
unfolding moving_ask moving_next moving_next_ask raise_led raise_told arm_led raise_ask raise_next raise_next_ask raise_on free_after arm_ask arm_next passed
move_goes l machine move.AtRest raising arming reply k = absurd k
move_goes l machine (move.Raises target) raise.AtRest arming reply k = absurd k.1
move_goes l machine (move.Raises target) raise.LoadsEpoch arming reply k = elim (truth (nat_le last_epoch reply)) [ inl f ↦ rw f refl | inr f ↦ rw f refl ]
move_goes l machine (move.Raises target) (raise.MeetsSlot met) arming reply k = elim (truth (reply == 0)) [
  | inl f ↦ rw f refl
  | inr f ↦ elim (truth (nat_lt (met + 1) drain_slots)) [ inl g ↦ rw (f, g) refl | inr g ↦ rw (f, g) refl ]
]
move_goes l machine (move.Raises target) (raise.HoldsSlot met) arming reply k = elim (truth (reply == 0)) [
  | inl f ↦ rw f refl
  | inr f ↦ elim (truth (nat_lt (met + 1) drain_slots)) [ inl g ↦ rw (f, g) refl | inr g ↦ rw (f, g) refl ]
]
move_goes l machine (move.Raises target) (raise.HasSlot met) arming reply k = absurd k.1
move_goes l machine (move.Raises target) (raise.RaisesEpoch its) arming reply k = (refl, refl)
move_goes l machine (move.MovesOffset target) (raise.HasSlot met) arming reply k = refl
move_goes l machine (move.MovesOffset target) raising arming reply k = absurd k
move_goes l machine (move.Puts target its) raising arming reply k = absurd k
move_goes l machine move.Arms raising (arm.StoresEpoch its c) reply k = refl
move_goes l machine move.Arms raising arming reply k = absurd k

-- a move that has not begun has no machine of the epochs under way
rests : (machine : EpochMachine) (m : Mover) → Waits machine m → is_at_rest (inner_machine machine m.step m) ≡ true
rests machine m k = ap is_at_rest (inner_rest machine m.step m.raising m.arming k.0) ∙ k.1

-- where the move isn't at its end the shift goes on
shift_under_way : (tail : ℕ) (m : Mover) (ask : Ask MoveAnswer) → is_done ask ≡ false → is_idle (Shifts (shift_led tail m ask)) ≡ false
unfolding shift_led
shift_under_way tail m (Done answer) e = cc
shift_under_way tail m ask e = refl

shift_led_goes : (n : GuardNow) (x : Actor) (tail : ℕ) (was m : Mover) (ask : Ask MoveAnswer) → MoveGoes ask x.machine was.step m
    → (let there : ShiftState = shift_led tail m ask in
    Goes (move_told tail ask there) (Shifts there) (Shifts (shift_next n.shape there 0)) (host_to n x shift_ask (shift_next n.shape) (λ (t : ShiftState). t.mover) Shifts (shift_at (shift.Moves tail) was) there).actor)
unfolding shift_led move_told shifting_ask shifting_next passed
shift_led_goes n x tail was m (Done answer) g = (refl, refl, g)
shift_led_goes n x tail was m (Put slot action) g = rw g.0 (refl, shift_under_way tail (move_next m 0) (move_next_ask m 0) g.1)
shift_led_goes n x tail was m (Take slot) g = absurd g
shift_led_goes n x tail was m ask g = rw g (refl, refl)

-- a shift
shift_step_goes : (n : GuardNow) (x : Actor) (step : Shifting) (m : Mover) → ShiftKnows (levels_of n.words) x.machine step m → is_idle (Shifts (shift_at step m)) ≡ false
    → (let reply : ℕ = reply_to n.words (shifting_ask step m) in let there : ShiftState = shifting_next n.shape step m reply in
    Goes (shifting_next_ask n.shape step m reply) (Shifts there) (Shifts (shift_next n.shape there 0)) (shifted n x (shift_at step m)).actor)
unfolding shifting_ask shifting_next shifting_next_ask moving_ask raise_ask passed
shift_step_goes n x shift.AtRest m k busy = cc
shift_step_goes n x shift.LoadsTail m k busy = (refl, refl)
shift_step_goes n x (shift.LoadsReadOnly tail) m k busy = elim (truth (nat_lt (levels_of n.words).read_only (mutable_start n.shape.page n.shape.mutable tail))) [
  | inl e ↦ rw e (refl, refl)
  | inr e ↦ rw e (refl, refl, rests x.machine m k.0)
]
shift_step_goes n x (shift.Moves tail) m k busy =
    shift_led_goes n x tail m (move_next m _) (move_next_ask m _) (move_goes (levels_of n.words) x.machine m.step m.raising m.arming _ k)

pub shift_goes : (w : GuardWorld) (a : ℕ) (x : Actor) (s : ShiftState) → IsSound w → slice_get w.now.actors a ≡ Some x → x.work ≡ Shifts s → is_idle (Shifts s) ≡ false
    → (let reply : ℕ = reply_to w.now.words (shift_ask s) in let there : ShiftState = shift_next w.now.shape s reply in
    Goes (shift_next_ask w.now.shape s reply) (Shifts there) (Shifts (shift_next w.now.shape there 0)) (shifted w.now x s).actor)
shift_goes w a x s sound got its busy = shift_step_goes w.now x s.step s.mover (subst (Known w a x) its (sound.knows a x got)) busy

turn_under_way : (m : Mover) (ask : Ask MoveAnswer) → is_done ask ≡ false → is_idle (Turns (turn_led m ask)) ≡ false
unfolding turn_led
turn_under_way m (Done answer) e = cc
turn_under_way m ask e = refl

turn_led_goes : (n : GuardNow) (x : Actor) (was m : Mover) (ask : Ask MoveAnswer) → MoveGoes ask x.machine was.step m
    → (let there : TurnState = turn_led m ask in
    Goes (turn_told n.shape ask there) (Turns there) (Turns (turn_next n.shape there 0)) (host_to n x (turn_ask n.shape) (turn_next n.shape) (λ (t : TurnState). t.mover) Turns (turn_at turn.Moves was) there).actor)
unfolding turn_led turn_told turning_ask turning_next passed
turn_led_goes n x was m (Done answer) g = (refl, refl, g)
turn_led_goes n x was m (Put slot action) g = rw g.0 (refl, turn_under_way (move_next m 0) (move_next_ask m 0) g.1)
turn_led_goes n x was m (Take slot) g = absurd g
turn_led_goes n x was m ask g = rw g (refl, refl)

-- a turn
turn_step_goes : (n : GuardNow) (x : Actor) (step : Turning) (m : Mover) → TurnKnows n.shape (levels_of n.words) x.machine step m → is_idle (Turns (turn_at step m)) ≡ false
    → (let reply : ℕ = reply_to n.words (turning_ask n.shape step m) in let there : TurnState = turning_next n.shape step m reply in
    Goes (turning_next_ask n.shape step m reply) (Turns there) (Turns (turn_next n.shape there 0)) (turned n x (turn_at step m)).actor)
unfolding turning_ask turning_next turning_next_ask moving_ask raise_ask passed
turn_step_goes n x turn.AtRest m k busy = cc
turn_step_goes n x (turn.LoadsLimit form tail) m k busy = elim (truth (nat_lt ((levels_of n.words).limit / n.shape.page) (pages_wanted n.shape tail))) [
  | inl e ↦ rw e (refl, refl)
  | inr e ↦ rw e (refl, refl, rests x.machine m k)
]
turn_step_goes n x (turn.LoadsClosed form.Whole limit) m k busy = elim (truth (nat_le (frame_end n.shape limit) (levels_of n.words).closed)) [ inl e ↦ rw e (refl, refl) | inr e ↦ rw e (refl, refl) ]
turn_step_goes n x (turn.LoadsClosed form.OpensOnly limit) m k busy = elim (truth (nat_le (frame_end n.shape limit) (levels_of n.words).closed)) [
  | inl e ↦ rw e (refl, refl)
  | inr e ↦ rw e (refl, refl, rests x.machine m k.0)
]
turn_step_goes n x (turn.RaisesLimit limit) m k busy = (refl, refl, rests x.machine m k.0)
turn_step_goes n x (turn.LoadsHead end) m k busy = elim (truth (nat_lt (levels_of n.words).head end)) [ inl e ↦ rw e (refl, refl) | inr e ↦ rw e (refl, refl, rests x.machine m k) ]
turn_step_goes n x (turn.LoadsFlushed end) m k busy = elim (truth (nat_le end (levels_of n.words).flushed)) [ inl e ↦ rw e (refl, refl) | inr e ↦ rw e (refl, refl, rests x.machine m k) ]
turn_step_goes n x turn.Moves m k busy = turn_led_goes n x m (move_next m _) (move_next_ask m _) (move_goes (levels_of n.words) x.machine m.step m.raising m.arming _ k)

pub turn_goes : (w : GuardWorld) (a : ℕ) (x : Actor) (s : TurnState) → IsSound w → slice_get w.now.actors a ≡ Some x → x.work ≡ Turns s → is_idle (Turns s) ≡ false
    → (let reply : ℕ = reply_to w.now.words (turn_ask w.now.shape s) in let there : TurnState = turn_next w.now.shape s reply in
    Goes (turn_next_ask w.now.shape s reply) (Turns there) (Turns (turn_next w.now.shape there 0)) (turned w.now x s).actor)
turn_goes w a x s sound got its busy = turn_step_goes w.now x s.step s.mover (subst (Known w a x) its (sound.knows a x got)) busy
