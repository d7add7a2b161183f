-- One ask of a move that is inside another machine.
use Rattle.std.proofs.Common.{◌≡◌, ℕ, ◌+◌, ◌-◌, ◌^◌, refl, arith, inl, inr, min, max}
use Rattle.fkv_base.specs.Limits.{drain_slots, last_epoch}
use Rattle.std.specs.Prelude.{Some, slice_get, slice_set, nat_lt, nat_le, ◌==◌}
use Rattle.fkv_plane.specs.declared.asks.Ask.{Ask}
use Rattle.fkv_plane.specs.declared.asks.Ask.TheVariants.{Done}
use Rattle.fkv_plane.specs.Asked.{word_at, words_after, reply_to}
use Rattle.fkv_plane.specs.Places.{drain_place}
use Rattle.fkv_epoch.specs.declared.raising.Raising.{Raising}
use Rattle.fkv_epoch.specs.declared.raising.Raising.TheVariants as raise
use Rattle.fkv_epoch.specs.declared.arming.Arming.{Arming}
use Rattle.fkv_epoch.specs.declared.arming.Arming.TheVariants as arm
use Rattle.fkv_epoch.specs.Raising.{raise_ask, raise_next, raise_next_ask, raise_on, free_after}
use Rattle.fkv_epoch.specs.Arming.{arm_ask, arm_next}
use Rattle.fkv_epoch.specs.EpochWorld.{EpochMachine, Raises, Arms, epoch_of, past_moved}
use Rattle.fkv_epoch.proofs.Shown.{epoch_is_small, no_load}
use Rattle.fkv_log.specs.declared.moving.MoveAnswer.{MoveAnswer}
use Rattle.fkv_log.specs.declared.moving.Offset.{Offset}
use Rattle.fkv_log.specs.declared.moving.Offset.TheVariants.{ReadOnly, Head}
use Rattle.fkv_log.specs.declared.moving.Moving.{Moving}
use Rattle.fkv_log.specs.declared.moving.Moving.TheVariants as move
use Rattle.fkv_plane.specs.Passing.{passed}
use Rattle.fkv_log.specs.Moving.{Mover, mover, offset_place, action_awaited, move_ask, move_next, move_next_ask, moving_ask, moving_next, moving_next_ask, raise_led, raise_told, arm_led}
use Rattle.fkv_flush.specs.GuardLevels.{Levels, levels_of}
use Rattle.fkv_flush.specs.GuardSeen.{IsStored}
use Rattle.fkv_flush.specs.GuardWorld.{Actor, Work, GuardNow, GuardWorld, GuardNear, near, put_near, actions_after, after_put, inner_machine, epoch_now, epoch_world}
use Rattle.fkv_flush.proofs.GuardSound.{MoveKnows, IsAhead, Knows, IsSound, after}
use Rattle.fkv_flush.proofs.GuardPuts.{put_for}
use Rattle.fkv_flush.proofs.GuardMoves.{epoch_step_at, moves_read_only, moves_head}
use Rattle.fkv_flush.proofs.GuardWorks.{truth}

-- the work of the machine around a move, by what the move asks next: it is through once the move is, and until then goes on
abbrev pub work_after : (Mover → Work) → (Mover → Work) → Ask MoveAnswer → Mover → Work
work_after again through (Done inner) m = through m
work_after again through ask m = again m

-- what one ask of a move leads to inside that machine
abbrev pub hosted : GuardNow → Actor → (Mover → Work) → (Mover → Work) → Mover → ℕ → GuardNear
hosted n x again through m reply = near (words_after n.words (move_ask m)) (actions_after n.actions (move_next_ask m reply)) (record x {
  machine = inner_machine x.machine m.step (after_put (move_next_ask m reply) (move_next m reply) (move_next (move_next m reply) 0));
  work = after_put (move_next_ask m reply) (work_after again through (move_next_ask m reply) (move_next m reply)) (work_after again through (move_next_ask (move_next m reply) 0) (move_next (move_next m reply) 0));
})

-- the world is sound after one ask of the actor that leads here
abbrev pub SoundNear : GuardWorld → ℕ → Actor → GuardNear → Type 0
SoundNear w a x here = IsSound (record { now = put_near w.now a here; past = past_moved (epoch_now w.now) a w.past (Some x.machine) })

-- the world stays sound at one ask of a move that leads here, wherever the actor knows what it has to of the move
abbrev pub IsMoveSound : GuardWorld → ℕ → Actor → (Mover → GuardNear) → Type 0
IsMoveSound w a x leads = (step : Moving) (raising : Raising) (arming : Arming) → IsSound w → slice_get w.now.actors a ≡ Some x → MoveKnows (levels_of w.now.words) x.machine step raising arming → SoundNear w a x (leads (mover step raising arming))

-- the offset is moved, whichever it is
moves_offset : (w : GuardWorld) (a : ℕ) (x x' : Actor) (slot : ℕ) (offset : Offset) (to : ℕ) → IsSound w → slice_get w.now.actors a ≡ Some x → x.machine ≡ Raises (raise.HasSlot slot) → IsAhead (levels_of w.now.words) offset to
    → x'.machine ≡ Raises (raise.RaisesEpoch slot) → x'.seen ≡ x.seen → x'.undecided ≡ x.undecided
    → ((l : Levels) (A : Type 0) → IsStored l (action_awaited offset to) → Knows w.now.shape l A x'.machine x'.undecided x'.work)
    → IsSound (after w a x' (slice_set w.now.words (offset_place offset) (max (word_at w.now.words (offset_place offset)) to)) w.now.actions w.past)
moves_offset w a x x' slot ReadOnly = moves_read_only w a x x' slot
moves_offset w a x x' slot Head = moves_head w a x x' slot

-- It does inside any machine that has to know no more than its move while it goes on, and nothing once it is through.
pub hosted_sound : (w : GuardWorld) (a : ℕ) (x : Actor) (again through : Mover → Work)
    → ((l : Levels) (A : Type 0) (d : EpochMachine) (m : Mover) → MoveKnows l d m.step m.raising m.arming → Knows w.now.shape l A d x.undecided (again m))
    → ((l : Levels) (A : Type 0) (d : EpochMachine) (m : Mover) → Knows w.now.shape l A d x.undecided (through m))
    → IsMoveSound w a x (λ m. hosted w.now x again through m (reply_to w.now.words (move_ask m)))
unfolding raise_ask raise_next raise_next_ask raise_on free_after arm_ask arm_next passed raise_led raise_told arm_led moving_ask moving_next moving_next_ask
hosted_sound w a x again through on done (move.Raises target) raise.LoadsEpoch arming sound got k = elim (truth (nat_le last_epoch (epoch_of w.now.words))) [
  | inl e ↦ rw (k.0, e) (epoch_step_at w a x (record x { machine = Raises raise.AtRest; work = through (mover move.AtRest raise.AtRest arming) }) _ sound got k.0 refl (rw e refl) refl refl (λ addr u. u) (λ A. done (levels_of w.now.words) A (Raises raise.AtRest) _))
  | inr e ↦ rw (k.0, e) (epoch_step_at w a x (record x { machine = Raises (raise.MeetsSlot 0); work = again (mover (move.Raises target) (raise.MeetsSlot 0) arming) }) _ sound got k.0 refl (rw e refl) refl refl (λ addr u. u) (λ A. on _ _ _ _ (refl, k.1)))
]
hosted_sound w a x again through on done (move.Raises target) (raise.MeetsSlot slot) arming sound got k = elim (truth (word_at w.now.words (drain_place slot) == 0)) [
  | inl e ↦ rw (k.0, e) (epoch_step_at w a x (record x { machine = Raises (raise.HoldsSlot slot); work = again (mover (move.Raises target) (raise.HoldsSlot slot) arming) }) _ sound got k.0 refl (rw e refl) refl refl (λ addr u. u) (λ A. on _ _ _ _ (refl, k.1)))
  | inr e ↦ rw (k.0, e) (elim (truth (nat_lt (slot + 1) drain_slots)) [
    | inl f ↦ rw f (epoch_step_at w a x (record x { machine = Raises (raise.MeetsSlot (slot + 1)); work = again (mover (move.Raises target) (raise.MeetsSlot (slot + 1)) arming) }) _ sound got k.0 refl (rw e (rw f refl)) refl refl (λ addr u. u) (λ A. on _ _ _ _ (refl, k.1)))
    | inr f ↦ rw f (epoch_step_at w a x (record x { machine = Raises raise.AtRest; work = through (mover move.AtRest raise.AtRest arming) }) _ sound got k.0 refl (rw e (rw f refl)) refl refl (λ addr u. u) (λ A. done (levels_of w.now.words) A (Raises raise.AtRest) _))
  ])
]
hosted_sound w a x again through on done (move.Raises target) (raise.HoldsSlot slot) arming sound got k = elim (truth (word_at w.now.words (drain_place slot) == 0)) [
  | inl e ↦ rw (k.0, e) (rw e at (epoch_step_at w a x (record x { machine = Raises (raise.HasSlot slot); work = again (mover (move.MovesOffset target) (raise.HasSlot slot) arming) }) _ sound got k.0 refl (rw e refl) refl refl (λ addr u. u) (λ A. on _ _ _ _ (refl, k.1))))
  | inr e ↦ rw (k.0, e) (elim (truth (nat_lt (slot + 1) drain_slots)) [
    | inl f ↦ rw f (rw e at (epoch_step_at w a x (record x { machine = Raises (raise.MeetsSlot (slot + 1)); work = again (mover (move.Raises target) (raise.MeetsSlot (slot + 1)) arming) }) _ sound got k.0 refl (rw e (rw f refl)) refl refl (λ addr u. u) (λ A. on _ _ _ _ (refl, k.1))))
    | inr f ↦ rw f (rw e at (epoch_step_at w a x (record x { machine = Raises raise.AtRest; work = through (mover move.AtRest raise.AtRest arming) }) _ sound got k.0 refl (rw e (rw f refl)) refl refl (λ addr u. u) (λ A. done (levels_of w.now.words) A (Raises raise.AtRest) _)))
  ])
]
hosted_sound w a x again through on done (move.Raises target) (raise.RaisesEpoch slot) arming sound got k =
    let small = epoch_is_small (epoch_world w) sound.epochs in
    let same : min (epoch_of w.now.words) (2 ^ 64 - 3) ≡ epoch_of w.now.words = omega (arith, small) in
    rw (k.0, no_load w.past.loads a (epoch_of w.now.words), same) (put_for w a x _ slot (action_awaited target.offset target.to) sound got k.0 k.1 refl refl refl (λ A. on _ _ _ _ refl))
hosted_sound w a x again through on done (move.Raises target) raising arming sound got k = absurd k.1
hosted_sound w a x again through on done (move.MovesOffset target) (raise.HasSlot slot) arming sound got k =
    rw (k.0, no_load w.past.loads a (epoch_of w.now.words)) (moves_offset w a x _ slot target.offset target.to sound got k.0 k.1 refl refl refl (λ l A h. on _ _ _ _ (refl, h)))
hosted_sound w a x again through on done (move.MovesOffset target) raising arming sound got k = absurd k
hosted_sound w a x again through on done move.Arms raising (arm.StoresEpoch slot c) sound got k =
    rw k (epoch_step_at w a x _ (Arms (arm.StoresEpoch slot c)) sound got k refl refl refl refl (λ addr u. u) (λ A. done (levels_of w.now.words) A (Arms arm.AtRest) _))
hosted_sound w a x again through on done step raising arming sound got k = absurd k
