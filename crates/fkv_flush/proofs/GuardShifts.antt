-- Steps of a shift of the read-only offset.
use Rattle.std.proofs.Common.{subst, false, ◌≡◌, ℕ, ◌≤◌, refl, arith, sym, inl, inr}
use Rattle.std.specs.Prelude.{Some, slice_get, nat_lt}
use Rattle.std.proofs.lemmas.List.{set-get_or}
use Rattle.fkv_plane.specs.declared.asks.Ask.{Ask}
use Rattle.fkv_plane.specs.declared.asks.Ask.TheVariants.{Put, Done}
use Rattle.fkv_plane.specs.Asked.{word_at, reply_to}
use Rattle.fkv_epoch.specs.declared.raising.Raising.TheVariants as raise
use Rattle.fkv_epoch.specs.Raising.{raise_ask}
use Rattle.fkv_epoch.specs.EpochWorld.{Raises}
use Rattle.fkv_log.specs.declared.moving.MoveAnswer.{MoveAnswer}
use Rattle.fkv_log.specs.declared.moving.Offset.TheVariants.{ReadOnly}
use Rattle.fkv_log.specs.declared.shifting.ShiftAnswer.TheVariants as answer
use Rattle.fkv_log.specs.declared.shifting.Shifting.{Shifting}
use Rattle.fkv_log.specs.declared.shifting.Shifting.TheVariants as shift
use Rattle.fkv_plane.specs.Passing.{passed, is_done}
use Rattle.fkv_plane.proofs.Shown.{passed_words, passed_reply}
use Rattle.fkv_log.specs.Moving.{Mover, mover, move_ask, move_next, move_next_ask, moving_ask, move_begun}
use Rattle.fkv_log.specs.Shifting.{shift_at, shifting_ask, shifting_next, shift_led, mutable_start}
use Rattle.fkv_log.proofs.Shown.{move_goes_on}
use Rattle.fkv_flush.specs.GuardLevels.{levels_of}
use Rattle.fkv_flush.specs.GuardWorld.{Actor, Shifts, GuardNow, GuardWorld, put_near, shifted}
use Rattle.fkv_flush.proofs.GuardSound.{IsSound, Waits}
use Rattle.fkv_flush.proofs.GuardSteps.{looks}
use Rattle.fkv_flush.proofs.GuardMoves.{begins_raise, inner_rest, start_below}
use Rattle.fkv_flush.proofs.GuardHosted.{SoundNear, IsMoveSound, hosted, hosted_sound}
use Rattle.fkv_flush.proofs.GuardWorks.{truth}

-- one ask of a shift that moves is one of its move
pub shifted_hosted : (n : GuardNow) (x : Actor) (tail : ℕ) (m : Mover) (next last : Ask MoveAnswer) → move_next_ask m (reply_to n.words (move_ask m)) ≡ next
    → (is_done next ≡ false → next ≡ move_ask (move_next m (reply_to n.words (move_ask m)))) → move_next_ask (move_next m (reply_to n.words (move_ask m))) 0 ≡ last
    → shifted n x (shift_at (shift.Moves tail) m) ≡ hosted n x (λ its. Shifts (shift_at (shift.Moves tail) its)) (λ its. Shifts (shift_at shift.AtRest its)) m (reply_to n.words (move_ask m))
unfolding shifting_ask shifting_next shift_led passed
shifted_hosted n x tail m (Done inner) last e on f = rw (passed_words n.words (move_ask m) (answer.Through (record { 0 = tail })), passed_reply n.words (move_ask m) (answer.Through (record { 0 = tail })), e) refl
shifted_hosted n x tail m (Put slot action) (Done end) e on f = rw (passed_words n.words (move_ask m) (answer.Through (record { 0 = tail })), passed_reply n.words (move_ask m) (answer.Through (record { 0 = tail })), e, ← on refl, f) refl
shifted_hosted n x tail m (Put slot action) last e on f = rw (passed_words n.words (move_ask m) (answer.Through (record { 0 = tail })), passed_reply n.words (move_ask m) (answer.Through (record { 0 = tail })), e, ← on refl, f) refl
shifted_hosted n x tail m next last e on f = rw (passed_words n.words (move_ask m) (answer.Through (record { 0 = tail })), passed_reply n.words (move_ask m) (answer.Through (record { 0 = tail })), e, ← on refl) refl

-- the world is sound after one ask of the move
pub move_case : (w : GuardWorld) (a : ℕ) (x : Actor) (tail : ℕ) → IsMoveSound w a x (λ m. shifted w.now x (shift_at (shift.Moves tail) m))
move_case w a x tail step raising arming sound got k =
    let m : Mover = mover step raising arming in
    subst (SoundNear w a x) (sym (shifted_hosted w.now x tail m _ _ refl (move_goes_on m (reply_to w.now.words (move_ask m))) refl))
    (hosted_sound w a x (λ its. Shifts (shift_at (shift.Moves tail) its)) (λ its. Shifts (shift_at shift.AtRest its)) (λ l A d m h. h) (λ l A d m. tt) step raising arming sound got k)

-- the world is sound after one ask before the move begins
abbrev SoundAsk : GuardWorld → ℕ → Actor → Shifting → Mover → Type 0
SoundAsk w a x step m = IsSound (record { now = put_near w.now a (shifted w.now x (shift_at step m)); past = w.past })

pub shift_waits : (w : GuardWorld) (a : ℕ) (x : Actor) (m : Mover) → IsSound w → slice_get w.now.actors a ≡ Some x → Waits x.machine m → SoundAsk w a x shift.LoadsTail m
unfolding shifting_ask shifting_next passed moving_ask raise_ask
shift_waits w a x m sound got k =
    let same = inner_rest x.machine m.step m.raising m.arming k.0 in
    rw (set-get_or w.now.words 3 0)
    (rw same (looks w a x (record x { work = Shifts (shift_at (shift.LoadsReadOnly (word_at w.now.words 3)) m) }) sound got refl refl (λ addr u. u) (k, omega arith)))

pub shift_loads : (w : GuardWorld) (a : ℕ) (x : Actor) (tail : ℕ) (m : Mover) → IsSound w → slice_get w.now.actors a ≡ Some x → Waits x.machine m → tail ≤ (levels_of w.now.words).tail → SoundAsk w a x (shift.LoadsReadOnly tail) m
unfolding shifting_ask shifting_next passed moving_ask raise_ask
shift_loads w a x tail m sound got k low =
    let same = inner_rest x.machine m.step m.raising m.arming k.0 in
    let to : ℕ = mutable_start w.now.shape.page w.now.shape.mutable tail in
    let below = start_below w.now.shape.page w.now.shape.mutable tail w.now.shape.limits.some_mutable in
    rw (set-get_or w.now.words 5 0)
    (elim (truth (nat_lt (word_at w.now.words 5) to)) [
      | inl e ↦ rw e (begins_raise w a x (record x { machine = Raises raise.LoadsEpoch; work = Shifts (shift_at (shift.Moves tail) (move_begun ReadOnly to)) }) sound got k.1 refl refl refl (λ A. (refl, omega (arith, below, low))))
      | inr e ↦ rw e (rw same (looks w a x (record x { work = Shifts (shift_at shift.AtRest m) }) sound got refl refl (λ addr u. u) tt))
    ])
