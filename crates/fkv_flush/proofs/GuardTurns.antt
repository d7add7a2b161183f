-- Steps of a turn of a page.
use Rattle.std.proofs.Common.{subst, false, ◌≡◌, ℕ, ◌*◌, ◌/◌, ◌<◌, ◌≤◌, refl, arith, sym, inl, inr}
use Rattle.std.specs.Prelude.{Some, ⊤, slice_get, nat_lt, nat_le, ◌==◌}
use Rattle.std.proofs.lemmas.List.{set-get_or}
use Rattle.std.proofs.lemmas.Bool.Decides.{nat_tests}
use Rattle.fkv_plane.specs.declared.asks.Ask.{Ask}
use Rattle.fkv_plane.specs.declared.asks.Ask.TheVariants.{Put, Done}
use Rattle.fkv_plane.specs.Asked.{word_at, reply_to}
use Rattle.fkv_epoch.specs.declared.raising.Raising.TheVariants as raise
use Rattle.fkv_epoch.specs.Raising.{raise_ask}
use Rattle.fkv_epoch.specs.EpochWorld.{Raises}
use Rattle.fkv_log.specs.declared.moving.MoveAnswer.{MoveAnswer}
use Rattle.fkv_log.specs.declared.moving.MoveAnswer.TheVariants as moved
use Rattle.fkv_log.specs.declared.moving.Offset.TheVariants.{Head}
use Rattle.fkv_log.specs.declared.turning.TurnForm.TheVariants.{Whole, OpensOnly}
use Rattle.fkv_log.specs.declared.turning.Turning.{Turning}
use Rattle.fkv_log.specs.declared.turning.Turning.TheVariants as turn
use Rattle.fkv_plane.specs.Passing.{passed, is_done}
use Rattle.fkv_plane.proofs.Shown.{passed_words, passed_reply}
use Rattle.fkv_log.specs.Moving.{Mover, mover, move_ask, move_next, move_next_ask, moving_ask, move_begun}
use Rattle.fkv_log.specs.Turning.{turn_at, turning_ask, turning_next, turn_led, frame_end, limit_after, pages_wanted}
use Rattle.fkv_log.proofs.Shown.{move_goes_on}
use Rattle.fkv_flush.specs.GuardLevels.{Levels, levels_of}
use Rattle.fkv_flush.specs.GuardWorld.{Actor, Turns, GuardNow, GuardWorld, put_near, turned}
use Rattle.fkv_flush.proofs.GuardSound.{IsSound}
use Rattle.fkv_flush.proofs.GuardSteps.{looks}
use Rattle.fkv_flush.proofs.GuardOffsets.{lifted, lifted_epochs, limit_written}
use Rattle.fkv_flush.proofs.GuardMoves.{begins_raise, inner_rest, limit_fits, some_page}
use Rattle.fkv_flush.proofs.GuardHosted.{SoundNear, IsMoveSound, hosted, hosted_sound}
use Rattle.fkv_flush.proofs.GuardWorks.{truth, Known}

-- one ask of a turn that moves is one of its move
pub turned_hosted : (n : GuardNow) (x : Actor) (m : Mover) (next last : Ask MoveAnswer) → move_next_ask m (reply_to n.words (move_ask m)) ≡ next
    → (is_done next ≡ false → next ≡ move_ask (move_next m (reply_to n.words (move_ask m)))) → move_next_ask (move_next m (reply_to n.words (move_ask m))) 0 ≡ last
    → turned n x (turn_at turn.Moves m) ≡ hosted n x (λ its. Turns (turn_at turn.Moves its)) (λ its. Turns (turn_at turn.AtRest its)) m (reply_to n.words (move_ask m))
unfolding turning_ask turning_next turn_led passed
turned_hosted n x m (Done inner) last e on f = rw (passed_words n.words (move_ask m) moved.Through, passed_reply n.words (move_ask m) moved.Through, e) refl
turned_hosted n x m (Put slot action) (Done end) e on f = rw (passed_words n.words (move_ask m) moved.Through, passed_reply n.words (move_ask m) moved.Through, e, ← on refl, f) refl
turned_hosted n x m (Put slot action) last e on f = rw (passed_words n.words (move_ask m) moved.Through, passed_reply n.words (move_ask m) moved.Through, e, ← on refl, f) refl
turned_hosted n x m next last e on f = rw (passed_words n.words (move_ask m) moved.Through, passed_reply n.words (move_ask m) moved.Through, e, ← on refl) refl

-- the world is sound after one ask of the move
pub move_case : (w : GuardWorld) (a : ℕ) (x : Actor) → IsMoveSound w a x (λ m. turned w.now x (turn_at turn.Moves m))
move_case w a x step raising arming sound got k =
    let m : Mover = mover step raising arming in
    subst (SoundNear w a x) (sym (turned_hosted w.now x m _ _ refl (move_goes_on m (reply_to w.now.words (move_ask m))) refl))
    (hosted_sound w a x (λ its. Turns (turn_at turn.Moves its)) (λ its. Turns (turn_at turn.AtRest its)) (λ l A d m h. h) (λ l A d m. tt) step raising arming sound got k)

-- the world is sound after one ask before the move begins
abbrev SoundAsk : GuardWorld → ℕ → Actor → Turning → Mover → Type 0
SoundAsk w a x step m = IsSound (record { now = put_near w.now a (turned w.now x (turn_at step m)); past = w.past })

-- the move has not begun
abbrev pub IsBefore : Turning → Type 0
IsBefore turn.AtRest = ⊥
IsBefore turn.Moves = ⊥
IsBefore step = ⊤

pub turn_waits : (w : GuardWorld) (a : ℕ) (x : Actor) (step : Turning) (m : Mover) → IsSound w → slice_get w.now.actors a ≡ Some x → IsBefore step → Known w a x (Turns (turn_at step m)) → SoundAsk w a x step m
unfolding turning_ask turning_next passed moving_ask raise_ask
turn_waits w a x turn.AtRest m sound got before k = absurd before
turn_waits w a x turn.Moves m sound got before k = absurd before
turn_waits w a x (turn.LoadsLimit form tail) m sound got before k =
    let same = inner_rest x.machine m.step m.raising m.arming k.0 in
    let found : ℕ = word_at w.now.words 4 in
    rw (set-get_or w.now.words 4 0)
    (elim (truth (nat_lt (found / w.now.shape.page) (pages_wanted w.now.shape tail))) [
      | inl e ↦
          let within : found / w.now.shape.page < w.now.shape.disk_pages = grind (arith, nat_tests, e) in
          rw e (rw same (looks w a x (record x { work = Turns (turn_at (turn.LoadsClosed form found) m) }) sound got refl refl (λ addr u. u) (k, within)))
      | inr e ↦ rw e (rw same (looks w a x (record x { work = Turns (turn_at turn.AtRest m) }) sound got refl refl (λ addr u. u) tt))
    ])
turn_waits w a x (turn.LoadsClosed Whole limit) m sound got before k =
    let same = inner_rest x.machine m.step m.raising m.arming k.0.0 in
    let found : ℕ = word_at w.now.words 9 in
    rw (set-get_or w.now.words 9 0)
    (elim (truth (nat_le (frame_end w.now.shape limit) found)) [
      | inl e ↦ rw e (rw same (looks w a x (record x { work = Turns (turn_at (turn.RaisesLimit limit) m) }) sound got refl refl (λ addr u. u) (k.0, grind (arith, nat_tests, e), k.1)))
      | inr e ↦ rw e (rw same (looks w a x (record x { work = Turns (turn_at (turn.LoadsHead (frame_end w.now.shape limit)) m) }) sound got refl refl (λ addr u. u) k.0))
    ])
turn_waits w a x (turn.LoadsClosed OpensOnly limit) m sound got before k =
    let same = inner_rest x.machine m.step m.raising m.arming k.0.0 in
    let found : ℕ = word_at w.now.words 9 in
    rw (set-get_or w.now.words 9 0)
    (elim (truth (nat_le (frame_end w.now.shape limit) found)) [
      | inl e ↦ rw e (rw same (looks w a x (record x { work = Turns (turn_at (turn.RaisesLimit limit) m) }) sound got refl refl (λ addr u. u) (k.0, grind (arith, nat_tests, e), k.1)))
      | inr e ↦ rw e (rw same (looks w a x (record x { work = Turns (turn_at turn.AtRest m) }) sound got refl refl (λ addr u. u) tt))
    ])
turn_waits w a x (turn.LoadsHead end) m sound got before k =
    let same = inner_rest x.machine m.step m.raising m.arming k.0 in
    rw (set-get_or w.now.words 8 0)
    (elim (truth (nat_lt (word_at w.now.words 8) end)) [
      | inl e ↦ rw e (rw same (looks w a x (record x { work = Turns (turn_at (turn.LoadsFlushed end) m) }) sound got refl refl (λ addr u. u) k))
      | inr e ↦ rw e (rw same (looks w a x (record x { work = Turns (turn_at turn.AtRest m) }) sound got refl refl (λ addr u. u) tt))
    ])
turn_waits w a x (turn.LoadsFlushed end) m sound got before k =
    let same = inner_rest x.machine m.step m.raising m.arming k.0 in
    let found : ℕ = word_at w.now.words 7 in
    rw (set-get_or w.now.words 7 0)
    (elim (truth (nat_le end found)) [
      | inl e ↦ rw e (begins_raise w a x (record x { machine = Raises raise.LoadsEpoch; work = Turns (turn_at turn.Moves (move_begun Head end)) }) sound got k.1 refl refl refl (λ A. (refl, grind (arith, nat_tests, e))))
      | inr e ↦ rw e (rw same (looks w a x (record x { work = Turns (turn_at turn.AtRest m) }) sound got refl refl (λ addr u. u) tt))
    ])
turn_waits w a x (turn.RaisesLimit limit) m sound got before k =
    let same = inner_rest x.machine m.step m.raising m.arming k.0.0 in
    let l : Levels = levels_of w.now.words in
    let o = sound.guard.in_order in
    let v : ℕ = limit_after w.now.shape limit in
    let x' : Actor = record x { work = Turns (turn_at turn.AtRest m) } in
    elim (truth (l.limit == limit)) [
      | inl e ↦
          let here : l.limit ≡ limit = grind (arith, nat_tests, e) in
          let ring_size = sound.fits.ring in
          let some_ring : 0 < w.now.shape.frames * w.now.shape.page = let h = w.now.places.some_ring in omega (arith, h, ring_size) in
          let fits = limit_fits w.now.shape limit (some_page w.now.shape.frames w.now.shape.page some_ring) in
          let closed : frame_end w.now.shape limit ≤ l.closed = k.1 in
          let ring = sound.fits.ring in
          let top = o.tail_below in
          rw e (rw same
          (lifted w a x x' 4 v (record l { limit = v }) sound got (lifted_epochs w a x x' 4 v sound got (omega arith) (omega arith) refl) (omega arith) (omega arith)
          (limit_written w.now.words v (let h = sound.epochs.enough_words in omega (arith, h)))
          (record { closed = omega arith; head = omega arith; flushed = omega arith; safe_read_only = omega arith; read_only = omega arith; tail = omega arith; limit = omega (arith, here, fits.0) })
          (record { closed_below = o.closed_below; head_below = o.head_below; flushed_below = o.flushed_below; safe_below = o.safe_below; read_only_below = o.read_only_below; tail_below = omega (arith, top, here, fits.0) })
          (omega (arith, fits.1, closed, ring)) refl refl (λ sight. refl) refl (λ slot c i. i) refl (λ addr u. inl u) tt))
      | inr e ↦ rw e (rw same (rw (set-get_or w.now.words 4 0) (looks w a x x' sound got refl refl (λ addr u. u) tt)))
    ]
