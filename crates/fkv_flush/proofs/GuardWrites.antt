-- Which words a step writes, and that a word of a frame is one of an open address.
use Rattle.std.proofs.Common.{◌%◌, subst, ◌≡◌, ℕ, ◌<◌, ◌≤◌, refl, arith, sym, ap, inl, inr, ◌∙◌, true}
use Rattle.std.specs.Prelude.{Option, Some, None, ⊤, slice_get, nat_lt, nat_le, ◌&&◌, ◌||◌, if◌then◌else◌}
use Rattle.std.proofs.lemmas.Bool.Decides.{nat_tests}
use Rattle.fkv_plane.specs.declared.asks.Ask.{Ask}
use Rattle.fkv_plane.specs.declared.asks.Ask.TheVariants.{Load, Store, Swap, Cas, Add, Max, Put, Take, Done}
use Rattle.fkv_plane.specs.declared.places.RecordWord.{RecordWord}
use Rattle.fkv_plane.specs.declared.places.RecordWord.TheVariants as rec
use Rattle.fkv_plane.specs.declared.places.SessionWord.TheVariants as own
use Rattle.fkv_plane.specs.Places.{record_place, record_number, frames_start, session_place}
use Rattle.fkv_log.specs.declared.reserving.Reserving.TheVariants as reserve
use Rattle.fkv_log.specs.declared.filling.Filling.TheVariants as fill
use Rattle.fkv_log.specs.declared.invalidating.Invalidating.TheVariants as invalidate
use Rattle.fkv_log.specs.Reserving.{reserve_ask}
use Rattle.fkv_log.specs.Filling.{fill_ask}
use Rattle.fkv_log.specs.Invalidating.{invalidate_ask}
use Rattle.fkv_epoch.specs.declared.raising.Raising.{Raising}
use Rattle.fkv_epoch.specs.declared.arming.Arming.{Arming}
use Rattle.fkv_epoch.specs.declared.arming.Arming.TheVariants as arm
use Rattle.fkv_epoch.specs.Raising.{raise_ask}
use Rattle.fkv_epoch.specs.Arming.{arm_ask}
use Rattle.fkv_epoch.specs.EpochWorld.{EpochMachine, Raises, Arms, is_own}
use Rattle.fkv_epoch.proofs.Shown.{some_same, none_some}
use Rattle.fkv_log.specs.declared.moving.Offset.{Offset}
use Rattle.fkv_log.specs.declared.moving.Offset.TheVariants.{ReadOnly, Head}
use Rattle.fkv_log.specs.declared.moving.Moving.{Moving}
use Rattle.fkv_log.specs.declared.moving.Moving.TheVariants as move
use Rattle.fkv_log.specs.declared.shifting.Shifting.{Shifting}
use Rattle.fkv_log.specs.declared.shifting.Shifting.TheVariants as shift
use Rattle.fkv_log.specs.declared.turning.Turning.{Turning}
use Rattle.fkv_log.specs.declared.turning.Turning.TheVariants as turn
use Rattle.fkv_flush.specs.declared.flushing.Flushing.TheVariants as flush
use Rattle.fkv_flush.specs.declared.serving.Serving.TheVariants as serve
use Rattle.fkv_plane.specs.Passing.{passed}
use Rattle.fkv_log.specs.Moving.{Mover, offset_place, move_ask, moving_ask}
use Rattle.fkv_log.specs.Shifting.{shift_at, shifting_ask}
use Rattle.fkv_log.specs.Turning.{turn_at, turning_ask}
use Rattle.fkv_flush.specs.Flushing.{flush_ask}
use Rattle.fkv_flush.specs.Serving.{serve_ask}
use Rattle.fkv_flush.specs.GuardAsks.{writes, machine_writes}
use Rattle.fkv_flush.specs.GuardLevels.{levels_of}
use Rattle.fkv_flush.specs.GuardWorld.{Actor, Work, Rests, Reserves, Fills, Invalidates, Shifts, Turns, Flushes, Serves, GuardWorld, GuardEvent, Moves, Updates, RaisesReadOnly, RaisesFor, Changes, is_idle, is_awake, is_guarded, may_update, epoch_world}
use Rattle.fkv_flush.specs.Guarded.{seen_at, seen_of, undecided_at, work_writes, actor_writes, update_writes, IsPermittedEvent, IsOpenPlace, GuardsWrites}
use Rattle.fkv_frames.proofs.Shown.{same_place}
use Rattle.fkv_flush.proofs.GuardEpochs.{OwnAt, own_writes}
use Rattle.fkv_flush.proofs.GuardSound.{MoveKnows, IsSound, machine_at}
use Rattle.fkv_flush.proofs.GuardWorks.{truth, Known}
use Rattle.fkv_flush.proofs.GuardHappens.{both, neither, awake_goes}

no_place : {X : Type 0} (place : ℕ) → ◌≡◌ {A = Option ℕ} None (Some place) → X
no_place {X} place e = none_some {Y = X} place e

pub writes_passed : {A B : Type 0} (ask : Ask A) (b : B) → writes (passed ask b) ≡ writes ask
unfolding passed
writes_passed (Load place) b = refl
writes_passed (Store place new) b = refl
writes_passed (Swap place new) b = refl
writes_passed (Cas place old new) b = refl
writes_passed (Add place k) b = refl
writes_passed (Max place k) b = refl
writes_passed (Put slot action) b = refl
writes_passed (Take slot) b = refl
writes_passed (Done answer) b = refl

-- a place of the words below the frames
abbrev IsLow : GuardWorld → Option ℕ → Type 0
IsLow w None = ⊤
IsLow w (Some place) = place < frames_start w.now.places

-- the machines of the epochs write below the frames
own_low : (w : GuardWorld) (a : ℕ) (d : EpochMachine) (at : Option ℕ) → OwnAt w.now.places.sessions a d at → IsLow w at
own_low w a d None h = tt
own_low w a d (Some place) (inl h) = omega (arith, h)
own_low w a d (Some place) (inr (inl h)) = omega (arith, h.0)
own_low w a d (Some place) (inr (inr (inl h))) = omega (arith, h.1)
own_low w a d (Some place) (inr (inr (inr (inl h)))) = omega (arith, h.0, h.1)
own_low w a d (Some place) (inr (inr (inr (inr h)))) = omega (arith, h.1)

machine_low : (w : GuardWorld) (a : ℕ) (x : Actor) (d : EpochMachine) → IsSound w → slice_get w.now.actors a ≡ Some x → x.machine ≡ d → IsLow w (machine_writes a d)
machine_low w a x d sound got its = own_low w a d (machine_writes a d) (own_writes (epoch_world w) a d sound.epochs (machine_at w.now.actors a x got ∙ ap Some its))

offset_low : (w : GuardWorld) (offset : Offset) → offset_place offset < frames_start w.now.places
offset_low w ReadOnly = omega arith
offset_low w Head = omega arith

move_low : (w : GuardWorld) (a : ℕ) (x : Actor) (step : Moving) (raising : Raising) (arming : Arming) → IsSound w → slice_get w.now.actors a ≡ Some x → MoveKnows (levels_of w.now.words) x.machine step raising arming → IsLow w (writes (moving_ask step raising arming))
unfolding moving_ask
move_low w a x move.AtRest raising arming sound got k = absurd k
move_low w a x (move.Raises target) raising arming sound got k = rw (writes_passed (raise_ask raising) _) (machine_low w a x (Raises raising) sound got k.0)
move_low w a x (move.MovesOffset target) raising arming sound got k = offset_low w target.offset
move_low w a x (move.Puts target slot) raising arming sound got k = absurd k
move_low w a x move.Arms raising arm.AtRest sound got k = absurd k
move_low w a x move.Arms raising (arm.PutsAction slot c) sound got k = absurd k
move_low w a x move.Arms raising (arm.StoresEpoch slot c) sound got k = rw (writes_passed (arm_ask (arm.StoresEpoch slot c)) _) (machine_low w a x (Arms (arm.StoresEpoch slot c)) sound got k)

-- a low place is no frame's
low_none : {X : Type 0} (w : GuardWorld) (at : Option ℕ) (place : ℕ) → IsLow w at → at ≡ Some place → frames_start w.now.places ≤ place → X
low_none {X} w None place low e high = none_some {Y = X} place e
low_none {X} w (Some other) place low e high = let same = some_same other place e in absurd (omega (arith, low, same, high))

word_small : (word : RecordWord) → record_number word < 3
word_small rec.Header = omega arith
word_small rec.Key = omega arith
word_small rec.Value = omega arith

-- an address between what its session has seen as read-only and the tail is open
open_place : (w : GuardWorld) (addr seen place : ℕ) (word : RecordWord) → IsSound w → (levels_of w.now.words).safe_read_only ≤ seen → seen ≤ addr → addr < (levels_of w.now.words).tail → place ≡ record_place w.now.places addr word → IsOpenPlace w place
open_place w addr seen place word sound safe above below its =
    let o = sound.guard.in_order in
    let c = sound.guard.cover in
    let i = o.closed_below in
    let j = o.head_below in
    let k = o.flushed_below in
    let t = o.tail_below in
    record {
      addr = addr;
      word = word;
      its_place = its;
      above = omega (arith, c, i, j, k, safe, above);
      below = omega (arith, below, t);
      alone = λ other its_word same low high.
          let u = word_small word in
          let v = word_small its_word in
          let index : other % w.now.places.ring ≡ addr % w.now.places.ring = omega (arith, its, same, u, v) in
          same_place w.now.places.ring (levels_of w.now.words).limit other addr low high (omega (arith, below, t)) (omega (arith, c, i, j, k, safe, above)) index;
      safe = omega (arith, safe, above);
      reserved = below;
    }

-- the record that an actor has reserved is
reserved_place : (w : GuardWorld) (a : ℕ) (x : Actor) (addr place : ℕ) (word : RecordWord) → IsSound w → slice_get w.now.actors a ≡ Some x → x.undecided ≡ Some addr → Some (record_place w.now.places addr word) ≡ Some place → IsOpenPlace w place
reserved_place w a x addr place word sound got undecided e =
    let f = sound.guard.fresh a addr (ap undecided_at got ∙ undecided) in
    open_place w addr (seen_of w.now.actors a).read_only place word sound (sound.guard.safe.read_only a f.counts) f.above f.below (sym (some_same (record_place w.now.places addr word) place e))

-- what an actor with this work writes of a frame is of an open address
abbrev WritesOpen : GuardWorld → ℕ → Actor → Work → ℕ → Type 0
WritesOpen w a x work place = (if is_idle work then machine_writes a x.machine else work_writes w.now a x work) ≡ Some place → frames_start w.now.places ≤ place → IsOpenPlace w place

shift_writes : (w : GuardWorld) (a : ℕ) (x : Actor) (step : Shifting) (m : Mover) (place : ℕ) → IsSound w → slice_get w.now.actors a ≡ Some x → x.work ≡ Shifts (shift_at step m) → WritesOpen w a x (Shifts (shift_at step m)) place
unfolding shifting_ask
shift_writes w a x shift.AtRest m place sound got its e high = low_none w (machine_writes a x.machine) place (machine_low w a x x.machine sound got refl) e high
shift_writes w a x shift.LoadsTail m place sound got its e high = no_place place e
shift_writes w a x (shift.LoadsReadOnly tail) m place sound got its e high = no_place place e
shift_writes w a x (shift.Moves tail) m place sound got its e high =
    low_none w (writes (move_ask m)) place (move_low w a x m.step m.raising m.arming sound got (subst (Known w a x) its (sound.knows a x got)))
    (sym (writes_passed (move_ask m) _) ∙ e) high

turn_writes : (w : GuardWorld) (a : ℕ) (x : Actor) (step : Turning) (m : Mover) (place : ℕ) → IsSound w → slice_get w.now.actors a ≡ Some x → x.work ≡ Turns (turn_at step m) → WritesOpen w a x (Turns (turn_at step m)) place
unfolding turning_ask
turn_writes w a x turn.AtRest m place sound got its e high = low_none w (machine_writes a x.machine) place (machine_low w a x x.machine sound got refl) e high
turn_writes w a x (turn.RaisesLimit limit) m place sound got its e high = low_none w (Some 4) place (omega arith) e high
turn_writes w a x turn.Moves m place sound got its e high =
    low_none w (writes (move_ask m)) place (move_low w a x m.step m.raising m.arming sound got (subst (Known w a x) its (sound.knows a x got)))
    (sym (writes_passed (move_ask m) _) ∙ e) high
turn_writes w a x step m place sound got its e high = no_place place e

writes_by : (w : GuardWorld) (a : ℕ) (x : Actor) (work : Work) (place : ℕ) → IsSound w → slice_get w.now.actors a ≡ Some x → x.work ≡ work → WritesOpen w a x work place
unfolding reserve_ask fill_ask invalidate_ask flush_ask serve_ask
writes_by w a x Rests place sound got its e high = low_none w (machine_writes a x.machine) place (machine_low w a x x.machine sound got refl) e high
writes_by w a x (Reserves reserve.AtRest) place sound got its e high = low_none w (machine_writes a x.machine) place (machine_low w a x x.machine sound got refl) e high
writes_by w a x (Reserves (reserve.LoadsLimit bound)) place sound got its e high = no_place place e
writes_by w a x (Reserves (reserve.LoadsTail limit)) place sound got its e high = no_place place e
writes_by w a x (Reserves (reserve.TakesTail tail)) place sound got its e high = low_none w (Some 3) place (omega arith) e high
writes_by w a x (Fills fill.AtRest) place sound got its e high = low_none w (machine_writes a x.machine) place (machine_low w a x x.machine sound got refl) e high
writes_by w a x (Fills (fill.StoresValue addr its_words)) place sound got its e high = reserved_place w a x addr.0 place rec.Value sound got (subst (Known w a x) its (sound.knows a x got)) e
writes_by w a x (Fills (fill.StoresKey addr its_words)) place sound got its e high = reserved_place w a x addr.0 place rec.Key sound got (subst (Known w a x) its (sound.knows a x got)) e
writes_by w a x (Fills (fill.StoresHeader addr its_words)) place sound got its e high = reserved_place w a x addr.0 place rec.Header sound got (subst (Known w a x) its (sound.knows a x got)) e
writes_by w a x (Invalidates invalidate.AtRest) place sound got its e high = low_none w (machine_writes a x.machine) place (machine_low w a x x.machine sound got refl) e high
writes_by w a x (Invalidates (invalidate.StoresHeader addr header)) place sound got its e high = reserved_place w a x addr.0 place rec.Header sound got (subst (Known w a x) its (sound.knows a x got)) e
writes_by w a x (Shifts s) place sound got its e high = shift_writes w a x s.step s.mover place sound got its e high
writes_by w a x (Turns s) place sound got its e high = turn_writes w a x s.step s.mover place sound got its e high
writes_by w a x (Flushes flush.AtRest bytes) place sound got its e high = low_none w (machine_writes a x.machine) place (machine_low w a x x.machine sound got refl) e high
writes_by w a x (Flushes (flush.RaisesFlushed end) bytes) place sound got its e high = low_none w (Some 7) place (omega arith) e high
writes_by w a x (Flushes step bytes) place sound got its e high = no_place place e
writes_by w a x (Serves begin serve.AtRest) place sound got its e high = low_none w (machine_writes a x.machine) place (machine_low w a x x.machine sound got refl) e high
writes_by w a x (Serves begin (serve.LoadsState session)) place sound got its e high = no_place place e
writes_by w a x (Serves begin (serve.LoadsAddress session)) place sound got its e high = no_place place e
writes_by w a x (Serves begin (serve.Reads session addr)) place sound got its e high = no_place place e
writes_by w a x (Serves begin (serve.StoresHeader session mail)) place sound got its e high =
    let k : session < w.now.shape.sessions = subst (Known w a x) its (sound.knows a x got) in let s = sound.fits.sessions in low_none w (Some (session_place session own.MailHeader)) place (omega (arith, k, s)) e high
writes_by w a x (Serves begin (serve.StoresKey session mail)) place sound got its e high =
    let k : session < w.now.shape.sessions = subst (Known w a x) its (sound.knows a x got) in let s = sound.fits.sessions in low_none w (Some (session_place session own.MailKey)) place (omega (arith, k, s)) e high
writes_by w a x (Serves begin (serve.StoresValue session mail)) place sound got its e high =
    let k : session < w.now.shape.sessions = subst (Known w a x) its (sound.knows a x got) in let s = sound.fits.sessions in low_none w (Some (session_place session own.MailValue)) place (omega (arith, k, s)) e high
writes_by w a x (Serves begin (serve.StoresReady session)) place sound got its e high =
    let k : session < w.now.shape.sessions = subst (Known w a x) its (sound.knows a x got) in let s = sound.fits.sessions in low_none w (Some (session_place session own.MailState)) place (omega (arith, k, s)) e high

moves_case : (w : GuardWorld) (a : ℕ) (found : Option Actor) (place : ℕ) → IsSound w → slice_get w.now.actors a ≡ found → actor_writes w.now a found ≡ Some place → frames_start w.now.places ≤ place → IsOpenPlace w place
moves_case w a None place sound got e high = no_place place e
moves_case w a (Some x) place sound got e high = writes_by w a x x.work place sound got refl e high

-- a change in place
update_case : (w : GuardWorld) (a addr : ℕ) (found : Option Actor) (place : ℕ) → IsSound w → slice_get w.now.actors a ≡ found → ((x : Actor) → found ≡ Some x → may_update w.now a x addr ≡ true)
    → update_writes w.now a addr found ≡ Some place → IsOpenPlace w place
update_case w a addr None place sound got permitted e = no_place place e
update_case w a addr (Some x) place sound got permitted e =
    let p = both (is_awake w.now a x && is_idle x.work && nat_le x.seen.read_only addr) (nat_lt addr (levels_of w.now.words).tail) (permitted x refl) in
    let q = both (is_awake w.now a x && is_idle x.work) (nat_le x.seen.read_only addr) p.0 in
    let r = both (is_awake w.now a x) (is_idle x.work) q.0 in
    let goes = (awake_goes w a x got r.0).0 in
    let low = sound.guard.safe.read_only a goes in
    let same = ap (λ (y : Option Actor). (seen_at y).read_only) got in
    let above : x.seen.read_only ≤ addr = grind (arith, nat_tests, q) in
    let below : addr < (levels_of w.now.words).tail = grind (arith, nat_tests, p) in
    open_place w addr x.seen.read_only place rec.Value sound (omega (arith, low, same)) above below (sym (some_same (record_place w.now.places addr rec.Value) place e))

change_case : {X : Type 0} (w : GuardWorld) (place other : ℕ) → (if is_guarded w.now.places place then None else Some place) ≡ Some other → frames_start w.now.places ≤ other → X
change_case {X} w place other e high = elim (truth (is_guarded w.now.places place)) [
  | inl m ↦ let its : ◌≡◌ {A = Option ℕ} None (Some other) = rw m at e in no_place other its
  | inr m ↦
      let its : Some place ≡ Some other = rw m at e in
      let same = some_same place other its in
      let n = (neither (is_own w.now.places.sessions place || (nat_le 3 place && nat_lt place 10)) (nat_le (frames_start w.now.places) place) m).1 in
      let low : place < frames_start w.now.places = grind (arith, nat_tests, n) in
      absurd (omega (arith, same, low, high))
]

pub guards_writes : (w : GuardWorld) (event : GuardEvent) → IsSound w → IsPermittedEvent w.now event → GuardsWrites w event
guards_writes w (Moves a) sound permitted place e high = moves_case w a (slice_get w.now.actors a) place sound refl e high
guards_writes w (Updates a addr word) sound permitted place e high = update_case w a addr (slice_get w.now.actors a) place sound refl permitted e
guards_writes w (RaisesReadOnly a to) sound permitted place e high = low_none w (Some 5) place (omega arith) e high
guards_writes w (RaisesFor a action) sound permitted place e high = low_none w (Some 0) place (omega arith) e high
guards_writes w (Changes a p word) sound permitted place e high = change_case w p place e high
guards_writes w event sound permitted place e high = no_place place e
