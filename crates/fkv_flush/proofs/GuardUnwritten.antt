-- A word that an event doesn't write is the same after it, and so the offsets that few steps write.
use Rattle.std.proofs.Common.{◌≡◌, ◌≢◌, ℕ, ◌<◌, ◌≤◌, ◌⊎◌, List, refl, arith, ap, inl, inr, ◌∙◌, Bool, true, false, max}
use Rattle.std.specs.Prelude.{Option, Some, None, slice_get, nat_le, ◌==◌, ◌&&◌, if◌then◌else◌}
use Rattle.std.proofs.lemmas.Bool.Decides.{nat_tests}
use Rattle.fkv_plane.specs.declared.actions.Action.{Action}
use Rattle.fkv_plane.specs.declared.actions.Action.TheVariants as act
use Rattle.fkv_plane.specs.declared.places.RecordWord.TheVariants as rec
use Rattle.fkv_plane.specs.Asked.{word_at}
use Rattle.fkv_plane.specs.Places.{record_place}
use Rattle.fkv_log.specs.declared.reserving.Reserving.TheVariants as reserve
use Rattle.fkv_log.specs.declared.filling.Filling.TheVariants as fill
use Rattle.fkv_log.specs.declared.invalidating.Invalidating.TheVariants as invalidate
use Rattle.fkv_log.specs.Reserving.{reserve_ask}
use Rattle.fkv_log.specs.Filling.{fill_ask}
use Rattle.fkv_log.specs.Invalidating.{invalidate_ask}
use Rattle.fkv_epoch.specs.declared.protecting.Protecting.TheVariants as protect
use Rattle.fkv_epoch.specs.declared.refreshing.Refreshing.TheVariants as refresh
use Rattle.fkv_epoch.specs.declared.leaving.Leaving.TheVariants as leave
use Rattle.fkv_epoch.specs.declared.scanning.Scanning.TheVariants as scan
use Rattle.fkv_epoch.specs.declared.claiming.Claiming.TheVariants as claim
use Rattle.fkv_epoch.specs.declared.raising.Raising.{Raising}
use Rattle.fkv_epoch.specs.declared.raising.Raising.TheVariants as raise
use Rattle.fkv_epoch.specs.declared.arming.Arming.{Arming}
use Rattle.fkv_epoch.specs.declared.arming.Arming.TheVariants as arm
use Rattle.fkv_epoch.specs.Protecting.{protect_ask}
use Rattle.fkv_epoch.specs.Refreshing.{refresh_ask}
use Rattle.fkv_epoch.specs.Leaving.{leave_ask}
use Rattle.fkv_epoch.specs.Scanning.{scan_ask}
use Rattle.fkv_epoch.specs.Claiming.{claim_ask}
use Rattle.fkv_epoch.specs.Raising.{raise_ask}
use Rattle.fkv_epoch.specs.Arming.{arm_ask}
use Rattle.fkv_epoch.specs.EpochWorld.{EpochMachine, Protects, Refreshes, Leaves, Scans, Claims, Raises, Arms, Sight, is_at_rest}
use Rattle.fkv_epoch.proofs.Shown.{word_spared, word_written, same_or}
use Rattle.fkv_log.specs.declared.moving.Offset.{Offset}
use Rattle.fkv_log.specs.declared.moving.Offset.TheVariants.{ReadOnly, Head}
use Rattle.fkv_log.specs.declared.moving.Moving.{Moving}
use Rattle.fkv_log.specs.declared.moving.Moving.TheVariants as move
use Rattle.fkv_log.specs.declared.shifting.Shifting.{Shifting}
use Rattle.fkv_log.specs.declared.shifting.Shifting.TheVariants as shift
use Rattle.fkv_log.specs.declared.turning.Turning.{Turning}
use Rattle.fkv_log.specs.declared.turning.Turning.TheVariants as turn
use Rattle.fkv_flush.specs.declared.flushing.Flushing.TheVariants as flush
use Rattle.fkv_flush.specs.declared.serving.Serving.TheVariants as serve
use Rattle.fkv_log.specs.Moving.{Mover, offset_place, move_ask, moving_ask}
use Rattle.fkv_log.specs.Shifting.{shift_at, shift_ask, shifting_ask}
use Rattle.fkv_log.specs.Turning.{turn_at, turn_ask, turning_ask, limit_after}
use Rattle.fkv_flush.specs.Flushing.{flush_ask}
use Rattle.fkv_flush.specs.Serving.{serve_ask}
use Rattle.fkv_flush.specs.GuardAsks.{writes, machine_writes}
use Rattle.fkv_flush.specs.GuardLevels.{levels_of}
use Rattle.fkv_flush.specs.GuardWorld.{Actor, Work, Rests, Reserves, Fills, Invalidates, Shifts, Turns, Flushes, Serves, GuardTask, GuardNow, GuardWorld, GuardEvent, Begins, Resumes, Moves, Calls, Reads, Sees, Publishes, Updates, RaisesReadOnly, RaisesFor, Changes, CallsElse, guard_happens, is_idle, is_none, is_guarded, is_stored, may_work, work_step, begun, resumed, moved, called, called_by, read, read_by, seen_again, published, updated, read_only_raised, raised_for, raised_with, changed}
use Rattle.fkv_flush.specs.Guarded.{work_writes, actor_writes, update_writes, event_writes}
use Rattle.fkv_flush.proofs.GuardEpochs.{Spares, spared, stepped_spared}
use Rattle.fkv_flush.proofs.GuardSound.{IsSound}
use Rattle.fkv_flush.proofs.GuardWorks.{truth}
use Rattle.fkv_flush.proofs.GuardHappens.{guarded_not}
use Rattle.fkv_flush.proofs.GuardMoves.{limit_fits, some_page}
use Rattle.fkv_flush.proofs.GuardWrites.{writes_passed}

-- a test that leads to the same word either way
either_same : (b : Bool) (n m : GuardNow) (p : ℕ) → word_at n.words p ≡ word_at m.words p → word_at (if b then n else m).words p ≡ word_at m.words p
either_same true n m p e = e
either_same false n m p e = refl

-- one ask of an actor's machine leaves each word that it doesn't write
worked_same : (n : GuardNow) (a : ℕ) (x : Actor) (work : Work) (p : ℕ) → Spares (work_writes n a x work) p → word_at (work_step n a x work).words p ≡ word_at n.words p
worked_same n a x Rests p h = stepped_spared n.places.sessions a n.words n.actions x.machine p h
worked_same n a x (Reserves step) p h = spared n.words (reserve_ask step) p h
worked_same n a x (Fills step) p h = spared n.words (fill_ask n.places step) p h
worked_same n a x (Invalidates step) p h = spared n.words (invalidate_ask n.places step) p h
worked_same n a x (Shifts s) p h = spared n.words (shift_ask s) p h
worked_same n a x (Turns s) p h = spared n.words (turn_ask n.shape s) p h
worked_same n a x (Flushes step bytes) p h = spared n.words (flush_ask n.places step) p h
worked_same n a x (Serves begin step) p h = spared n.words (serve_ask step) p h

-- a machine begins, with no word written
begun_same : (n : GuardNow) (a : ℕ) (task : GuardTask) (found : Option Actor) (p : ℕ) → word_at (begun n a task found).words p ≡ word_at n.words p
begun_same n a task None p = refl
begun_same n a task (Some x) p = either_same (is_at_rest x.machine && is_idle x.work && may_work n a x task) _ n p refl

-- a machine is let go on, with no word written
resumed_same : (n : GuardNow) (a : ℕ) (found : Option Actor) (p : ℕ) → word_at (resumed n a found).words p ≡ word_at n.words p
resumed_same n a None p = refl
resumed_same n a (Some x) p = either_same (is_idle x.work) _ n p refl

-- an actor's ask, of the epochs' machine while its work is idle
moved_same : (n : GuardNow) (a : ℕ) (found : Option Actor) (p : ℕ) → Spares (actor_writes n a found) p → word_at (moved n a found).words p ≡ word_at n.words p
moved_same n a None p h = refl
moved_same n a (Some x) p h = elim (truth (is_idle x.work)) [
  | inl e ↦ rw e (stepped_spared n.places.sessions a n.words n.actions x.machine p (rw e at h))
  | inr e ↦ rw e (worked_same n a x x.work p (rw e at h))
]

-- a call of the device writes no word
called_same : (n : GuardNow) (a : ℕ) (done : Bool) (found : Option Actor) (p : ℕ) → word_at (called n a done found).words p ≡ word_at n.words p
called_same n a done None p = refl
called_same n a done (Some x) p = by x.work
  where
    by : (work : Work) → word_at (called_by n a done x work).words p ≡ word_at n.words p
    by (Flushes step bytes) = refl
    by work = refl

-- nor does a read of the device
read_same : (n : GuardNow) (a : ℕ) (bytes : Option (List ℕ)) (found : Option Actor) (p : ℕ) → word_at (read n a bytes found).words p ≡ word_at n.words p
read_same n a bytes None p = refl
read_same n a bytes (Some x) p = by x.work
  where
    by : (work : Work) → word_at (read_by n a bytes x work).words p ≡ word_at n.words p
    by (Serves begin step) = refl
    by work = refl

-- nor a load of a value that the session goes by
seen_same : (n : GuardNow) (a : ℕ) (sight : Sight) (found : Option Actor) (p : ℕ) → word_at (seen_again n a sight found).words p ≡ word_at n.words p
seen_same n a sight None p = refl
seen_same n a sight (Some x) p = either_same (is_none x.undecided) _ n p refl

-- nor the publishing of a record
published_same : (n : GuardNow) (a : ℕ) (found : Option Actor) (p : ℕ) → word_at (published n a found).words p ≡ word_at n.words p
published_same n a None p = refl
published_same n a (Some x) p = either_same (is_idle x.work) _ n p refl

-- a change in place writes the record's value alone
updated_same : (n : GuardNow) (a addr word : ℕ) (found : Option Actor) (p : ℕ) → Spares (update_writes n a addr found) p → word_at (updated n a addr word found).words p ≡ word_at n.words p
updated_same n a addr word None p h = refl
updated_same n a addr word (Some x) p h = word_spared n.words (record_place n.places addr rec.Value) word p h

-- a raise of the read-only offset writes that one
read_only_same : (n : GuardNow) (a to : ℕ) (found : Option Actor) (p : ℕ) → p ≢ 5 → word_at (read_only_raised n a to found).words p ≡ word_at n.words p
read_only_same n a to None p h = refl
read_only_same n a to (Some x) p h = either_same (nat_le to (word_at n.words 3)) _ n p (word_spared n.words 5 _ p h)

-- a raise of the epoch writes the epoch
raised_with_same : (n : GuardNow) (a : ℕ) (action : Action) (x : Actor) (d : EpochMachine) (p : ℕ) → p ≢ 0 → word_at (raised_with n a action x d).words p ≡ word_at n.words p
unfolding raise_ask
raised_with_same n a action x (Raises (raise.RaisesEpoch slot)) p h = word_spared n.words 0 _ p h
raised_with_same n a action x d p h = refl

-- also where it is tried and not made
raised_same : (n : GuardNow) (a : ℕ) (action : Action) (found : Option Actor) (p : ℕ) → p ≢ 0 → word_at (raised_for n a action found).words p ≡ word_at n.words p
raised_same n a action None p h = refl
raised_same n a action (Some x) p h = either_same (is_idle x.work && is_stored n.words action) _ n p (raised_with_same n a action x x.machine p h)

-- a change of a word that isn't guarded writes that word
changed_same : (n : GuardNow) (a place word : ℕ) (found : Option Actor) (p : ℕ) → Spares (if is_guarded n.places place then None else Some place) p → word_at (changed n a place word found).words p ≡ word_at n.words p
changed_same n a place word None p h = refl
changed_same n a place word (Some x) p h = elim (truth (is_guarded n.places place)) [
  | inl e ↦ rw e refl
  | inr e ↦ rw e (word_spared n.words place word p (rw e at h))
]

-- a word that an event doesn't write is the same after it
pub unwritten : (w : GuardWorld) (event : GuardEvent) (p : ℕ) → Spares (event_writes w.now event) p → word_at (guard_happens w event).now.words p ≡ word_at w.now.words p
unfolding guard_happens
unwritten w (Begins a task) p h = begun_same w.now a task (slice_get w.now.actors a) p
unwritten w (Resumes a) p h = resumed_same w.now a (slice_get w.now.actors a) p
unwritten w (Moves a) p h = moved_same w.now a (slice_get w.now.actors a) p h
unwritten w (Calls a done) p h = called_same w.now a done (slice_get w.now.actors a) p
unwritten w (Reads a bytes) p h = read_same w.now a bytes (slice_get w.now.actors a) p
unwritten w (Sees a sight) p h = seen_same w.now a sight (slice_get w.now.actors a) p
unwritten w (Publishes a) p h = published_same w.now a (slice_get w.now.actors a) p
unwritten w (Updates a addr word) p h = updated_same w.now a addr word (slice_get w.now.actors a) p h
unwritten w (RaisesReadOnly a to) p h = read_only_same w.now a to (slice_get w.now.actors a) p h
unwritten w (RaisesFor a action) p h = raised_same w.now a action (slice_get w.now.actors a) p h
unwritten w (Changes a place word) p h = changed_same w.now a place word (slice_get w.now.actors a) p h
unwritten w (CallsElse call) p h = refl

-- the place of the limit, or that of the flushed offset
abbrev IsLimitOrFlushed : ℕ → Type 0
IsLimitOrFlushed p = (4 ≤ p) × (p < 8) × (p ≢ 5) × (p ≢ 6)

-- no machine of the epochs writes it
machine_spares : (a : ℕ) (d : EpochMachine) (p : ℕ) → IsLimitOrFlushed p → Spares (machine_writes a d) p
unfolding protect_ask refresh_ask leave_ask scan_ask claim_ask raise_ask arm_ask
machine_spares a (Protects (protect.StoresEpoch epoch)) p h = λ e. omega (arith, e, h.1)
machine_spares a (Refreshes (refresh.StoresEpoch epoch)) p h = λ e. omega (arith, e, h.1)
machine_spares a (Leaves leave.StoresZero) p h = λ e. omega (arith, e, h.1)
machine_spares a (Scans (scan.RaisesSafe least)) p h = λ e. omega (arith, e, h.0)
machine_spares a (Claims (claim.TakesSlot slot word safe)) p h = λ e. omega (arith, e, h.1)
machine_spares a (Claims (claim.Runs slot epoch safe (act.SafeReadOnly addr))) p h = h.3
machine_spares a (Claims (claim.Runs slot epoch safe (act.Close addr))) p h = λ e. omega (arith, e, h.1)
machine_spares a (Claims (claim.Runs slot epoch safe (act.Phase phase version))) p h = λ e. omega (arith, e, h.0)
machine_spares a (Claims (claim.FreesSlot slot safe)) p h = λ e. omega (arith, e, h.1)
machine_spares a (Raises (raise.HoldsSlot slot)) p h = λ e. omega (arith, e, h.1)
machine_spares a (Raises (raise.RaisesEpoch slot)) p h = λ e. omega (arith, e, h.0)
machine_spares a (Arms (arm.StoresEpoch slot epoch)) p h = λ e. omega (arith, e, h.1)
machine_spares a d p h = tt

-- nor does a move of another offset
offset_spares : (offset : Offset) (p : ℕ) → IsLimitOrFlushed p → p ≢ offset_place offset
offset_spares ReadOnly p h = h.2
offset_spares Head p h = λ e. omega (arith, e, h.1)

-- a whole move asks what its machines of the epochs ask, and moves its offset
move_spares : (step : Moving) (raising : Raising) (arming : Arming) (p : ℕ) → IsLimitOrFlushed p → Spares (writes (moving_ask step raising arming)) p
unfolding moving_ask
move_spares move.AtRest raising arming p h = tt
move_spares (move.Raises target) raising arming p h = rw (writes_passed (raise_ask raising) _) (machine_spares 0 (Raises raising) p h)
move_spares (move.MovesOffset target) raising arming p h = offset_spares target.offset p h
move_spares (move.Puts target slot) raising arming p h = tt
move_spares move.Arms raising arming p h = rw (writes_passed (arm_ask arming) _) (machine_spares 0 (Arms arming) p h)

-- the turn is about to raise the limit, and this is its place
abbrev IsLimitRaise : Turning → ℕ → Type 0
IsLimitRaise (turn.RaisesLimit limit) p = p ≡ 4
IsLimitRaise step p = ⊥

-- the work is such a turn; or it is about to raise the flushed offset, and this is its place
abbrev IsRaise : Work → ℕ → Type 0
IsRaise (Turns s) p = IsLimitRaise s.step p
IsRaise (Flushes (flush.RaisesFlushed end) bytes) p = p ≡ 7
IsRaise work p = ⊥

shift_spares : (n : GuardNow) (step : Shifting) (m : Mover) (p : ℕ) → IsLimitOrFlushed p → Spares (writes (shift_ask (shift_at step m))) p
unfolding shifting_ask
shift_spares n (shift.Moves tail) m p h = rw (writes_passed (move_ask m) _) (move_spares m.step m.raising m.arming p h)
shift_spares n step m p h = tt

turn_spares : (n : GuardNow) (step : Turning) (m : Mover) (p : ℕ) → IsLimitOrFlushed p → Spares (writes (turn_ask n.shape (turn_at step m))) p ⊎ IsLimitRaise step p
unfolding turning_ask
turn_spares n (turn.RaisesLimit limit) m p h = elim (same_or p 4) [ inl e ↦ inr e | inr u ↦ inl u ]
turn_spares n turn.Moves m p h = inl (rw (writes_passed (move_ask m) _) (move_spares m.step m.raising m.arming p h))
turn_spares n step m p h = inl tt

-- all other work spares it
work_spares : (n : GuardNow) (a : ℕ) (x : Actor) (work : Work) (p : ℕ) → IsLimitOrFlushed p → Spares (work_writes n a x work) p ⊎ IsRaise work p
unfolding reserve_ask fill_ask invalidate_ask flush_ask serve_ask
work_spares n a x Rests p h = inl (machine_spares a x.machine p h)
work_spares n a x (Reserves (reserve.TakesTail tail)) p h = inl (λ e. omega (arith, e, h.0))
work_spares n a x (Fills (fill.StoresValue addr its_words)) p h = inl (λ e. omega (arith, e, h.1))
work_spares n a x (Fills (fill.StoresKey addr its_words)) p h = inl (λ e. omega (arith, e, h.1))
work_spares n a x (Fills (fill.StoresHeader addr its_words)) p h = inl (λ e. omega (arith, e, h.1))
work_spares n a x (Invalidates (invalidate.StoresHeader addr header)) p h = inl (λ e. omega (arith, e, h.1))
work_spares n a x (Shifts s) p h = inl (shift_spares n s.step s.mover p h)
work_spares n a x (Turns s) p h = turn_spares n s.step s.mover p h
work_spares n a x (Flushes (flush.RaisesFlushed end) bytes) p h = elim (same_or p 7) [ inl e ↦ inr e | inr u ↦ inl u ]
work_spares n a x (Serves begin (serve.StoresHeader session mail)) p h = inl (λ e. omega (arith, e, h.1))
work_spares n a x (Serves begin (serve.StoresKey session mail)) p h = inl (λ e. omega (arith, e, h.1))
work_spares n a x (Serves begin (serve.StoresValue session mail)) p h = inl (λ e. omega (arith, e, h.1))
work_spares n a x (Serves begin (serve.StoresReady session)) p h = inl (λ e. omega (arith, e, h.1))
work_spares n a x work p h = inl tt

-- the event is a step of an actor with such work
record Raise (n : GuardNow) (event : GuardEvent) (p : ℕ) : Type 0 where
  pub actor : ℕ
  pub x : Actor
  pub its_event : event ≡ Moves actor
  pub its_actor : slice_get n.actors actor ≡ Some x
  pub its_work : IsRaise x.work p

-- an actor's ask spares the place, or is such a step
moves_spare : (n : GuardNow) (a : ℕ) (found : Option Actor) (p : ℕ) → slice_get n.actors a ≡ found → IsLimitOrFlushed p → Spares (actor_writes n a found) p ⊎ Raise n (Moves a) p
moves_spare n a None p got h = inl tt
moves_spare n a (Some x) p got h = elim (truth (is_idle x.work)) [
  | inl e ↦ inl (rw e (machine_spares a x.machine p h))
  | inr e ↦ elim (work_spares n a x x.work p h) [
    | inl spares ↦ inl (rw e spares)
    | inr k ↦ inr (record { actor = a; x = x; its_event = refl; its_actor = got; its_work = k })
  ]
]

-- a record's value is no offset
update_spares : (n : GuardNow) (a addr : ℕ) (found : Option Actor) (p : ℕ) → IsLimitOrFlushed p → Spares (update_writes n a addr found) p
update_spares n a addr None p h = tt
update_spares n a addr (Some x) p h = λ i. omega (arith, i, h.1)

-- offsets are guarded
change_spares : (n : GuardNow) (place p : ℕ) → IsLimitOrFlushed p → Spares (if is_guarded n.places place then None else Some place) p
change_spares n place p h = elim (truth (is_guarded n.places place)) [
  | inl e ↦ rw e tt
  | inr e ↦ rw e (λ i. elim (guarded_not n.places place e).no_offset [ inl low ↦ omega (arith, low, i, h.0) | inr high ↦ omega (arith, high, i, h.1) ])
]

-- each event spares it, or is such a step
event_spares : (n : GuardNow) (event : GuardEvent) (p : ℕ) → IsLimitOrFlushed p → Spares (event_writes n event) p ⊎ Raise n event p
event_spares n (Moves a) p h = moves_spare n a (slice_get n.actors a) p refl h
event_spares n (Updates a addr word) p h = inl (update_spares n a addr (slice_get n.actors a) p h)
event_spares n (RaisesReadOnly a to) p h = inl h.2
event_spares n (RaisesFor a action) p h = inl (λ e. omega (arith, e, h.0))
event_spares n (Changes a place word) p h = inl (change_spares n place p h)
event_spares n event p h = inl tt

-- the words after an ask of the actor's work
moved_words : (w : GuardWorld) (event : GuardEvent) (a : ℕ) (x : Actor) (work : Work) → event ≡ Moves a → slice_get w.now.actors a ≡ Some x → x.work ≡ work → is_idle work ≡ false → (guard_happens w event).now.words ≡ (work_step w.now a x work).words
unfolding guard_happens
moved_words w event a x work its_event got its busy =
    ap (λ (e : GuardEvent). (guard_happens w e).now.words) its_event ∙ (ap (λ (found : Option Actor). (moved w.now a found).words) got ∙ rw (its, busy) refl)

-- the step of a turn that raises the limit
pub record OpensIt (w : GuardWorld) (event : GuardEvent) : Type 0 where
  pub actor : ℕ
  pub x : Actor
  pub limit : ℕ
  pub mover : Mover
  pub its_event : event ≡ Moves actor
  pub its_actor : slice_get w.now.actors actor ≡ Some x
  pub its_work : x.work ≡ Turns (turn_at (turn.RaisesLimit limit) mover)
  pub found : (levels_of w.now.words).limit ≡ limit
  pub raised : (levels_of (guard_happens w event).now.words).limit ≡ limit_after w.now.shape limit

-- its Cas, won or lost
turn_limit : (w : GuardWorld) (event : GuardEvent) (a : ℕ) (x : Actor) (step : Turning) (m : Mover) → IsSound w → event ≡ Moves a → slice_get w.now.actors a ≡ Some x → x.work ≡ Turns (turn_at step m) → IsLimitRaise step 4
    → ((levels_of (guard_happens w event).now.words).limit ≡ (levels_of w.now.words).limit) ⊎ OpensIt w event
unfolding turning_ask
turn_limit w event a x (turn.RaisesLimit limit) m sound its_event got its k =
    let old : ℕ = word_at w.now.words 4 in
    let enough = sound.epochs.enough_words in
    let after = ap (λ (words : List ℕ). word_at words 4) (moved_words w event a x (Turns (turn_at (turn.RaisesLimit limit) m)) its_event got its refl) ∙ word_written w.now.words 4 (if old == limit then limit_after w.now.shape limit else old) (omega (arith, enough)) in
    elim (truth (old == limit)) [
      | inl e ↦ inr (record { actor = a; x = x; limit = limit; mover = m; its_event = its_event; its_actor = got; its_work = its; found = grind (arith, nat_tests, e); raised = after ∙ (rw e refl) })
      | inr e ↦ inl (after ∙ (rw e refl))
    ]
turn_limit w event a x step m sound its_event got its k = absurd k

limit_by : (w : GuardWorld) (event : GuardEvent) (a : ℕ) (x : Actor) (work : Work) → IsSound w → event ≡ Moves a → slice_get w.now.actors a ≡ Some x → x.work ≡ work → IsRaise work 4
    → ((levels_of (guard_happens w event).now.words).limit ≡ (levels_of w.now.words).limit) ⊎ OpensIt w event
limit_by w event a x (Turns s) sound its_event got its k = turn_limit w event a x s.step s.mover sound its_event got its k
limit_by w event a x (Flushes (flush.RaisesFlushed end) bytes) sound its_event got its k = absurd (omega (arith, k))
limit_by w event a x work sound its_event got its k = absurd k

-- no other step changes the limit
pub limit_stays : (w : GuardWorld) (event : GuardEvent) → IsSound w → ((levels_of (guard_happens w event).now.words).limit ≡ (levels_of w.now.words).limit) ⊎ OpensIt w event
limit_stays w event sound = elim (event_spares w.now event 4 (omega arith, omega arith, λ e. omega (arith, e), λ e. omega (arith, e))) [
  | inl spares ↦ inl (unwritten w event 4 spares)
  | inr r ↦ limit_by w event r.actor r.x r.x.work sound r.its_event r.its_actor refl r.its_work
]

-- the limit never falls
pub limit_rises : (w : GuardWorld) (event : GuardEvent) → IsSound w → (levels_of w.now.words).limit ≤ (levels_of (guard_happens w event).now.words).limit
limit_rises w event sound = elim (limit_stays w event sound) [
  | inl same ↦ omega (arith, same)
  | inr r ↦
      let found = r.found in
      let raised = r.raised in
      let ring = sound.fits.ring in
      let some = w.now.places.some_ring in
      let fits = (limit_fits w.now.shape r.limit (some_page w.now.shape.frames w.now.shape.page (omega (arith, ring, some)))).0 in
      omega (arith, found, raised, fits)
]

-- the step of a flush that raises the flushed offset
pub record RaisesIt (w : GuardWorld) (event : GuardEvent) : Type 0 where
  pub actor : ℕ
  pub x : Actor
  pub end : ℕ
  pub bytes : List ℕ
  pub its_event : event ≡ Moves actor
  pub its_actor : slice_get w.now.actors actor ≡ Some x
  pub its_work : x.work ≡ Flushes (flush.RaisesFlushed end) bytes
  pub raised : (levels_of (guard_happens w event).now.words).flushed ≡ max (levels_of w.now.words).flushed end

no_limit : {X : Type 0} (step : Turning) → IsLimitRaise step 7 → X
no_limit (turn.RaisesLimit limit) k = absurd (omega (arith, k))
no_limit step k = absurd k

-- its Max raises it to the end of what is synced
flushed_by : (w : GuardWorld) (event : GuardEvent) (a : ℕ) (x : Actor) (work : Work) → IsSound w → event ≡ Moves a → slice_get w.now.actors a ≡ Some x → x.work ≡ work → IsRaise work 7 → RaisesIt w event
unfolding flush_ask
flushed_by w event a x (Flushes (flush.RaisesFlushed end) bytes) sound its_event got its k =
    let enough = sound.epochs.enough_words in
    let after = ap (λ (words : List ℕ). word_at words 7) (moved_words w event a x (Flushes (flush.RaisesFlushed end) bytes) its_event got its refl) in
    record { actor = a; x = x; end = end; bytes = bytes; its_event = its_event; its_actor = got; its_work = its; raised = after ∙ word_written w.now.words 7 (max (word_at w.now.words 7) end) (omega (arith, enough)) }
flushed_by w event a x (Turns s) sound its_event got its k = no_limit s.step k
flushed_by w event a x work sound its_event got its k = absurd k

-- no other step changes the flushed offset
pub flushed_stays : (w : GuardWorld) (event : GuardEvent) → IsSound w → ((levels_of (guard_happens w event).now.words).flushed ≡ (levels_of w.now.words).flushed) ⊎ RaisesIt w event
flushed_stays w event sound = elim (event_spares w.now event 7 (omega arith, omega arith, λ e. omega (arith, e), λ e. omega (arith, e))) [
  | inl spares ↦ inl (unwritten w event 7 spares)
  | inr r ↦ inr (flushed_by w event r.actor r.x r.x.work sound r.its_event r.its_actor refl r.its_work)
]
