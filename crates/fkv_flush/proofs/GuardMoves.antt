-- What a move of an offset does to the world, whatever machine it is in.
use Rattle.std.proofs.Common.{subst, ◌≡◌, ℕ, zero, suc, ◌+◌, ◌-◌, ◌*◌, ◌/◌, ◌<◌, ◌≤◌, map, refl, arith, sym, ap, inl, ◌∙◌, true, false, max}
use Rattle.std.specs.Prelude.{Option, Some, None, slice_get, slice_set, ◌&&◌, if◌then◌else◌}
use Rattle.std.proofs.lemmas.List.{map-set}
use Rattle.std.proofs.Math.Nat.{mul-le-mul_right, div-mul-le_self, add-mul, lt-div-mul-add}
use Rattle.fkv_base.specs.declared.shapes.Shape.{Shape}
use Rattle.fkv_plane.specs.Asked.{word_at}
use Rattle.fkv_epoch.specs.declared.protecting.Protecting.TheVariants as protect
use Rattle.fkv_epoch.specs.declared.raising.Raising.{Raising}
use Rattle.fkv_epoch.specs.declared.raising.Raising.TheVariants as raise
use Rattle.fkv_epoch.specs.declared.arming.Arming.{Arming}
use Rattle.fkv_epoch.specs.declared.arming.Arming.TheVariants as arm
use Rattle.fkv_epoch.specs.Raising.{raise_on}
use Rattle.fkv_epoch.specs.EpochWorld.{EpochMachine, Protects, Refreshes, Leaves, Scans, Claims, Raises, HasRaised, Arms, Sight, ToRaise, is_at_rest, begun, resumed, with_machine, machine_step, sight_of, past_moved, epoch_of}
use Rattle.fkv_epoch.specs.EpochWorld as epochs
use Rattle.fkv_epoch.specs.Once.{goes_by}
use Rattle.fkv_epoch.proofs.Shown.{begun_sound, resumed_sound, changes_sound}
use Rattle.fkv_epoch.proofs.Shown as epochs_sound
use Rattle.fkv_log.specs.declared.moving.Moving.{Moving}
use Rattle.fkv_log.specs.declared.moving.Moving.TheVariants as move
use Rattle.fkv_log.specs.Shifting.{mutable_start}
use Rattle.fkv_log.specs.Turning.{frame_end, limit_after}
use Rattle.fkv_flush.specs.GuardAsks.{inner_of}
use Rattle.fkv_flush.specs.GuardLevels.{Levels, levels_of}
use Rattle.fkv_flush.specs.GuardWorld.{Actor, GuardNow, GuardWorld, epoch_now, epoch_world, seen_with}
use Rattle.fkv_flush.specs.Guarded.{is_steady}
use Rattle.fkv_flush.proofs.GuardEpochs.{runs}
use Rattle.fkv_flush.proofs.GuardSound.{Knows, IsSound, Awake, machine_of, machine_at, after}
use Rattle.fkv_flush.proofs.GuardSteps.{worded, rises_same}
use Rattle.fkv_flush.proofs.GuardMachines.{epoch_step_sound}
use Rattle.fkv_flush.proofs.GuardOffsets.{lifted, offset_foreign, read_only_written, head_written}

-- a step of the machine of the epochs inside another, which loads nothing that a session goes by
pub epoch_step_at : (w : GuardWorld) (a : ℕ) (x x' : Actor) (d : EpochMachine) → IsSound w → slice_get w.now.actors a ≡ Some x → x.machine ≡ d → runs d ≡ false
    → x'.machine ≡ (machine_step w.now.places.sessions a w.now.words w.now.actions d).machine → sight_of d ≡ None → x'.seen ≡ x.seen
    → ((addr : ℕ) → x'.undecided ≡ Some addr → x.undecided ≡ Some addr)
    → ((A : Type 0) → Knows w.now.shape (levels_of w.now.words) A x'.machine x'.undecided x'.work)
    → IsSound (after w a x' (machine_step w.now.places.sessions a w.now.words w.now.actions d).words (machine_step w.now.places.sessions a w.now.words w.now.actions d).actions (past_moved (epoch_now w.now) a w.past (Some d)))
epoch_step_at w a x x' d sound got its quiet machine none seen undecided knows =
    subst (λ (y : EpochMachine). IsSound (after w a x' (machine_step w.now.places.sessions a w.now.words w.now.actions y).words (machine_step w.now.places.sessions a w.now.words w.now.actions y).actions (past_moved (epoch_now w.now) a w.past (Some y)))) its
    (epoch_step_sound w a x x' sound got (ap runs its ∙ quiet) (machine ∙ sym (ap (λ (y : EpochMachine). (machine_step w.now.places.sessions a w.now.words w.now.actions y).machine) its))
    (seen ∙ sym (ap (λ (z : Option Sight). seen_with x.seen z w.now.words) (ap sight_of its ∙ none))) undecided knows)

-- a machine of the epochs that is not under way goes by everything
pub rest_goes : (d : EpochMachine) (sight : Sight) → is_at_rest d ≡ true → goes_by sight d ≡ true
rest_goes (Protects protect.AtRest) sight r = refl
rest_goes (Protects step) sight r = cc
rest_goes d sight r = refl

pub rest_steady : (d : EpochMachine) → is_at_rest d ≡ true → is_steady d ≡ true
rest_steady (Scans step) r = refl
rest_steady (Claims step) r = refl
rest_steady (Raises step) r = refl
rest_steady (Arms step) r = refl
rest_steady d r = cc

-- a move begins to seek a slot
pub begins_raise : (w : GuardWorld) (a : ℕ) (x x' : Actor) → IsSound w → slice_get w.now.actors a ≡ Some x → is_at_rest x.machine ≡ true
    → x'.machine ≡ Raises raise.LoadsEpoch → x'.seen ≡ x.seen → x'.undecided ≡ x.undecided
    → ((A : Type 0) → Knows w.now.shape (levels_of w.now.words) A x'.machine x'.undecided x'.work)
    → IsSound (after w a x' w.now.words w.now.actions w.past)
begins_raise w a x x' sound got rest machine seen undecided knows =
    let n : GuardNow = w.now in
    let e : epochs.EpochWorld = epoch_world w in
    let d' : EpochMachine = Raises raise.LoadsEpoch in
    let swap : map machine_of (slice_set n.actors a x') ≡ slice_set (map machine_of n.actors) a d' = map-set machine_of n.actors a x' ∙ ap (slice_set (map machine_of n.actors) a) machine in
    let started : epochs_sound.IsSound (record { now = if is_at_rest x.machine && true then with_machine e.now a d' else e.now; past = w.past }) = begun_sound e a ToRaise (Some x.machine) (machine_at n.actors a x got) sound.epochs in
    let o = rises_same (levels_of n.words) (levels_of n.words) refl in
    worded w a x x' n.words sound got refl (rw swap (rw rest at started)) o sound.guard.in_order sound.guard.cover (λ s h. refl) sound.guard.safe.read_only sound.guard.safe.head refl
    (λ sight. ap (goes_by sight) machine ∙ sym (rest_goes x.machine sight rest)) (ap is_steady machine ∙ sym (rest_steady x.machine rest))
    (λ slot c i. no_arming slot c (sym machine ∙ i)) seen (λ addr u. inl (sym undecided ∙ u)) (knows (Awake n a x.machine))
  where
    no_arming : (slot c : ℕ) {X : Type 0} → Raises raise.LoadsEpoch ≡ Arms (arm.StoresEpoch slot c) → X
    no_arming slot c i = cc

-- the epochs' part of moving an offset while a slot is held: the raise goes on, and a word that isn't the epochs' changes
moved_epochs : (w : GuardWorld) (a : ℕ) (x x' : Actor) (slot p v : ℕ) → IsSound w → slice_get w.now.actors a ≡ Some x → x.machine ≡ Raises (raise.HasSlot slot) → x'.machine ≡ Raises (raise.RaisesEpoch slot) → 3 ≤ p → p < 10
    → epochs_sound.IsSound (epoch_world (after w a x' (slice_set w.now.words p v) w.now.actions w.past))
unfolding raise_on
moved_epochs w a x x' slot p v sound got its machine low high =
    let n : GuardNow = w.now in
    let e : epochs.EpochWorld = epoch_world w in
    let d' : EpochMachine = Raises (raise.RaisesEpoch slot) in
    let swap : map machine_of (slice_set n.actors a x') ≡ slice_set (map machine_of n.actors) a d' = map-set machine_of n.actors a x' ∙ ap (slice_set (map machine_of n.actors) a) machine in
    let goes_on : epochs_sound.IsSound (record { now = with_machine e.now a d'; past = w.past }) = resumed_sound e a (Some (Raises (raise.HasSlot slot))) (machine_at n.actors a x got ∙ ap Some its) sound.epochs in
    rw swap (changes_sound (record { now = with_machine e.now a d'; past = w.past }) p v (offset_foreign n.places.sessions p low high) goes_on)

no_arming : (slot slot' c : ℕ) {X : Type 0} → Raises (raise.RaisesEpoch slot) ≡ Arms (arm.StoresEpoch slot' c) → X
no_arming slot slot' c i = cc

-- the read-only offset is moved
pub moves_read_only : (w : GuardWorld) (a : ℕ) (x x' : Actor) (slot to : ℕ) → IsSound w → slice_get w.now.actors a ≡ Some x → x.machine ≡ Raises (raise.HasSlot slot) → to ≤ (levels_of w.now.words).tail
    → x'.machine ≡ Raises (raise.RaisesEpoch slot) → x'.seen ≡ x.seen → x'.undecided ≡ x.undecided
    → ((l : Levels) (A : Type 0) → to ≤ l.read_only → Knows w.now.shape l A x'.machine x'.undecided x'.work)
    → IsSound (after w a x' (slice_set w.now.words 5 (max (word_at w.now.words 5) to)) w.now.actions w.past)
moves_read_only w a x x' slot to sound got its ahead machine seen undecided knows =
    let l : Levels = levels_of w.now.words in
    let o = sound.guard.in_order in
    let v : ℕ = max l.read_only to in
    let low = o.safe_below in
    let high = o.read_only_below in
    lifted w a x x' 5 v (record l { read_only = v }) sound got (moved_epochs w a x x' slot 5 v sound got its machine (omega arith) (omega arith)) (omega arith) (omega arith)
    (read_only_written w.now.words v (let h = sound.epochs.enough_words in omega (arith, h)))
    (record { closed = omega arith; head = omega arith; flushed = omega arith; safe_read_only = omega arith; read_only = omega arith; tail = omega arith; limit = omega arith })
    (record { closed_below = o.closed_below; head_below = o.head_below; flushed_below = o.flushed_below; safe_below = omega (arith, low); read_only_below = omega (arith, high, ahead); tail_below = o.tail_below })
    sound.guard.cover refl refl (λ sight. ap (goes_by sight) machine ∙ sym (ap (goes_by sight) its)) (ap is_steady machine ∙ sym (ap is_steady its))
    (λ other c i. no_arming slot other c (sym machine ∙ i)) seen (λ addr u. inl (sym undecided ∙ u)) (knows (record l { read_only = v }) (Awake w.now a x.machine) (omega arith))

-- the head is moved
pub moves_head : (w : GuardWorld) (a : ℕ) (x x' : Actor) (slot to : ℕ) → IsSound w → slice_get w.now.actors a ≡ Some x → x.machine ≡ Raises (raise.HasSlot slot) → to ≤ (levels_of w.now.words).flushed
    → x'.machine ≡ Raises (raise.RaisesEpoch slot) → x'.seen ≡ x.seen → x'.undecided ≡ x.undecided
    → ((l : Levels) (A : Type 0) → to ≤ l.head → Knows w.now.shape l A x'.machine x'.undecided x'.work)
    → IsSound (after w a x' (slice_set w.now.words 8 (max (word_at w.now.words 8) to)) w.now.actions w.past)
moves_head w a x x' slot to sound got its ahead machine seen undecided knows =
    let l : Levels = levels_of w.now.words in
    let o = sound.guard.in_order in
    let v : ℕ = max l.head to in
    let low = o.closed_below in
    let high = o.head_below in
    lifted w a x x' 8 v (record l { head = v }) sound got (moved_epochs w a x x' slot 8 v sound got its machine (omega arith) (omega arith)) (omega arith) (omega arith)
    (head_written w.now.words v (let h = sound.epochs.enough_words in omega (arith, h)))
    (record { closed = omega arith; head = omega arith; flushed = omega arith; safe_read_only = omega arith; read_only = omega arith; tail = omega arith; limit = omega arith })
    (record { closed_below = omega (arith, low); head_below = omega (arith, high, ahead); flushed_below = o.flushed_below; safe_below = o.safe_below; read_only_below = o.read_only_below; tail_below = o.tail_below })
    sound.guard.cover refl refl (λ sight. ap (goes_by sight) machine ∙ sym (ap (goes_by sight) its)) (ap is_steady machine ∙ sym (ap is_steady its))
    (λ other c i. no_arming slot other c (sym machine ∙ i)) seen (λ addr u. inl (sym undecided ∙ u)) (knows (record l { head = v }) (Awake w.now a x.machine) (omega arith))

-- a move that is at rest drives no machine of the epochs
pub inner_rest : (d : EpochMachine) (step : Moving) (raising : Raising) (arming : Arming) → step ≡ move.AtRest → inner_of d step step raising arming ≡ d
inner_rest d move.AtRest raising arming e = refl
inner_rest d (move.Raises target) raising arming e = cc
inner_rest d (move.MovesOffset target) raising arming e = cc
inner_rest d (move.Puts target slot) raising arming e = cc
inner_rest d move.Arms raising arming e = cc

-- the mutable pages begin no higher than the tail
pub start_below : (page mutable tail : ℕ) → 1 ≤ mutable → mutable_start page mutable tail ≤ tail
start_below page mutable tail some =
    let few : tail / page + 1 - mutable ≤ tail / page = omega (arith, some) in
    let times = mul-le-mul_right page few in
    let below = div-mul-le_self tail page in
    omega (arith, times, below)

-- the limit goes up by a page that starts at or below it, and the frames hold what is above the frame's end
pub limit_fits : (shape : Shape) (limit : ℕ) → 0 < shape.page → (limit ≤ limit_after shape limit) × (limit_after shape limit ≤ frame_end shape limit + shape.frames * shape.page)
limit_fits shape limit some =
    let page : ℕ = shape.page in
    let number : ℕ = limit / page + 1 in
    let few : number ≤ (number - shape.frames) + shape.frames = omega arith in
    let times = mul-le-mul_right page few in
    let parts = add-mul (number - shape.frames) shape.frames page in
    let next = add-mul (limit / page) 1 page in
    let above = lt-div-mul-add {a = limit} {b = page} some in
    (omega (arith, next, above), omega (arith, times, parts))

-- a ring has some record, and so has a page
pub some_page : (frames page : ℕ) → 0 < frames * page → 0 < page
some_page frames zero h = absurd (omega (arith, h))
some_page frames (suc page) h = omega arith
