-- An actor that is about to arm a slot was so before with the same action there, or has just raised the epoch for it.
use Rattle.std.proofs.Common.{◌≡◌, ◌≢◌, ℕ, ◌+◌, ◌-◌, ◌/◌, ◌^◌, ◌<◌, ◌⊎◌, List, map, refl, sym, ap, subst, arith, inl, inr, ◌∙◌, Bool, true, false, min}
use Rattle.std.specs.Prelude.{Option, Some, None, slice_get, slice_set, option_map, nat_lt, nat_le, ◌==◌, ◌&&◌, if◌then◌else◌}
use Rattle.std.proofs.lemmas.Option.{slice_get-map}
use Rattle.fkv_base.specs.Limits.{drain_slots, last_epoch}
use Rattle.fkv_plane.specs.declared.actions.Action.{Action}
use Rattle.fkv_plane.specs.declared.asks.Ask.{Ask}
use Rattle.fkv_plane.specs.declared.asks.Ask.TheVariants.{Load, Store, Swap, Cas, Add, Max, Put, Take, Done}
use Rattle.fkv_plane.specs.Passing.{passed}
use Rattle.fkv_plane.specs.Plane.{action_at, found_action}
use Rattle.fkv_plane.specs.Places.{drain_place}
use Rattle.fkv_plane.specs.Asked.{word_at, reply_to}
use Rattle.fkv_epoch.specs.declared.raising.Raising.{Raising}
use Rattle.fkv_epoch.specs.declared.raising.Raising.TheVariants as raise
use Rattle.fkv_epoch.specs.declared.arming.Arming.{Arming}
use Rattle.fkv_epoch.specs.declared.arming.Arming.TheVariants as arm
use Rattle.fkv_epoch.specs.Raising.{raise_ask, raise_next, raise_next_ask, raise_on, free_after}
use Rattle.fkv_epoch.specs.Arming.{arm_ask, arm_next}
use Rattle.fkv_epoch.specs.EpochWorld.{EpochMachine, Raises, Refreshes, Arms, epoch_of, is_at_rest, resumed_machine, first_machine}
use Rattle.fkv_epoch.specs.EpochWorld as epochs
use Rattle.fkv_epoch.proofs.Shown.{item_written, item_spared, same_or, some_same, none_some, epoch_is_small}
use Rattle.fkv_log.specs.declared.moving.Moving.{Moving}
use Rattle.fkv_log.specs.declared.moving.Moving.TheVariants as move
use Rattle.fkv_log.specs.declared.shifting.Shifting.{Shifting}
use Rattle.fkv_log.specs.declared.shifting.Shifting.TheVariants as shift
use Rattle.fkv_log.specs.declared.turning.TurnForm.TheVariants as form
use Rattle.fkv_log.specs.declared.turning.Turning.{Turning}
use Rattle.fkv_log.specs.declared.turning.Turning.TheVariants as turn
use Rattle.fkv_log.specs.Moving.{Mover, move_ask, move_next, moving_ask, moving_next, moving_next_ask, raise_led, raise_told, arm_led}
use Rattle.fkv_log.specs.Shifting.{shift_at, shift_ask, shift_next, shifting_ask, shifting_next, mutable_start}
use Rattle.fkv_log.specs.Turning.{turn_at, turn_ask, turn_next, turning_ask, turning_next, frame_end, pages_wanted}
use Rattle.fkv_log.proofs.Shown.{move_goes_on}
use Rattle.fkv_flush.specs.GuardLevels.{Levels, levels_of}
use Rattle.fkv_flush.specs.GuardCalm.{actor_of}
use Rattle.fkv_flush.specs.GuardSlots.{slot_put, work_puts, raise_puts, actor_puts, raiser_puts, event_puts}
use Rattle.fkv_flush.specs.GuardWorld.{Actor, Work, Rests, Reserves, Fills, Invalidates, Shifts, Turns, Flushes, Serves, GuardTask, ToDo, ToReserve, ToFill, ToInvalidate, ToShift, ToTurnPage, ToFlush, ToServe, GuardNow, GuardNear, GuardWorld, GuardEvent, Begins, Resumes, Moves, Calls, Reads, Sees, Publishes, RaisesFor, is_idle, is_none, is_stored, may_work, seen_with, started, near, work_step, shifted, turned, put_near, actions_after, after_put, inner_machine, epoch_world, guard_happens}
use Rattle.fkv_flush.proofs.GuardSound.{IsSound, MoveKnows, ShiftKnows, TurnKnows, Waits, machine_of, machine_at}
use Rattle.fkv_flush.proofs.GuardWorks.{truth, Known}
use Rattle.fkv_flush.proofs.GuardMoves.{inner_rest}
use Rattle.fkv_flush.proofs.GuardHomes.{homes_spared, arms_none}
use Rattle.fkv_flush.proofs.GuardShifts as shifts
use Rattle.fkv_flush.proofs.GuardTurns as turns
use Rattle.fkv_flush.proofs.Slots.{finds_slots}
use Rattle.fkv_flush.proofs.OneEvent.{event_near, called_near, read_near, raised_near, each_event}

-- the machine is about to arm the slot at this epoch
abbrev pub WillArm : EpochMachine → ℕ → ℕ → Type 0
WillArm machine slot c = machine ≡ Arms (arm.StoresEpoch slot c)

-- the move has just raised the epoch
move_arms : (l : Levels) (machine : EpochMachine) (step : Moving) (raising : Raising) (arming : Arming) (words : List ℕ) (slot c : ℕ) → epoch_of words < 2 ^ 49 → MoveKnows l machine step raising arming
    → (let reply : ℕ = reply_to words (moving_ask step raising arming) in let m : Mover = moving_next step raising arming reply in
    WillArm (inner_machine machine step (after_put (moving_next_ask step raising arming reply) m (move_next m 0))) slot c → c ≡ epoch_of words)
unfolding moving_ask moving_next moving_next_ask raise_led raise_told arm_led raise_ask raise_next raise_next_ask raise_on free_after arm_ask arm_next passed
move_arms l machine move.AtRest raising arming words slot c small k e = absurd k
move_arms l machine (move.Raises target) raise.AtRest arming words slot c small k e = absurd k.1
move_arms l machine (move.Raises target) raise.LoadsEpoch arming words slot c small k e = elim (truth (nat_le last_epoch (epoch_of words))) [ inl f ↦ let g = rw f at e in cc | inr f ↦ let g = rw f at e in cc ]
move_arms l machine (move.Raises target) (raise.MeetsSlot met) arming words slot c small k e = elim (truth (word_at words (drain_place met) == 0)) [
  | inl f ↦ let g = rw f at e in cc
  | inr f ↦ elim (truth (nat_lt (met + 1) drain_slots)) [ inl h ↦ let g = rw (f, h) at e in cc | inr h ↦ let g = rw (f, h) at e in cc ]
]
move_arms l machine (move.Raises target) (raise.HoldsSlot met) arming words slot c small k e = elim (truth (word_at words (drain_place met) == 0)) [
  | inl f ↦ let g = rw f at e in cc
  | inr f ↦ elim (truth (nat_lt (met + 1) drain_slots)) [ inl h ↦ let g = rw (f, h) at e in cc | inr h ↦ let g = rw (f, h) at e in cc ]
]
move_arms l machine (move.Raises target) (raise.HasSlot met) arming words slot c small k e = absurd k.1
move_arms l machine (move.Raises target) (raise.RaisesEpoch its) arming words slot c small k e = let same : min (epoch_of words) (2 ^ 64 - 3) ≡ c = cc in omega (arith, same, small)
move_arms l machine (move.MovesOffset target) (raise.HasSlot met) arming words slot c small k e = cc
move_arms l machine (move.MovesOffset target) raising arming words slot c small k e = absurd k
move_arms l machine (move.Puts target its) raising arming words slot c small k e = absurd k
move_arms l machine move.Arms raising (arm.StoresEpoch its d) words slot c small k e = cc
move_arms l machine move.Arms raising arming words slot c small k e = absurd k

-- an action in another slot stays there
put_elsewhere : {A : Type 0} (actions : List (Option Action)) (ask : Ask A) (slot : ℕ) → (slot_put ask ≡ Some slot → ⊥) → action_at (actions_after actions ask) slot ≡ action_at actions slot
put_elsewhere actions (Put its action) slot other = elim (same_or slot its) [
  | inl e ↦ absurd (other (ap Some (sym e)))
  | inr n ↦ ap found_action (item_spared actions its slot (Some action) n)
]
put_elsewhere actions (Load place) slot other = refl
put_elsewhere actions (Store place new) slot other = refl
put_elsewhere actions (Swap place new) slot other = refl
put_elsewhere actions (Cas place old new) slot other = refl
put_elsewhere actions (Add place k) slot other = refl
put_elsewhere actions (Max place k) slot other = refl
put_elsewhere actions (Take its) slot other = refl
put_elsewhere actions (Done answer) slot other = refl

-- One step of an actor.
module _ (w : GuardWorld) (a : ℕ) (x : Actor) (sound : IsSound w) (got : slice_get w.now.actors a ≡ Some x) where
  abbrev E : ℕ
  E = epoch_of w.now.words

  -- who is about to arm was so before, with the same actions, or has just raised the epoch
  abbrev ArmsBy : GuardNear → Type 0
  ArmsBy here = (slot c : ℕ) → WillArm here.actor.machine slot c → (WillArm x.machine slot c × (here.actions ≡ w.now.actions)) ⊎ (c ≡ E)

  small : E < 2 ^ 49
  small = epoch_is_small (epoch_world w) sound.epochs

  -- a machine that stays as it is
  stays : (here : GuardNear) → here.actor.machine ≡ x.machine → here.actions ≡ w.now.actions → ArmsBy here
  stays here same actions slot c e = inl (sym same ∙ e, actions)

  waits : (m : Mover) → Waits x.machine m → inner_machine x.machine m.step m ≡ x.machine
  waits m k = inner_rest x.machine m.step m.raising m.arming k.0

  shift_arms : (step : Shifting) (m : Mover) → ShiftKnows (levels_of w.now.words) x.machine step m → is_idle (Shifts (shift_at step m)) ≡ false → ArmsBy (shifted w.now x (shift_at step m))
  unfolding shifting_ask shifting_next moving_ask raise_ask passed
  shift_arms shift.AtRest m k busy = cc
  shift_arms shift.LoadsTail m k busy = stays (shifted w.now x (shift_at shift.LoadsTail m)) (waits m k) refl
  shift_arms (shift.LoadsReadOnly tail) m k busy = elim (truth (nat_lt (levels_of w.now.words).read_only (mutable_start w.now.shape.page w.now.shape.mutable tail))) [
    | inl e ↦ rw e (λ slot c f. cc)
    | inr e ↦ rw e (λ slot c f. inl (sym (waits m k.0) ∙ f, refl))
  ]
  shift_arms (shift.Moves tail) m k busy = λ slot c e.
      let same = shifts.shifted_hosted w.now x tail m _ _ refl (move_goes_on m (reply_to w.now.words (move_ask m))) refl in
      inr (move_arms (levels_of w.now.words) x.machine m.step m.raising m.arming w.now.words slot c small k (sym (ap (λ (h : GuardNear). h.actor.machine) same) ∙ e))

  turn_arms : (step : Turning) (m : Mover) → TurnKnows w.now.shape (levels_of w.now.words) x.machine step m → is_idle (Turns (turn_at step m)) ≡ false → ArmsBy (turned w.now x (turn_at step m))
  unfolding turning_ask turning_next moving_ask raise_ask passed
  turn_arms turn.AtRest m k busy = cc
  turn_arms (turn.LoadsLimit form tail) m k busy = elim (truth (nat_lt ((levels_of w.now.words).limit / w.now.shape.page) (pages_wanted w.now.shape tail))) [
    | inl e ↦ rw e (λ slot c f. inl (sym (waits m k) ∙ f, refl))
    | inr e ↦ rw e (λ slot c f. inl (sym (waits m k) ∙ f, refl))
  ]
  turn_arms (turn.LoadsClosed form.Whole limit) m k busy = elim (truth (nat_le (frame_end w.now.shape limit) (levels_of w.now.words).closed)) [
    | inl e ↦ rw e (λ slot c f. inl (sym (waits m k.0) ∙ f, refl))
    | inr e ↦ rw e (λ slot c f. inl (sym (waits m k.0) ∙ f, refl))
  ]
  turn_arms (turn.LoadsClosed form.OpensOnly limit) m k busy = elim (truth (nat_le (frame_end w.now.shape limit) (levels_of w.now.words).closed)) [
    | inl e ↦ rw e (λ slot c f. inl (sym (waits m k.0) ∙ f, refl))
    | inr e ↦ rw e (λ slot c f. inl (sym (waits m k.0) ∙ f, refl))
  ]
  turn_arms (turn.RaisesLimit limit) m k busy = λ slot c f. inl (sym (waits m k.0) ∙ f, refl)
  turn_arms (turn.LoadsHead end) m k busy = elim (truth (nat_lt (levels_of w.now.words).head end)) [
    | inl e ↦ rw e (λ slot c f. inl (sym (waits m k) ∙ f, refl))
    | inr e ↦ rw e (λ slot c f. inl (sym (waits m k) ∙ f, refl))
  ]
  turn_arms (turn.LoadsFlushed end) m k busy = elim (truth (nat_le end (levels_of w.now.words).flushed)) [
    | inl e ↦ rw e (λ slot c f. cc)
    | inr e ↦ rw e (λ slot c f. inl (sym (waits m k) ∙ f, refl))
  ]
  turn_arms turn.Moves m k busy = λ slot c e.
      let same = turns.turned_hosted w.now x m _ _ refl (move_goes_on m (reply_to w.now.words (move_ask m))) refl in
      inr (move_arms (levels_of w.now.words) x.machine m.step m.raising m.arming w.now.words slot c small k (sym (ap (λ (h : GuardNear). h.actor.machine) same) ∙ e))

  begun_arms : (task : GuardTask) → ArmsBy (near w.now.words w.now.actions (started w.now x task))
  begun_arms (ToDo epochs.ToProtect) slot c e = cc
  begun_arms (ToDo epochs.ToRefresh) slot c e = cc
  begun_arms (ToDo epochs.ToLeave) slot c e = cc
  begun_arms (ToDo epochs.ToScan) slot c e = cc
  begun_arms (ToDo epochs.ToClaim) slot c e = cc
  begun_arms (ToDo epochs.ToRaise) slot c e = cc
  begun_arms (ToReserve bound) slot c e = inl (e, refl)
  begun_arms (ToFill its_words) slot c e = inl (e, refl)
  begun_arms (ToInvalidate header) slot c e = inl (e, refl)
  begun_arms ToShift slot c e = inl (e, refl)
  begun_arms (ToTurnPage form tail) slot c e = inl (e, refl)
  begun_arms ToFlush slot c e = inl (e, refl)
  begun_arms (ToServe begin) slot c e = inl (e, refl)

  resumed_arms : (d : EpochMachine) (slot c : ℕ) → WillArm (resumed_machine d) slot c → WillArm d slot c
  resumed_arms (Refreshes step) slot c e = cc
  resumed_arms (Raises step) slot c e = cc
  resumed_arms d slot c e = e

  worked_arms : (work : Work) → x.work ≡ work → is_idle work ≡ false → ArmsBy (work_step w.now a x work)
  worked_arms Rests its busy = cc
  worked_arms (Reserves step) its busy = stays (work_step w.now a x (Reserves step)) refl refl
  worked_arms (Fills step) its busy = stays (work_step w.now a x (Fills step)) refl refl
  worked_arms (Invalidates step) its busy = stays (work_step w.now a x (Invalidates step)) refl refl
  worked_arms (Shifts s) its busy = shift_arms s.step s.mover (subst (Known w a x) its (sound.knows a x got)) busy
  worked_arms (Turns s) its busy = turn_arms s.step s.mover (subst (Known w a x) its (sound.knows a x got)) busy
  worked_arms (Flushes step bytes) its busy = stays (work_step w.now a x (Flushes step bytes)) refl refl
  worked_arms (Serves begin step) its busy = stays (work_step w.now a x (Serves begin step)) refl refl

  called_arms : (done : Bool) (work : Work) → ArmsBy (called_near w.now done x work)
  called_arms done (Flushes step bytes) slot c e = inl (e, refl)
  called_arms done work slot c e = inl (e, refl)

  read_arms : (bytes : Option (List ℕ)) (work : Work) → ArmsBy (read_near w.now bytes x work)
  read_arms bytes (Serves begin step) slot c e = inl (e, refl)
  read_arms bytes work slot c e = inl (e, refl)

  raised_arms : (action : Action) (d : EpochMachine) → x.machine ≡ d → ArmsBy (raised_near w.now action x d)
  unfolding raise_ask arm_next
  raised_arms action (Raises (raise.RaisesEpoch its)) same slot c e = inr cc
  raised_arms action d same slot c e = inl (e, refl)

  tested : (b : Bool) (y : Actor) → ArmsBy (near w.now.words w.now.actions y) → ArmsBy (near w.now.words w.now.actions (if b then y else x))
  tested true y h = h
  tested false y h = λ slot c e. inl (e, refl)

  near_arms : (event : GuardEvent) → actor_of event ≡ Some a → ArmsBy (event_near w.now event x)
  near_arms (Begins b task) its = tested (is_at_rest x.machine && is_idle x.work && may_work w.now b x task) (started w.now x task) (begun_arms task)
  near_arms (Resumes b) its = tested (is_idle x.work) (record x { machine = resumed_machine x.machine }) (λ slot c e. inl (resumed_arms x.machine slot c e, refl))
  near_arms (Moves b) its = let e = some_same b a its in rw e (elim (truth (is_idle x.work)) [
    | inl idle ↦ rw idle (λ slot c f. arms_none (epoch_world w) a slot c x.machine sound.epochs (machine_at w.now.actors a x got) f)
    | inr busy ↦ rw busy (worked_arms x.work refl busy)
  ])
  near_arms (Calls b done) its = called_arms done x.work
  near_arms (Reads b bytes) its = read_arms bytes x.work
  near_arms (Sees b sight) its = tested (is_none x.undecided) (record x { seen = seen_with x.seen (Some sight) w.now.words }) (λ slot c e. inl (e, refl))
  near_arms (Publishes b) its = tested (is_idle x.work) (record x { undecided = None }) (λ slot c e. inl (e, refl))
  near_arms (RaisesFor b action) its = elim (truth (is_idle x.work && is_stored w.now.words action)) [
    | inl e ↦ rw e (raised_arms action x.machine refl)
    | inr e ↦ rw e (λ slot c f. inl (f, refl))
  ]
  near_arms event its = λ slot c e. inl (e, refl)

  -- a slot that another actor is about to arm keeps its action
  module _ (b slot c : ℕ) (other : b ≢ a) (about_to_arm : slice_get (map machine_of w.now.actors) b ≡ Some (Arms (arm.StoresEpoch slot c))) where
    abbrev Keeps : List (Option Action) → Type 0
    Keeps actions = action_at actions slot ≡ action_at w.now.actions slot

    not_put : (event : GuardEvent) → event_puts w.now event ≡ Some slot → ⊥
    not_put event e =
        let home = (sound.epochs.slots.holds b (Arms (arm.StoresEpoch slot c)) about_to_arm).3 in
        none_some {Y = ⊥} home.0 (sym ((finds_slots w event sound).puts slot e) ∙ home.1)

    moves_put : is_idle x.work ≡ false → work_puts w.now x.work ≡ Some slot → ⊥
    moves_put busy e = not_put (Moves a) (ap (actor_puts w.now) got ∙ (rw busy e))

    worked_keeps : (work : Work) → (work_puts w.now work ≡ Some slot → ⊥) → is_idle work ≡ false → Keeps (work_step w.now a x work).actions
    worked_keeps Rests none busy = cc
    worked_keeps (Reserves step) none busy = refl
    worked_keeps (Fills step) none busy = refl
    worked_keeps (Invalidates step) none busy = refl
    worked_keeps (Shifts s) none busy = put_elsewhere w.now.actions (shift_ask (shift_next w.now.shape s (reply_to w.now.words (shift_ask s)))) slot none
    worked_keeps (Turns s) none busy = put_elsewhere w.now.actions (turn_ask w.now.shape (turn_next w.now.shape s (reply_to w.now.words (turn_ask w.now.shape s)))) slot none
    worked_keeps (Flushes step bytes) none busy = refl
    worked_keeps (Serves begin step) none busy = refl

    called_keeps : (done : Bool) (work : Work) → Keeps (called_near w.now done x work).actions
    called_keeps done (Flushes step bytes) = refl
    called_keeps done work = refl

    read_keeps : (bytes : Option (List ℕ)) (work : Work) → Keeps (read_near w.now bytes x work).actions
    read_keeps bytes (Serves begin step) = refl
    read_keeps bytes work = refl

    raised_keeps : (action : Action) (d : EpochMachine) → (raise_puts d ≡ Some slot → ⊥) → Keeps (raised_near w.now action x d).actions
    raised_keeps action (Raises (raise.RaisesEpoch its)) none = elim (same_or slot its) [
      | inl e ↦ absurd (none (ap Some (sym e)))
      | inr n ↦ ap found_action (item_spared w.now.actions its slot (Some action) n)
    ]
    raised_keeps action d none = refl

    near_keeps : (event : GuardEvent) → actor_of event ≡ Some a → Keeps (event_near w.now event x).actions
    near_keeps (Moves d) its = let e = some_same d a its in rw e (elim (truth (is_idle x.work)) [
      | inl idle ↦ rw idle (homes_spared (epoch_world w) a b x.machine slot c sound.epochs (machine_at w.now.actors a x got) about_to_arm)
      | inr busy ↦ rw busy (worked_keeps x.work (moves_put busy) busy)
    ])
    near_keeps (Calls d done) its = called_keeps done x.work
    near_keeps (Reads d bytes) its = read_keeps bytes x.work
    near_keeps (RaisesFor d action) its = elim (truth (is_idle x.work && is_stored w.now.words action)) [
      | inl e ↦ rw e (raised_keeps action x.machine (λ f. not_put (RaisesFor a action) (ap (raiser_puts w.now action) got ∙ (rw e f))))
      | inr e ↦ rw e refl
    ]
    near_keeps event its = refl

-- the actor b is about to arm the slot at c, with this action there
abbrev pub IsAboutToArm : GuardNow → ℕ → ℕ → ℕ → Action → Type 0
IsAboutToArm n b slot c action = (slice_get (map machine_of n.actors) b ≡ Some (Arms (arm.StoresEpoch slot c))) × (action_at n.actions slot ≡ Some action)

-- So it is in the whole world.
pub about_to_arm_on : (w : GuardWorld) (event : GuardEvent) (b slot c : ℕ) (action : Action) → IsSound w → IsAboutToArm (guard_happens w event).now b slot c action → IsAboutToArm w.now b slot c action ⊎ (c ≡ epoch_of w.now.words)
unfolding guard_happens
about_to_arm_on w event b slot c action sound = each_event (λ m. IsAboutToArm m b slot c action → IsAboutToArm w.now b slot c action ⊎ (c ≡ epoch_of w.now.words)) w.now event (λ h. inl h) moved
  where
    moved : (a : ℕ) (x : Actor) → actor_of event ≡ Some a → slice_get w.now.actors a ≡ Some x → IsAboutToArm (put_near w.now a (event_near w.now event x)) b slot c action → IsAboutToArm w.now b slot c action ⊎ (c ≡ epoch_of w.now.words)
    moved a x its got h = elim (same_or b a) [
      | inl e ↦
          let x' : Actor = (event_near w.now event x).actor in
          let there : slice_get (map machine_of (slice_set w.now.actors a x')) a ≡ Some x'.machine = machine_at (slice_set w.now.actors a x') a x' (item_written w.now.actors a x x' got) in
          let mine : WillArm x'.machine slot c = some_same x'.machine (Arms (arm.StoresEpoch slot c)) (sym there ∙ (sym (ap (slice_get (map machine_of (slice_set w.now.actors a x'))) e) ∙ h.0)) in
          elim (near_arms w a x sound got event its slot c mine) [
            | inl k ↦ inl (ap (slice_get (map machine_of w.now.actors)) e ∙ (machine_at w.now.actors a x got ∙ ap Some k.0), sym (ap (λ (actions : List (Option Action)). action_at actions slot) k.1) ∙ h.1)
            | inr k ↦ inr k
          ]
      | inr n ↦
          let x' : Actor = (event_near w.now event x).actor in
          let same : slice_get (map machine_of (slice_set w.now.actors a x')) b ≡ slice_get (map machine_of w.now.actors) b =
          slice_get-map machine_of (slice_set w.now.actors a x') b ∙ (ap (option_map machine_of) (item_spared w.now.actors a b x' n) ∙ sym (slice_get-map machine_of w.now.actors b)) in
          let about_to_arm = sym same ∙ h.0 in
          inl (about_to_arm, sym (near_keeps w a x sound got b slot c n about_to_arm event its) ∙ h.1)
    ]
