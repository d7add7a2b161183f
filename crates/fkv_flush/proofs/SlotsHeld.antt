-- Who moves the action of a slot holds the slot then, and nobody else has held it.
use Rattle.std.proofs.Common.{◌≡◌, ◌≢◌, ℕ, ◌+◌, List, refl, sym, ap, subst, inl, inr, ◌∙◌, Bool, true, false}
use Rattle.std.specs.Prelude.{Option, Some, slice_get, nat_lt, nat_le, ◌==◌, ◌&&◌, if◌then◌else◌}
use Rattle.fkv_base.specs.Limits.{drain_slots, last_epoch}
use Rattle.fkv_base.specs.declared.shapes.Shape.{Shape}
use Rattle.fkv_plane.specs.declared.actions.Action.{Action}
use Rattle.fkv_plane.specs.declared.asks.Ask.{Ask}
use Rattle.fkv_plane.specs.declared.asks.Ask.TheVariants.{Put}
use Rattle.fkv_plane.specs.Asked.{reply_to}
use Rattle.fkv_plane.specs.Passing.{passed}
use Rattle.fkv_plane.specs.Plane.{action_at, found_action}
use Rattle.fkv_epoch.specs.declared.raising.Raising.{Raising}
use Rattle.fkv_epoch.specs.declared.raising.Raising.TheVariants as raise
use Rattle.fkv_epoch.specs.declared.arming.Arming.{Arming}
use Rattle.fkv_epoch.specs.declared.arming.Arming.TheVariants as arm
use Rattle.fkv_epoch.specs.Raising.{raise_ask, raise_next, raise_next_ask, raise_on, free_after}
use Rattle.fkv_epoch.specs.Arming.{arm_ask, arm_next}
use Rattle.fkv_epoch.specs.EpochWorld.{EpochMachine, Raises, is_at_rest}
use Rattle.fkv_epoch.specs.Held.{slot_held}
use Rattle.fkv_epoch.proofs.Shown.{IsMoved, TakesAction, held_alone, item_spared, item_written, machine_takes, no_claim_waits, same_or, some_same}
use Rattle.fkv_log.specs.declared.moving.Moving.{Moving}
use Rattle.fkv_log.specs.declared.moving.Moving.TheVariants as move
use Rattle.fkv_log.specs.declared.shifting.Shifting.{Shifting}
use Rattle.fkv_log.specs.declared.shifting.Shifting.TheVariants as shift
use Rattle.fkv_log.specs.declared.turning.Turning.{Turning}
use Rattle.fkv_log.specs.declared.turning.Turning.TheVariants as turn
use Rattle.fkv_log.specs.Moving.{Mover, mover, move_ask, moving_ask, moving_next, moving_next_ask, raise_led, raise_told, arm_led}
use Rattle.fkv_log.specs.Shifting.{shift_ask, shift_at, shifting_ask, shifting_next}
use Rattle.fkv_log.specs.Turning.{turn_ask, turn_at, turning_ask, turning_next}
use Rattle.fkv_log.proofs.Shown.{move_goes_on}
use Rattle.fkv_flush.specs.GuardCalm.{actor_of}
use Rattle.fkv_flush.specs.GuardLevels.{Levels, levels_of}
use Rattle.fkv_flush.specs.GuardSlots.{slot_put, NoOtherHolds, MovesAction}
use Rattle.fkv_flush.specs.GuardWorld.{Actor, Work, Rests, Reserves, Fills, Invalidates, Shifts, Turns, Flushes, Serves, GuardNow, GuardNear, GuardWorld, GuardEvent, Begins, Resumes, Moves, Calls, Reads, Sees, Publishes, Updates, RaisesReadOnly, RaisesFor, Changes, CallsElse, near, actions_after, actor_step, epoch_step, work_step, shifted, turned, is_idle, is_stored, epoch_world, guard_happens}
use Rattle.fkv_flush.proofs.GuardHosted.{hosted}
use Rattle.fkv_flush.proofs.GuardShifts.{shifted_hosted}
use Rattle.fkv_flush.proofs.GuardSound.{IsSound, MoveKnows, ShiftKnows, TurnKnows, Waits, machine_at}
use Rattle.fkv_flush.proofs.GuardTurns.{turned_hosted}
use Rattle.fkv_flush.proofs.GuardWorks.{truth, Known}
use Rattle.fkv_flush.proofs.OneEvent.{event_near, called_near, read_near, raised_near, each_event}
use Rattle.fkv_flush.proofs.SlotsPut.{RaisesWith, no_put, shift_puts, turn_puts}

-- an ask that moves the action of a slot puts one there
actions_moved : {A : Type 0} (actions : List (Option Action)) (ask : Ask A) (slot : ℕ) → IsMoved actions (actions_after actions ask) slot → slot_put ask ≡ Some slot
actions_moved actions (Put its action) slot moves = elim (same_or slot its) [
  | inl e ↦ ap Some (sym e)
  | inr n ↦ absurd (moves (ap found_action (item_spared actions its slot (Some action) n)))
]
actions_moved actions ask slot moves = absurd (moves refl)

-- the machine was about to raise the epoch for the slot, and then holds it
abbrev RaisedWith : EpochMachine → EpochMachine → ℕ → Type 0
RaisedWith d there slot = RaisesWith d slot × (slot_held there ≡ Some slot)

-- a move that puts its action
hosted_moves : (n : GuardNow) (l : Levels) (x : Actor) (again through : Mover → Work) (step : Moving) (raising : Raising) (arming : Arming) (reply slot : ℕ) → MoveKnows l x.machine step raising arming
    → (let there : GuardNear = hosted n x again through (mover step raising arming) reply in IsMoved n.actions there.actions slot → RaisedWith x.machine there.actor.machine slot)
unfolding raise_ask raise_next raise_next_ask raise_on free_after arm_ask arm_next passed raise_led raise_told arm_led moving_ask moving_next moving_next_ask
hosted_moves n l x again through move.AtRest raising arming reply slot k moves = absurd k
hosted_moves n l x again through (move.Raises target) raise.AtRest arming reply slot k moves = absurd k.1
hosted_moves n l x again through (move.Raises target) raise.LoadsEpoch arming reply slot k moves = elim (truth (nat_le last_epoch reply)) [ inl f ↦ absurd ((rw f at moves) refl) | inr f ↦ absurd ((rw f at moves) refl) ]
hosted_moves n l x again through (move.Raises target) (raise.MeetsSlot met) arming reply slot k moves = elim (truth (reply == 0)) [
  | inl f ↦ absurd ((rw f at moves) refl)
  | inr f ↦ elim (truth (nat_lt (met + 1) drain_slots)) [ inl g ↦ absurd ((rw (f, g) at moves) refl) | inr g ↦ absurd ((rw (f, g) at moves) refl) ]
]
hosted_moves n l x again through (move.Raises target) (raise.HoldsSlot met) arming reply slot k moves = elim (truth (reply == 0)) [
  | inl f ↦ absurd ((rw f at moves) refl)
  | inr f ↦ elim (truth (nat_lt (met + 1) drain_slots)) [ inl g ↦ absurd ((rw (f, g) at moves) refl) | inr g ↦ absurd ((rw (f, g) at moves) refl) ]
]
hosted_moves n l x again through (move.Raises target) (raise.HasSlot met) arming reply slot k moves = absurd k.1
hosted_moves n l x again through (move.Raises target) (raise.RaisesEpoch its) arming reply slot k moves = elim (same_or slot its) [
  | inl e ↦ (k.0 ∙ ap (λ (s : ℕ). Raises (raise.RaisesEpoch s)) (sym e), ap Some (sym e))
  | inr n ↦ absurd (moves (ap found_action (item_spared _ its slot _ n)))
]
hosted_moves n l x again through (move.MovesOffset target) (raise.HasSlot met) arming reply slot k moves = absurd (moves refl)
hosted_moves n l x again through (move.MovesOffset target) raising arming reply slot k moves = absurd k
hosted_moves n l x again through (move.Puts target its) raising arming reply slot k moves = absurd k
hosted_moves n l x again through move.Arms raising (arm.StoresEpoch its c) reply slot k moves = absurd (moves refl)
hosted_moves n l x again through move.Arms raising arming reply slot k moves = absurd k

-- a machine at rest raises no epoch
no_rest : {X : Type 0} (d : EpochMachine) (slot : ℕ) → RaisesWith d slot → is_at_rest d ≡ true → X
no_rest {X} d slot raises rest = let clash : false ≡ true = sym (ap is_at_rest raises) ∙ rest in cc

-- so it is of a shift or a turn before its move
waits_not : (n : GuardNow) (x : Actor) (m : Mover) {A X : Type 0} (ask : Ask A) (slot : ℕ) → Waits x.machine m → (slot_put ask ≡ Some slot → RaisesWith x.machine slot) → IsMoved n.actions (actions_after n.actions ask) slot → X
waits_not n x m ask slot k puts moves = no_rest x.machine slot (puts (actions_moved n.actions ask slot moves)) k.1

-- nor does one at rest put anything
shift_at_rest : {X : Type 0} (shape : Shape) (m : Mover) (reply slot : ℕ) → slot_put (shift_ask (shifting_next shape shift.AtRest m reply)) ≡ Some slot → X
unfolding shifting_ask shifting_next
shift_at_rest {X} shape m reply slot e = no_put {X = X} slot e

turn_at_rest : {X : Type 0} (shape : Shape) (m : Mover) (reply slot : ℕ) → slot_put (turn_ask shape (turning_next shape turn.AtRest m reply)) ≡ Some slot → X
unfolding turning_ask turning_next
turn_at_rest {X} shape m reply slot e = no_put {X = X} slot e

shift_moves : (n : GuardNow) (l : Levels) (x : Actor) (step : Shifting) (m : Mover) (slot : ℕ) → ShiftKnows l x.machine step m
    → (let there : GuardNear = shifted n x (shift_at step m) in IsMoved n.actions there.actions slot → RaisedWith x.machine there.actor.machine slot)
shift_moves n l x shift.AtRest m slot k moves = shift_at_rest n.shape m _ slot (actions_moved n.actions _ slot moves)
shift_moves n l x shift.LoadsTail m slot k moves = waits_not n x m _ slot k (shift_puts l x.machine n.shape shift.LoadsTail m _ k slot) moves
shift_moves n l x (shift.LoadsReadOnly tail) m slot k moves = waits_not n x m _ slot k.0 (shift_puts l x.machine n.shape (shift.LoadsReadOnly tail) m _ k slot) moves
shift_moves n l x (shift.Moves tail) m slot k moves =
    subst (λ (there : GuardNear). IsMoved n.actions there.actions slot → RaisedWith x.machine there.actor.machine slot)
    (sym (shifted_hosted n x tail m _ _ refl (move_goes_on m (reply_to n.words (move_ask m))) refl))
    (hosted_moves n l x (λ its. Shifts (shift_at (shift.Moves tail) its)) (λ its. Shifts (shift_at shift.AtRest its)) m.step m.raising m.arming (reply_to n.words (move_ask m)) slot k) moves

turn_moves : (n : GuardNow) (l : Levels) (x : Actor) (step : Turning) (m : Mover) (slot : ℕ) → TurnKnows n.shape l x.machine step m
    → (let there : GuardNear = turned n x (turn_at step m) in IsMoved n.actions there.actions slot → RaisedWith x.machine there.actor.machine slot)
turn_moves n l x turn.AtRest m slot k moves = turn_at_rest n.shape m _ slot (actions_moved n.actions _ slot moves)
turn_moves n l x (turn.LoadsLimit form tail) m slot k moves = waits_not n x m _ slot k (turn_puts l x.machine n.shape (turn.LoadsLimit form tail) m _ k slot) moves
turn_moves n l x (turn.LoadsClosed form limit) m slot k moves = waits_not n x m _ slot k.0 (turn_puts l x.machine n.shape (turn.LoadsClosed form limit) m _ k slot) moves
turn_moves n l x (turn.RaisesLimit limit) m slot k moves = waits_not n x m _ slot k.0 (turn_puts l x.machine n.shape (turn.RaisesLimit limit) m _ k slot) moves
turn_moves n l x (turn.LoadsHead end) m slot k moves = waits_not n x m _ slot k (turn_puts l x.machine n.shape (turn.LoadsHead end) m _ k slot) moves
turn_moves n l x (turn.LoadsFlushed end) m slot k moves = waits_not n x m _ slot k (turn_puts l x.machine n.shape (turn.LoadsFlushed end) m _ k slot) moves
turn_moves n l x turn.Moves m slot k moves =
    subst (λ (there : GuardNear). IsMoved n.actions there.actions slot → RaisedWith x.machine there.actor.machine slot)
    (sym (turned_hosted n x m _ _ refl (move_goes_on m (reply_to n.words (move_ask m))) refl))
    (hosted_moves n l x (λ its. Turns (turn_at turn.Moves its)) (λ its. Turns (turn_at turn.AtRest its)) m.step m.raising m.arming (reply_to n.words (move_ask m)) slot k) moves

-- An actor of a sound world.
module _ (w : GuardWorld) (a : ℕ) (x : Actor) (slot : ℕ) (sound : IsSound w) (got : slice_get w.now.actors a ≡ Some x) where
  -- nobody else holds the slot, and the machine holds it then
  abbrev Leads : EpochMachine → Type 0
  Leads there = NoOtherHolds w.now a slot × (slot_held there ≡ Some slot)

  raiser_leads : (there : EpochMachine) → RaisedWith x.machine there slot → Leads there
  raiser_leads there its =
      let mine = held_alone (epoch_world w) sound.epochs a slot (Raises (raise.RaisesEpoch slot)) (machine_at w.now.actors a x got ∙ ap Some its.0) refl in
      (λ other holder. mine.alone other holder.x.machine (machine_at w.now.actors other holder.x holder.its_actor) holder.holds, its.1)

  taker_leads : (there : EpochMachine) → TakesAction w.now.words x.machine there slot → Leads there
  taker_leads there its = (
    λ other holder.
        let theirs = held_alone (epoch_world w) sound.epochs other slot holder.x.machine (machine_at w.now.actors other holder.x holder.its_actor) holder.holds in
        absurd (theirs.untaken a its.word its.safe (machine_at w.now.actors a x got ∙ ap Some its.its) its.found),
    its.held,
  )

  epoch_moves : IsMoved w.now.actions (epoch_step w.now a x).actions slot → Leads (epoch_step w.now a x).actor.machine
  epoch_moves moves =
      taker_leads _ (machine_takes w.now.places.sessions a w.now.words w.now.actions x.machine slot
      (λ k c z e. no_claim_waits (epoch_world w) a k c z sound.epochs (machine_at w.now.actors a x got ∙ ap Some e)) moves)

  work_moves : (work : Work) → x.work ≡ work → IsMoved w.now.actions (work_step w.now a x work).actions slot → Leads (work_step w.now a x work).actor.machine
  work_moves Rests its moves = epoch_moves moves
  work_moves (Shifts s) its moves = raiser_leads _ (shift_moves w.now (levels_of w.now.words) x s.step s.mover slot (subst (Known w a x) its (sound.knows a x got)) moves)
  work_moves (Turns s) its moves = raiser_leads _ (turn_moves w.now (levels_of w.now.words) x s.step s.mover slot (subst (Known w a x) its (sound.knows a x got)) moves)
  work_moves (Reserves step) its moves = absurd (moves refl)
  work_moves (Fills step) its moves = absurd (moves refl)
  work_moves (Invalidates step) its moves = absurd (moves refl)
  work_moves (Flushes step bytes) its moves = absurd (moves refl)
  work_moves (Serves begin step) its moves = absurd (moves refl)

  step_moves : IsMoved w.now.actions (actor_step w.now a x).actions slot → Leads (actor_step w.now a x).actor.machine
  step_moves moves = by (is_idle x.work) moves
    where
      by : (b : Bool) → (let there : GuardNear = if b then epoch_step w.now a x else work_step w.now a x x.work in IsMoved w.now.actions there.actions slot → Leads there.actor.machine)
      by true other = epoch_moves other
      by false other = work_moves x.work refl other

  raised_moves : (action : Action) (d : EpochMachine) → x.machine ≡ d → IsMoved w.now.actions (raised_near w.now action x d).actions slot → Leads (raised_near w.now action x d).actor.machine
  unfolding arm_next
  raised_moves action (Raises (raise.RaisesEpoch its)) is moves = elim (same_or slot its) [
    | inl e ↦ raiser_leads (raised_near w.now action x (Raises (raise.RaisesEpoch its))).actor.machine (is ∙ ap (λ (s : ℕ). Raises (raise.RaisesEpoch s)) (sym e), ap Some (sym e))
    | inr n ↦ absurd (moves (ap found_action (item_spared w.now.actions its slot (Some action) n)))
  ]
  raised_moves action d is moves = absurd (moves refl)

  raises_moves : (action : Action) → (let there : GuardNear = event_near w.now (RaisesFor a action) x in IsMoved w.now.actions there.actions slot → Leads there.actor.machine)
  raises_moves action moves = by (is_idle x.work && is_stored w.now.words action) moves
    where
      by : (b : Bool) → (let there : GuardNear = if b then raised_near w.now action x x.machine else near w.now.words w.now.actions x in IsMoved w.now.actions there.actions slot → Leads there.actor.machine)
      by true other = raised_moves action x.machine refl other
      by false other = absurd (other refl)

  -- what a call or a read of the device leads to moves none
  called_moves : {X : Type 0} (done : Bool) (work : Work) → IsMoved w.now.actions (called_near w.now done x work).actions slot → X
  called_moves done (Flushes step bytes) moves = absurd (moves refl)
  called_moves done work moves = absurd (moves refl)

  read_moves : {X : Type 0} (bytes : Option (List ℕ)) (work : Work) → IsMoved w.now.actions (read_near w.now bytes x work).actions slot → X
  read_moves bytes (Serves begin step) moves = absurd (moves refl)
  read_moves bytes work moves = absurd (moves refl)

  -- where its event leads
  near_moves : (event : GuardEvent) → actor_of event ≡ Some a → (let there : GuardNear = event_near w.now event x in IsMoved w.now.actions there.actions slot → Leads there.actor.machine)
  near_moves (Moves b) its moves = subst (λ (i : ℕ). let there : GuardNear = event_near w.now (Moves i) x in IsMoved w.now.actions there.actions slot → Leads there.actor.machine) (sym (some_same b a its)) step_moves moves
  near_moves (RaisesFor b action) its moves = raises_moves action moves
  near_moves (Calls b done) its moves = called_moves done x.work moves
  near_moves (Reads b bytes) its moves = read_moves bytes x.work moves
  near_moves (Begins b task) its moves = absurd (moves refl)
  near_moves (Resumes b) its moves = absurd (moves refl)
  near_moves (Sees b sight) its moves = absurd (moves refl)
  near_moves (Publishes b) its moves = absurd (moves refl)
  near_moves (Updates b addr word) its moves = absurd (moves refl)
  near_moves (RaisesReadOnly b to) its moves = absurd (moves refl)
  near_moves (Changes b place word) its moves = absurd (moves refl)
  near_moves (CallsElse call) its moves = absurd (moves refl)

pub moves_action : (w : GuardWorld) (event : GuardEvent) (slot : ℕ) → IsSound w → action_at (guard_happens w event).now.actions slot ≢ action_at w.now.actions slot → MovesAction w.now (guard_happens w event).now event slot
unfolding guard_happens
moves_action w event slot sound moves =
    each_event (λ (there : GuardNow). IsMoved w.now.actions there.actions slot → MovesAction w.now there event slot) w.now event (λ none. absurd (none refl))
    (λ a x its got other.
    let there = near_moves w a x slot sound got event its other in
    record {
      actor = a;
      its_actor = its;
      alone = there.0;
      holder = record { x = (event_near w.now event x).actor; its_actor = item_written w.now.actors a x (event_near w.now event x).actor got; holds = there.1 };
    }) moves
