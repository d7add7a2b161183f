-- Which actor of the guard holds a slot, over the events of a step: who moves its action holds it then, and others' events leave it to him.
use Rattle.std.proofs.Common.{◌≡◌, ◌≢◌, ℕ, ◌∙◌, refl, sym, ap, subst, inl, inr, List, [], ◌∷◌, Bool, true, false}
use Rattle.std.specs.Prelude.{◌&&◌, if◌then◌else◌, Some, None, slice_get}
use Rattle.fkv_plane.specs.Plane.{action_at}
use Rattle.fkv_epoch.specs.declared.arming.Arming.TheVariants as arm
use Rattle.fkv_epoch.specs.declared.claiming.Claiming.TheVariants as claim
use Rattle.fkv_epoch.specs.declared.raising.Raising.TheVariants as raise
use Rattle.fkv_epoch.specs.EpochWorld.{EpochMachine, Claims, Raises, HasRaised, Arms, is_at_rest, resumed_machine}
use Rattle.fkv_epoch.specs.Held.{slot_held}
use Rattle.fkv_epoch.specs.Raising.{raise_on}
use Rattle.fkv_epoch.proofs.Shown.{item_spared, item_written, same_or, some_same}
use Rattle.fkv_flush.specs.GuardCalm.{AreOther, IsOther}
use Rattle.fkv_flush.specs.GuardSlots.{IsHolder, MovesAction, NoOtherHolds}
use Rattle.fkv_flush.specs.GuardWorld.{Actor, GuardNow, GuardWorld, GuardEvent, Begins, Resumes, Publishes, put_near, guard_happens, guard_run, is_idle, may_work, started}
use Rattle.fkv_flush.proofs.Shown.{IsSound, each_event, event_near, finds_slots}
use Rattle.law_world.proofs.OfGuarded.OneStep.{IsStep, IsQuiet}

-- a machine that holds a slot is under way
held_busy : (d : EpochMachine) (slot : ℕ) → slot_held d ≡ Some slot → is_at_rest d ≡ false
held_busy (Raises (raise.HasSlot its)) slot held = refl
held_busy (Raises (raise.RaisesEpoch its)) slot held = refl
held_busy (HasRaised its epoch) slot held = refl
held_busy (Arms (arm.StoresEpoch its epoch)) slot held = refl
held_busy (Claims (claim.Runs its epoch safe action)) slot held = refl
held_busy (Claims (claim.FreesSlot its safe)) slot held = refl
held_busy d slot held = cc

-- and is let go on with it
held_on : (d : EpochMachine) (slot : ℕ) → slot_held d ≡ Some slot → slot_held (resumed_machine d) ≡ Some slot
unfolding raise_on
held_on (Raises (raise.HasSlot its)) slot held = held
held_on (Raises (raise.RaisesEpoch its)) slot held = held
held_on (HasRaised its epoch) slot held = held
held_on (Arms (arm.StoresEpoch its epoch)) slot held = held
held_on (Claims (claim.Runs its epoch safe action)) slot held = held
held_on (Claims (claim.FreesSlot its safe)) slot held = held
held_on d slot held = cc

-- what only begins a machine, or lets one go on, or publishes a record, leaves its actor's slot and every action
quiet_near : (n : GuardNow) (event : GuardEvent) (x : Actor) (slot : ℕ) → IsQuiet event → slot_held x.machine ≡ Some slot → slot_held (event_near n event x).actor.machine ≡ Some slot
quiet_near n (Begins a task) x slot quiet held = by (is_at_rest x.machine) (held_busy x.machine slot held)
  where
    by : (b : Bool) → b ≡ false → slot_held (if b && is_idle x.work && may_work n a x task then started n x task else x).machine ≡ Some slot
    by true e = cc
    by false e = held
quiet_near n (Resumes a) x slot quiet held = by (is_idle x.work)
  where
    by : (b : Bool) → slot_held (if b then record x { machine = resumed_machine x.machine } else x).machine ≡ Some slot
    by true = held_on x.machine slot held
    by false = held
quiet_near n (Publishes a) x slot quiet held = by (is_idle x.work)
  where
    by : (b : Bool) → slot_held (if b then record x { undecided = None } else x).machine ≡ Some slot
    by true = held
    by false = held
quiet_near n event x slot quiet held = absurd quiet

quiet_actions : (n : GuardNow) (event : GuardEvent) (x : Actor) → IsQuiet event → (event_near n event x).actions ≡ n.actions
quiet_actions n (Begins a task) x quiet = refl
quiet_actions n (Resumes a) x quiet = refl
quiet_actions n (Publishes a) x quiet = refl
quiet_actions n event x quiet = absurd quiet

actions_stay : (w : GuardWorld) (event : GuardEvent) → IsQuiet event → (guard_happens w event).now.actions ≡ w.now.actions
unfolding guard_happens
actions_stay w event quiet = each_event (λ (there : GuardNow). there.actions ≡ w.now.actions) w.now event refl (λ a x its got. quiet_actions w.now event x quiet)

-- the actor of this number has gone on, and still holds the slot
put_holder : (n : GuardNow) (event : GuardEvent) (a b : ℕ) (x : Actor) (slot : ℕ) → slice_get n.actors b ≡ Some x → IsHolder n a slot
    → (a ≡ b → slot_held x.machine ≡ Some slot → slot_held (event_near n event x).actor.machine ≡ Some slot) → IsHolder (put_near n b (event_near n event x)) a slot
put_holder n event a b x slot got holder goes = elim (same_or a b) [
  | inl e ↦
      let same : holder.x ≡ x = some_same holder.x x (sym holder.its_actor ∙ (ap (slice_get n.actors) e ∙ got)) in
      record {
        x = (event_near n event x).actor;
        its_actor = ap (slice_get (put_near n b (event_near n event x)).actors) e ∙ item_written n.actors b x (event_near n event x).actor got;
        holds = goes e (subst (λ (y : Actor). slot_held y.machine ≡ Some slot) same holder.holds);
      }
  | inr other ↦ record { x = holder.x; its_actor = item_spared n.actors b a (event_near n event x).actor other ∙ holder.its_actor; holds = holder.holds }
]

quiet_holds : (w : GuardWorld) (event : GuardEvent) (a slot : ℕ) → IsQuiet event → IsHolder w.now a slot → IsHolder (guard_happens w event).now a slot
unfolding guard_happens
quiet_holds w event a slot quiet holder =
    each_event (λ (there : GuardNow). IsHolder there a slot) w.now event holder (λ b x its got. put_holder w.now event a b x slot got holder (λ e held. quiet_near w.now event x slot quiet held))

-- an event of another actor
other_holds : (w : GuardWorld) (event : GuardEvent) (a slot : ℕ) → IsOther event a → IsHolder w.now a slot → IsHolder (guard_happens w event).now a slot
unfolding guard_happens
other_holds w event a slot other holder =
    each_event (λ (there : GuardNow). IsHolder there a slot) w.now event holder (λ b x its got. put_holder w.now event a b x slot got holder (λ e held. absurd (other (its ∙ ap Some (sym e)))))

pub others_hold : (w : GuardWorld) (events : List GuardEvent) (a slot : ℕ) → AreOther events a → IsHolder w.now a slot → IsHolder (guard_run w events).now a slot
unfolding guard_run
others_hold w [] a slot other holder = holder
others_hold w (event ∷ before) a slot other holder = other_holds (guard_run w before) event a slot other.0 (others_hold w before a slot other.1 holder)

-- The actor's step has moved the action of the slot: nobody else has held the slot, and he holds it then.
pub record TurnsTo (w v : GuardWorld) (a slot : ℕ) : Type 0 where
  pub alone : NoOtherHolds w.now a slot
  pub holder : IsHolder v.now a slot

one_turns : (w : GuardWorld) (event : GuardEvent) (a slot : ℕ) → ((b : ℕ) → a ≢ b → IsOther event b) → MovesAction w.now (guard_happens w event).now event slot → TurnsTo w (guard_happens w event) a slot
one_turns w event a slot own moved = elim (same_or a moved.actor) [
  | inl e ↦ record {
    alone = subst (λ (b : ℕ). NoOtherHolds w.now b slot) (sym e) moved.alone;
    holder = subst (λ (b : ℕ). IsHolder (guard_happens w event).now b slot) (sym e) moved.holder;
  }
  | inr other ↦ absurd (own moved.actor other moved.its_actor)
]

pub step_turns : (keeper a : ℕ) (w : GuardWorld) (events : List GuardEvent) (slot : ℕ) → IsSound w → IsStep keeper a events → action_at (guard_run w events).now.actions slot ≢ action_at w.now.actions slot → TurnsTo w (guard_run w events) a slot
unfolding guard_run
step_turns keeper a w [] slot sound step moves = absurd (moves refl)
step_turns keeper a w (event ∷ before) slot sound step moves = elim step.0.place [
  | inl quiet ↦
      let so = step_turns keeper a w before slot sound step.1 (λ e. moves (ap (λ actions. action_at actions slot) (actions_stay (guard_run w before) event quiet) ∙ e)) in
      record { alone = so.alone; holder = quiet_holds (guard_run w before) event a slot quiet so.holder }
  | inr first ↦
      subst (λ (b : List GuardEvent). action_at (guard_happens (guard_run w b) event).now.actions slot ≢ action_at w.now.actions slot → TurnsTo w (guard_happens (guard_run w b) event) a slot) (sym first.0)
      (λ other. one_turns w event a slot first.1 ((finds_slots w event sound).moves slot other)) moves
]
