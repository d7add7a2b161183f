-- The drain as events meet it: an action is put where there was none, and a claim that is won finds the one of its epoch.
use Rattle.std.proofs.Common.{◌≡◌, ℕ, refl, ap, subst, arith, inl, inr, ◌∙◌}
use Rattle.std.specs.Prelude.{Option, Some, None, slice_get, ◌==◌, ◌&&◌}
use Rattle.std.proofs.lemmas.Bool.Decides.{nat_tests}
use Rattle.fkv_plane.specs.declared.actions.Action.{Action}
use Rattle.fkv_epoch.specs.declared.raising.Raising.TheVariants as raise
use Rattle.fkv_epoch.specs.declared.claiming.Claiming.TheVariants as claim
use Rattle.fkv_epoch.specs.EpochWorld.{EpochMachine, Raises, Claims, Claimed, claimed_by, drain_word}
use Rattle.fkv_epoch.specs.Once.{Among, FindsAction}
use Rattle.fkv_epoch.proofs.Shown.{some_same}
use Rattle.fkv_epoch.proofs.Shown.{claimer_finds_action, no_claim_waits}
use Rattle.fkv_flush.specs.GuardLevels.{levels_of}
use Rattle.fkv_flush.specs.GuardSlots.{work_puts, raise_puts, actor_puts, raiser_puts, event_puts, actor_claims, event_claims, FindsSlots}
use Rattle.fkv_flush.specs.GuardWorld.{Actor, Work, Shifts, Turns, GuardWorld, GuardEvent, Moves, RaisesFor, is_idle, is_stored, epoch_now, epoch_world}
use Rattle.fkv_flush.proofs.GuardSound.{IsSound, machine_at}
use Rattle.fkv_flush.proofs.GuardWorks.{truth, Known}
use Rattle.fkv_flush.proofs.SlotsHeld.{moves_action}
use Rattle.fkv_flush.proofs.SlotsPut.{RaisesWith, no_put, shift_puts, turn_puts}

-- so does the actor's work
work_raises : (w : GuardWorld) (a : ℕ) (x : Actor) (work : Work) → IsSound w → slice_get w.now.actors a ≡ Some x → x.work ≡ work → (slot : ℕ) → work_puts w.now work ≡ Some slot → RaisesWith x.machine slot
work_raises w a x (Shifts s) sound got its slot e = shift_puts (levels_of w.now.words) x.machine w.now.shape s.step s.mover _ (subst (Known w a x) its (sound.knows a x got)) slot e
work_raises w a x (Turns s) sound got its slot e = turn_puts (levels_of w.now.words) x.machine w.now.shape s.step s.mover _ (subst (Known w a x) its (sound.knows a x got)) slot e
work_raises w a x work sound got its slot e = no_put slot e

-- an event that puts an action is one of an actor that raises the epoch for it
pub record Puts (w : GuardWorld) (slot : ℕ) : Type 0 where
  pub actor : ℕ
  pub x : Actor
  pub its_actor : slice_get w.now.actors actor ≡ Some x
  pub its_machine : RaisesWith x.machine slot

actor_raises : (w : GuardWorld) (a : ℕ) (found : Option Actor) (slot : ℕ) → IsSound w → slice_get w.now.actors a ≡ found → actor_puts w.now found ≡ Some slot → Puts w slot
actor_raises w a None slot sound got e = no_put slot e
actor_raises w a (Some x) slot sound got e = elim (truth (is_idle x.work)) [
  | inl idle ↦ no_put slot (rw idle at e)
  | inr busy ↦ record { actor = a; x = x; its_actor = got; its_machine = work_raises w a x x.work sound got refl slot (rw busy at e) }
]

raising_is : (d : EpochMachine) (slot : ℕ) → raise_puts d ≡ Some slot → RaisesWith d slot
raising_is (Raises (raise.RaisesEpoch its)) slot e = ap (λ (s : ℕ). Raises (raise.RaisesEpoch s)) (some_same its slot e)
raising_is d slot e = no_put slot e

raiser_raises : (w : GuardWorld) (a : ℕ) (action : Action) (found : Option Actor) (slot : ℕ) → slice_get w.now.actors a ≡ found → raiser_puts w.now action found ≡ Some slot → Puts w slot
raiser_raises w a action None slot got e = no_put slot e
raiser_raises w a action (Some x) slot got e = elim (truth (is_idle x.work && is_stored w.now.words action)) [
  | inl may ↦ record { actor = a; x = x; its_actor = got; its_machine = raising_is x.machine slot (rw may at e) }
  | inr not ↦ no_put slot (rw not at e)
]

pub event_raises : (w : GuardWorld) (event : GuardEvent) (slot : ℕ) → IsSound w → event_puts w.now event ≡ Some slot → Puts w slot
event_raises w (Moves a) slot sound e = actor_raises w a (slice_get w.now.actors a) slot sound refl e
event_raises w (RaisesFor a action) slot sound e = raiser_raises w a action (slice_get w.now.actors a) slot refl e
event_raises w event slot sound e = no_put slot e

-- the claim of a machine
claim_finds : (w : GuardWorld) (a : ℕ) (x : Actor) (d : EpochMachine) (y : Claimed) → IsSound w → slice_get w.now.actors a ≡ Some x → x.machine ≡ d → Among y (claimed_by (epoch_now w.now) a d) → FindsAction (epoch_world w) y.slot y.epoch
claim_finds w a x (Claims (claim.TakesSlot slot word safe)) y sound got its among = elim (truth (drain_word w.now.words slot == word)) [
  | inl e ↦ elim (rw e at among) [
    | inl same ↦ rw same (claimer_finds_action (epoch_world w) a slot word safe sound.epochs (machine_at w.now.actors a x got ∙ ap Some its) (grind (arith, nat_tests, e)))
    | inr none ↦ absurd none
  ]
  | inr e ↦ absurd (rw e at among)
]
claim_finds w a x d y sound got its among = absurd among

actor_finds : (w : GuardWorld) (a : ℕ) (found : Option Actor) (y : Claimed) → IsSound w → slice_get w.now.actors a ≡ found → Among y (actor_claims w.now a found) → FindsAction (epoch_world w) y.slot y.epoch
actor_finds w a None y sound got among = absurd among
actor_finds w a (Some x) y sound got among = elim (truth (is_idle x.work)) [
  | inl idle ↦ claim_finds w a x x.machine y sound got refl (rw idle at among)
  | inr busy ↦ absurd (rw busy at among)
]

event_finds : (w : GuardWorld) (event : GuardEvent) (y : Claimed) → IsSound w → Among y (event_claims w.now event) → FindsAction (epoch_world w) y.slot y.epoch
event_finds w (Moves a) y sound among = actor_finds w a (slice_get w.now.actors a) y sound refl among
event_finds w event y sound among = absurd among

pub finds_slots : (w : GuardWorld) (event : GuardEvent) → IsSound w → FindsSlots w event
finds_slots w event sound = record {
  puts = λ slot e.
      let r = event_raises w event slot sound e in
      (sound.epochs.slots.holds r.actor (Raises (raise.RaisesEpoch slot)) (machine_at w.now.actors r.actor r.x r.its_actor ∙ ap Some r.its_machine)).2;
  within = λ slot e.
      let r = event_raises w event slot sound e in
      (sound.epochs.slots.holds r.actor (Raises (raise.RaisesEpoch slot)) (machine_at w.now.actors r.actor r.x r.its_actor ∙ ap Some r.its_machine)).0;
  takes = λ y among. event_finds w event y sound among;
  waits = λ a slot c safe x got e. no_claim_waits (epoch_world w) a slot c safe sound.epochs (machine_at w.now.actors a x got ∙ ap Some e);
  moves = λ slot moves. moves_action w event slot sound moves;
}
