-- Where a step of a turn leads, with what is settled behind it.
use Rattle.std.proofs.Common.{◌≡◌, ℕ, List, refl, sym, subst, false}
use Rattle.std.specs.Prelude.{Option}
use Rattle.fkv_plane.specs.declared.actions.Action.{Action}
use Rattle.fkv_plane.specs.declared.asks.Ask.{Ask}
use Rattle.fkv_plane.specs.declared.asks.Ask.TheVariants.{Done}
use Rattle.fkv_plane.specs.Passing.{passed}
use Rattle.fkv_flush.specs.declared.answers.DeviceAnswer.{DeviceAnswer}
use Rattle.fkv_flush.specs.declared.answers.DeviceAnswer.TheVariants as device
use Rattle.fkv_flush.specs.GuardSeen.{LastSeen}
use Rattle.fkv_flush.specs.GuardWorld.{GuardNow, GuardEvent}
use Rattle.fkv_maintain.specs.declared.maintaining.MaintainAnswer.{MaintainAnswer}
use Rattle.fkv_maintain.specs.declared.maintaining.MaintainAnswer.TheVariants as answer
use Rattle.fkv_maintain.specs.Maintaining.{MaintainState, device_asked, maintain_ask, maintain_next}
use Rattle.law_world.specs.GuardKeeper.MaintainShown.{maintain_machine, maintain_work}
use Rattle.law_world.specs.GuardKeeper.Settled.{settled, actions_settled, is_of_slot, maintain_gets}
use Rattle.law_world.proofs.OfGuardKeeper.Led.{Led}
use Rattle.law_world.proofs.OfGuardKeeper.Slots.{settled_stays, actions_stay, passed_slot}

-- the turn has come to a state, and the world settles what this asks of a slot
abbrev pub turn_settled : GuardNow → MaintainState → MaintainState
turn_settled n there = settled (maintain_next n.shape n.places) maintain_gets n.actions there (maintain_ask n.shape n.places there)

abbrev pub TurnLed : GuardNow → ℕ → List GuardEvent → LastSeen → MaintainState → List ℕ → Type 0
TurnLed n a events seen there words =
    Led n a events seen (maintain_machine (turn_settled n there)) (maintain_work (turn_settled n there)) words (actions_settled n.actions (maintain_ask n.shape n.places there))

pub slotless_led : (n : GuardNow) (a : ℕ) (events : List GuardEvent) (seen : LastSeen) (there : MaintainState) (words : List ℕ) → is_of_slot (maintain_ask n.shape n.places there) ≡ false
    → Led n a events seen (maintain_machine there) (maintain_work there) words n.actions → TurnLed n a events seen there words
slotless_led n a events seen there words e led =
    let ask : Ask MaintainAnswer = maintain_ask n.shape n.places there in
    subst (λ (its : MaintainState). Led n a events seen (maintain_machine its) (maintain_work its) words (actions_settled n.actions ask)) (sym (settled_stays (maintain_next n.shape n.places) maintain_gets n.actions there ask e))
    (subst (λ (actions : List (Option Action)). Led n a events seen (maintain_machine there) (maintain_work there) words actions) (sym (actions_stay n.actions ask e)) led)

pub device_slot : (ask : Ask DeviceAnswer) → is_of_slot (device_asked ask) ≡ is_of_slot ask
unfolding device_asked passed
device_slot (Done device.Device) = refl
device_slot (Done device.Through) = refl
device_slot ask = passed_slot ask answer.Through

-- by what the state asks
pub led_by_ask : (n : GuardNow) (a : ℕ) (events : List GuardEvent) (seen : LastSeen) (there : MaintainState) (words : List ℕ) (ask : Ask MaintainAnswer) → maintain_ask n.shape n.places there ≡ ask
    → (let its : MaintainState = settled (maintain_next n.shape n.places) maintain_gets n.actions there ask in
    Led n a events seen (maintain_machine its) (maintain_work its) words (actions_settled n.actions ask))
    → TurnLed n a events seen there words
led_by_ask n a events seen there words ask e led = subst (λ (k : Ask MaintainAnswer).
    Led n a events seen (maintain_machine (settled (maintain_next n.shape n.places) maintain_gets n.actions there k)) (maintain_work (settled (maintain_next n.shape n.places) maintain_gets n.actions there k)) words (actions_settled n.actions k)) (sym e) led

-- where nothing was settled
pub unsettled_led : (n : GuardNow) (a : ℕ) (events : List GuardEvent) (seen : LastSeen) (there : MaintainState) (words : List ℕ) → is_of_slot (maintain_ask n.shape n.places there) ≡ false → TurnLed n a events seen there words
    → Led n a events seen (maintain_machine there) (maintain_work there) words n.actions
unsettled_led n a events seen there words e led =
    let ask : Ask MaintainAnswer = maintain_ask n.shape n.places there in
    subst (λ (its : MaintainState). Led n a events seen (maintain_machine its) (maintain_work its) words n.actions) (settled_stays (maintain_next n.shape n.places) maintain_gets n.actions there ask e)
    (subst (λ (actions : List (Option Action)). Led n a events seen (maintain_machine (turn_settled n there)) (maintain_work (turn_settled n there)) words actions) (actions_stay n.actions ask e) led)
