-- A step of a turn, as the keeper makes it.
use Rattle.std.proofs.Common.{◌≡◌, ℕ, List, refl, ap, Bool, false}
use Rattle.std.specs.Prelude.{Option, Some, None, slice_get, slice_set}
use Rattle.fkv_plane.specs.declared.actions.Action.{Action}
use Rattle.fkv_plane.specs.declared.asks.Ask.{Ask}
use Rattle.fkv_plane.specs.declared.asks.Ask.TheVariants.{Put, Take, Done}
use Rattle.fkv_plane.specs.Passing.{passed}
use Rattle.fkv_plane.specs.Plane.{action_at}
use Rattle.fkv_flush.specs.GuardLevels.{levels_of}
use Rattle.fkv_flush.specs.GuardSeen.{LastSeen}
use Rattle.fkv_flush.specs.GuardWorld.{Actor, GuardNow, GuardWorld, GuardEvent}
use Rattle.fkv_flush.proofs.Shown.{Follows, IsSound}
use Rattle.fkv_keeper.specs.declared.keepers.Keeping.TheVariants as keeping
use Rattle.fkv_keeper.specs.Keeping.{KeeperState, device_passed, keeping_ask, keeping_next, keeping_given, maintain_ledto, turn_over}
use Rattle.fkv_maintain.specs.declared.maintaining.MaintainAnswer.{MaintainAnswer}
use Rattle.fkv_maintain.specs.declared.maintaining.MaintainAnswer.TheVariants as answer
use Rattle.fkv_maintain.specs.Maintaining.{MaintainState, maintain_ask, maintain_next, maintain_given}
use Rattle.fkv_world.specs.Moves.{keeper_gets}
use Rattle.law_world.specs.GuardKeeper.KeeperShown.{OfStore}
use Rattle.law_world.specs.GuardKeeper.MaintainShown.{maintain_machine, maintain_work}
use Rattle.law_world.specs.GuardKeeper.Settled.{settled, actions_settled, is_of_slot, maintain_gets}
use Rattle.law_world.proofs.OfGuardKeeper.Ends.{IsTurnOver, follows_known, part_known, is_device, turn_over_at}
use Rattle.law_world.specs.GuardKeeper.Followed.{KeeperLed, likeness}
use Rattle.law_world.proofs.OfGuardKeeper.KeeperLed.{StepLed, step_by_ask, slotless_step, rest_follows}
use Rattle.law_world.proofs.OfGuardKeeper.Led.{Led}

-- the keeper in a turn that has come to a state
abbrev pub in_turn : KeeperState → MaintainState → KeeperState
in_turn s m = record s { maintain = m; step = keeping.Maintains }

turn_ends : (w : GuardWorld) (a : ℕ) (x : Actor) (seen : LastSeen) (events : List GuardEvent) (m : MaintainState) (words : List ℕ) (actions : List (Option Action)) (its : MaintainAnswer) → IsSound w → slice_get w.now.actors a ≡ Some x
    → Led w.now a events seen (maintain_machine m) (maintain_work m) words actions → maintain_ask w.now.shape w.now.places m ≡ Done its → is_device its ≡ false
    → Follows w.now a events (likeness seen None None) words actions
turn_ends w a x seen events m words actions its sound got led e f =
    let known = part_known w.now.shape (levels_of words) _ led.follows.actor.machine led.follows.actor.undecided m m.step led.follows.actor.work led.follows.fits.work
    (follows_known w a x events (likeness seen (maintain_machine m) (maintain_work m)) words actions sound got led.follows) in
    let over : IsTurnOver m m.step = turn_over_at w.now.shape w.now.places (levels_of words) led.follows.actor.machine m m.step its known led.busy e f in
    rest_follows w.now a events seen (maintain_machine m) (maintain_work m) words actions over.machine over.work led.follows

-- by what the turn asks next
pub turn_shows : (w : GuardWorld) (a : ℕ) (x : Actor) (seen : LastSeen) (events : List GuardEvent) (s : KeeperState) (m : MaintainState) (words : List ℕ) (actions : List (Option Action)) (ask : Ask MaintainAnswer) → IsSound w
    → slice_get w.now.actors a ≡ Some x → OfStore w.now.places s → maintain_ask w.now.shape w.now.places m ≡ ask → Led w.now a events seen (maintain_machine m) (maintain_work m) words actions
    → KeeperLed w.now a events seen (maintain_ledto (in_turn s m) ask) words actions
unfolding maintain_ledto
turn_shows w a x seen events s m words actions (Done answer.Through) sound got same e led = record { follows = turn_ends w a x seen events m words actions answer.Through sound got led e refl; knows = record { sessions = same.0; loads = same.1; its = tt } }
turn_shows w a x seen events s m words actions (Done answer.Spent) sound got same e led = record { follows = turn_ends w a x seen events m words actions answer.Spent sound got led e refl; knows = record { sessions = same.0; loads = same.1; its = tt } }
turn_shows w a x seen events s m words actions (Done answer.Broken) sound got same e led = record { follows = turn_ends w a x seen events m words actions answer.Broken sound got led e refl; knows = record { sessions = same.0; loads = same.1; its = tt } }
turn_shows w a x seen events s m words actions ask sound got same e led = record { follows = led.follows; knows = record { sessions = same.0; loads = same.1; its = led.busy } }

-- an action that comes out of its slot goes to the turn
turn_takes : (w : GuardWorld) (a : ℕ) (x : Actor) (seen : LastSeen) (events : List GuardEvent) (s : KeeperState) (m : MaintainState) (words : List ℕ) (slot : ℕ) (found : Option Action) → IsSound w → slice_get w.now.actors a ≡ Some x
    → OfStore w.now.places s → maintain_ask w.now.shape w.now.places m ≡ Take slot
    → (let its : MaintainState = maintain_gets m found in Led w.now a events seen (maintain_machine its) (maintain_work its) words (slice_set w.now.actions slot None))
    → KeeperLed w.now a events seen (keeper_gets w.now.shape w.now.places (in_turn s m) found) words (slice_set w.now.actions slot None)
unfolding keeping_given maintain_ledto
turn_takes w a x seen events s m words slot None sound got same e led = turn_shows w a x seen events s m words (slice_set w.now.actions slot None) (Take slot) sound got same e led
turn_takes w a x seen events s m words slot (Some action) sound got same e led =
    turn_shows w a x seen events s (maintain_given m action) words (slice_set w.now.actions slot None) (maintain_ask w.now.shape w.now.places (maintain_given m action)) sound got same refl led

pub turn_kept : (w : GuardWorld) (a : ℕ) (x : Actor) (seen : LastSeen) (events : List GuardEvent) (s : KeeperState) (granted : Bool) (m : MaintainState) (words : List ℕ) (ask : Ask MaintainAnswer) → IsSound w → slice_get w.now.actors a ≡ Some x
    → OfStore w.now.places s → maintain_ask w.now.shape w.now.places m ≡ ask
    → (let its : MaintainState = settled (maintain_next w.now.shape w.now.places) maintain_gets w.now.actions m ask in Led w.now a events seen (maintain_machine its) (maintain_work its) words (actions_settled w.now.actions ask))
    → StepLed w.now a events seen granted (maintain_ledto (in_turn s m) ask) words
unfolding maintain_ledto keeping_ask keeping_next device_passed passed
turn_kept w a x seen events s granted m words (Put slot action) sound got same e led =
    let n : GuardNow = w.now in
    step_by_ask n a events seen granted (in_turn s m) words (Put slot action) (ap (λ (k : Ask MaintainAnswer). device_passed k (turn_over s)) e)
    (turn_shows w a x seen events s (maintain_next n.shape n.places m 0) words (slice_set n.actions slot (Some action)) (maintain_ask n.shape n.places (maintain_next n.shape n.places m 0)) sound got same refl led)
turn_kept w a x seen events s granted m words (Take slot) sound got same e led =
    let n : GuardNow = w.now in
    step_by_ask n a events seen granted (in_turn s m) words (Take slot) (ap (λ (k : Ask MaintainAnswer). device_passed k (turn_over s)) e)
    (turn_takes w a x seen events s m words slot (action_at n.actions slot) sound got same e led)
turn_kept w a x seen events s granted m words (Done answer.Through) sound got same e led =
    slotless_step w.now a events seen granted (maintain_ledto (in_turn s m) (Done answer.Through)) words refl (turn_shows w a x seen events s m words w.now.actions (Done answer.Through) sound got same e led)
turn_kept w a x seen events s granted m words (Done answer.Spent) sound got same e led =
    slotless_step w.now a events seen granted (maintain_ledto (in_turn s m) (Done answer.Spent)) words refl (turn_shows w a x seen events s m words w.now.actions (Done answer.Spent) sound got same e led)
turn_kept w a x seen events s granted m words (Done answer.Broken) sound got same e led =
    slotless_step w.now a events seen granted (maintain_ledto (in_turn s m) (Done answer.Broken)) words refl (turn_shows w a x seen events s m words w.now.actions (Done answer.Broken) sound got same e led)
turn_kept w a x seen events s granted m words ask sound got same e led =
    slotless_step w.now a events seen granted (in_turn s m) words (ap (λ (k : Ask MaintainAnswer). is_of_slot (device_passed k (turn_over s))) e) (turn_shows w a x seen events s m words w.now.actions ask sound got same e led)
