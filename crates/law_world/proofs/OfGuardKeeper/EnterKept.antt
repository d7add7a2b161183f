-- A step of a commit that goes on to wait-pending, as the keeper makes it.
use Rattle.std.proofs.Common.{◌≡◌, ℕ, List, refl, ap, sym, subst, Bool}
use Rattle.std.specs.Prelude.{Option, Some, None, slice_set}
use Rattle.fkv_plane.specs.declared.actions.Action.{Action}
use Rattle.fkv_plane.specs.declared.asks.Ask.{Ask}
use Rattle.fkv_plane.specs.declared.asks.Ask.TheVariants.{Put, Take, Done}
use Rattle.fkv_plane.specs.Passing.{passed}
use Rattle.fkv_plane.specs.Plane.{action_at}
use Rattle.fkv_commit.specs.declared.entering.EnterAnswer.{EnterAnswer}
use Rattle.fkv_commit.specs.declared.entering.EnterAnswer.TheVariants as answer
use Rattle.fkv_commit.specs.Entering.{EnterState, enter_ask, enter_next}
use Rattle.fkv_flush.specs.GuardLevels.{levels_of}
use Rattle.fkv_flush.specs.GuardSeen.{LastSeen}
use Rattle.fkv_flush.specs.GuardWorld.{GuardNow, GuardEvent}
use Rattle.fkv_flush.proofs.Shown.{Follows}
use Rattle.fkv_keeper.specs.declared.keepers.Keeping.TheVariants as keeping
use Rattle.fkv_keeper.specs.Keeping.{KeeperState, keeping_ask, keeping_next, keeping_given, enter_ledto, turn_over}
use Rattle.fkv_world.specs.Moves.{keeper_gets}
use Rattle.law_world.specs.GuardKeeper.KeeperShown.{OfStore}
use Rattle.law_world.specs.GuardKeeper.Settled.{settled, actions_settled, is_of_slot, takes_none}
use Rattle.law_world.proofs.OfGuardKeeper.Ends.{enter_over}
use Rattle.law_world.specs.GuardKeeper.Followed.{KeeperLed, likeness}
use Rattle.law_world.proofs.OfGuardKeeper.KeeperLed.{StepLed, step_by_ask, slotless_step, rest_follows}
use Rattle.law_world.proofs.OfGuardKeeper.PartLed.{PartLed}
use Rattle.law_world.proofs.OfGuardKeeper.Entered.{enter_machine, EnterKnown}

-- the keeper as this part has come to a state
abbrev pub in_enter : KeeperState → EnterState → KeeperState
in_enter s t = record s { enter = t; step = keeping.Enters }

enter_ends : (n : GuardNow) (a : ℕ) (seen : LastSeen) (events : List GuardEvent) (t : EnterState) (words : List ℕ) (actions : List (Option Action)) (its : EnterAnswer) → enter_ask t ≡ Done its
    → PartLed n a events seen enter_machine (EnterKnown words) t words actions → Follows n a events (likeness seen None None) words actions
enter_ends n a seen events t words actions its e led = rest_follows n a events seen (enter_machine t) None words actions (enter_over (levels_of words) t t.step its led.knows e) refl led.follows

-- by what it asks next
enter_shows : (n : GuardNow) (a : ℕ) (seen : LastSeen) (events : List GuardEvent) (s : KeeperState) (t : EnterState) (words : List ℕ) (actions : List (Option Action)) (ask : Ask EnterAnswer) → OfStore n.places s → enter_ask t ≡ ask
    → PartLed n a events seen enter_machine (EnterKnown words) t words actions → KeeperLed n a events seen (enter_ledto (in_enter s t) ask) words actions
unfolding enter_ledto
enter_shows n a seen events s t words actions (Done answer.Entered) same e led = record { follows = enter_ends n a seen events t words actions answer.Entered e led; knows = record { sessions = same.0; loads = same.1; its = tt } }
enter_shows n a seen events s t words actions (Done answer.DrainFull) same e led = record { follows = enter_ends n a seen events t words actions answer.DrainFull e led; knows = record { sessions = same.0; loads = same.1; its = tt } }
enter_shows n a seen events s t words actions (Done answer.EpochsSpent) same e led = record { follows = enter_ends n a seen events t words actions answer.EpochsSpent e led; knows = record { sessions = same.0; loads = same.1; its = tt } }
enter_shows n a seen events s t words actions (Done answer.Idle) same e led = record { follows = enter_ends n a seen events t words actions answer.Idle e led; knows = record { sessions = same.0; loads = same.1; its = tt } }
enter_shows n a seen events s t words actions ask same e led = record { follows = led.follows; knows = record { sessions = same.0; loads = same.1; its = led.knows } }

enter_gets : (n : GuardNow) (s : KeeperState) (t : EnterState) (found : Option Action) → keeper_gets n.shape n.places (in_enter s t) found ≡ in_enter s t
unfolding keeping_given
enter_gets n s t None = refl
enter_gets n s t (Some action) = refl

pub enter_kept : (n : GuardNow) (a : ℕ) (seen : LastSeen) (events : List GuardEvent) (s : KeeperState) (granted : Bool) (t : EnterState) (words : List ℕ) (ask : Ask EnterAnswer) → OfStore n.places s → enter_ask t ≡ ask
    → PartLed n a events seen enter_machine (EnterKnown words) (settled enter_next takes_none n.actions t ask) words (actions_settled n.actions ask)
    → StepLed n a events seen granted (enter_ledto (in_enter s t) ask) words
unfolding enter_ledto keeping_ask keeping_next passed
enter_kept n a seen events s granted t words (Put slot action) same e led =
    step_by_ask n a events seen granted (in_enter s t) words (Put slot action) (ap (λ (k : Ask EnterAnswer). passed k (turn_over s)) e)
    (enter_shows n a seen events s (enter_next t 0) words (slice_set n.actions slot (Some action)) (enter_ask (enter_next t 0)) same refl led)
enter_kept n a seen events s granted t words (Take slot) same e led =
    step_by_ask n a events seen granted (in_enter s t) words (Take slot) (ap (λ (k : Ask EnterAnswer). passed k (turn_over s)) e)
    (subst (λ (its : KeeperState). KeeperLed n a events seen its words (slice_set n.actions slot None)) (sym (enter_gets n s t (action_at n.actions slot)))
    (enter_shows n a seen events s t words (slice_set n.actions slot None) (Take slot) same e led))
enter_kept n a seen events s granted t words (Done answer.Entered) same e led =
    slotless_step n a events seen granted (enter_ledto (in_enter s t) (Done answer.Entered)) words refl (enter_shows n a seen events s t words n.actions (Done answer.Entered) same e led)
enter_kept n a seen events s granted t words (Done answer.DrainFull) same e led =
    slotless_step n a events seen granted (enter_ledto (in_enter s t) (Done answer.DrainFull)) words refl (enter_shows n a seen events s t words n.actions (Done answer.DrainFull) same e led)
enter_kept n a seen events s granted t words (Done answer.EpochsSpent) same e led =
    slotless_step n a events seen granted (enter_ledto (in_enter s t) (Done answer.EpochsSpent)) words refl (enter_shows n a seen events s t words n.actions (Done answer.EpochsSpent) same e led)
enter_kept n a seen events s granted t words (Done answer.Idle) same e led =
    slotless_step n a events seen granted (enter_ledto (in_enter s t) (Done answer.Idle)) words refl (enter_shows n a seen events s t words n.actions (Done answer.Idle) same e led)
enter_kept n a seen events s granted t words ask same e led =
    slotless_step n a events seen granted (in_enter s t) words (ap (λ (k : Ask EnterAnswer). is_of_slot (passed k (turn_over s))) e) (enter_shows n a seen events s t words n.actions ask same e led)
