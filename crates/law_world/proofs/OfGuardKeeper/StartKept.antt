-- A step of a commit's start, as the keeper makes it.
use Rattle.std.proofs.Common.{◌≡◌, ℕ, List, refl, ap, sym, subst, Bool}
use Rattle.std.specs.Prelude.{Option, Some, None, slice_set}
use Rattle.fkv_base.specs.declared.faults.Fault.TheVariants as fault
use Rattle.fkv_plane.specs.declared.actions.Action.{Action}
use Rattle.fkv_plane.specs.declared.asks.Ask.{Ask}
use Rattle.fkv_plane.specs.declared.asks.Ask.TheVariants.{Put, Take, Done}
use Rattle.fkv_plane.specs.Passing.{passed}
use Rattle.fkv_plane.specs.Plane.{action_at}
use Rattle.fkv_commit.specs.declared.starting.StartAnswer.{StartAnswer}
use Rattle.fkv_commit.specs.declared.starting.StartAnswer.TheVariants as answer
use Rattle.fkv_commit.specs.Starting.{StartState, start_ask, start_next}
use Rattle.fkv_flush.specs.GuardLevels.{levels_of}
use Rattle.fkv_flush.specs.GuardSeen.{LastSeen}
use Rattle.fkv_flush.specs.GuardWorld.{GuardNow, GuardEvent}
use Rattle.fkv_flush.proofs.Shown.{Follows}
use Rattle.fkv_keeper.specs.declared.answers.KeeperTold.TheVariants.{CommitRefused}
use Rattle.fkv_keeper.specs.declared.keepers.Keeping.TheVariants as keeping
use Rattle.fkv_keeper.specs.Keeping.{KeeperState, keeping_ask, keeping_next, keeping_given, start_ledto}
use Rattle.fkv_world.specs.Moves.{keeper_gets}
use Rattle.law_world.specs.GuardKeeper.KeeperShown.{OfStore}
use Rattle.law_world.specs.GuardKeeper.Settled.{settled, actions_settled, is_of_slot, takes_none}
use Rattle.law_world.proofs.OfGuardKeeper.Ends.{start_over}
use Rattle.law_world.specs.GuardKeeper.Followed.{KeeperLed, likeness}
use Rattle.law_world.proofs.OfGuardKeeper.KeeperLed.{StepLed, step_by_ask, slotless_step, rest_follows}
use Rattle.law_world.proofs.OfGuardKeeper.PartLed.{PartLed}
use Rattle.law_world.proofs.OfGuardKeeper.Started.{start_machine, StartKnown}

-- the keeper as this part has come to a state
abbrev pub in_start : KeeperState → StartState → KeeperState
in_start s t = record s { start = t; step = keeping.Starts }

start_ends : (n : GuardNow) (a : ℕ) (seen : LastSeen) (events : List GuardEvent) (t : StartState) (words : List ℕ) (actions : List (Option Action)) (its : StartAnswer) → start_ask t ≡ Done its
    → PartLed n a events seen start_machine (StartKnown words) t words actions → Follows n a events (likeness seen None None) words actions
start_ends n a seen events t words actions its e led = rest_follows n a events seen (start_machine t) None words actions (start_over (levels_of words) t t.step its led.knows e) refl led.follows

-- by what it asks next
start_shows : (n : GuardNow) (a : ℕ) (seen : LastSeen) (events : List GuardEvent) (s : KeeperState) (t : StartState) (words : List ℕ) (actions : List (Option Action)) (ask : Ask StartAnswer) → OfStore n.places s → start_ask t ≡ ask
    → PartLed n a events seen start_machine (StartKnown words) t words actions → KeeperLed n a events seen (start_ledto (in_start s t) ask) words actions
unfolding start_ledto
start_shows n a seen events s t words actions (Done (answer.Begun number first)) same e led = record { follows = start_ends n a seen events t words actions (answer.Begun number first) e led; knows = record { sessions = same.0; loads = same.1; its = tt } }
start_shows n a seen events s t words actions (Done (answer.Refused why)) same e led = record { follows = start_ends n a seen events t words actions (answer.Refused why) e led; knows = record { sessions = same.0; loads = same.1; its = tt } }
start_shows n a seen events s t words actions (Done answer.Idle) same e led = record { follows = start_ends n a seen events t words actions answer.Idle e led; knows = record { sessions = same.0; loads = same.1; its = tt } }
start_shows n a seen events s t words actions ask same e led = record { follows = led.follows; knows = record { sessions = same.0; loads = same.1; its = led.knows } }

start_gets : (n : GuardNow) (s : KeeperState) (t : StartState) (found : Option Action) → keeper_gets n.shape n.places (in_start s t) found ≡ in_start s t
unfolding keeping_given
start_gets n s t None = refl
start_gets n s t (Some action) = refl

pub start_kept : (n : GuardNow) (a : ℕ) (seen : LastSeen) (events : List GuardEvent) (s : KeeperState) (granted : Bool) (t : StartState) (words : List ℕ) (ask : Ask StartAnswer) → OfStore n.places s → start_ask t ≡ ask
    → PartLed n a events seen start_machine (StartKnown words) (settled start_next takes_none n.actions t ask) words (actions_settled n.actions ask)
    → StepLed n a events seen granted (start_ledto (in_start s t) ask) words
unfolding start_ledto keeping_ask keeping_next passed
start_kept n a seen events s granted t words (Put slot action) same e led =
    step_by_ask n a events seen granted (in_start s t) words (Put slot action) (ap (λ (k : Ask StartAnswer). passed k (CommitRefused fault.CommitRunning)) e)
    (start_shows n a seen events s (start_next t 0) words (slice_set n.actions slot (Some action)) (start_ask (start_next t 0)) same refl led)
start_kept n a seen events s granted t words (Take slot) same e led =
    step_by_ask n a events seen granted (in_start s t) words (Take slot) (ap (λ (k : Ask StartAnswer). passed k (CommitRefused fault.CommitRunning)) e)
    (subst (λ (its : KeeperState). KeeperLed n a events seen its words (slice_set n.actions slot None)) (sym (start_gets n s t (action_at n.actions slot)))
    (start_shows n a seen events s t words (slice_set n.actions slot None) (Take slot) same e led))
start_kept n a seen events s granted t words (Done (answer.Begun number first)) same e led =
    slotless_step n a events seen granted (start_ledto (in_start s t) (Done (answer.Begun number first))) words refl (start_shows n a seen events s t words n.actions (Done (answer.Begun number first)) same e led)
start_kept n a seen events s granted t words (Done (answer.Refused why)) same e led =
    slotless_step n a events seen granted (start_ledto (in_start s t) (Done (answer.Refused why))) words refl (start_shows n a seen events s t words n.actions (Done (answer.Refused why)) same e led)
start_kept n a seen events s granted t words (Done answer.Idle) same e led =
    slotless_step n a events seen granted (start_ledto (in_start s t) (Done answer.Idle)) words refl (start_shows n a seen events s t words n.actions (Done answer.Idle) same e led)
start_kept n a seen events s granted t words ask same e led =
    slotless_step n a events seen granted (in_start s t) words (ap (λ (k : Ask StartAnswer). is_of_slot (passed k (CommitRefused fault.CommitRunning))) e) (start_shows n a seen events s t words n.actions ask same e led)
