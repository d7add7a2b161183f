-- A step of a commit that seeks its points, as the keeper makes it.
use Rattle.std.proofs.Common.{◌≡◌, ℕ, List, refl, ap, sym, subst, Bool}
use Rattle.std.specs.Prelude.{Option, Some, None, slice_set}
use Rattle.fkv_plane.specs.declared.actions.Action.{Action}
use Rattle.fkv_plane.specs.declared.asks.Ask.{Ask}
use Rattle.fkv_plane.specs.declared.asks.Ask.TheVariants.{Put, Take, Done}
use Rattle.fkv_plane.specs.Passing.{passed}
use Rattle.fkv_plane.specs.Plane.{action_at}
use Rattle.fkv_commit.specs.declared.seeking.SeekAnswer.{SeekAnswer}
use Rattle.fkv_commit.specs.declared.seeking.SeekAnswer.TheVariants as answer
use Rattle.fkv_commit.specs.Seeking.{SeekState, seek_ask, seek_next}
use Rattle.fkv_flush.specs.GuardLevels.{levels_of}
use Rattle.fkv_flush.specs.GuardSeen.{LastSeen}
use Rattle.fkv_flush.specs.GuardWorld.{GuardNow, GuardEvent}
use Rattle.fkv_flush.proofs.Shown.{Follows}
use Rattle.fkv_keeper.specs.declared.keepers.Keeping.TheVariants as keeping
use Rattle.fkv_keeper.specs.Keeping.{KeeperState, keeping_ask, keeping_next, keeping_given, seek_ledto, turn_over}
use Rattle.fkv_world.specs.Moves.{keeper_gets}
use Rattle.law_world.specs.GuardKeeper.KeeperShown.{OfStore}
use Rattle.law_world.specs.GuardKeeper.Settled.{settled, actions_settled, is_of_slot, takes_none}
use Rattle.law_world.proofs.OfGuardKeeper.Ends.{seek_over}
use Rattle.law_world.specs.GuardKeeper.Followed.{KeeperLed, likeness}
use Rattle.law_world.proofs.OfGuardKeeper.KeeperLed.{StepLed, step_by_ask, slotless_step, rest_follows}
use Rattle.law_world.proofs.OfGuardKeeper.PartLed.{PartLed}
use Rattle.law_world.proofs.OfGuardKeeper.Sought.{seek_machine, SeekKnown}

-- the keeper as this part has come to a state
abbrev pub in_seek : KeeperState → SeekState → KeeperState
in_seek s t = record s { seek = t; step = keeping.Seeks }

seek_ends : (n : GuardNow) (a : ℕ) (seen : LastSeen) (events : List GuardEvent) (t : SeekState) (words : List ℕ) (actions : List (Option Action)) (its : SeekAnswer) → seek_ask t ≡ Done its
    → PartLed n a events seen seek_machine (SeekKnown words) t words actions → Follows n a events (likeness seen None None) words actions
seek_ends n a seen events t words actions its e led = rest_follows n a events seen (seek_machine t) None words actions (seek_over (levels_of words) t t.step its led.knows e) refl led.follows

-- by what it asks next
seek_shows : (n : GuardNow) (a : ℕ) (seen : LastSeen) (events : List GuardEvent) (s : KeeperState) (t : SeekState) (words : List ℕ) (actions : List (Option Action)) (ask : Ask SeekAnswer) → OfStore n.places s → seek_ask t ≡ ask
    → PartLed n a events seen seek_machine (SeekKnown words) t words actions → KeeperLed n a events seen (seek_ledto (in_seek s t) ask) words actions
unfolding seek_ledto
seek_shows n a seen events s t words actions (Done (answer.Taken end epoch)) same e led = record { follows = seek_ends n a seen events t words actions (answer.Taken end epoch) e led; knows = record { sessions = same.0; loads = same.1; its = tt } }
seek_shows n a seen events s t words actions (Done answer.DrainFull) same e led = record { follows = seek_ends n a seen events t words actions answer.DrainFull e led; knows = record { sessions = same.0; loads = same.1; its = tt } }
seek_shows n a seen events s t words actions (Done answer.EpochsSpent) same e led = record { follows = seek_ends n a seen events t words actions answer.EpochsSpent e led; knows = record { sessions = same.0; loads = same.1; its = tt } }
seek_shows n a seen events s t words actions (Done answer.Owing) same e led = record { follows = seek_ends n a seen events t words actions answer.Owing e led; knows = record { sessions = same.0; loads = same.1; its = tt } }
seek_shows n a seen events s t words actions (Done answer.Idle) same e led = record { follows = seek_ends n a seen events t words actions answer.Idle e led; knows = record { sessions = same.0; loads = same.1; its = tt } }
seek_shows n a seen events s t words actions ask same e led = record { follows = led.follows; knows = record { sessions = same.0; loads = same.1; its = led.knows } }

seek_gets : (n : GuardNow) (s : KeeperState) (t : SeekState) (found : Option Action) → keeper_gets n.shape n.places (in_seek s t) found ≡ in_seek s t
unfolding keeping_given
seek_gets n s t None = refl
seek_gets n s t (Some action) = refl

pub seek_kept : (n : GuardNow) (a : ℕ) (seen : LastSeen) (events : List GuardEvent) (s : KeeperState) (granted : Bool) (t : SeekState) (words : List ℕ) (ask : Ask SeekAnswer) → OfStore n.places s → seek_ask t ≡ ask
    → PartLed n a events seen seek_machine (SeekKnown words) (settled seek_next takes_none n.actions t ask) words (actions_settled n.actions ask)
    → StepLed n a events seen granted (seek_ledto (in_seek s t) ask) words
unfolding seek_ledto keeping_ask keeping_next passed
seek_kept n a seen events s granted t words (Put slot action) same e led =
    step_by_ask n a events seen granted (in_seek s t) words (Put slot action) (ap (λ (k : Ask SeekAnswer). passed k (turn_over s)) e)
    (seek_shows n a seen events s (seek_next t 0) words (slice_set n.actions slot (Some action)) (seek_ask (seek_next t 0)) same refl led)
seek_kept n a seen events s granted t words (Take slot) same e led =
    step_by_ask n a events seen granted (in_seek s t) words (Take slot) (ap (λ (k : Ask SeekAnswer). passed k (turn_over s)) e)
    (subst (λ (its : KeeperState). KeeperLed n a events seen its words (slice_set n.actions slot None)) (sym (seek_gets n s t (action_at n.actions slot)))
    (seek_shows n a seen events s t words (slice_set n.actions slot None) (Take slot) same e led))
seek_kept n a seen events s granted t words (Done (answer.Taken end epoch)) same e led =
    slotless_step n a events seen granted (seek_ledto (in_seek s t) (Done (answer.Taken end epoch))) words refl (seek_shows n a seen events s t words n.actions (Done (answer.Taken end epoch)) same e led)
seek_kept n a seen events s granted t words (Done answer.DrainFull) same e led =
    slotless_step n a events seen granted (seek_ledto (in_seek s t) (Done answer.DrainFull)) words refl (seek_shows n a seen events s t words n.actions (Done answer.DrainFull) same e led)
seek_kept n a seen events s granted t words (Done answer.EpochsSpent) same e led =
    slotless_step n a events seen granted (seek_ledto (in_seek s t) (Done answer.EpochsSpent)) words refl (seek_shows n a seen events s t words n.actions (Done answer.EpochsSpent) same e led)
seek_kept n a seen events s granted t words (Done answer.Owing) same e led =
    slotless_step n a events seen granted (seek_ledto (in_seek s t) (Done answer.Owing)) words refl (seek_shows n a seen events s t words n.actions (Done answer.Owing) same e led)
seek_kept n a seen events s granted t words (Done answer.Idle) same e led =
    slotless_step n a events seen granted (seek_ledto (in_seek s t) (Done answer.Idle)) words refl (seek_shows n a seen events s t words n.actions (Done answer.Idle) same e led)
seek_kept n a seen events s granted t words ask same e led =
    slotless_step n a events seen granted (in_seek s t) words (ap (λ (k : Ask SeekAnswer). is_of_slot (passed k (turn_over s))) e) (seek_shows n a seen events s t words n.actions ask same e led)
