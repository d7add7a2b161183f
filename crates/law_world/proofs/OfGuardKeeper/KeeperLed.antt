-- Where a step of the keeper leads, with what is settled behind it.
use Rattle.std.proofs.Common.{◌≡◌, ℕ, List, sym, subst, Bool, false}
use Rattle.std.specs.Prelude.{Option, None}
use Rattle.fkv_plane.specs.declared.actions.Action.{Action}
use Rattle.fkv_plane.specs.declared.asks.Ask.{Ask}
use Rattle.fkv_epoch.specs.EpochWorld.{EpochMachine}
use Rattle.fkv_flush.specs.GuardSeen.{LastSeen}
use Rattle.fkv_flush.specs.GuardWorld.{Actor, Work, GuardNow, GuardEvent}
use Rattle.fkv_flush.proofs.Shown.{Fits, FitsMachine, FitsWork, Follows}
use Rattle.fkv_keeper.specs.declared.answers.KeeperTold.{KeeperTold}
use Rattle.fkv_keeper.specs.Keeping.{KeeperState, keeper_ask, keeper_next}
use Rattle.fkv_world.specs.Moves.{keeper_gets}
use Rattle.law_world.specs.GuardKeeper.Followed.{KeeperLed, likeness}
use Rattle.law_world.specs.GuardKeeper.Settled.{settled, actions_settled, is_of_slot}
use Rattle.law_world.proofs.OfGuardKeeper.Slots.{settled_stays, actions_stay}

-- the keeper has come to a state, and the world settles what this asks of a slot
abbrev pub keeper_settles : GuardNow → Bool → KeeperState → Ask KeeperTold → KeeperState
keeper_settles n granted there ask = settled (λ (s : KeeperState) (reply : ℕ). keeper_next n.shape n.places s reply granted) (keeper_gets n.shape n.places) n.actions there ask

abbrev pub StepLed : GuardNow → ℕ → List GuardEvent → LastSeen → Bool → KeeperState → List ℕ → Type 0
StepLed n a events seen granted there words =
    KeeperLed n a events seen (keeper_settles n granted there (keeper_ask n.shape n.places there)) words (actions_settled n.actions (keeper_ask n.shape n.places there))

-- by what the state asks
pub step_by_ask : (n : GuardNow) (a : ℕ) (events : List GuardEvent) (seen : LastSeen) (granted : Bool) (there : KeeperState) (words : List ℕ) (ask : Ask KeeperTold) → keeper_ask n.shape n.places there ≡ ask
    → KeeperLed n a events seen (keeper_settles n granted there ask) words (actions_settled n.actions ask) → StepLed n a events seen granted there words
step_by_ask n a events seen granted there words ask e led =
    subst (λ (k : Ask KeeperTold). KeeperLed n a events seen (keeper_settles n granted there k) words (actions_settled n.actions k)) (sym e) led

pub slotless_step : (n : GuardNow) (a : ℕ) (events : List GuardEvent) (seen : LastSeen) (granted : Bool) (there : KeeperState) (words : List ℕ) → is_of_slot (keeper_ask n.shape n.places there) ≡ false
    → KeeperLed n a events seen there words n.actions → StepLed n a events seen granted there words
slotless_step n a events seen granted there words e led =
    let ask : Ask KeeperTold = keeper_ask n.shape n.places there in
    subst (λ (its : KeeperState). KeeperLed n a events seen its words (actions_settled n.actions ask)) (sym (settled_stays (λ (s : KeeperState) (reply : ℕ). keeper_next n.shape n.places s reply granted) (keeper_gets n.shape n.places) n.actions there ask e))
    (subst (λ (actions : List (Option Action)). KeeperLed n a events seen there words actions) (sym (actions_stay n.actions ask e)) led)

-- what is through fits as any that is
pub rest_fits : (seen : LastSeen) (machine : Option EpochMachine) (work : Option Work) (x : Actor) → machine ≡ None → work ≡ None → Fits (likeness seen machine work) x → Fits (likeness seen None None) x
rest_fits seen machine work x e f fits = record {
  machine = subst (λ (its : Option EpochMachine). FitsMachine its x.machine) e fits.machine;
  work = subst (λ (its : Option Work). FitsWork its x.work) f fits.work;
  seen = fits.seen;
  undecided = fits.undecided;
}

pub rest_follows : (n : GuardNow) (a : ℕ) (events : List GuardEvent) (seen : LastSeen) (machine : Option EpochMachine) (work : Option Work) (words : List ℕ) (actions : List (Option Action)) → machine ≡ None → work ≡ None
    → Follows n a events (likeness seen machine work) words actions → Follows n a events (likeness seen None None) words actions
rest_follows n a events seen machine work words actions e f led = record { actor = led.actor; same = led.same; fits = rest_fits seen machine work led.actor e f led.fits }
