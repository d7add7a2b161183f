-- What is deferred spares each part.
use Rattle.std.proofs.Common.{◌≡◌, ℕ, refl, sym, subst}
use Rattle.std.specs.Prelude.{⊤}
use Rattle.fkv_plane.specs.declared.asks.Ask.{Ask}
use Rattle.fkv_plane.specs.declared.asks.Ask.TheVariants.{Done}
use Rattle.fkv_plane.specs.declared.places.Places.{Places}
use Rattle.fkv_epoch.specs.declared.raising.RaiseAnswer.{RaiseAnswer}
use Rattle.fkv_epoch.specs.declared.raising.RaiseAnswer.TheVariants as raised
use Rattle.fkv_epoch.specs.Arming.{arm_ask, arm_next}
use Rattle.fkv_epoch.specs.Raising.{IsRaiseInRange, raise_next, raise_next_ask, HasSlotInRange}
use Rattle.law_world.specs.Below.fkv_commit.Deferred.{Deferred}
use Rattle.law_world.specs.Below.fkv_commit.TheDeferring.{Deferring}
use Rattle.law_world.specs.Below.fkv_commit.TheDeferring.TheVariants.{Ended, Seeks, Holds, Raises, Puts, Arms}
use Rattle.fkv_epoch.proofs.Shown.{next_in_range, on_in_range, next_ask_in_range}
use Rattle.law_world.specs.Below.fkv_commit.Deferring.{DeferState, defer_begun, deferring_ask, defer_ask, seek_ledto, raise_ledto, arm_ledto, deferring_next, defer_next, deferring_on, defer_on}
use Rattle.law_refine.specs.Footprint.{Part, Spares}
use Rattle.law_refine.proofs.Footprint.Latching.{passed_spares}
use Rattle.law_refine.proofs.Footprint.Epochs.{raise_spares, ArmsInRange, arm_spares, arm_range}

-- its drain slots are those that there are
abbrev pub DeferBounds : DeferState → Deferring → Type 0
DeferBounds d (Ended its) = ⊤
DeferBounds d Seeks = IsRaiseInRange d.raising
DeferBounds d Holds = IsRaiseInRange d.raising
DeferBounds d (Raises its) = IsRaiseInRange d.raising
DeferBounds d (Puts its slot epoch) = ArmsInRange d.arming
DeferBounds d (Arms epoch) = ArmsInRange d.arming

abbrev pub IsDeferSparing : DeferState → Type 0
IsDeferSparing d = DeferBounds d d.step

-- what it asks for
deferring_spares : (part : Part) (p : Places) (d : DeferState) (step : Deferring) → DeferBounds d step → Spares part p (deferring_ask d step)
unfolding deferring_ask
deferring_spares part p d Seeks bounds = passed_spares part p _ _ (raise_spares part p d.raising bounds)
deferring_spares part p d (Raises its) bounds = passed_spares part p _ _ (raise_spares part p d.raising bounds)
deferring_spares part p d (Arms epoch) bounds = passed_spares part p _ _ (arm_spares part p d.arming bounds)
deferring_spares part p d step bounds = tt

pub defer_spares : (part : Part) (p : Places) (d : DeferState) → IsDeferSparing d → Spares part p (defer_ask d)
defer_spares part p d bounds = deferring_spares part p d d.step bounds

stays_spares : (d : DeferState) (step : Deferring) → d.step ≡ step → DeferBounds d step → IsDeferSparing d
stays_spares d step at bounds = subst (λ x. DeferBounds d x) (sym at) bounds

sought : (d : DeferState) (ask : Ask RaiseAnswer) → d.step ≡ Seeks → IsRaiseInRange d.raising → IsDeferSparing (seek_ledto d ask)
unfolding seek_ledto
sought d (Done (raised.HasSlot slot)) at range = range
sought d (Done raised.Spent) at range = tt
sought d (Done its) at range = tt
sought d ask at range = stays_spares d Seeks at range

raised_spares : (its : Deferred) (d : DeferState) (ask : Ask RaiseAnswer) → d.step ≡ Raises its → IsRaiseInRange d.raising → HasSlotInRange ask → IsDeferSparing (raise_ledto its d ask)
unfolding raise_ledto
raised_spares its d (Done (raised.Raised slot epoch)) at range told = told
raised_spares its d (Done other) at range told = tt
raised_spares its d ask at range told = stays_spares d (Raises its) at range

armed : (epoch : ℕ) (d : DeferState) (ask : Ask (Unit {0})) → ArmsInRange d.arming → IsDeferSparing (arm_ledto epoch d ask)
unfolding arm_ledto
armed epoch d (Done its) range = tt
armed epoch d ask range = range

next_spares : (d : DeferState) (step : Deferring) (reply : ℕ) → d.step ≡ step → DeferBounds d step → IsDeferSparing (deferring_next d step reply)
unfolding deferring_next
next_spares d (Ended its) reply at bounds = stays_spares d (Ended its) at tt
next_spares d Seeks reply at bounds = sought (record d { raising = raise_next d.raising reply }) (raise_next_ask d.raising reply) at (next_in_range d.raising reply bounds)
next_spares d Holds reply at bounds = stays_spares d Holds at bounds
next_spares d (Raises its) reply at bounds = raised_spares its (record d { raising = raise_next d.raising reply }) (raise_next_ask d.raising reply) at (next_in_range d.raising reply bounds) (next_ask_in_range d.raising reply bounds)
next_spares d (Puts its slot epoch) reply at bounds = armed epoch (record d { arming = arm_next d.arming }) (arm_ask (arm_next d.arming)) (arm_range d.arming bounds)
next_spares d (Arms epoch) reply at bounds = armed epoch (record d { arming = arm_next d.arming }) (arm_ask (arm_next d.arming)) (arm_range d.arming bounds)

-- each reply, where it goes on, and as it begins
pub defer_next_spares : (d : DeferState) (reply : ℕ) → IsDeferSparing d → IsDeferSparing (defer_next d reply)
defer_next_spares d reply bounds = next_spares d d.step reply refl bounds

goes_on : (d : DeferState) (step : Deferring) (its : Deferred) → d.step ≡ step → DeferBounds d step → IsDeferSparing (deferring_on d step its)
unfolding deferring_on
goes_on d Holds its at bounds = on_in_range d.raising bounds
goes_on d step its at bounds = stays_spares d step at bounds

pub defer_on_spares : (d : DeferState) (its : Deferred) → IsDeferSparing d → IsDeferSparing (defer_on d its)
defer_on_spares d its bounds = goes_on d d.step its refl bounds

pub defer_begun_spares : (d : DeferState) → IsDeferSparing (defer_begun d)
defer_begun_spares d = tt
