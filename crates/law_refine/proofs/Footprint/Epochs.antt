-- The asks of the machines of the epochs spare each part, where their drain slots are those that there are and their session has its seat.
use Rattle.std.proofs.Common.{◌≡◌, ◌≢◌, ℕ, ◌+◌, ◌<◌, refl, arith, inl, Bool, true, false}
use Rattle.std.specs.Prelude.{if◌then◌else◌, nat_lt, ◌==◌, ⊤, Option, Some, None}
use Rattle.std.proofs.lemmas.Bool.Decides.{nat_tests}
use Rattle.fkv_base.specs.Limits.{drain_slots}
use Rattle.fkv_plane.specs.declared.actions.Action.{Action}
use Rattle.fkv_plane.specs.declared.actions.Action.TheVariants as act
use Rattle.fkv_plane.specs.declared.places.Places.{Places}
use Rattle.fkv_plane.specs.declared.places.SharedWord.TheVariants as one
use Rattle.fkv_epoch.specs.declared.arming.Arming.{Arming}
use Rattle.fkv_epoch.specs.declared.arming.Arming.TheVariants as arm
use Rattle.fkv_epoch.specs.declared.claiming.Claiming.{Claiming}
use Rattle.fkv_epoch.specs.declared.claiming.Claiming.TheVariants as claim
use Rattle.fkv_epoch.specs.declared.leaving.Leaving.{Leaving}
use Rattle.fkv_epoch.specs.declared.leaving.Leaving.TheVariants as leave
use Rattle.fkv_epoch.specs.declared.protecting.Protecting.{Protecting}
use Rattle.fkv_epoch.specs.declared.protecting.Protecting.TheVariants as protect
use Rattle.fkv_epoch.specs.declared.raising.Raising.{Raising}
use Rattle.fkv_epoch.specs.declared.raising.Raising.TheVariants as raise
use Rattle.fkv_epoch.specs.declared.refreshing.Refreshing.{Refreshing}
use Rattle.fkv_epoch.specs.declared.refreshing.Refreshing.TheVariants as refresh
use Rattle.fkv_epoch.specs.declared.scanning.Scanning.{Scanning}
use Rattle.fkv_epoch.specs.declared.scanning.Scanning.TheVariants as scan
use Rattle.fkv_epoch.specs.Arming.{arm_ask, arm_next}
use Rattle.fkv_epoch.specs.Claiming.{IsClaimInRange, run_of, claim_ask, slot_after, slot_armed, claim_next, claim_given}
use Rattle.fkv_epoch.specs.Leaving.{leave_ask}
use Rattle.fkv_epoch.specs.Protecting.{protect_ask}
use Rattle.fkv_epoch.specs.Raising.{IsRaiseInRange, raise_ask, HasSlotInRange}
use Rattle.fkv_epoch.specs.Refreshing.{refresh_ask}
use Rattle.fkv_epoch.specs.Scanning.{scan_ask}
use Rattle.law_refine.specs.Footprint.{Part, ThePhase, HasSeat, Spares, stores_phase}
use Rattle.law_refine.proofs.Footprint.Outside.{shared_outside, phase_outside, drain_outside, epoch_outside}

-- a session's own words
pub refresh_spares : (part : Part) (p : Places) (n : ℕ) (step : Refreshing) → HasSeat part p n → Spares part p (refresh_ask n step)
unfolding refresh_ask
refresh_spares part p n (refresh.StoresEpoch epoch) there = epoch_outside part p n there
refresh_spares part p n step there = tt

pub protect_spares : (part : Part) (p : Places) (n : ℕ) (step : Protecting) → HasSeat part p n → Spares part p (protect_ask n step)
unfolding protect_ask
protect_spares part p n (protect.StoresEpoch epoch) there = epoch_outside part p n there
protect_spares part p n step there = tt

pub leave_spares : (part : Part) (p : Places) (n : ℕ) (step : Leaving) → HasSeat part p n → Spares part p (leave_ask n step)
unfolding leave_ask
leave_spares part p n leave.StoresZero there = epoch_outside part p n there
leave_spares part p n leave.AtRest there = tt

-- a scan
pub scan_spares : (part : Part) (p : Places) (step : Scanning) → Spares part p (scan_ask step)
unfolding scan_ask
scan_spares part p (scan.RaisesSafe least) = shared_outside part p one.SafeEpoch (λ e. cc) (λ e. cc)
scan_spares part p step = tt

-- a claim, where it stores no phase
pub stores_not : (part : Part) → (part ≡ ThePhase → true ≡ false) → part ≢ ThePhase
stores_not part none = λ same. let clash : true ≡ false = none same in cc

run_spares : (part : Part) (p : Places) (slot epoch safe : ℕ) (action : Action) → (part ≡ ThePhase → stores_phase (claim.Runs slot epoch safe action) ≡ false) → Spares part p (run_of action)
run_spares part p slot epoch safe (act.SafeReadOnly addr) none = shared_outside part p one.SafeReadOnly (λ e. cc) (λ e. cc)
run_spares part p slot epoch safe (act.Close addr) none = shared_outside part p one.Closed (λ e. cc) (λ e. cc)
run_spares part p slot epoch safe (act.Phase phase version) none = phase_outside part p (stores_not part none)

pub claim_spares : (part : Part) (p : Places) (step : Claiming) → IsClaimInRange step → (part ≡ ThePhase → stores_phase step ≡ false) → Spares part p (claim_ask step)
unfolding claim_ask
claim_spares part p (claim.TakesSlot slot word safe) range none = inl (drain_outside part p slot range)
claim_spares part p (claim.Runs slot epoch safe action) range none = run_spares part p slot epoch safe action none
claim_spares part p (claim.FreesSlot slot safe) range none = drain_outside part p slot range
claim_spares part p step range none = tt

claims_either : (c : Bool) (a b : Claiming) → (c ≡ true → IsClaimInRange a) → (c ≡ false → IsClaimInRange b) → IsClaimInRange (if c then a else b)
claims_either true a b one other = one refl
claims_either false a b one other = other refl

after_range : (slot : ℕ) (safe : Option ℕ) → IsClaimInRange (slot_after slot safe)
unfolding slot_after
after_range slot safe = claims_either (nat_lt (slot + 1) drain_slots) (claim.MeetsSlot (slot + 1) safe) claim.AtRest (λ e. grind (arith, nat_tests, e)) (λ e. tt)

armed_range : (slot word safe : ℕ) → slot < drain_slots → IsClaimInRange (slot_armed slot word safe)
unfolding slot_armed
armed_range slot word safe range = claims_either _ (claim.TakesSlot slot word safe) (slot_after slot (Some safe)) (λ e. range) (λ e. after_range slot (Some safe))

pub claim_range : (step : Claiming) (reply : ℕ) → IsClaimInRange step → IsClaimInRange (claim_next step reply)
unfolding claim_next
claim_range (claim.MeetsSlot slot None) reply range = claims_either (nat_lt reply 2) (slot_after slot None) (claim.LoadsSafe slot reply) (λ e. after_range slot None) (λ e. range)
claim_range (claim.MeetsSlot slot (Some safe)) reply range = claims_either (nat_lt reply 2) (slot_after slot (Some safe)) (slot_armed slot reply safe) (λ e. after_range slot (Some safe)) (λ e. armed_range slot reply safe range)
claim_range (claim.LoadsSafe slot word) reply range = armed_range slot word reply range
claim_range (claim.TakesSlot slot word safe) reply range = claims_either (reply == word) (claim.Receives slot _ safe) (slot_after slot (Some safe)) (λ e. range) (λ e. after_range slot (Some safe))
claim_range (claim.FreesSlot slot safe) reply range = after_range slot (Some safe)
claim_range step reply range = range

pub claim_given_range : (step : Claiming) (action : Action) → IsClaimInRange step → IsClaimInRange (claim_given step action)
unfolding claim_given
claim_given_range (claim.Receives slot epoch safe) action range = range
claim_given_range step action range = range

-- a raise
pub raise_spares : (part : Part) (p : Places) (step : Raising) → IsRaiseInRange step → Spares part p (raise_ask step)
unfolding raise_ask
raise_spares part p (raise.HoldsSlot slot) range = inl (drain_outside part p slot range)
raise_spares part p (raise.RaisesEpoch slot) range = inl (shared_outside part p one.Epoch (λ e. cc) (λ e. cc))
raise_spares part p step range = tt

-- what it asks tells one of the slots
pub asks_range : (step : Raising) → HasSlotInRange (raise_ask step)
unfolding raise_ask
asks_range raise.AtRest = tt
asks_range step = tt

-- an arming
abbrev pub ArmsInRange : Arming → Type 0
ArmsInRange arm.AtRest = ⊤
ArmsInRange (arm.PutsAction slot epoch) = slot < drain_slots
ArmsInRange (arm.StoresEpoch slot epoch) = slot < drain_slots

pub arm_spares : (part : Part) (p : Places) (step : Arming) → ArmsInRange step → Spares part p (arm_ask step)
unfolding arm_ask
arm_spares part p arm.AtRest range = tt
arm_spares part p (arm.PutsAction slot epoch) range = tt
arm_spares part p (arm.StoresEpoch slot epoch) range = drain_outside part p slot range

pub arm_range : (step : Arming) → ArmsInRange step → ArmsInRange (arm_next step)
unfolding arm_next
arm_range arm.AtRest range = tt
arm_range (arm.PutsAction slot epoch) range = range
arm_range (arm.StoresEpoch slot epoch) range = tt
