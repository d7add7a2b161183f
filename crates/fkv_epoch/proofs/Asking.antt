-- A machine is at rest, or it asks for something. A refresh that has loaded all, a raise that has a slot, and an arm that puts its action pause besides.
use Rattle.std.proofs.Common.{◌≡◌, ℕ, ◌⊎◌, refl, inl, inr, false}
use Rattle.fkv_plane.specs.declared.actions.Action.TheVariants as act
use Rattle.fkv_plane.specs.Passing.{is_done}
use Rattle.fkv_epoch.specs.declared.values.Seen.{Seen}
use Rattle.fkv_epoch.specs.declared.protecting.Protecting.{Protecting}
use Rattle.fkv_epoch.specs.declared.protecting.Protecting.TheVariants as protect
use Rattle.fkv_epoch.specs.declared.refreshing.Refreshing.{Refreshing}
use Rattle.fkv_epoch.specs.declared.refreshing.Refreshing.TheVariants as refresh
use Rattle.fkv_epoch.specs.declared.leaving.Leaving.{Leaving}
use Rattle.fkv_epoch.specs.declared.leaving.Leaving.TheVariants as leave
use Rattle.fkv_epoch.specs.declared.scanning.Scanning.{Scanning}
use Rattle.fkv_epoch.specs.declared.scanning.Scanning.TheVariants as scan
use Rattle.fkv_epoch.specs.declared.claiming.Claiming.{Claiming}
use Rattle.fkv_epoch.specs.declared.claiming.Claiming.TheVariants as claim
use Rattle.fkv_epoch.specs.declared.raising.Raising.{Raising}
use Rattle.fkv_epoch.specs.declared.raising.Raising.TheVariants as raise
use Rattle.fkv_epoch.specs.declared.arming.Arming.{Arming}
use Rattle.fkv_epoch.specs.declared.arming.Arming.TheVariants as arm
use Rattle.fkv_epoch.specs.Protecting.{protect_ask}
use Rattle.fkv_epoch.specs.Refreshing.{refresh_ask}
use Rattle.fkv_epoch.specs.Leaving.{leave_ask}
use Rattle.fkv_epoch.specs.Scanning.{scan_ask}
use Rattle.fkv_epoch.specs.Claiming.{claim_ask}
use Rattle.fkv_epoch.specs.Raising.{raise_ask}
use Rattle.fkv_epoch.specs.Arming.{arm_ask}

pub protect_asks : (session : ℕ) (step : Protecting) → (step ≡ protect.AtRest) ⊎ (is_done (protect_ask session step) ≡ false)
unfolding protect_ask
protect_asks session protect.AtRest = inl refl
protect_asks session step = inr refl

pub leave_asks : (session : ℕ) (step : Leaving) → (step ≡ leave.AtRest) ⊎ (is_done (leave_ask session step) ≡ false)
unfolding leave_ask
leave_asks session leave.AtRest = inl refl
leave_asks session leave.StoresZero = inr refl

pub scan_asks : (step : Scanning) → (step ≡ scan.AtRest) ⊎ (is_done (scan_ask step) ≡ false)
unfolding scan_ask
scan_asks scan.AtRest = inl refl
scan_asks step = inr refl

pub claim_asks : (step : Claiming) → (step ≡ claim.AtRest) ⊎ (is_done (claim_ask step) ≡ false)
unfolding claim_ask
claim_asks claim.AtRest = inl refl
claim_asks (claim.Runs slot epoch safe (act.SafeReadOnly addr)) = inr refl
claim_asks (claim.Runs slot epoch safe (act.Close addr)) = inr refl
claim_asks (claim.Runs slot epoch safe (act.Phase phase version)) = inr refl
claim_asks step = inr refl

-- a refresh that has loaded all waits for its session to take that up
pub refresh_asks : (session : ℕ) (step : Refreshing)
    → ((step ≡ refresh.AtRest) ⊎ ((epoch : ℕ) × (values : Seen) × (step ≡ refresh.HasLoaded epoch values))) ⊎ (is_done (refresh_ask session step) ≡ false)
unfolding refresh_ask
refresh_asks session refresh.AtRest = inl (inl refl)
refresh_asks session (refresh.HasLoaded epoch values) = inl (inr (epoch, values, refl))
refresh_asks session step = inr refl

-- a raise that has a slot waits for what the epoch is raised for
pub raise_asks : (step : Raising) → ((step ≡ raise.AtRest) ⊎ ((slot : ℕ) × (step ≡ raise.HasSlot slot))) ⊎ (is_done (raise_ask step) ≡ false)
unfolding raise_ask
raise_asks raise.AtRest = inl (inl refl)
raise_asks (raise.HasSlot slot) = inl (inr (slot, refl))
raise_asks step = inr refl

-- the ask that puts the action went out with it at the start
pub arm_asks : (step : Arming) → ((step ≡ arm.AtRest) ⊎ ((slot : ℕ) × (epoch : ℕ) × (step ≡ arm.PutsAction slot epoch))) ⊎ (is_done (arm_ask step) ≡ false)
unfolding arm_ask
arm_asks arm.AtRest = inl (inl refl)
arm_asks (arm.PutsAction slot epoch) = inl (inr (slot, epoch, refl))
arm_asks (arm.StoresEpoch slot epoch) = inr refl
