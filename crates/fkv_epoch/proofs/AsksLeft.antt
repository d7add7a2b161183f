-- A machine asks for something exactly where asks are left to it, and each reply leaves fewer.
use Rattle.std.proofs.Common.{◌≡◌, ℕ, ◌+◌, ◌-◌, ◌*◌, ◌<◌, ◌≤◌, ◌⊎◌, refl, inl, inr, arith, Bool, true, false}
use Rattle.std.specs.Prelude.{◌↔◌, ◌==◌, nat_lt, nat_le, if◌then◌else◌, Some, None}
use Rattle.std.proofs.lemmas.Bool.Decides.{nat_tests}
use Rattle.fkv_base.specs.Limits.{drain_slots, last_epoch}
use Rattle.fkv_plane.specs.declared.actions.Action.{Action}
use Rattle.fkv_plane.specs.declared.actions.Action.TheVariants as act
use Rattle.fkv_plane.specs.Passing.{is_done}
use Rattle.fkv_epoch.specs.declared.protecting.Protecting.{Protecting}
use Rattle.fkv_epoch.specs.declared.protecting.Protecting.TheVariants as protect
use Rattle.fkv_epoch.specs.declared.refreshing.Refreshing.{Refreshing}
use Rattle.fkv_epoch.specs.declared.refreshing.Refreshing.TheVariants as refresh
use Rattle.fkv_epoch.specs.declared.leaving.Leaving.{Leaving}
use Rattle.fkv_epoch.specs.declared.leaving.Leaving.TheVariants as leave
use Rattle.fkv_epoch.specs.declared.scanning.Scanning.{Scanning}
use Rattle.fkv_epoch.specs.declared.scanning.Scanning.TheVariants as scan
use Rattle.fkv_epoch.specs.declared.claiming.Claiming.{Claiming}
use Rattle.fkv_epoch.specs.declared.claiming.Claiming.TheVariants as claim
use Rattle.fkv_epoch.specs.declared.raising.Raising.{Raising}
use Rattle.fkv_epoch.specs.declared.raising.Raising.TheVariants as raise
use Rattle.fkv_epoch.specs.declared.arming.Arming.{Arming}
use Rattle.fkv_epoch.specs.declared.arming.Arming.TheVariants as arm
use Rattle.fkv_epoch.specs.Protecting.{protect_ask, protect_next, protect_next_ask, protect_asks_left}
use Rattle.fkv_epoch.specs.Refreshing.{refresh_ask, refresh_next, refresh_finish, refresh_asks_left, refresh_asks_later}
use Rattle.fkv_epoch.specs.Leaving.{leave_ask, leave_next, leave_asks_left}
use Rattle.fkv_epoch.specs.Scanning.{scan_ask, scan_next, sessions_from, least_of, scan_asks_left}
use Rattle.fkv_epoch.specs.Claiming.{claim_ask, claim_next, claim_given, slot_after, slot_armed, takes_action, claim_asks_left}
use Rattle.fkv_epoch.specs.Raising.{raise_ask, raise_next, raise_next_ask, raise_on, free_after, raise_asks_left, raise_asks_later}
use Rattle.fkv_epoch.specs.Arming.{arm_ask, arm_next, arm_asks_left}

never : {X : Type 0} → true ≡ false → X
never e = cc

none : {X : Type 0} → 0 < 0 → X
none h = let no : ⊥ = omega (arith, h) in absurd no

pub protect_left : (session : ℕ) (step : Protecting) → (is_done (protect_ask session step) ≡ false) ↔ (0 < protect_asks_left step)
unfolding protect_ask protect_asks_left
protect_left session protect.AtRest = (never, none)
protect_left session step = (λ asks. omega arith, λ some. refl)

pub protect_fewer : (step : Protecting) (reply : ℕ) → protect_asks_left (protect_next step reply) ≤ protect_asks_left step - 1
unfolding protect_next protect_asks_left
protect_fewer protect.AtRest reply = omega arith
protect_fewer step reply = omega arith

-- where it goes on with a reply, asks were left
pub protect_falls : (session : ℕ) (step : Protecting) (reply : ℕ) → is_done (protect_next_ask session step reply) ≡ false → protect_asks_left (protect_next step reply) < protect_asks_left step
unfolding protect_ask protect_next protect_next_ask protect_asks_left
protect_falls session protect.AtRest reply asks = never asks
protect_falls session step reply asks = omega arith

-- none are left to a refresh that waits
pub refresh_left : (session : ℕ) (step : Refreshing) → (is_done (refresh_ask session step) ≡ false) ↔ (0 < refresh_asks_left step)
unfolding refresh_ask refresh_asks_left
refresh_left session refresh.AtRest = (never, none)
refresh_left session (refresh.HasLoaded epoch values) = (never, none)
refresh_left session step = (λ asks. omega arith, λ some. refl)

pub refresh_fewer : (step : Refreshing) (reply : ℕ) → refresh_asks_left (refresh_next step reply) ≤ refresh_asks_left step - 1
unfolding refresh_next refresh_asks_left
refresh_fewer refresh.AtRest reply = omega arith
refresh_fewer step reply = omega arith

pub refresh_falls : (session : ℕ) (step : Refreshing) (reply : ℕ) → is_done (refresh_ask session (refresh_next step reply)) ≡ false → refresh_asks_left (refresh_next step reply) < refresh_asks_left step
refresh_falls session step reply asks =
    let some = (refresh_left session (refresh_next step reply)).0 asks in
    let fewer = refresh_fewer step reply in
    omega (arith, some, fewer)

-- no more come later, and what its session lets go on was to come later
pub refresh_later : (step : Refreshing) (reply : ℕ) → refresh_asks_later (refresh_next step reply) ≤ refresh_asks_later step
unfolding refresh_next refresh_asks_later
refresh_later refresh.AtRest reply = omega arith
refresh_later step reply = omega arith

pub refresh_finish_left : (step : Refreshing) → refresh_asks_left (refresh_finish step) + refresh_asks_later (refresh_finish step) ≤ refresh_asks_left step + refresh_asks_later step
unfolding refresh_finish refresh_asks_left refresh_asks_later
refresh_finish_left (refresh.HasLoaded epoch values) = omega arith
refresh_finish_left step = omega arith

pub leave_left : (session : ℕ) (step : Leaving) → (is_done (leave_ask session step) ≡ false) ↔ (0 < leave_asks_left step)
unfolding leave_ask leave_asks_left
leave_left session leave.AtRest = (never, none)
leave_left session leave.StoresZero = (λ asks. omega arith, λ some. refl)

pub leave_fewer : (step : Leaving) → leave_asks_left (leave_next step) ≤ leave_asks_left step - 1
unfolding leave_next leave_asks_left
leave_fewer leave.AtRest = omega arith
leave_fewer leave.StoresZero = omega arith

pub leave_falls : (session : ℕ) (step : Leaving) → is_done (leave_ask session (leave_next step)) ≡ false → leave_asks_left (leave_next step) < leave_asks_left step
leave_falls session step asks =
    let some = (leave_left session (leave_next step)).0 asks in
    let fewer = leave_fewer step in
    omega (arith, some, fewer)

pub scan_left : (sessions : ℕ) (step : Scanning) → (is_done (scan_ask step) ≡ false) ↔ (0 < scan_asks_left sessions step)
unfolding scan_ask scan_asks_left
scan_left sessions scan.AtRest = (never, none)
scan_left sessions step = (λ asks. omega arith, λ some. refl)

from_left : (sessions session least : ℕ) → scan_asks_left sessions (sessions_from sessions session least) ≤ sessions - session + 1
unfolding sessions_from scan_asks_left
from_left sessions session least = tested (nat_lt session sessions) refl
  where
    tested : (b : Bool) → nat_lt session sessions ≡ b → scan_asks_left sessions (if b then scan.LoadsSession session least else scan.RaisesSafe least) ≤ sessions - session + 1
    tested true e = let h : session < sessions = grind (arith, nat_tests, e) in omega (arith, h)
    tested false e = omega arith

pub scan_fewer : (sessions : ℕ) (step : Scanning) (reply : ℕ) → scan_asks_left sessions (scan_next sessions step reply) ≤ scan_asks_left sessions step - 1
unfolding scan_next scan_asks_left
scan_fewer sessions scan.AtRest reply = omega arith
scan_fewer sessions scan.LoadsEpoch reply = let from = from_left sessions 0 reply in omega (arith, from)
scan_fewer sessions (scan.LoadsSession session least) reply = let from = from_left sessions (session + 1) (least_of least reply) in omega (arith, from)
scan_fewer sessions (scan.RaisesSafe least) reply = omega arith

pub scan_falls : (sessions : ℕ) (step : Scanning) (reply : ℕ) → is_done (scan_ask (scan_next sessions step reply)) ≡ false → scan_asks_left sessions (scan_next sessions step reply) < scan_asks_left sessions step
scan_falls sessions step reply asks =
    let some = (scan_left sessions (scan_next sessions step reply)).0 asks in
    let fewer = scan_fewer sessions step reply in
    omega (arith, some, fewer)

run_asks : (action : Action) (slot epoch safe : ℕ) → is_done (claim_ask (claim.Runs slot epoch safe action)) ≡ false
unfolding claim_ask
run_asks (act.SafeReadOnly addr) slot epoch safe = refl
run_asks (act.Close addr) slot epoch safe = refl
run_asks (act.Phase phase version) slot epoch safe = refl

pub claim_left : (step : Claiming) → (is_done (claim_ask step) ≡ false) ↔ (0 < claim_asks_left step)
unfolding claim_ask claim_asks_left
claim_left claim.AtRest = (never, none)
claim_left (claim.MeetsSlot slot None) = (λ asks. omega arith, λ some. refl)
claim_left (claim.MeetsSlot slot (Some safe)) = (λ asks. omega arith, λ some. refl)
claim_left (claim.Runs slot epoch safe action) = (λ asks. omega arith, λ some. run_asks action slot epoch safe)
claim_left step = (λ asks. omega arith, λ some. refl)

-- the slots after this one, five asks each
met_left : (slot safe : ℕ) → claim_asks_left (slot_after slot (Some safe)) ≤ 5 * (drain_slots - (slot + 1))
unfolding slot_after claim_asks_left
met_left slot safe = tested (nat_lt (slot + 1) drain_slots) refl
  where
    tested : (b : Bool) → nat_lt (slot + 1) drain_slots ≡ b → claim_asks_left (if b then claim.MeetsSlot (slot + 1) (Some safe) else claim.AtRest) ≤ 5 * (drain_slots - (slot + 1))
    tested true e = let h : slot + 1 < drain_slots = grind (arith, nat_tests, e) in omega (arith, h)
    tested false e = omega arith

-- and one more where the safe epoch isn't loaded yet
unmet_left : (slot : ℕ) → claim_asks_left (slot_after slot None) ≤ 5 * (drain_slots - (slot + 1)) + 1
unfolding slot_after claim_asks_left
unmet_left slot = tested (nat_lt (slot + 1) drain_slots) refl
  where
    tested : (b : Bool) → nat_lt (slot + 1) drain_slots ≡ b → claim_asks_left (if b then claim.MeetsSlot (slot + 1) None else claim.AtRest) ≤ 5 * (drain_slots - (slot + 1)) + 1
    tested true e = let h : slot + 1 < drain_slots = grind (arith, nat_tests, e) in omega (arith, h)
    tested false e = omega arith

armed_left : (slot word safe : ℕ) → claim_asks_left (slot_armed slot word safe) ≤ 5 * (drain_slots - (slot + 1)) + 4
unfolding slot_armed claim_asks_left
armed_left slot word safe = tested (nat_le (word - 2) safe)
  where
    tested : (b : Bool) → claim_asks_left (if b then claim.TakesSlot slot word safe else slot_after slot (Some safe)) ≤ 5 * (drain_slots - (slot + 1)) + 4
    tested true = omega arith
    tested false = let met = met_left slot safe in omega (arith, met)

-- one that waits for an action goes on by that alone
pub claim_fewer : (step : Claiming) (reply : ℕ) → takes_action (claim_ask step) ≡ false → claim_asks_left (claim_next step reply) ≤ claim_asks_left step - 1
unfolding claim_ask claim_next claim_asks_left
claim_fewer claim.AtRest reply takes = omega arith
claim_fewer (claim.MeetsSlot slot None) reply takes = let met = tested (nat_lt reply 2) in omega (arith, met)
  where
    tested : (b : Bool) → claim_asks_left (if b then slot_after slot None else claim.LoadsSafe slot reply) ≤ 5 * (drain_slots - (slot + 1)) + 5
    tested true = let unmet = unmet_left slot in omega (arith, unmet)
    tested false = omega arith
claim_fewer (claim.MeetsSlot slot (Some safe)) reply takes = let met = tested (nat_lt reply 2) in omega (arith, met)
  where
    tested : (b : Bool) → claim_asks_left (if b then slot_after slot (Some safe) else slot_armed slot reply safe) ≤ 5 * (drain_slots - (slot + 1)) + 4
    tested true = let met = met_left slot safe in omega (arith, met)
    tested false = armed_left slot reply safe
claim_fewer (claim.LoadsSafe slot word) reply takes = let armed = armed_left slot word reply in omega (arith, armed)
claim_fewer (claim.TakesSlot slot word safe) reply takes = let taken = tested (reply == word) in omega (arith, taken)
  where
    tested : (b : Bool) → claim_asks_left (if b then claim.Receives slot (word - 2) safe else slot_after slot (Some safe)) ≤ 5 * (drain_slots - (slot + 1)) + 3
    tested true = omega arith
    tested false = let met = met_left slot safe in omega (arith, met)
claim_fewer (claim.Receives slot epoch safe) reply takes = never takes
claim_fewer (claim.Runs slot epoch safe action) reply takes = omega arith
claim_fewer (claim.FreesSlot slot safe) reply takes = let met = met_left slot safe in omega (arith, met)

pub claim_given_fewer : (step : Claiming) (action : Action) → takes_action (claim_ask step) ≡ true → claim_asks_left (claim_given step action) ≤ claim_asks_left step - 1
unfolding claim_ask claim_given claim_asks_left
claim_given_fewer (claim.Receives slot epoch safe) action takes = omega arith
claim_given_fewer (claim.Runs slot epoch safe (act.SafeReadOnly addr)) action takes = cc
claim_given_fewer (claim.Runs slot epoch safe (act.Close addr)) action takes = cc
claim_given_fewer (claim.Runs slot epoch safe (act.Phase phase version)) action takes = cc
claim_given_fewer step action takes = cc

pub claim_falls : (step : Claiming) (reply : ℕ) → takes_action (claim_ask step) ≡ false → is_done (claim_ask (claim_next step reply)) ≡ false → claim_asks_left (claim_next step reply) < claim_asks_left step
claim_falls step reply takes asks =
    let some = (claim_left (claim_next step reply)).0 asks in
    let fewer = claim_fewer step reply takes in
    omega (arith, some, fewer)

-- none are left to a raise that waits
pub raise_left : (step : Raising) → (is_done (raise_ask step) ≡ false) ↔ (0 < raise_asks_left step)
unfolding raise_ask raise_asks_left
raise_left raise.AtRest = (never, none)
raise_left (raise.HasSlot slot) = (never, none)
raise_left step = (λ asks. omega arith, λ some. refl)

free_left : (slot : ℕ) → raise_asks_left (free_after slot) ≤ 2 * (drain_slots - (slot + 1))
unfolding free_after raise_asks_left
free_left slot = tested (nat_lt (slot + 1) drain_slots) refl
  where
    tested : (b : Bool) → nat_lt (slot + 1) drain_slots ≡ b → raise_asks_left (if b then raise.MeetsSlot (slot + 1) else raise.AtRest) ≤ 2 * (drain_slots - (slot + 1))
    tested true e = let h : slot + 1 < drain_slots = grind (arith, nat_tests, e) in omega (arith, h)
    tested false e = omega arith

pub raise_fewer : (step : Raising) (reply : ℕ) → raise_asks_left (raise_next step reply) ≤ raise_asks_left step - 1
unfolding raise_next raise_asks_left
raise_fewer raise.LoadsEpoch reply = let met = tested (nat_le last_epoch reply) in omega (arith, met)
  where
    tested : (b : Bool) → raise_asks_left (if b then raise.AtRest else raise.MeetsSlot 0) ≤ 2 * drain_slots
    tested true = omega arith
    tested false = omega arith
raise_fewer (raise.MeetsSlot slot) reply = let met = tested (reply == 0) in omega (arith, met)
  where
    tested : (b : Bool) → raise_asks_left (if b then raise.HoldsSlot slot else free_after slot) ≤ 2 * (drain_slots - (slot + 1)) + 1
    tested true = omega arith
    tested false = let free = free_left slot in omega (arith, free)
raise_fewer (raise.HoldsSlot slot) reply = let met = tested (reply == 0) in omega (arith, met)
  where
    tested : (b : Bool) → raise_asks_left (if b then raise.HasSlot slot else free_after slot) ≤ 2 * (drain_slots - (slot + 1))
    tested true = omega arith
    tested false = free_left slot
raise_fewer step reply = omega arith

pub raise_falls : (step : Raising) (reply : ℕ) → is_done (raise_next_ask step reply) ≡ false → raise_asks_left (raise_next step reply) < raise_asks_left step
unfolding raise_ask raise_next raise_next_ask raise_asks_left
raise_falls raise.AtRest reply asks = never asks
raise_falls (raise.HasSlot slot) reply asks = never asks
raise_falls raise.LoadsEpoch reply asks = let fewer = raise_fewer raise.LoadsEpoch reply in omega (arith, fewer)
raise_falls (raise.MeetsSlot slot) reply asks = let fewer = raise_fewer (raise.MeetsSlot slot) reply in omega (arith, fewer)
raise_falls (raise.HoldsSlot slot) reply asks = let fewer = raise_fewer (raise.HoldsSlot slot) reply in omega (arith, fewer)
raise_falls (raise.RaisesEpoch slot) reply asks = omega arith

-- no more come later, and what its holder lets go on was to come later
free_later : (slot : ℕ) → raise_asks_later (free_after slot) ≤ 1
unfolding free_after raise_asks_later
free_later slot = tested (nat_lt (slot + 1) drain_slots)
  where
    tested : (b : Bool) → raise_asks_later (if b then raise.MeetsSlot (slot + 1) else raise.AtRest) ≤ 1
    tested true = omega arith
    tested false = omega arith

pub raise_later : (step : Raising) (reply : ℕ) → raise_asks_later (raise_next step reply) ≤ raise_asks_later step
unfolding raise_next raise_asks_later
raise_later raise.LoadsEpoch reply = tested (nat_le last_epoch reply)
  where
    tested : (b : Bool) → raise_asks_later (if b then raise.AtRest else raise.MeetsSlot 0) ≤ 1
    tested true = omega arith
    tested false = omega arith
raise_later (raise.MeetsSlot slot) reply = tested (reply == 0)
  where
    tested : (b : Bool) → raise_asks_later (if b then raise.HoldsSlot slot else free_after slot) ≤ 1
    tested true = omega arith
    tested false = free_later slot
raise_later (raise.HoldsSlot slot) reply = tested (reply == 0)
  where
    tested : (b : Bool) → raise_asks_later (if b then raise.HasSlot slot else free_after slot) ≤ 1
    tested true = omega arith
    tested false = free_later slot
raise_later step reply = omega arith

pub raise_on_left : (step : Raising) → raise_asks_left (raise_on step) + raise_asks_later (raise_on step) ≤ raise_asks_left step + raise_asks_later step
unfolding raise_on raise_asks_left raise_asks_later
raise_on_left (raise.HasSlot slot) = omega arith
raise_on_left step = omega arith

-- an arm that puts its action has asked so at its start
pub arm_left : (step : Arming) → ((step ≡ arm.AtRest) × (arm_asks_left step ≡ 0)) ⊎ (0 < arm_asks_left step)
unfolding arm_asks_left
arm_left arm.AtRest = inl (refl, refl)
arm_left (arm.PutsAction slot epoch) = inr (omega arith)
arm_left (arm.StoresEpoch slot epoch) = inr (omega arith)

pub arm_fewer : (step : Arming) → arm_asks_left (arm_next step) ≤ arm_asks_left step - 1
unfolding arm_next arm_asks_left
arm_fewer arm.AtRest = omega arith
arm_fewer (arm.PutsAction slot epoch) = omega arith
arm_fewer (arm.StoresEpoch slot epoch) = omega arith

pub arm_falls : (step : Arming) → is_done (arm_ask (arm_next step)) ≡ false → arm_asks_left (arm_next step) < arm_asks_left step
unfolding arm_ask arm_next arm_asks_left
arm_falls arm.AtRest asks = never asks
arm_falls (arm.PutsAction slot epoch) asks = omega arith
arm_falls (arm.StoresEpoch slot epoch) asks = never asks
