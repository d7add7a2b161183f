-- Besides its take-up, its polls and its sleep a session stores no word at the places of its cut words and of its owing word.
use Rattle.std.proofs.Common.{◌≡◌, ℕ, ◌+◌, ◌*◌, ◌<◌, ◌≤◌, refl, arith, inl, inr, Bool, true, false}
use Rattle.std.specs.Prelude.{◌⊎◌, Option, Some, None, if◌then◌else◌, nat_lt, ◌==◌}
use Rattle.std.proofs.lemmas.Bool.Decides.{nat_tests}
use Rattle.fkv_base.specs.Limits.{drain_slots}
use Rattle.fkv_plane.specs.declared.actions.Action.{Action}
use Rattle.fkv_plane.specs.declared.actions.Action.TheVariants as act
use Rattle.fkv_plane.specs.declared.asks.Ask.{Ask}
use Rattle.fkv_plane.specs.declared.asks.Ask.TheVariants.{Store}
use Rattle.fkv_plane.specs.declared.places.Places.{Places}
use Rattle.fkv_plane.specs.Passing.{passed}
use Rattle.fkv_epoch.specs.declared.claiming.Claiming.{Claiming}
use Rattle.fkv_epoch.specs.declared.claiming.Claiming.TheVariants as claim
use Rattle.fkv_epoch.specs.declared.leaving.Leaving.{Leaving}
use Rattle.fkv_epoch.specs.declared.leaving.Leaving.TheVariants as leave
use Rattle.fkv_epoch.specs.declared.protecting.Protecting.{Protecting}
use Rattle.fkv_epoch.specs.declared.protecting.Protecting.TheVariants as protect
use Rattle.fkv_epoch.specs.declared.refreshing.Refreshing.{Refreshing}
use Rattle.fkv_epoch.specs.declared.refreshing.Refreshing.TheVariants as refresh
use Rattle.fkv_epoch.specs.declared.scanning.Scanning.{Scanning}
use Rattle.fkv_epoch.specs.declared.scanning.Scanning.TheVariants as scan
use Rattle.fkv_epoch.specs.Claiming.{IsClaimInRange, run_of, claim_ask, slot_after, slot_armed, claim_next, claim_given}
use Rattle.fkv_epoch.specs.Leaving.{leave_ask}
use Rattle.fkv_epoch.specs.Protecting.{protect_ask}
use Rattle.fkv_epoch.specs.Refreshing.{refresh_ask}
use Rattle.fkv_epoch.specs.Scanning.{scan_ask}
use Rattle.fkv_index.specs.declared.finding.FindStep.{FindStep}
use Rattle.fkv_index.specs.declared.finding.FindStep.TheVariants as find
use Rattle.fkv_index.specs.declared.finding.Finding.{Finding}
use Rattle.fkv_index.specs.declared.publishing.Publishing.{Publishing}
use Rattle.fkv_index.specs.declared.publishing.Publishing.TheVariants as publish
use Rattle.fkv_index.specs.Finding.{find_step_ask}
use Rattle.fkv_index.specs.Publishing.{publish_ask}
use Rattle.fkv_latch.specs.declared.latching.Latching.{Latching}
use Rattle.fkv_latch.specs.declared.latching.Latching.TheVariants as latch
use Rattle.fkv_latch.specs.Latching.{latch_ask}
use Rattle.fkv_log.specs.declared.filling.Filling.{Filling}
use Rattle.fkv_log.specs.declared.filling.Filling.TheVariants as fill
use Rattle.fkv_log.specs.declared.invalidating.Invalidating.{Invalidating}
use Rattle.fkv_log.specs.declared.invalidating.Invalidating.TheVariants as invalidate
use Rattle.fkv_log.specs.declared.loading.Loading.{Loading}
use Rattle.fkv_log.specs.declared.loading.Loading.TheVariants as load
use Rattle.fkv_log.specs.declared.reserving.Reserving.{Reserving}
use Rattle.fkv_log.specs.declared.reserving.Reserving.TheVariants as reserve
use Rattle.fkv_log.specs.Filling.{fill_ask}
use Rattle.fkv_log.specs.Invalidating.{invalidate_ask}
use Rattle.fkv_log.specs.Loading.{load_ask}
use Rattle.fkv_log.specs.Reserving.{reserve_ask}
use Rattle.fkv_ops.specs.declared.appending.Appending.{Appending}
use Rattle.fkv_ops.specs.declared.appending.Appending.TheVariants as append
use Rattle.fkv_ops.specs.declared.trying.Trying.{Trying}
use Rattle.fkv_ops.specs.declared.trying.Trying.TheVariants as try
use Rattle.fkv_ops.specs.declared.walking.Walking.{Walking}
use Rattle.fkv_ops.specs.declared.walking.Walking.TheVariants as walk
use Rattle.fkv_ops.specs.Appending.{AppendState, appending_ask}
use Rattle.fkv_ops.specs.Trying.{TryState, trying_ask}
use Rattle.fkv_ops.specs.Walking.{WalkState, walking_ask}
use Rattle.fkv_pending.specs.declared.attempting.Attempting.{Attempting}
use Rattle.fkv_pending.specs.declared.attempting.Attempting.TheVariants as attempt
use Rattle.fkv_pending.specs.declared.mailing.Mailing.{Mailing}
use Rattle.fkv_pending.specs.declared.mailing.Mailing.TheVariants as mail
use Rattle.fkv_pending.specs.Attempting.{AttemptState, attempting_ask, attempt_ask}
use Rattle.fkv_pending.specs.Mailing.{mail_ask}

-- below the cut words of this session, which stand behind its epoch word, or above its owing word, which stands behind them
abbrev pub IsOff : ℕ → ℕ → Type 0
IsOff n place = (place ≤ 24 + 16 * n) ⊎ (24 + 16 * n + 4 ≤ place)

-- where this ask stores a word, it is there
abbrev pub StoresOff : {A : Type 0} → ℕ → Ask A → Type 0
StoresOff n (Store place word) = IsOff n place
StoresOff n ask = Unit {0}

pub passed_off : {A B : Type 0} (n : ℕ) (ask : Ask A) (its : B) → StoresOff n ask → StoresOff n (passed ask its)
unfolding passed
passed_off n (Store place word) its off = off
passed_off n ask its off = tt

-- the machines
pub refresh_off : (n : ℕ) (step : Refreshing) → StoresOff n (refresh_ask n step)
unfolding refresh_ask
refresh_off n (refresh.StoresEpoch epoch) = inl (omega arith)
refresh_off n step = tt

pub protect_off : (n : ℕ) (step : Protecting) → StoresOff n (protect_ask n step)
unfolding protect_ask
protect_off n (protect.StoresEpoch epoch) = inl (omega arith)
protect_off n step = tt

pub leave_off : (n : ℕ) (step : Leaving) → StoresOff n (leave_ask n step)
unfolding leave_ask
leave_off n leave.StoresZero = inl (omega arith)
leave_off n leave.AtRest = tt

pub latch_off : (n : ℕ) (step : Latching) → StoresOff n (latch_ask step)
unfolding latch_ask
latch_off n latch.AtRest = tt
latch_off n step = tt

pub mail_off : (n : ℕ) (step : Mailing) → StoresOff n (mail_ask n step)
unfolding mail_ask
mail_off n (mail.StoresEmpty its) = inr (omega arith)
mail_off n (mail.StoresAddress addr) = inr (omega arith)
mail_off n mail.StoresAsked = inr (omega arith)
mail_off n step = tt

-- words of records stand behind those of all sessions
behind : (n sessions more index number : ℕ) → n < sessions → 24 + 16 * n + 4 ≤ 24 + 16 * sessions + more + index + number
behind n sessions more index number some = omega (arith, some)

fill_off : (p : Places) (n : ℕ) (step : Filling) → n < p.sessions → StoresOff n (fill_ask p step)
unfolding fill_ask
fill_off p n fill.AtRest some = tt
fill_off p n (fill.StoresValue addr its) some = inr (behind n p.sessions _ _ _ some)
fill_off p n (fill.StoresKey addr its) some = inr (behind n p.sessions _ _ _ some)
fill_off p n (fill.StoresHeader addr its) some = inr (behind n p.sessions _ _ _ some)

invalidate_off : (p : Places) (n : ℕ) (step : Invalidating) → n < p.sessions → StoresOff n (invalidate_ask p step)
unfolding invalidate_ask
invalidate_off p n invalidate.AtRest some = tt
invalidate_off p n (invalidate.StoresHeader addr header) some = inr (behind n p.sessions _ _ _ some)

reserve_off : (n : ℕ) (step : Reserving) → StoresOff n (reserve_ask step)
unfolding reserve_ask
reserve_off n reserve.AtRest = tt
reserve_off n step = tt

publish_off : (n : ℕ) (step : Publishing) → StoresOff n (publish_ask step)
unfolding publish_ask
publish_off n publish.AtRest = tt
publish_off n step = tt

find_off : (n : ℕ) (f : Finding) (step : FindStep) → StoresOff n (find_step_ask f step)
unfolding find_step_ask
find_off n f find.AtRest = tt
find_off n f step = tt

load_off : (p : Places) (n : ℕ) (step : Loading) → StoresOff n (load_ask p step)
unfolding load_ask
load_off p n load.AtRest = tt
load_off p n step = tt

append_off : (p : Places) (n : ℕ) (a : AppendState) (step : Appending) → n < p.sessions → StoresOff n (appending_ask p a step)
unfolding appending_ask
append_off p n a (append.Ended its) some = tt
append_off p n a append.Reserves some = passed_off n _ _ (reserve_off n a.reserving)
append_off p n a (append.Fills addr) some = passed_off n _ _ (fill_off p n a.filling some)
append_off p n a (append.Publishes addr) some = passed_off n _ _ (publish_off n a.publishing)
append_off p n a append.Invalidates some = passed_off n _ _ (invalidate_off p n a.invalidating some)

walk_off : (p : Places) (n : ℕ) (w : WalkState) (step : Walking) → StoresOff n (walking_ask p w step)
unfolding walking_ask
walk_off p n w (walk.Ended its) = tt
walk_off p n w walk.Finds = passed_off n _ _ (find_off n w.finding w.finding.step)
walk_off p n w (walk.Meets addr) = passed_off n _ _ (load_off p n w.loading)
walk_off p n w (walk.HasFound addr version) = tt
walk_off p n w walk.LoadsValue = passed_off n _ _ (load_off p n w.loading)

try_off : (p : Places) (n : ℕ) (t : TryState) (step : Trying) → n < p.sessions → StoresOff n (trying_ask p t step)
unfolding trying_ask
try_off p n t (try.Ended its) some = tt
try_off p n t try.TakesShared some = passed_off n _ _ (latch_off n t.latching)
try_off p n t try.Walks some = passed_off n _ _ (walk_off p n t.walk t.walk.step)
try_off p n t try.LoadsPhase some = tt
try_off p n t try.CountsTaken some = tt
try_off p n t (try.LoadsTail waiting) some = tt
try_off p n t (try.LoadsTaken waiting) some = tt
try_off p n t (try.LoadsSafe addr version) some = tt
try_off p n t (try.SwapsValue addr) some = tt
try_off p n t (try.LoadsCurrent addr) some = passed_off n _ _ (walk_off p n t.walk t.walk.step)
try_off p n t (try.ChangesValue addr old) some = tt
try_off p n t try.LoadsAnswer some = passed_off n _ _ (walk_off p n t.walk t.walk.step)
try_off p n t (try.TakesExclusive old) some = passed_off n _ _ (latch_off n t.latching)
try_off p n t try.LoadsOld some = passed_off n _ _ (walk_off p n t.walk t.walk.step)
try_off p n t (try.Appends its) some = passed_off n _ _ (append_off p n t.append t.append.step some)
try_off p n t (try.DropsExclusive its) some = passed_off n _ _ (latch_off n t.latching)
try_off p n t (try.DropsShared its) some = passed_off n _ _ (latch_off n t.latching)

attempting_off : (p : Places) (n : ℕ) (a : AttemptState) (step : Attempting) → n < p.sessions → StoresOff n (attempting_ask p n a step)
unfolding attempting_ask
attempting_off p n a (attempt.Ended its) some = tt
attempting_off p n a attempt.Looks some = passed_off n _ _ (mail_off n a.mailing)
attempting_off p n a attempt.Tries some = passed_off n _ _ (try_off p n a.trial a.trial.step some)
attempting_off p n a attempt.Puts some = passed_off n _ _ (mail_off n a.mailing)

pub attempt_off : (p : Places) (n : ℕ) (a : AttemptState) → n < p.sessions → StoresOff n (attempt_ask p n a)
attempt_off p n a some = attempting_off p n a a.step some

pub scan_off : (n : ℕ) (step : Scanning) → StoresOff n (scan_ask step)
unfolding scan_ask
scan_off n scan.AtRest = tt
scan_off n step = tt

-- a drain slot is one of eight
run_off : (n : ℕ) (action : Action) → StoresOff n (run_of action)
run_off n (act.Phase phase version) = inl (omega arith)
run_off n (act.SafeReadOnly addr) = tt
run_off n (act.Close addr) = tt

pub claim_off : (n : ℕ) (step : Claiming) → IsClaimInRange step → StoresOff n (claim_ask step)
unfolding claim_ask
claim_off n (claim.Runs slot epoch safe action) range = run_off n action
claim_off n (claim.FreesSlot slot safe) range = inl (omega (arith, range))
claim_off n step range = tt

claims_either : (c : Bool) (a b : Claiming) → (c ≡ true → IsClaimInRange a) → (c ≡ false → IsClaimInRange b) → IsClaimInRange (if c then a else b)
claims_either true a b one other = one refl
claims_either false a b one other = other refl

after_range : (slot : ℕ) (safe : Option ℕ) → IsClaimInRange (slot_after slot safe)
unfolding slot_after
after_range slot safe = claims_either (nat_lt (slot + 1) drain_slots) (claim.MeetsSlot (slot + 1) safe) claim.AtRest (λ e. grind (arith, nat_tests, e)) (λ e. tt)

armed_range : (slot word safe : ℕ) → slot < drain_slots → IsClaimInRange (slot_armed slot word safe)
unfolding slot_armed
armed_range slot word safe range = claims_either _ (claim.TakesSlot slot word safe) (slot_after slot (Some safe)) (λ e. range) (λ e. after_range slot (Some safe))

pub claim_range : (step : Claiming) (reply : ℕ) → IsClaimInRange step → IsClaimInRange (claim_next step reply)
unfolding claim_next
claim_range claim.AtRest reply range = tt
claim_range (claim.MeetsSlot slot None) reply range = claims_either (nat_lt reply 2) (slot_after slot None) (claim.LoadsSafe slot reply) (λ e. after_range slot None) (λ e. range)
claim_range (claim.MeetsSlot slot (Some safe)) reply range = claims_either (nat_lt reply 2) (slot_after slot (Some safe)) (slot_armed slot reply safe) (λ e. after_range slot (Some safe)) (λ e. armed_range slot reply safe range)
claim_range (claim.LoadsSafe slot word) reply range = armed_range slot word reply range
claim_range (claim.TakesSlot slot word safe) reply range = claims_either (reply == word) (claim.Receives slot _ safe) (slot_after slot (Some safe)) (λ e. range) (λ e. after_range slot (Some safe))
claim_range (claim.Receives slot epoch safe) reply range = range
claim_range (claim.Runs slot epoch safe action) reply range = range
claim_range (claim.FreesSlot slot safe) reply range = after_range slot (Some safe)

pub claim_given_range : (step : Claiming) (action : Action) → IsClaimInRange step → IsClaimInRange (claim_given step action)
unfolding claim_given
claim_given_range (claim.Receives slot epoch safe) action range = range
claim_given_range claim.AtRest action range = range
claim_given_range (claim.MeetsSlot slot safe) action range = range
claim_given_range (claim.LoadsSafe slot word) action range = range
claim_given_range (claim.TakesSlot slot word safe) action range = range
claim_given_range (claim.Runs slot epoch safe its) action range = range
claim_given_range (claim.FreesSlot slot safe) action range = range
