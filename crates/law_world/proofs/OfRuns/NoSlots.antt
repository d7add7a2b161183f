-- What is attempted for a request turns to no drain slot.
use Rattle.std.proofs.Common.{ℕ}
use Rattle.std.specs.Prelude.{⊤}
use Rattle.fkv_plane.specs.declared.asks.Ask.{Ask}
use Rattle.fkv_plane.specs.declared.asks.Ask.TheVariants.{Put, Take, Done}
use Rattle.fkv_plane.specs.declared.places.Places.{Places}
use Rattle.fkv_plane.specs.Passing.{passed}
use Rattle.fkv_log.specs.declared.reserving.Reserving.{Reserving}
use Rattle.fkv_log.specs.declared.reserving.Reserving.TheVariants as reserve
use Rattle.fkv_log.specs.declared.filling.Filling.{Filling}
use Rattle.fkv_log.specs.declared.filling.Filling.TheVariants as fill
use Rattle.fkv_log.specs.declared.invalidating.Invalidating.{Invalidating}
use Rattle.fkv_log.specs.declared.invalidating.Invalidating.TheVariants as invalidate
use Rattle.fkv_log.specs.declared.loading.Loading.{Loading}
use Rattle.fkv_log.specs.declared.loading.Loading.TheVariants as load
use Rattle.fkv_log.specs.Reserving.{reserve_ask}
use Rattle.fkv_log.specs.Filling.{fill_ask}
use Rattle.fkv_log.specs.Invalidating.{invalidate_ask}
use Rattle.fkv_log.specs.Loading.{load_ask}
use Rattle.fkv_index.specs.declared.finding.FindStep.{FindStep}
use Rattle.fkv_index.specs.declared.finding.FindStep.TheVariants as find
use Rattle.fkv_index.specs.declared.finding.Finding.{Finding}
use Rattle.fkv_index.specs.declared.publishing.Publishing.{Publishing}
use Rattle.fkv_index.specs.declared.publishing.Publishing.TheVariants as publish
use Rattle.fkv_index.specs.Finding.{find_step_ask}
use Rattle.fkv_index.specs.Publishing.{publish_ask}
use Rattle.fkv_latch.specs.declared.latching.Latching.{Latching}
use Rattle.fkv_latch.specs.declared.latching.Latching.TheVariants as latch
use Rattle.fkv_latch.specs.Latching.{latch_ask}
use Rattle.fkv_ops.specs.declared.appending.Appending.{Appending}
use Rattle.fkv_ops.specs.declared.appending.Appending.TheVariants as append
use Rattle.fkv_ops.specs.declared.trying.Trying.{Trying}
use Rattle.fkv_ops.specs.declared.trying.Trying.TheVariants as try
use Rattle.fkv_ops.specs.declared.walking.Walking.{Walking}
use Rattle.fkv_ops.specs.declared.walking.Walking.TheVariants as walk
use Rattle.fkv_ops.specs.Appending.{AppendState, appending_ask}
use Rattle.fkv_ops.specs.Trying.{TryState, trying_ask}
use Rattle.fkv_ops.specs.Walking.{WalkState, walking_ask}
use Rattle.fkv_pending.specs.declared.attempting.Attempting.{Attempting}
use Rattle.fkv_pending.specs.declared.attempting.Attempting.TheVariants as attempt
use Rattle.fkv_pending.specs.declared.mailing.Mailing.{Mailing}
use Rattle.fkv_pending.specs.declared.mailing.Mailing.TheVariants as mail
use Rattle.fkv_pending.specs.Attempting.{AttemptState, attempting_ask}
use Rattle.fkv_pending.specs.Mailing.{mail_ask}

abbrev pub IsOffSlots : {A : Type 0} → Ask A → Type 0
IsOffSlots (Put slot action) = ⊥
IsOffSlots (Take slot) = ⊥
IsOffSlots ask = ⊤

pub passed_off : {A B : Type 0} (ask : Ask A) (told : B) → IsOffSlots ask → IsOffSlots (passed ask told)
unfolding passed
passed_off (Put slot action) told off = off
passed_off (Take slot) told off = off
passed_off (Done its) told off = tt
passed_off ask told off = tt

reserve_off : (step : Reserving) → IsOffSlots (reserve_ask step)
unfolding reserve_ask
reserve_off reserve.AtRest = tt
reserve_off step = tt

fill_off : (p : Places) (step : Filling) → IsOffSlots (fill_ask p step)
unfolding fill_ask
fill_off p fill.AtRest = tt
fill_off p step = tt

invalidate_off : (p : Places) (step : Invalidating) → IsOffSlots (invalidate_ask p step)
unfolding invalidate_ask
invalidate_off p invalidate.AtRest = tt
invalidate_off p step = tt

load_off : (p : Places) (step : Loading) → IsOffSlots (load_ask p step)
unfolding load_ask
load_off p load.AtRest = tt
load_off p step = tt

pub find_off : (f : Finding) (step : FindStep) → IsOffSlots (find_step_ask f step)
unfolding find_step_ask
find_off f find.AtRest = tt
find_off f step = tt

publish_off : (step : Publishing) → IsOffSlots (publish_ask step)
unfolding publish_ask
publish_off publish.AtRest = tt
publish_off step = tt

pub latch_off : (step : Latching) → IsOffSlots (latch_ask step)
unfolding latch_ask
latch_off latch.AtRest = tt
latch_off step = tt

pub mail_off : (session : ℕ) (step : Mailing) → IsOffSlots (mail_ask session step)
unfolding mail_ask
mail_off session (mail.Ended its) = tt
mail_off session step = tt

walk_off : (p : Places) (w : WalkState) (step : Walking) → IsOffSlots (walking_ask p w step)
unfolding walking_ask
walk_off p w (walk.Ended its) = tt
walk_off p w walk.Finds = passed_off _ _ (find_off w.finding w.finding.step)
walk_off p w (walk.Meets addr) = passed_off _ _ (load_off p w.loading)
walk_off p w (walk.HasFound addr version) = tt
walk_off p w walk.LoadsValue = passed_off _ _ (load_off p w.loading)

append_off : (p : Places) (a : AppendState) (step : Appending) → IsOffSlots (appending_ask p a step)
unfolding appending_ask
append_off p a (append.Ended its) = tt
append_off p a append.Reserves = passed_off _ _ (reserve_off a.reserving)
append_off p a (append.Fills addr) = passed_off _ _ (fill_off p a.filling)
append_off p a (append.Publishes addr) = passed_off _ _ (publish_off a.publishing)
append_off p a append.Invalidates = passed_off _ _ (invalidate_off p a.invalidating)

try_off : (p : Places) (t : TryState) (step : Trying) → IsOffSlots (trying_ask p t step)
unfolding trying_ask
try_off p t (try.Ended its) = tt
try_off p t try.TakesShared = passed_off _ _ (latch_off t.latching)
try_off p t try.LoadsPhase = tt
try_off p t try.Walks = passed_off _ _ (walk_off p t.walk t.walk.step)
try_off p t try.CountsTaken = tt
try_off p t (try.LoadsSafe addr version) = tt
try_off p t (try.SwapsValue addr) = tt
try_off p t (try.LoadsCurrent addr) = passed_off _ _ (walk_off p t.walk t.walk.step)
try_off p t (try.ChangesValue addr old) = tt
try_off p t try.LoadsAnswer = passed_off _ _ (walk_off p t.walk t.walk.step)
try_off p t (try.TakesExclusive old) = passed_off _ _ (latch_off t.latching)
try_off p t try.LoadsOld = passed_off _ _ (walk_off p t.walk t.walk.step)
try_off p t (try.Appends its) = passed_off _ _ (append_off p t.append t.append.step)
try_off p t (try.LoadsTail waiting) = tt
try_off p t (try.LoadsTaken waiting) = tt
try_off p t (try.DropsExclusive its) = passed_off _ _ (latch_off t.latching)
try_off p t (try.DropsShared its) = passed_off _ _ (latch_off t.latching)

pub attempt_off_slots : (p : Places) (session : ℕ) (a : AttemptState) (step : Attempting) → IsOffSlots (attempting_ask p session a step)
unfolding attempting_ask
attempt_off_slots p session a (attempt.Ended its) = tt
attempt_off_slots p session a attempt.Looks = passed_off _ _ (mail_off session a.mailing)
attempt_off_slots p session a attempt.Tries = passed_off _ _ (try_off p a.trial a.trial.step)
attempt_off_slots p session a attempt.Puts = passed_off _ _ (mail_off session a.mailing)
