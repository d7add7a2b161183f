-- Where the keeper puts an action it turns a page or moves an offset, or a part of a commit is about to put the action that it defers.
use Rattle.std.proofs.Common.{◌≡◌, ℕ, ◌∙◌, List, refl, sym, Bool, true, false}
use Rattle.std.specs.Prelude.{⊤, Option, Some, None}
use Rattle.fkv_base.specs.declared.numbers.Addr.{Addr}
use Rattle.fkv_base.specs.declared.numbers.Serial.{Serial}
use Rattle.fkv_base.specs.declared.numbers.Version.{Version}
use Rattle.fkv_base.specs.declared.shapes.Shape.{Shape}
use Rattle.fkv_plane.specs.declared.asks.Ask.{Ask}
use Rattle.fkv_plane.specs.declared.asks.Ask.TheVariants.{Done}
use Rattle.fkv_plane.specs.declared.places.Places.{Places}
use Rattle.fkv_plane.specs.Passing.{passed}
use Rattle.fkv_epoch.specs.declared.arming.Arming.{Arming}
use Rattle.fkv_epoch.specs.declared.arming.Arming.TheVariants as arm
use Rattle.fkv_epoch.specs.declared.raising.Raising.{Raising}
use Rattle.fkv_epoch.specs.declared.raising.Raising.TheVariants as raise
use Rattle.fkv_epoch.specs.Arming.{arm_ask}
use Rattle.fkv_epoch.specs.Raising.{raise_ask}
use Rattle.fkv_index.specs.declared.finding.FindStep.{FindStep}
use Rattle.fkv_index.specs.declared.finding.FindStep.TheVariants as find
use Rattle.fkv_index.specs.declared.finding.Finding.{Finding}
use Rattle.fkv_index.specs.Finding.{find_ask, find_step_ask}
use Rattle.fkv_sweep.specs.declared.sweeping.SweepAnswer.{SweepAnswer}
use Rattle.fkv_sweep.specs.declared.sweeping.SweepAnswer.TheVariants as sweep
use Rattle.fkv_sweep.specs.declared.sweeping.Sweeping.{Sweeping}
use Rattle.fkv_sweep.specs.declared.sweeping.Sweeping.TheVariants as sweeping
use Rattle.fkv_sweep.specs.Sweeping.{Sweeper, sweep_ask, sweeping_ask}
use Rattle.law_refine.specs.Below.fkv_checkpoint.CopyStep.{CopyStep}
use Rattle.law_refine.specs.Below.fkv_checkpoint.CopyStep.TheVariants as copy
use Rattle.law_refine.specs.Below.fkv_checkpoint.Copying.{Copier, copy_step_ask}
use Rattle.law_refine.specs.Below.fkv_commit.Deferred.{Deferred}
use Rattle.law_refine.specs.Below.fkv_commit.TheDeferring.{Deferring}
use Rattle.law_refine.specs.Below.fkv_commit.TheDeferring.TheVariants as defer
use Rattle.law_refine.specs.Below.fkv_commit.TheEntering.{Entering}
use Rattle.law_refine.specs.Below.fkv_commit.TheEntering.TheVariants as enter
use Rattle.law_refine.specs.Below.fkv_commit.TheFinishing.{Finishing}
use Rattle.law_refine.specs.Below.fkv_commit.TheFinishing.TheVariants as finish
use Rattle.law_refine.specs.Below.fkv_commit.TheSeeking.{Seeking}
use Rattle.law_refine.specs.Below.fkv_commit.TheSeeking.TheVariants as seek
use Rattle.law_refine.specs.Below.fkv_commit.TheStarting.{Starting}
use Rattle.law_refine.specs.Below.fkv_commit.TheStarting.TheVariants as start
use Rattle.law_refine.specs.Below.fkv_commit.TheWaiting.{Waiting}
use Rattle.law_refine.specs.Below.fkv_commit.TheWaiting.TheVariants as waiting
use Rattle.law_refine.specs.Below.fkv_commit.Deferring.{DeferState, deferring_ask}
use Rattle.law_refine.specs.Below.fkv_commit.Entering.{EnterState, entering_ask}
use Rattle.law_refine.specs.Below.fkv_commit.Finishing.{FinishState, finishing_ask}
use Rattle.law_refine.specs.Below.fkv_commit.Seeking.{SeekState, seeking_ask}
use Rattle.law_refine.specs.Below.fkv_commit.Starting.{StartState, starting_ask}
use Rattle.law_refine.specs.Below.fkv_commit.Waiting.{waiting_ask}
use Rattle.law_refine.specs.Below.fkv_manifest.WriteAnswer.{WriteAnswer}
use Rattle.law_refine.specs.Below.fkv_manifest.WriteAnswer.TheVariants as write
use Rattle.law_refine.specs.Below.fkv_manifest.Committing.{commit_answer}
use Rattle.law_refine.specs.Below.fkv_keeper.KeeperTold.{KeeperTold}
use Rattle.law_refine.specs.Below.fkv_keeper.TheKeeping.{Keeping}
use Rattle.law_refine.specs.Below.fkv_keeper.TheKeeping.TheVariants.{Ended, Starts, Maintains, LoadsPhase, Enters, Copies, Seeks, Waits, Writes, Finishes, Sweeps}
use Rattle.law_refine.specs.Below.fkv_keeper.Keeping.{KeeperState, copy_asked, keeping_ask, sweep_passed, write_asked}
use Rattle.law_refine.proofs.OfRecords.Puts.{is_put, put_passed}
use Rattle.law_commit.specs.Phases.Staged.{EnterAt, SeekAt, Stage, StartAt, StepAt}

raise_put : (step : Raising) → is_put (raise_ask step) ≡ false
unfolding raise_ask
raise_put raise.AtRest = refl
raise_put raise.LoadsEpoch = refl
raise_put (raise.MeetsSlot slot) = refl
raise_put (raise.HoldsSlot slot) = refl
raise_put (raise.HasSlot slot) = refl
raise_put (raise.RaisesEpoch slot) = refl

arm_put : (step : Arming) → is_put (arm_ask step) ≡ false
unfolding arm_ask
arm_put arm.AtRest = refl
arm_put (arm.PutsAction slot epoch) = refl
arm_put (arm.StoresEpoch slot epoch) = refl

clash : {X : Type 0} (b : Bool) → b ≡ false → b ≡ true → X
clash b off on = let both : false ≡ true = sym off ∙ on in cc

-- a deferral is about to put its action
pub record DeferPuts (step : Deferring) : Type 0 where
  pub its : Deferred
  pub slot : ℕ
  pub epoch : ℕ
  pub is : step ≡ defer.Puts its slot epoch

defer_puts : (d : DeferState) (step : Deferring) → is_put (deferring_ask d step) ≡ true → DeferPuts step
unfolding deferring_ask
defer_puts d (defer.Puts its slot epoch) so = record { its = its; slot = slot; epoch = epoch; is = refl }
defer_puts d (defer.Ended told) so = cc
defer_puts d defer.Seeks so = clash _ (put_passed (raise_ask d.raising) _ ∙ raise_put d.raising) so
defer_puts d defer.Holds so = cc
defer_puts d (defer.Raises its) so = clash _ (put_passed (raise_ask d.raising) _ ∙ raise_put d.raising) so
defer_puts d (defer.Arms epoch) so = clash _ (put_passed (arm_ask d.arming) _ ∙ arm_put d.arming) so

-- one that seeks a slot puts none
seeks_none : {X : Type 0} (d : DeferState) (step : Deferring) → step ≡ defer.Seeks → is_put (deferring_ask d step) ≡ true → X
seeks_none d step seeks so = let puts = defer_puts d step so in let both : defer.Seeks ≡ defer.Puts puts.its puts.slot puts.epoch = sym seeks ∙ puts.is in cc

-- the parts of a commit
pub record StartPuts (s : StartState) (step : Starting) : Type 0 where
  pub its : Version
  pub first : Addr
  pub is : step ≡ start.Defers its first
  pub puts : DeferPuts s.defer.step

start_puts : (number : Version) (stage : Stage) (s : StartState) (step : Starting) → StartAt number stage s step → is_put (starting_ask s step) ≡ true → StartPuts s step
unfolding starting_ask
start_puts number stage s (start.Defers its first) is so = record { its = its; first = first; is = refl; puts = defer_puts s.defer s.defer.step (sym (put_passed (deferring_ask s.defer s.defer.step) _) ∙ so) }
start_puts number stage s (start.Seeks its) is so = seeks_none s.defer s.defer.step is.2 (sym (put_passed (deferring_ask s.defer s.defer.step) _) ∙ so)
start_puts number stage s (start.Ended told) is so = cc
start_puts number stage s start.LoadsPhase is so = cc
start_puts number stage s (start.StoresPrepare its) is so = cc
start_puts number stage s (start.LoadsTail its) is so = cc

pub record EnterPuts (s : EnterState) (step : Entering) : Type 0 where
  pub is : step ≡ enter.Defers
  pub puts : DeferPuts s.defer.step

enter_puts : (number : Version) (stage : Stage) (s : EnterState) (step : Entering) → EnterAt number stage s step → is_put (entering_ask s step) ≡ true → EnterPuts s step
unfolding entering_ask
enter_puts number stage s enter.Defers is so = record { is = refl; puts = defer_puts s.defer s.defer.step (sym (put_passed (deferring_ask s.defer s.defer.step) _) ∙ so) }
enter_puts number stage s enter.Seeks is so = seeks_none s.defer s.defer.step is.1 (sym (put_passed (deferring_ask s.defer s.defer.step) _) ∙ so)
enter_puts number stage s (enter.Ended told) is so = cc

pub record SeekPuts (s : SeekState) (step : Seeking) : Type 0 where
  pub end : Addr
  pub is : step ≡ seek.Defers end
  pub puts : DeferPuts s.defer.step

seek_puts : (number : Version) (stage : Stage) (s : SeekState) (step : Seeking) → SeekAt number stage s step → is_put (seeking_ask s step) ≡ true → SeekPuts s step
unfolding seeking_ask
seek_puts number stage s (seek.Defers end) is so = record { end = end; is = refl; puts = defer_puts s.defer s.defer.step (sym (put_passed (deferring_ask s.defer s.defer.step) _) ∙ so) }
seek_puts number stage s seek.SeeksSlot is so = seeks_none s.defer s.defer.step is.1 (sym (put_passed (deferring_ask s.defer s.defer.step) _) ∙ so)
seek_puts number stage s (seek.Ended told) is so = cc
seek_puts number stage s (seek.LoadsOwing session) is so = cc
seek_puts number stage s seek.LoadsCut is so = cc
seek_puts number stage s (seek.LoadsOther first) is so = cc
seek_puts number stage s seek.LoadsAgain is so = cc
seek_puts number stage s seek.StoresWaitFlush is so = cc
seek_puts number stage s seek.LoadsTail is so = cc
seek_puts number stage s (seek.RaisesReadOnly end) is so = cc

-- what else the keeper asks
copy_step_put : (base : ℕ) (step : CopyStep) → is_put (copy_step_ask base step) ≡ false
unfolding copy_step_ask
copy_step_put base copy.Ended = refl
copy_step_put base (copy.LoadsSlot slot) = refl
copy_step_put base copy.LoadsLink = refl

copy_put : (its : Option Copier) → is_put (copy_asked its) ≡ false
copy_put None = refl
copy_put (Some m) = copy_step_put m.copying.base m.copying.step

find_put : (its : Finding) (step : FindStep) → is_put (find_step_ask its step) ≡ false
unfolding find_step_ask
find_put its find.AtRest = refl
find_put its (find.LoadsSlot slot) = refl
find_put its find.LoadsLink = refl
find_put its (find.LoadsTaken word) = refl
find_put its (find.TakesBucket word taken) = refl
find_put its (find.LinksBucket word) = refl

sweep_put : (w : Sweeper) (step : Sweeping) → is_put (sweeping_ask w step) ≡ false
unfolding sweeping_ask
sweep_put w sweeping.AtRest = refl
sweep_put w sweeping.LoadsHead = refl
sweep_put w sweeping.Takes = refl
sweep_put w sweeping.Meets = refl
sweep_put w (sweeping.Finds key) = put_passed (find_ask w.finding) sweep.Through ∙ find_put w.finding w.finding.step
sweep_put w (sweeping.LoadsKey key addr) = refl
sweep_put w (sweeping.LoadsHeader key addr) = refl
sweep_put w (sweeping.Reads key addr) = refl

swept_put : (ask : Ask SweepAnswer) (told : KeeperTold) → is_put (sweep_passed ask told) ≡ is_put ask
unfolding sweep_passed passed
swept_put (Done sweep.Device) told = refl
swept_put (Done sweep.Through) told = refl
swept_put ask told = refl

wait_put : (step : Waiting) → is_put (waiting_ask step) ≡ false
unfolding waiting_ask
wait_put (waiting.Ended told) = refl
wait_put waiting.LoadsSafe = refl
wait_put waiting.LoadsFlushed = refl

write_put : (answer : WriteAnswer) (told : KeeperTold) → is_put (write_asked answer told) ≡ false
write_put write.Device told = refl
write_put write.Written told = refl
write_put (write.Broken why) told = refl

finish_put : (points : List Serial) (s : FinishState) (step : Finishing) → is_put (finishing_ask points s step) ≡ false
unfolding finishing_ask
finish_put points s (finish.Ended told) = refl
finish_put points s (finish.StoresDurable session) = refl
finish_put points s finish.StoresRest = refl

-- so it is with the keeper
abbrev pub KeeperPuts : KeeperState → Keeping → Type 0
KeeperPuts s Starts = StartPuts s.start s.start.step
KeeperPuts s Enters = EnterPuts s.enter s.enter.step
KeeperPuts s Seeks = SeekPuts s.seek s.seek.step
KeeperPuts s Maintains = ⊤
KeeperPuts s step = ⊥

pub keeper_puts : (number : Version) (stage : Stage) (shape : Shape) (p : Places) (s : KeeperState) (step : Keeping) → StepAt number stage s step → is_put (keeping_ask shape p s step) ≡ true → KeeperPuts s step
unfolding keeping_ask
keeper_puts number stage shape p s Starts is so = start_puts number stage s.start s.start.step is (sym (put_passed (starting_ask s.start s.start.step) _) ∙ so)
keeper_puts number stage shape p s Enters is so = enter_puts number stage s.enter s.enter.step is.1 (sym (put_passed (entering_ask s.enter s.enter.step) _) ∙ so)
keeper_puts number stage shape p s Seeks is so = seek_puts number stage s.seek s.seek.step is.1 (sym (put_passed (seeking_ask s.seek s.seek.step) _) ∙ so)
keeper_puts number stage shape p s Maintains is so = tt
keeper_puts number stage shape p s (Ended told) is so = cc
keeper_puts number stage shape p s LoadsPhase is so = cc
keeper_puts number stage shape p s Copies is so = clash _ (put_passed (copy_asked s.copy) _ ∙ copy_put s.copy) so
keeper_puts number stage shape p s Sweeps is so = clash _ (swept_put (sweep_ask s.sweep) _ ∙ sweep_put s.sweep s.sweep.step) so
keeper_puts number stage shape p s Waits is so = clash _ (put_passed (waiting_ask s.wait.step) _ ∙ wait_put s.wait.step) so
keeper_puts number stage shape p s Writes is so = clash _ (write_put (commit_answer s.writes) _) so
keeper_puts number stage shape p s Finishes is so = clash _ (put_passed (finishing_ask s.seek.points s.finish s.finish.step) _ ∙ finish_put s.seek.points s.finish s.finish.step) so
